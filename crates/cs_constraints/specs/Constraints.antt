-- The valuations that fit constraints, and the effect of an assumption on them.
use Rattle.std.specs.Prelude.{◌≡◌, ◌≢◌, ◌↔◌, ℕ, ℤ, IsTrue, IsFalse, is_some, List, Option, None, Some}
use Rattle.cs_ranges.specs.declared.range_set.Interval.{Interval}
use Rattle.cs_ranges.specs.Interval.{IsInside}
use Rattle.cs_ranges.specs.RangeSet.{contains, IsOnly}
use Rattle.cs_terms.specs.declared.symbol.Sym.{Sym}
use Rattle.cs_terms.specs.declared.term.Lin.{Lin}
use Rattle.cs_terms.specs.Term.{Valuation, value_of, value_at}
pub use Rattle.cs_constraints.specs.Sets.{Sets, set_of, AreInhabited}

-- each declared symbol has a number of its set under the valuation
abbrev pub Fits : Valuation → Sets → Type 0
Fits valuation sets = (sym : ℕ) (set : List Interval) → set_of sets sym ≡ Some set → IsTrue (contains set (valuation sym))

-- the symbol, if there is one, is declared
abbrev pub IsDeclared : Sets → Option Sym → Type 0
IsDeclared sets symbol = (sym : Sym) → symbol ≡ Some sym → set_of sets sym.0 ≢ None

-- if the term's symbol is declared, the term's values over its numbers are from -2^126 to 2^126
abbrev pub HasValuesInside : Sets → Lin → Type 0
HasValuesInside sets term = (sym : Sym) (set : List Interval) → term.sym ≡ Some sym → set_of sets sym.0 ≡ Some set
    → (x : ℤ) → IsTrue (contains set x) → IsInside (value_at term x)

-- there is a symbol, and it can only have this number
pub record HasOneNumber (sets : Sets) (symbol : Option Sym) (number : ℤ) : Type 0 where
  pub sym : Sym
  pub set : List Interval
  pub symbol_is : symbol ≡ Some sym
  pub set_is : set_of sets sym.0 ≡ Some set
  pub only : IsOnly set number

-- there is a symbol, it is declared, and these are its numbers
pub record IsSetOf (sets : Sets) (symbol : Option Sym) (set : List Interval) : Type 0 where
  pub sym : Sym
  pub symbol_is : symbol ≡ Some sym
  pub set_is : set_of sets sym.0 ≡ Some set

-- there is no symbol, or it isn't declared
abbrev pub HasNoSet : Sets → Option Sym → Type 0
HasNoSet sets symbol = (sym : Sym) → symbol ≡ Some sym → set_of sets sym.0 ≡ None

-- one symbol has another set, and all others keep theirs
pub record IsNarrowed (before : Sets) (sym : ℕ) (set : List Interval) (after : Sets) : Type 0 where
  pub here : set_of after sym ≡ Some set
  pub elsewhere : (other : ℕ) → other ≢ sym → set_of after other ≡ set_of before other

-- under no valuation that fits, the term has a number of the set
abbrev pub RulesOut : Sets → Lin → List Interval → Type 0
RulesOut sets term set = (v : Valuation) → Fits v sets → IsFalse (contains set (value_of v term))

-- exactly the valuations under which the term has a number of the set remain, and there is one; no symbol is added or removed, none gains a
-- number, and only the term's loses any
pub record Keeps (before : Sets) (term : Lin) (set : List Interval) (after : Sets) : Type 0 where
  pub exactly : (v : Valuation) → Fits v after ↔ (Fits v before × IsTrue (contains set (value_of v term)))
  pub some : (v : Valuation) × Fits v after
  pub same_symbols : (sym : ℕ) → is_some (set_of after sym) ≡ is_some (set_of before sym)
  pub within : (sym : ℕ) (found range : List Interval) → set_of after sym ≡ Some found → set_of before sym ≡ Some range
      → (x : ℤ) → IsTrue (contains found x) → IsTrue (contains range x)
  pub others : (other : Sym) → term.sym ≢ Some other → set_of after other.0 ≡ set_of before other.0
