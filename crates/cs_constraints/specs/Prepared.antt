-- The form of a term that arithmetic on it requires.
use Rattle.std.specs.Prelude.{◌≡◌, ◌⊎◌, IsTrue, IsNone, ℤ, pos, List, Some, None}
use Rattle.cs_ranges.specs.declared.range_set.Interval.{Interval}
use Rattle.cs_ranges.specs.RangeSet.{contains, IsOnly, HasTwo, IsLeast}
use Rattle.cs_types.specs.IntType.{IsIntegerOfC}
use Rattle.cs_terms.specs.declared.symbol.Sym.{Sym}
use Rattle.cs_terms.specs.declared.term.Lin.{Lin}
use Rattle.cs_terms.specs.Conditions.{IsSmall}
use Rattle.cs_terms.specs.Term.{value_at, IsTerm}
use Rattle.cs_constraints.specs.Sets.{Sets, set_of}
use Rattle.cs_constraints.specs.Constraints.{IsDeclared}

-- the same affine function of the same symbol, possibly given by its value at another number
pub record IsSameFunction (made given : Lin) : Type 0 where
  pub symbol : made.sym ≡ given.sym
  pub slope : made.slope ≡ given.slope
  pub values : (x : ℤ) → value_at made x ≡ value_at given x

-- the constant with this value
pub record IsConstant (term : Lin) (number : ℤ) : Type 0 where
  pub symbol : term.sym ≡ None
  pub slope : term.slope ≡ pos 0
  pub value : term.value ≡ number

-- the range has one number, and the term is the given term's value there
pub record IsCollapsed (range : List Interval) (given made : Lin) : Type 0 where
  pub number : ℤ
  pub only : IsOnly range number
  pub constant : IsConstant made (value_at given number)

-- the range has two numbers, and the term is the same function, given by its value at the least one
pub record IsMoved (range : List Interval) (given made : Lin) : Type 0 where
  pub two : HasTwo range
  pub place : IsLeast range made.at
  pub function : IsSameFunction made given

-- the prepared form of a term over the numbers of its symbol
abbrev pub IsPreparedOver : List Interval → Lin → Lin → Type 0
IsPreparedOver range given made = IsCollapsed range given made ⊎ IsMoved range given made

-- the term's symbol, if it has one, is declared, and the term's values over its numbers are integers of C; so is the value of a constant
pub record HasIntegers (sets : Sets) (term : Lin) : Type 0 where
  pub declared : IsDeclared sets term.sym
  pub constant : IsNone term.sym → IsIntegerOfC term.value
  pub values : (sym : Sym) (set : List Interval) → term.sym ≡ Some sym → set_of sets sym.0 ≡ Some set → (x : ℤ) → IsTrue (contains set x)
      → IsIntegerOfC (value_at term x)

-- if the term's symbol is declared, the term is given by its value at the symbol's least number
abbrev pub IsSeenFromLeast : Sets → Lin → Type 0
IsSeenFromLeast sets term = (sym : Sym) (set : List Interval) → term.sym ≡ Some sym → set_of sets sym.0 ≡ Some set → IsLeast set term.at

-- a term as arithmetic requires it: small, over a declared symbol if over any, and given by its value at the symbol's least number
pub record IsPrepared (sets : Sets) (term : Lin) : Type 0 where
  pub is_term : IsTerm term
  pub declared : IsDeclared sets term.sym
  pub place : IsSeenFromLeast sets term
  pub small : IsSmall term
