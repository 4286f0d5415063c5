-- The value of a term under a valuation, which is a number for each symbol.
use Rattle.std.specs.Prelude.{◌≡◌, ◌≢◌, ℕ, ℤ, pos, ◌+ℤ◌, Option, None, Some}
use Rattle.cs_ranges.specs.Affine.{affine}
use Rattle.cs_terms.specs.declared.symbol.Sym.{Sym}
use Rattle.cs_terms.specs.declared.term.Lin.{Lin}
use Rattle.cs_terms.specs.declared.term.Lin2.{Lin2}

-- a number for each symbol, by the symbol's own number
abbrev pub Valuation : Type 0
Valuation = ℕ → ℤ

-- the value of an affine function of a symbol, or the constant
abbrev pub value_with : Valuation → Option Sym → ℤ → ℤ → ℤ → ℤ
value_with valuation None slope at value = value
value_with valuation (Some sym) slope at value = affine slope at value (valuation sym.0)

-- a term's value
abbrev pub value_of : Valuation → Lin → ℤ
value_of valuation term = value_with valuation term.sym term.slope term.at term.value

-- the value of a sum of two terms
abbrev pub value_of_sum : Valuation → Lin2 → ℤ
value_of_sum valuation sum = value_of valuation sum.first +ℤ value_of valuation sum.second

-- a term's value if its symbol has this number
abbrev pub value_at : Lin → ℤ → ℤ
value_at term x = value_of (λ symbol. x) term

-- there is no symbol exactly if the slope is 0
abbrev pub IsTermWith : Option Sym → ℤ → Type 0
IsTermWith None slope = slope ≡ pos 0
IsTermWith (Some sym) slope = slope ≢ pos 0

-- a term has a symbol exactly if its slope isn't 0
abbrev pub IsTerm : Lin → Type 0
IsTerm term = IsTermWith term.sym term.slope

-- the two have symbols, and these differ
abbrev pub HaveTwoSymbols : Option Sym → Option Sym → Type 0
HaveTwoSymbols None other = ⊥
HaveTwoSymbols (Some sym) None = ⊥
HaveTwoSymbols (Some sym) (Some other) = sym ≢ other

-- the first symbol, if there is one, is the second
abbrev pub HasNoOtherSymbol : Option Sym → Option Sym → Type 0
HasNoOtherSymbol made given = (sym : Sym) → made ≡ Some sym → given ≡ Some sym
