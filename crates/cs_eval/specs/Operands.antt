-- Operands of questions: terms over declared symbols, with bounds for their values.
use Rattle.std.specs.Prelude.{◌≡◌, ◌≢◌, ◌⊎◌, ◌^◌, ℤ, pos, neg_ℤ, ◌+ℤ◌, ◌≤ℤ◌, IsTrue, IsNone, List, Option, None, Some}
use Rattle.cs_ranges.specs.declared.range_set.Interval.{Interval}
use Rattle.cs_ranges.specs.RangeSet.{contains}
use Rattle.cs_types.specs.declared.data_model.DataModel.{DataModel}
use Rattle.cs_types.specs.declared.int_type.IntType.{IntType}
use Rattle.cs_types.specs.IntType.{least_of, greatest_of}
use Rattle.cs_terms.specs.declared.symbol.Sym.{Sym}
use Rattle.cs_terms.specs.declared.term.Lin.{Lin}
use Rattle.cs_terms.specs.declared.term.Lin2.{Lin2}
use Rattle.cs_terms.specs.Term.{Valuation, value_of, value_of_sum, value_at, IsTerm, HaveTwoSymbols}
use Rattle.cs_constraints.specs.Prepared.{HasIntegers, IsPrepared}
use Rattle.cs_constraints.specs.Constraints.{Sets, set_of, Fits, IsDeclared, HasOneNumber}

-- the number is within both bounds
abbrev pub IsBetween : ℤ → ℤ → ℤ → Type 0
IsBetween low high number = (low ≤ℤ number) × (number ≤ℤ high)

-- a term whose symbol, if it has one, is declared, and whose values are within the bounds
pub record IsTermBetween (sets : Sets) (low high : ℤ) (term : Lin) : Type 0 where
  pub is_term : IsTerm term
  pub declared : IsDeclared sets term.sym
  pub constant : IsNone term.sym → IsBetween low high term.value
  pub values : (sym : Sym) (set : List Interval) → term.sym ≡ Some sym → set_of sets sym.0 ≡ Some set → (x : ℤ) → IsTrue (contains set x)
      → IsBetween low high (value_at term x)

-- a term whose values are from -2^126 to 2^126, as those of sets are
abbrev pub IsTermInside : Sets → Lin → Type 0
IsTermInside sets term = IsTermBetween sets (neg_ℤ (pos (2 ^ 126))) (pos (2 ^ 126)) term

-- a term whose values are in the range of a type
abbrev pub IsTermInType : DataModel → Sets → IntType → Lin → Type 0
IsTermInType model sets ty term = IsTermBetween sets (least_of model ty) (greatest_of model ty) term

-- the value of a term without a symbol
abbrev pub constant_with : Option Sym → ℤ → Option ℤ
constant_with None value = Some value
constant_with (Some sym) value = None

-- the number of a term that is a constant
abbrev pub constant_of : Lin → Option ℤ
constant_of term = constant_with term.sym term.value

-- not both terms are constants
abbrev pub HaveSymbol : Lin → Lin → Type 0
HaveSymbol left right = ¬ ((left.sym ≡ None) × (right.sym ≡ None))

-- the same affine function, with a number added to its values
pub record IsRaised (given : Lin) (by : ℤ) (made : Lin) : Type 0 where
  pub symbol : made.sym ≡ given.sym
  pub slope : made.slope ≡ given.slope
  pub place : made.at ≡ given.at
  pub value : made.value ≡ given.value +ℤ by

-- the term is a constant, or its symbol can only have one number
abbrev pub IsFixed : Sets → Lin → Type 0
IsFixed sets term = (term.sym ≡ None) ⊎ ((number : ℤ) × HasOneNumber sets term.sym number)

-- both terms together are over at most one symbol
abbrev pub AreOverOne : Sets → Lin → Lin → Type 0
AreOverOne sets left right = IsFixed sets left ⊎ (IsFixed sets right ⊎ (left.sym ≡ right.sym))

-- the bounds of the parts of order tests; the integers of C are within them
abbrev pub LOWEST : ℤ
LOWEST = neg_ℤ (pos (2 ^ 100))

abbrev pub HIGHEST : ℤ
HIGHEST = pos (2 ^ 100)

-- the two valuations agree on all symbols but one
abbrev pub AgreeBeside : Option Sym → Valuation → Valuation → Type 0
AgreeBeside symbol v w = (other : Sym) → symbol ≢ Some other → w other.0 ≡ v other.0

-- a valuation that fits and differs from another one only at the term's symbol, and the term's value under it
pub record IsAttainedFrom (sets : Sets) (term : Lin) (number : ℤ) (v : Valuation) : Type 0 where
  pub at : Valuation
  pub fits : Fits at sets
  pub value : value_of at term ≡ number
  pub beside : AgreeBeside term.sym v at

abbrev pub IsAttained : Sets → Lin → ℤ → Type 0
IsAttained sets term number = (v : Valuation) → Fits v sets → IsAttainedFrom sets term number v

-- under every valuation that fits, the term's value is within the ends, and each end is its value under one that differs from a given one
-- only at the term's symbol
pub record HasEnds (sets : Sets) (term : Lin) (ends : Interval) : Type 0 where
  pub bounds : (v : Valuation) → Fits v sets → IsBetween ends.low ends.high (value_of v term)
  pub low : IsAttained sets term ends.low
  pub high : IsAttained sets term ends.high

-- over the numbers of its symbol, the term has the ends as values, and its other values are between them
pub record HasEndsOver (term : Lin) (range : List Interval) (ends : Interval) : Type 0 where
  pub bounds : (x : ℤ) → IsTrue (contains range x) → IsBetween ends.low ends.high (value_at term x)
  pub low_at : ℤ
  pub low_member : IsTrue (contains range low_at)
  pub low : value_at term low_at ≡ ends.low
  pub high_at : ℤ
  pub high_member : IsTrue (contains range high_at)
  pub high : value_at term high_at ≡ ends.high

-- a valuation that fits, and the sum's value under it
pub record IsSumAt (sets : Sets) (term : Lin2) (number : ℤ) : Type 0 where
  pub at : Valuation
  pub fits : Fits at sets
  pub value : value_of_sum at term ≡ number

-- under every valuation that fits, the sum of two terms is within the ends; if they are over two symbols, some valuations attain each end
pub record IsEndsOfSum (sets : Sets) (term : Lin2) (ends : Interval) : Type 0 where
  pub bounds : (v : Valuation) → Fits v sets → IsBetween ends.low ends.high (value_of_sum v term)
  pub low : HaveTwoSymbols term.first.sym term.second.sym → (v : Valuation) → Fits v sets → IsSumAt sets term ends.low
  pub high : HaveTwoSymbols term.first.sym term.second.sym → (v : Valuation) → Fits v sets → IsSumAt sets term ends.high

-- the term's symbol, if it has one, can have more than one number
abbrev pub IsSeveral : Sets → Lin → Type 0
IsSeveral sets term = (number : ℤ) → ¬ HasOneNumber sets term.sym number

-- an operand as `Constraints::prepared` returns it: constant, or over a symbol that can have two numbers, with integers of C as values
pub record IsReadyOperand (sets : Sets) (term : Lin) : Type 0 where
  pub prepared : IsPrepared sets term
  pub integers : HasIntegers sets term
  pub several : IsSeveral sets term
