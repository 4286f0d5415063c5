-- Sums and differences of offsets as terms.
use Rattle.std.specs.Prelude.{◌≡◌, ◌≢◌, ◌⊎◌, ℕ, ◌^◌, ◌-◌, ℤ, pos, neg_ℤ, ◌+ℤ◌, ◌-ℤ◌, ◌*ℤ◌, Option, None, Some}
use Rattle.cs_types.specs.declared.data_model.DataModel.{DataModel}
use Rattle.cs_types.specs.declared.data_model.DataModel.TheVariants.{Lp64, Ilp32}
use Rattle.cs_types.specs.DataModel.{offset_bound_of}
use Rattle.cs_terms.specs.declared.symbol.Sym.{Sym}
use Rattle.cs_terms.specs.declared.term.Lin.{Lin}
use Rattle.cs_terms.specs.Term.{Valuation, value_of, IsTerm, HaveTwoSymbols}
use Rattle.cs_constraints.specs.Constraints.{Sets}
use Rattle.cs_events.specs.Operations.{elements_between}
use Rattle.cs_eval.specs.Operands.{IsTermBetween}

-- a moved offset as a term, or none if it is over two symbols
pub record IsMovedOffset (offset amount : Lin) (size : ℕ) (sum : Option Lin) : Type 0 where
  pub value : (exact : Lin) (v : Valuation) → sum ≡ Some exact → value_of v exact ≡ value_of v offset +ℤ value_of v amount *ℤ pos size
  pub one : (exact : Lin) → sum ≡ Some exact → (size ≡ 0) ⊎ ¬ HaveTwoSymbols offset.sym amount.sym
  pub none : sum ≡ None → (size ≢ 0) × HaveTwoSymbols offset.sym amount.sym

-- a term whose values are within the bounds of offsets
abbrev pub IsTermOfBounds : DataModel → Sets → Lin → Type 0
IsTermOfBounds model sets term = IsTermBetween sets (neg_ℤ (pos (offset_bound_of model))) (pos (offset_bound_of model)) term

-- a term divided by a number that divides its value and its slope
pub record IsDividedTerm (bytes : Lin) (size : ℤ) (made : Lin) : Type 0 where
  pub symbol : made.sym ≡ bytes.sym
  pub place : made.at ≡ bytes.at
  pub slope : bytes.slope ≡ made.slope *ℤ size
  pub value : bytes.value ≡ made.value *ℤ size

-- the number is a multiple of the size
abbrev pub IsMultiple : ℤ → ℤ → Type 0
IsMultiple number size = (n : ℤ) × (number ≡ n *ℤ size)

-- each value of the difference is a multiple of the size
abbrev pub AreMultiples : Lin → Lin → ℕ → Type 0
AreMultiples left right size = (v : Valuation) → IsMultiple (value_of v left -ℤ value_of v right) (pos size)

-- the number of elements between two offsets as a term: their size is 0, or it divides each value of the difference
pub record AreElements (left right : Lin) (size : ℕ) (made : Lin) : Type 0 where
  pub value : (v : Valuation) → value_of v made ≡ elements_between (value_of v left) (value_of v right) size
  pub followed : (size ≡ 0) ⊎ ((¬ HaveTwoSymbols left.sym right.sym) × AreMultiples left right size)

-- a difference as one term, whose value and slope aren't both multiples of the size
pub record HasRest (left right : Lin) (size : ℕ) : Type 0 where
  pub bytes : Lin
  pub is_term : IsTerm bytes
  pub value : (v : Valuation) → value_of v bytes ≡ value_of v left -ℤ value_of v right
  pub symbol : (s : Sym) → bytes.sym ≡ Some s → (left.sym ≡ Some s) ⊎ (right.sym ≡ Some s)
  pub rest : ¬ (IsMultiple bytes.value (pos size) × IsMultiple bytes.slope (pos size))

-- the number of elements between two offsets, or none if the difference is over two symbols or has a remainder
abbrev pub AreElementsBetween : Lin → Lin → ℕ → Option Lin → Type 0
AreElementsBetween left right size None = (size ≢ 0) × (HaveTwoSymbols left.sym right.sym ⊎ HasRest left right size)
AreElementsBetween left right size (Some made) = AreElements left right size made

-- half of the greatest difference: the difference of two offsets that are no farther from 0 is in the range of its type
abbrev pub half_difference_of : DataModel → ℕ
half_difference_of Lp64 = 2 ^ 62 - 1
half_difference_of Ilp32 = 2 ^ 30 - 1

-- an offset whose difference from another such one is in the range of the type of differences
abbrev pub IsTermOfOffsets : DataModel → Sets → Lin → Type 0
IsTermOfOffsets model sets term = IsTermBetween sets (neg_ℤ (pos (half_difference_of model))) (pos (half_difference_of model)) term
