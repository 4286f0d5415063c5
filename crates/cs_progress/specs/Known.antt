-- What a state knows about the values of terms.
use Rattle.std.specs.Prelude.{◌≡◌, ℤ, Bool, IsTrue, List, Option, None, Some}
use Rattle.std.specs.Ordering.{int_eq}
use Rattle.cs_ranges.specs.declared.range_set.Interval.{Interval}
use Rattle.cs_ranges.specs.Affine.{affine}
use Rattle.cs_ranges.specs.RangeSet.{contains}
use Rattle.cs_terms.specs.declared.term.Lin.{Lin}
use Rattle.cs_terms.specs.Term.{Valuation, value_of, value_at, HasNoOtherSymbol}
use Rattle.cs_constraints.specs.Constraints.{Sets, Fits}

-- under each valuation that fits, the two terms have the same value
abbrev pub HaveOneValue : Sets → Lin → Lin → Type 0
HaveOneValue sets term other = (valuation : Valuation) → Fits valuation sets → value_of valuation other ≡ value_of valuation term

-- the value of a term's function at a number
abbrev pub function_at : Lin → ℤ → ℤ
function_at term number = affine term.slope term.at term.value number

-- a term over a symbol with these numbers and another term have the same value: the other is over that symbol too, or is a constant
pub record IsSameOver (range : List Interval) (term other : Lin) : Type 0 where
  pub values : (number : ℤ) → IsTrue (contains range number) → value_at other number ≡ function_at term number
  pub symbol : HasNoOtherSymbol other.sym term.sym

-- the only number of its symbol at which a term has a value
abbrev pub IsSolution : Lin → ℤ → Option ℤ → Type 0
IsSolution term value found = (number : ℤ) → function_at term number ≡ value → found ≡ Some number

-- whether the term has a value: under all valuations that fit, or under none of them; `None` states nothing
abbrev pub IsTruthOfValue : Sets → Lin → ℤ → Option Bool → Type 0
IsTruthOfValue sets term number (Some holds) =
    (valuation : Valuation) → Fits valuation sets → int_eq (value_of valuation term) number ≡ holds
IsTruthOfValue sets term number None = Unit {0}
