-- Bounds for the values of a term over a range of its symbol.
use Rattle.std.specs.Prelude.{IsTrue, ℤ, ◌≤ℤ◌, List}
use Rattle.cs_ranges.specs.declared.range_set.Interval.{Interval}
use Rattle.cs_ranges.specs.RangeSet.{contains}
use Rattle.cs_types.specs.declared.data_model.DataModel.{DataModel}
use Rattle.cs_types.specs.declared.int_type.IntType.{IntType}
use Rattle.cs_types.specs.IntType.{InRange}
use Rattle.cs_terms.specs.declared.term.Lin.{Lin}
use Rattle.cs_terms.specs.Term.{value_at}

-- at each number of the range, the term's value is within the bounds
abbrev pub StaysBetween : Lin → List Interval → ℤ → ℤ → Type 0
StaysBetween term range low high = (x : ℤ) → IsTrue (contains range x) → (low ≤ℤ value_at term x) × (value_at term x ≤ℤ high)

-- at each number of the range, the type can represent the term's value
abbrev pub StaysWithin : DataModel → IntType → Lin → List Interval → Type 0
StaysWithin model ty term range = (x : ℤ) → IsTrue (contains range x) → InRange model ty (value_at term x)
