use Rattle.std.specs.Prelude.{◌≤◌, ◌^◌, ◌≤ℤ◌, ℤ, pos, unsigned_abs, IsTrue, List}
use Rattle.cs_ranges.specs.declared.range_set.Interval.{Interval}
use Rattle.cs_ranges.specs.RangeSet.{contains}
use Rattle.cs_terms.specs.declared.term.Lin.{Lin}
use Rattle.cs_terms.specs.Term.{value_at}

-- the number is a digit
abbrev pub IsDigit : ℤ → Type 0
IsDigit x = (pos 0 ≤ℤ x) × (x ≤ℤ pos 9)

-- each number of the set is a digit
abbrev pub AreDigits : List Interval → Type 0
AreDigits set = (x : ℤ) → IsTrue (contains set x) → IsDigit x

-- the term's values at digits have absolute values of at most 2^33
abbrev pub HasSmallValues : Lin → Type 0
HasSmallValues term = (x : ℤ) → IsDigit x → unsigned_abs (value_at term x) ≤ 2 ^ 33
