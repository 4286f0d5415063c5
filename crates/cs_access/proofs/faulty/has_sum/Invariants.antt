use Rattle.std.proofs.Common.{◌≡◌, ◌+ℤ◌, false, take}
use Rattle.cs_ranges.specs.RangeSet.{contains}
use Rattle.cs_access.proofs.faulty.has_sum.Given as goal

abbrev pub invariant-loop-interval : goal.invariant-loop-interval
invariant-loop-interval l =
    contains (take l.interval-index l.intervals) (l.numbers.first.value +ℤ l.numbers.second.value) ≡ false
