use Rattle.std.proofs.Common.{◌≡◌, ℤ, take}
use Rattle.cs_ranges.specs.Interval.{IsInside}
use Rattle.cs_ranges.specs.RangeSet.{contains}
use Rattle.cs_access.proofs.faulty.values_in.Given as goal

abbrev pub invariant-loop-interval : goal.invariant-loop-interval
invariant-loop-interval l = (x : ℤ) → IsInside x → contains l.set x ≡ contains (take l.interval-index l.intervals) x
