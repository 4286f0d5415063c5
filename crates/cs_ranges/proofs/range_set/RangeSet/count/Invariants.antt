use Rattle.std.proofs.Common.{◌≡◌, ◌+◌, drop}
use Rattle.cs_ranges.proofs.Counting.{total_size}
use Rattle.cs_ranges.proofs.range_set.RangeSet.count.Given as goal

abbrev pub invariant-loop-interval : goal.invariant-loop-interval
invariant-loop-interval l =
    l.count + total_size (drop l.interval-index l.interval-items) ≡ total_size l.interval-items
