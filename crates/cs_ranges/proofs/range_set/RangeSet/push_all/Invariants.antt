use Rattle.std.proofs.Common.{◌≡◌, drop}
use Rattle.cs_ranges.proofs.Joining.{Adds}
use Rattle.cs_ranges.proofs.range_set.RangeSet.push_all.Given as goal

abbrev pub invariant-loop-interval : goal.invariant-loop-interval
invariant-loop-interval l =
    Adds l.fn.self l.intervals l.self (drop l.interval-index l.intervals) × (l.interval-index ≡ 0 → l.self ≡ l.fn.self)
