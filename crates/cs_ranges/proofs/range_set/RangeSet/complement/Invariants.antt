use Rattle.std.proofs.Common.{drop}
use Rattle.cs_ranges.proofs.Gaps.{Splits}
use Rattle.cs_ranges.proofs.range_set.RangeSet.complement.Given as goal

abbrev pub invariant-loop-interval : goal.invariant-loop-interval
invariant-loop-interval l = Splits l.self l.gaps l.next (drop l.interval-index l.interval-items)
