use Rattle.std.proofs.Common.{◌≡◌, take, MatchOption}
use Rattle.cs_ranges.specs.RangeSet.{IsLeastAbs}
use Rattle.cs_ranges.proofs.range_set.RangeSet.least_abs.Given as goal

abbrev pub invariant-loop-interval : goal.invariant-loop-interval
invariant-loop-interval l =
    MatchOption l.least (l.interval-index ≡ 0) (IsLeastAbs (take l.interval-index l.interval-items))
