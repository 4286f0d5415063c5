use Rattle.std.proofs.Common.{length}
use Rattle.cs_ranges.proofs.Negatives.{Mirrors}
use Rattle.cs_ranges.proofs.range_set.RangeSet.negated.Given as goal

abbrev pub invariant-loop-last : goal.invariant-loop-last
invariant-loop-last l = Mirrors l.self l.negatives l.rest

abbrev pub decreases-loop-last : goal.decreases-loop-last
decreases-loop-last l = length l.rest
