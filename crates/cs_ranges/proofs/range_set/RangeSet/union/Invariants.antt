use Rattle.std.proofs.Common.{◌+◌, length}
use Rattle.cs_ranges.proofs.Joining.{Joins}
use Rattle.cs_ranges.proofs.range_set.RangeSet.union.Given as goal

abbrev pub invariant-loop-a : goal.invariant-loop-a
invariant-loop-a l = Joins l.self l.other l.joined l.left l.right

abbrev pub decreases-loop-a : goal.decreases-loop-a
decreases-loop-a l = length l.left + length l.right
