use Rattle.std.proofs.Common.{length}
use Rattle.cs_pmap.proofs.join.+join_to_left.Given as goal

abbrev pub decreases-join_to_left : goal.decreases-join_to_left
decreases-join_to_left g l = length l.right.now.0
