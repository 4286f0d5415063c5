use Rattle.std.proofs.Common.{length}
use Rattle.cs_pmap.proofs.join.+join_to_right.Given as goal

abbrev pub decreases-join_to_right : goal.decreases-join_to_right
decreases-join_to_right g l = length l.left.now.0
