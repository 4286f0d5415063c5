use Rattle.std.proofs.Common.{length}
use Rattle.cs_pmap.proofs.tree.Tree.+merged.Given as goal

abbrev pub decreases-merged : goal.decreases-merged
decreases-merged g l = length l.self.now.0
