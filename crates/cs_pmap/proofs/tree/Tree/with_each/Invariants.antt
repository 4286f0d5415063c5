use Rattle.std.proofs.Common.{◌≡◌, take}
use Rattle.cs_pmap.specs.Many.{put_all}
use Rattle.cs_pmap.proofs.tree.Tree.with_each.Given as goal

abbrev pub invariant-loop-entry : goal.invariant-loop-entry
invariant-loop-entry g l = l.tree.0 ≡ put_all (take l.entry-index l.entries) l.self.0
