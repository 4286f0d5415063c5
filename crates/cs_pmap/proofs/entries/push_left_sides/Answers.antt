use Rattle.std.proofs.Common.{arith}
use Rattle.cs_pmap.proofs.Stack.{Descends-push, tall}
use Rattle.cs_pmap.proofs.entries.push_left_sides.Goals as goal

pub push_reserved-requires : goal.push_reserved-requires
push_reserved-requires g c =
    omega (arith, c.loop-branch.invariant.tree_fits, tall c.in_Some-branch.branch c.in_Some-branch.ensures)

pub loop-branch-preserved : goal.loop-branch-preserved
loop-branch-preserved g c =
    Descends-push _ _ c.loop-branch.stack.items c.push_reserved.new.self.items c.in_Some-branch.branch c.loop-branch.invariant c.in_Some-branch.ensures
    c.push_reserved.ensures.capacity c.push_reserved.ensures.items
