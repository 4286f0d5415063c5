use Rattle.std.proofs.Common.{◌++◌, length}
use Rattle.cs_pmap.specs.Pending.{pending}
use Rattle.cs_pmap.proofs.Stack.{Descends}
use Rattle.cs_pmap.proofs.entries.push_left_sides.Given as goal

abbrev pub invariant-loop-branch : goal.invariant-loop-branch
invariant-loop-branch g l =
    Descends l.stack.capacity l.stack.items l.tree (l.initial.tree.0 ++ pending l.initial.stack.items)

abbrev pub decreases-loop-branch : goal.decreases-loop-branch
decreases-loop-branch g l = length l.tree.0
