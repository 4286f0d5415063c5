use Rattle.std.proofs.Common.{◌≡◌, length}
use Rattle.std.specs.FinMap.{find}
use Rattle.cs_pmap.specs.Keys.{key_cmp}
use Rattle.cs_pmap.proofs.tree.Tree.get.Given as goal

-- a look-up of the key in this tree finds the same as in the whole tree
abbrev pub invariant-loop-branch : goal.invariant-loop-branch
invariant-loop-branch g l = find key_cmp l.key l.tree.0 ≡ find key_cmp l.key l.initial.tree.0

abbrev pub decreases-loop-branch : goal.decreases-loop-branch
decreases-loop-branch g l = length l.tree.0
