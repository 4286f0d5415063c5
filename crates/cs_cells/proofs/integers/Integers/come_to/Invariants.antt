use Rattle.std.proofs.Common.{length}
use Rattle.cs_cells.proofs.integers.Integers.come_to.Given as goal

abbrev pub invariant-loop-next : goal.invariant-loop-next
invariant-loop-next l = Unit {0}

-- fewer members remain
abbrev pub decreases-loop-next : goal.decreases-loop-next
decreases-loop-next l = length l.rest
