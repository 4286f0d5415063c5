-- There are only zeros, and not too many.
use Rattle.std.proofs.Common.{◌≡◌, ◌≤◌, ◌-◌, length}
use Rattle.std.specs.Prelude.{replicate}
use Rattle.cs_frames.proofs.frames.zeros.Given as goal

abbrev pub invariant-loop-made : goal.invariant-loop-made
invariant-loop-made l = record { zeros : l.made.items ≡ replicate (length l.made.items) 0; within : length l.made.items ≤ l.count }

abbrev pub decreases-loop-made : goal.decreases-loop-made
decreases-loop-made l = l.count - length l.made.items
