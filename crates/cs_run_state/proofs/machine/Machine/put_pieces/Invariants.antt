-- The pieces from the number on are to be stored.
use Rattle.std.proofs.Common.{◌≡◌, ◌≤◌, drop, length, map}
use Rattle.cs_meaning.specs.Machine.{to_do}
use Rattle.cs_meaning.specs.Statements.{stores_pieces}
use Rattle.cs_run_state.specs.MachineView.{state_of}
use Rattle.cs_objects.specs.BlockView.{piece_of}
use Rattle.cs_run_state.proofs.machine.Machine.put_pieces.Given as goal

abbrev pub invariant-loop-left : goal.invariant-loop-left
invariant-loop-left l = record {
  within : l.left ≤ length l.pieces;
  put : state_of l.self ≡ to_do (stores_pieces l.place l.declaration (map piece_of (drop l.left l.pieces)) (state_of l.fn.self).frame.todo)
      (state_of l.fn.self);
}

abbrev pub decreases-loop-left : goal.decreases-loop-left
decreases-loop-left l = l.left
