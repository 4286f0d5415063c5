-- The target of `break` is the same.
use Rattle.std.proofs.Common.{◌≡◌, length}
use Rattle.cs_meaning.specs.Jumps.{broken_out}
use Rattle.cs_run_state.specs.MachineView.{todo_of}
use Rattle.cs_frames.proofs.lists.drop_past_out.Given as goal

abbrev pub invariant-loop-item : goal.invariant-loop-item
invariant-loop-item l = broken_out (todo_of l.todo.items) ≡ broken_out (todo_of l.fn.todo.items)

abbrev pub decreases-loop-item : goal.decreases-loop-item
decreases-loop-item l = length l.todo.items
