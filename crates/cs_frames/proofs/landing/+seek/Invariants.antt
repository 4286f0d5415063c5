-- No label is in the statements before the index, and those from it on are to be executed.
use Rattle.std.proofs.Common.{◌≡◌, drop}
use Rattle.cs_ast.specs.TypedView.{statement_list}
use Rattle.cs_meaning.specs.Jumps as jumps
use Rattle.cs_run_state.specs.MachineView.{todo_of}
use Rattle.cs_frames.proofs.landing.+seek.Given as goal

abbrev pub invariant-seek_in-loop-s : goal.invariant-seek_in-loop-s
invariant-seek_in-loop-s l = record {
  sought : jumps.landing_in l.label (statement_list l.statements) l.counted_point (todo_of l.fn.todo.items)
      ≡ jumps.landing_in l.label (statement_list (drop l.s-index l.statements)) l.at (todo_of l.fn.todo.items);
  put : todo_of l.todo.items ≡ jumps.executes (statement_list (drop l.s-index l.statements)) l.at (todo_of l.fn.todo.items);
}
