-- The statements from the number on are to be executed.
use Rattle.std.proofs.Common.{◌≡◌, ◌+◌, ◌≤◌, drop, length}
use Rattle.cs_ast.specs.TypedView.{statement_list}
use Rattle.cs_meaning.specs.Jumps.{executes}
use Rattle.cs_meaning.specs.CountedPoints.{counted_points_in}
use Rattle.cs_run_state.specs.MachineView.{todo_of}
use Rattle.cs_frames.proofs.lists.put_statements.Given as goal

abbrev pub invariant-loop-left : goal.invariant-loop-left
invariant-loop-left l = record {
  within : l.left ≤ length l.statements;
  with_counted_point : l.following + counted_points_in (statement_list (drop l.left l.statements))
      ≡ l.counted_point + counted_points_in (statement_list l.statements);
  put : todo_of l.todo.items ≡ executes (statement_list (drop l.left l.statements)) l.following (todo_of l.fn.todo.items);
}

abbrev pub decreases-loop-left : goal.decreases-loop-left
decreases-loop-left l = l.left
