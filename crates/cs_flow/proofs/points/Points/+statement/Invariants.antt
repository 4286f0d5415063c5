-- The remaining statements come before those whose points were put.
use Rattle.std.proofs.Common.{◌≡◌, ◌++◌, ◌+◌, ◌*◌, max, map}
use Rattle.std.specs.Slice.Iter.{iter_rest}
use Rattle.cs_ast.specs.declared.typed.statement.Stmt.{size-Stmt}
use Rattle.cs_ast.specs.TypedView.{statement_list}
use Rattle.cs_cfg.specs.ControlPoints as cfg
use Rattle.cs_flow.specs.PointView.{next_of, points_of}
use Rattle.cs_flow.specs.SwitchView.{all_starts}
use Rattle.cs_flow.specs.TargetView.{targets_of}
use Rattle.cs_flow.proofs.points.Points.+statement.Given as goal

abbrev pub decreases-statement : goal.decreases-statement
decreases-statement l = 3 * size-Stmt l.s.now

abbrev pub decreases-label : goal.decreases-label
decreases-label l = 3 * size-Stmt l.body.now + 1

abbrev pub decreases-while_loop : goal.decreases-while_loop
decreases-while_loop l = 3 * size-Stmt l.body.now + 1

abbrev pub decreases-do_loop : goal.decreases-do_loop
decreases-do_loop l = 3 * size-Stmt l.body.now + 1

abbrev pub decreases-for_loop : goal.decreases-for_loop
decreases-for_loop l = 3 * max (goal.size-for_loop l) (size-Stmt l.body.now) + 2

abbrev pub decreases-switch : goal.decreases-switch
decreases-switch l = 3 * goal.size-switch l + 2

abbrev pub decreases-statements : goal.decreases-statements
decreases-statements l = 3 * goal.size-statements l + 1

abbrev pub decreases-each_statement : goal.decreases-each_statement
decreases-each_statement l = 3 * goal.size-each_statement l + 1

abbrev pub invariant-statements-loop-s : goal.invariant-statements-loop-s
invariant-statements-loop-s l = record {
  points : cfg.flows_in (targets_of l.to) (statement_list l.list) (next_of l.fn.following) ++ points_of l.fn.self
      ≡ cfg.flows_in (targets_of l.to) (statement_list (iter_rest l.s-iterator.iter)) (next_of l.next) ++ points_of l.self;
  first : cfg.starts_in (targets_of l.to) (statement_list l.list) (next_of l.fn.following)
      ≡ cfg.starts_in (targets_of l.to) (statement_list (iter_rest l.s-iterator.iter)) (next_of l.next);
}

abbrev pub invariant-each_statement-loop-s : goal.invariant-each_statement-loop-s
invariant-each_statement-loop-s l = record {
  points : cfg.flows_in (targets_of l.to) (statement_list l.list) (next_of l.fn.following) ++ points_of l.fn.self
      ≡ cfg.flows_in (targets_of l.to) (statement_list (iter_rest l.s-iterator.iter)) (next_of l.next) ++ points_of l.self;
  starts : all_starts (targets_of l.to) (statement_list l.list) (next_of l.fn.following)
      ≡ all_starts (targets_of l.to) (statement_list (iter_rest l.s-iterator.iter)) (next_of l.next) ++ map next_of l.starts.items;
}
