-- The remaining expressions come before those whose points were put.
use Rattle.std.proofs.Common.{◌≡◌, ◌++◌, ◌+◌, ◌*◌, max}
use Rattle.std.specs.Slice.Iter.{iter_rest}
use Rattle.cs_ast.specs.declared.typed.expression.Expr.{size-Expr}
use Rattle.cs_ast.specs.TypedView.{typed_list}
use Rattle.cs_cfg.specs.ControlPoints as cfg
use Rattle.cs_flow.specs.PointView.{next_of, points_of}
use Rattle.cs_flow.proofs.points.Points.+expression.Given as goal

abbrev pub decreases-expression : goal.decreases-expression
decreases-expression l = 2 * size-Expr l.e.now

abbrev pub decreases-pair : goal.decreases-pair
decreases-pair l = 2 * max (size-Expr l.a.now) (size-Expr l.b.now) + 1

abbrev pub decreases-test : goal.decreases-test
decreases-test l = 2 * size-Expr l.test.now + 1

abbrev pub decreases-expressions : goal.decreases-expressions
decreases-expressions l = 2 * goal.size-expressions l + 1

abbrev pub invariant-expressions-loop-e : goal.invariant-expressions-loop-e
invariant-expressions-loop-e l = record {
  points : cfg.points_in (typed_list l.list) (next_of l.fn.following) ++ points_of l.fn.self
      ≡ cfg.points_in (typed_list (iter_rest l.e-iterator.iter)) (next_of l.next) ++ points_of l.self;
  first : cfg.first_in (typed_list l.list) (next_of l.fn.following) ≡ cfg.first_in (typed_list (iter_rest l.e-iterator.iter)) (next_of l.next);
}
