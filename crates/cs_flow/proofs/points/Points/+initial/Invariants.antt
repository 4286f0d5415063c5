-- The remaining initializers come before those whose points were put.
use Rattle.std.proofs.Common.{◌≡◌, ◌++◌}
use Rattle.std.specs.Slice.Iter.{iter_rest}
use Rattle.cs_ast.specs.TypedView.{initial_list}
use Rattle.cs_cfg.specs.ControlPoints as cfg
use Rattle.cs_flow.specs.PointView.{next_of, points_of}
use Rattle.cs_flow.proofs.points.Points.+initial.Given as goal

abbrev pub invariant-parts-loop-part : goal.invariant-parts-loop-part
invariant-parts-loop-part l = record {
  points : cfg.points_parts (initial_list l.list) (next_of l.fn.following) ++ points_of l.fn.self
      ≡ cfg.points_parts (initial_list (iter_rest l.part-iterator.iter)) (next_of l.next) ++ points_of l.self;
  first : cfg.first_parts (initial_list l.list) (next_of l.fn.following) ≡ cfg.first_parts (initial_list (iter_rest l.part-iterator.iter)) (next_of l.next);
}
