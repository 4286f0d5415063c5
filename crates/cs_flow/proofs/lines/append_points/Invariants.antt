-- Printed so far: the lines of the control points before the remaining ones.
use Rattle.std.proofs.Common.{◌≡◌, ◌++◌, map}
use Rattle.std.specs.List.{flat_map}
use Rattle.std.specs.VecDeque.Iter.{deque_iter_rest}
use Rattle.cs_cfg.specs.FlowText.{point_lines}
use Rattle.cs_flow.specs.PointView.{point_of, points_of}
use Rattle.cs_flow.proofs.lines.append_points.Given as goal

abbrev pub invariant-loop-point : goal.invariant-loop-point
invariant-loop-point l =
    l.text.items ++ flat_map (point_lines l.files) (map point_of (deque_iter_rest l.point-iterator))
    ≡ l.initial.text.items ++ flat_map (point_lines l.files) (points_of l.points)
