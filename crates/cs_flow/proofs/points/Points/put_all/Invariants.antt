-- The remaining points come before those that were put.
use Rattle.std.proofs.Common.{◌≡◌, ◌++◌}
use Rattle.std.specs.VecDeque.{deque_len}
use Rattle.cs_flow.specs.PointView.{points_of}
use Rattle.cs_flow.proofs.points.Points.put_all.Given as goal

abbrev pub invariant-loop-point : goal.invariant-loop-point
invariant-loop-point l = points_of l.others ++ points_of l.self ≡ points_of l.initial.others ++ points_of l.initial.self

abbrev pub decreases-loop-point : goal.decreases-loop-point
decreases-loop-point l = deque_len l.others.list
