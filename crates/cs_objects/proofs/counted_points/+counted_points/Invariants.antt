-- The counted points of the statements before the index were counted.
use Rattle.std.proofs.Common.{◌≡◌, ◌+◌, drop}
use Rattle.cs_ast.specs.TypedView.{statement_list}
use Rattle.cs_meaning.specs.CountedPoints.{counted_points_in}
use Rattle.cs_objects.proofs.counted_points.+counted_points.Given as goal

abbrev pub invariant-counted_points_in-loop-s : goal.invariant-counted_points_in-loop-s
invariant-counted_points_in-loop-s l = l.count + counted_points_in (statement_list (drop l.s-index l.statements))
    ≡ counted_points_in (statement_list l.statements)
