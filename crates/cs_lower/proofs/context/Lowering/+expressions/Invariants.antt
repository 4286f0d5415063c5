-- The measures of the lowering of expressions: the height of the expression, then the order of the functions for one expression.
use Rattle.std.proofs.Common.{◌+◌, ◌*◌, ◌≤◌, length, max, drop}
use Rattle.cs_ast.specs.TypedProgram.{typed_program}
use Rattle.cs_ast.specs.TypedView.{typed_list}
use Rattle.cs_lower.specs.Building.{point_of, built_of}
use Rattle.cs_lower.specs.Expressions.{UsesAll}
use Rattle.cs_lower.proofs.context.Lowering.+expressions.Given as goal

abbrev pub decreases-lower_expression : goal.decreases-lower_expression
decreases-lower_expression l = 4 * goal.size-lower_expression l

abbrev pub decreases-lower_used : goal.decreases-lower_used
decreases-lower_used l = 4 * goal.size-lower_used l + 1

abbrev pub decreases-lower_way : goal.decreases-lower_way
decreases-lower_way l = 4 * goal.size-lower_way l + 2

abbrev pub decreases-lower_row : goal.decreases-lower_row
decreases-lower_row l = 4 * goal.size-lower_row l + 2

abbrev pub decreases-lower_pair : goal.decreases-lower_pair
decreases-lower_pair l = 4 * max (goal.size-lower_pair l) (goal.size-lower_pair (record l { first = l.second })) + 2

abbrev pub decreases-lower_sum : goal.decreases-lower_sum
decreases-lower_sum l = 4 * max (goal.size-lower_sum l) (goal.size-lower_sum (record l { pointer = l.amount })) + 3

abbrev pub decreases-lower_update : goal.decreases-lower_update
decreases-lower_update l = 4 * max (goal.size-lower_update (record l { update = l.object })) (goal.size-lower_update (record l { update = l.right })) + 2

abbrev pub decreases-lower_and : goal.decreases-lower_and
decreases-lower_and l = 4 * max (goal.size-lower_and l) (goal.size-lower_and (record l { left = l.right })) + 3

abbrev pub decreases-lower_or : goal.decreases-lower_or
decreases-lower_or l = 4 * max (goal.size-lower_or l) (goal.size-lower_or (record l { left = l.right })) + 3

abbrev pub decreases-lower_choice : goal.decreases-lower_choice
decreases-lower_choice l =
    4 * max (goal.size-lower_choice l) (max (goal.size-lower_choice (record l { test = l.first })) (goal.size-lower_choice (record l { test = l.second }))) + 3

abbrev pub decreases-lower_comma : goal.decreases-lower_comma
decreases-lower_comma l = 4 * max (goal.size-lower_comma l) (goal.size-lower_comma (record l { first = l.second })) + 2

abbrev pub invariant-lower_row-loop-left : goal.invariant-lower_row-loop-left
invariant-lower_row-loop-left l = record {
  within : l.left ≤ length l.row;
  made : UsesAll (typed_program l.self.program.now) (typed_list (drop l.left l.row)) (l.left + l.number) (built_of l.initial.graph) (built_of l.graph)
      (point_of l.made) (point_of l.fn.following);
}

abbrev pub decreases-lower_row-loop-left : goal.decreases-lower_row-loop-left
decreases-lower_row-loop-left l = l.left
