use Rattle.std.proofs.Common.{◌≡◌, drop}
use Rattle.cs_types.specs.Shape.{shape_of}
use Rattle.cs_statements.specs.Statements.{no_statements, no_cases, body_typed, switch_list_typed}
use Rattle.cs_statements.specs.View.{inside_of, where_of, typed_statements_of, switching_of}
use Rattle.cs_statements.proofs.+statements.Given as goal

abbrev pub invariant-statements::items_typed-loop-item : goal.invariant-statements::items_typed-loop-item
invariant-statements::items_typed-loop-item l =
    body_typed (where_of l.at) l.items (no_statements (inside_of l.initial.inside))
    ≡ body_typed (where_of l.at) (drop l.item-index l.items) (typed_statements_of l.statements.items l.inside)

abbrev pub invariant-switches::switch_items-loop-item : goal.invariant-switches::switch_items-loop-item
invariant-switches::switch_items-loop-item l = switch_list_typed (where_of l.at) (shape_of l.ty) l.items (no_cases (inside_of l.initial.inside))
    ≡ switch_list_typed (where_of l.at) (shape_of l.ty) (drop l.item-index l.items) (switching_of l.so_far l.inside)
