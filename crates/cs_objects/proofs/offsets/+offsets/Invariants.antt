-- The scalars of the elements, and of the members, before this one were added. Each level of types counts down.
use Rattle.std.proofs.Common.{◌≡◌, ◌++◌, ◌+◌, ◌*◌, drop}
use Rattle.cs_types.specs.Shape.{shape_of, array}
use Rattle.cs_ast.specs.TypedProgram.{typed_program}
use Rattle.cs_objects.specs.TypeView.{offsets_from, member_offsets}
use Rattle.cs_objects.proofs.offsets.+offsets.Given as goal

abbrev pub decreases-push_offsets : goal.decreases-push_offsets
decreases-push_offsets l = 2 * l.levels

abbrev pub decreases-push_elements : goal.decreases-push_elements
decreases-push_elements l = 2 * l.levels + 1

abbrev pub decreases-push_members : goal.decreases-push_members
decreases-push_members l = 2 * l.levels + 1

abbrev pub invariant-push_elements-loop-left : goal.invariant-push_elements-loop-left
invariant-push_elements-loop-left l =
    l.made.items ++ offsets_from (typed_program l.program) l.at (array (shape_of l.element) l.left)
    ≡ l.initial.made.items ++ offsets_from (typed_program l.program) l.from (array (shape_of l.element) l.count)

abbrev pub decreases-push_elements-loop-left : goal.decreases-push_elements-loop-left
decreases-push_elements-loop-left l = l.left

abbrev pub invariant-push_members-loop-member : goal.invariant-push_members-loop-member
invariant-push_members-loop-member l =
    l.made.items ++ member_offsets (typed_program l.program) l.from (drop l.member-index l.members)
    ≡ l.initial.made.items ++ member_offsets (typed_program l.program) l.from l.members
