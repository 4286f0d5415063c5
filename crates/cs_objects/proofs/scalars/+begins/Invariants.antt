-- The struct begins in no member before the index. The remaining depth of nested structs decreases.
use Rattle.std.proofs.Common.{◌≡◌, ◌+◌, ◌*◌, drop}
use Rattle.cs_ast.specs.TypedProgram.{typed_program}
use Rattle.cs_meaning.specs.Types.{some_member}
use Rattle.cs_objects.specs.TypeView.{in_member}
use Rattle.cs_objects.proofs.scalars.+begins.Given as goal

abbrev pub decreases-begins_in_struct : goal.decreases-begins_in_struct
decreases-begins_in_struct l = 2 * l.depth

abbrev pub decreases-begins_in_members : goal.decreases-begins_in_members
decreases-begins_in_members l = 2 * l.depth + 1

abbrev pub invariant-begins_in_members-loop-member : goal.invariant-begins_in_members-loop-member
invariant-begins_in_members-loop-member l =
    some_member (in_member (typed_program l.program) l.wanted l.depth l.offset) l.members
    ≡ some_member (in_member (typed_program l.program) l.wanted l.depth l.offset) (drop l.member-index l.members)
