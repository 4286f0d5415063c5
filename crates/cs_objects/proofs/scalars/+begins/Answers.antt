use Rattle.std.proofs.Common.{sym, ◌∙◌, arith}
use Rattle.cs_ast.specs.TypedProgram.{typed_program}
use Rattle.cs_objects.proofs.Nested.{struct_members}
use Rattle.cs_objects.proofs.scalars.+begins.Goals as goal

pub begins_in_struct-returns-in-Some : goal.begins_in_struct-returns-in-Some
begins_in_struct-returns-in-Some t c =
    rw (struct_members (typed_program c.args.program.now) c.args.wanted c.args.depth c.args.number c.args.offset c.in-Some.members.now (omega arith)
    (sym c.is_at.ensures ∙ c.if-is_at.false) (sym c.in-Some.ensures)) c.begins_in_members.ensures
