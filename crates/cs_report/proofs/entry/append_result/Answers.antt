use Rattle.cs_ast.specs.TypedProgram.{typed_program}
use Rattle.cs_report.proofs.LineTexts.{entry_pieces}
use Rattle.cs_report.proofs.entry.append_result.Goals as goal

pub returns : goal.returns
returns c =
    entry_pieces _ (typed_program c.args.program.now) c.args.kinds.now c.args.entry.now _ _ _ _ _ _ _ c.in_ok-append.ensures
    (rw c.function_name.ensures at c.in_ok-extend_from_slice.ensures.items) (rw c.name.ensures at c.in_ok-append-2.ensures)
    (rw c.deref.ensures.value at c.in_ok-append_reports.ensures) (rw c.deref-2.ensures.value at c.in_ok-append_overs.ensures)
    (rw (c.deref-3.ensures.value, c.deref-4.ensures.value) at c.append_cuts.ensures)
