use Rattle.cs_ast.specs.TypedProgram.{typed_program}
use Rattle.cs_report.proofs.LineTexts.{finding_pieces}
use Rattle.cs_report.proofs.finding.append_finding.Goals as goal

pub returns : goal.returns
returns c =
    finding_pieces _ (typed_program c.args.program.now) c.args.finding.now _ _ _ _ _ _ (rw c.deref.ensures.value at c.in_ok-append_outcome.ensures)
    (rw (c.confidence.ensures, c.deref-2.ensures.value) at c.in_ok-append.ensures) (rw c.list.ensures.value at c.in_ok-append_inputs.ensures)
    (rw (c.deref-3.ensures.value, c.deref-4.ensures.value) at c.in_ok-append_grounds.ensures) (rw c.deref-5.ensures.value at c.append_steps.ensures)
