use Rattle.cs_report.proofs.LineTexts.{two_pieces, other_text}
use Rattle.cs_report.proofs.ground.append_other.Goals as goal

pub returns : goal.returns
returns c =
    two_pieces _ _ _ _ _ _ _ (rw c.list.ensures.value at c.in_ok-append_other_inputs.ensures) (rw c.deref.ensures.value at c.append_other_guesses.ensures)
    (other_text c.args.number c.args.run.now)
