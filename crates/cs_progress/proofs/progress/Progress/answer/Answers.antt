use Rattle.std.proofs.Common.{All, sym, subst}
use Rattle.cs_terms.specs.Term.{value_of}
use Rattle.cs_progress.specs.Locals.{IsOver}
use Rattle.cs_progress.proofs.Answers.{next_left}
use Rattle.cs_progress.proofs.progress.Progress.answer.Goals as goal

pub returns-clause-next : goal.returns-clause-next
returns-clause-next c = λ valuation.
    rw (← c.as_slice.ensures)
    (next_left (value_of valuation) c.as_slice.result.now c.args.self.now.used c.in_ok-answer.field-0.now c.in_ok-answer.ensures.lookup.3.0
    c.in_ok-answer.ensures.lookup.3.1)

pub returns-clause-over : goal.returns-clause-over
returns-clause-over c = λ program bases known have.
    let answers = subst (All (IsOver known)) (sym c.as_slice.ensures) have.answers in
    let answer = c.in_ok-answer.field-0.now in
    subst (IsOver known) (sym (c.in_ok-answer.ensures.lookup.3.1 answer))
    (answers c.args.self.now.used answer c.in_ok-answer.ensures.lookup.3.0)
