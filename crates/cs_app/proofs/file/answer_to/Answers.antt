use Rattle.std.proofs.Common.{subst}
use Rattle.cs_program.specs.Answers.{IsProgramOf, IsRefusedFor}
use Rattle.cs_app.proofs.AnswerLemmas.{answers_file, refuses}
use Rattle.cs_app.proofs.file.answer_to.Goals as goal

pub returns-in_ok-answer-in-Ok-clause-answer : goal.returns-in_ok-answer-in-Ok-clause-answer
returns-in_ok-answer-in-Ok-clause-answer g c =
    let answer = c.in_ok-answer-in-Ok.answer in
    answers_file _ c.args.command.now c.args.file.now c.in-Ok.found answer.status answer.text.items
    (subst (λ model. IsProgramOf model c.args.file.now c.in-Ok.found) c.model_of.ensures c.in-Ok.ensures.program)
    (rw c.deref.ensures.value at c.in_ok-answer-in-Ok.ensures.answer)

pub returns-in_ok-answer-in-Err-clause-answer : goal.returns-in_ok-answer-in-Err-clause-answer
returns-in_ok-answer-in-Err-clause-answer g c =
    let answer = c.in_ok-answer-in-Err.answer in
    refuses _ c.args.command.now c.args.file.now c.in-Err.refusal answer.status answer.text.items c.in_ok-answer-in-Err.ensures.status
    (subst (λ model. IsRefusedFor model c.args.file.now c.in-Err.refusal) c.model_of.ensures c.in-Err.ensures.refused)
    c.in_ok-answer-in-Err.ensures.text
