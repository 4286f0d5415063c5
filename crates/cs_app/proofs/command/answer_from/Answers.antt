use Rattle.std.proofs.Common.{Err, ap}
use Rattle.cs_app.proofs.AnswerLemmas.{answers_left, refuses_length}
use Rattle.cs_app.proofs.command.answer_from.Goals as goal

pub returns-in_ok-answer-in-Ok-clause-whole : goal.returns-in_ok-answer-in-Ok-clause-whole
returns-in_ok-answer-in-Ok-clause-whole g c =
    let answer = c.in_ok-answer-in-Ok.answer in
    answers_left _ c.args.command.now _ c.in-Ok.file.items answer.status answer.text.items c.requires c.in-Ok.ensures.all
    (rw c.as_slice.ensures.value at c.in_ok-answer-in-Ok.ensures.answer)

pub returns-in_ok-answer-in-Err-TooLong-clause-whole : goal.returns-in_ok-answer-in-Err-TooLong-clause-whole
returns-in_ok-answer-in-Err-TooLong-clause-whole g c =
    let answer = c.in_ok-answer-in-Err-TooLong.answer in
    refuses_length _ c.args.command.now _ answer.status answer.text.items c.requires c.in_ok-answer-in-Err-TooLong.ensures.status
    c.in_ok-answer-in-Err-TooLong.ensures.text
    (c.in-Err-TooLong.ensures.too_long (ap Err c.in-Err-TooLong.field-0-is))
