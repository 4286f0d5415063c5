use Rattle.std.proofs.Common.{Ok, Err, refl}
use Rattle.cs_words.specs.Meaning.{words_text}
use Rattle.cs_app.proofs.AnswerLemmas.{whole_of_result, whole_of_words, only_command, not_refused_words, none_meant}
use Rattle.cs_app.proofs.command.answer_for.Goals as goal

pub returns-in-Ok-clause-whole : goal.returns-in-Ok-clause-whole
returns-in-Ok-clause-whole g c = whole_of_result _ (words_text c.args.words.now) _ c.in-Ok.command _ c.in-Ok.ensures.ok c.answer_of.ensures.whole

pub returns-in-Ok-clause-only : goal.returns-in-Ok-clause-only
returns-in-Ok-clause-only g c = λ command meant.
    only_command _ (words_text c.args.words.now) _ c.in-Ok.command command (Ok c.in-Ok.command) _ refl (c.in-Ok.ensures.accepts command meant)
    c.answer_of.ensures.whole

pub returns-in-Ok-clause-unread : goal.returns-in-Ok-clause-unread
returns-in-Ok-clause-unread g c = λ n refused.
    not_refused_words c.in-Ok.command n (Ok c.in-Ok.command) refl (c.in-Ok.ensures.refuses n refused)

pub returns-in_ok-answer-in-Err-Words-clause-whole : goal.returns-in_ok-answer-in-Err-Words-clause-whole
returns-in_ok-answer-in-Err-Words-clause-whole g c =
    let answer = c.in_ok-answer-in-Err-Words.answer in
    let words = c.in-Err-Words in
    whole_of_words _ (words_text c.args.words.now) _ answer.status answer.text.items words.field-0 words.number c.in_ok-answer-in-Err-Words.ensures.status
    words.field-0-is words.ensures.err c.in_ok-answer-in-Err-Words.ensures.text

pub returns-in_ok-answer-in-Err-Words-clause-only : goal.returns-in_ok-answer-in-Err-Words-clause-only
returns-in_ok-answer-in-Err-Words-clause-only g c = λ command meant.
    none_meant command c.in-Err-Words.number c.in-Err-Words.field-0 (Err c.in-Err-Words.field-0) refl c.in-Err-Words.field-0-is
    (c.in-Err-Words.ensures.accepts command meant)
