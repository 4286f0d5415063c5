use Rattle.std.proofs.Common.{sym, ◌∙◌}
use Rattle.cs_ast.specs.TypedProgram.{typed_program}
use Rattle.cs_app.proofs.AnalysisLemmas.{entry_named, analysis_answers, lacking_answers}
use Rattle.cs_commands.proofs.ReplayLemmas.{entry_among}
use Rattle.cs_app.proofs.analysis.analysis.Goals as goal

pub returns-in_ok-answer-in-Some-entry_of-clause-answer : goal.returns-in_ok-answer-in-Some-entry_of-clause-answer
returns-in_ok-answer-in-Some-entry_of-clause-answer g c =
    let answer = c.in_ok-answer-in-Some-entry_of.answer in
    let program = c.args.program.now in
    let words = c.args.words.now in
    let found = entry_among program.functions.items c.in-Some.name ∙ sym (rw c.deref-2.ensures.value at c.in-Some-entry_of.ensures) in
    analysis_answers _ words (typed_program program) answer.status answer.text.items
    (c.in_ok-answer-in-Some-entry_of.ensures.answer
    (entry_named words.entry c.in-Some.name (typed_program program) c.in-Some-entry_of.entry c.in-Some.is found))

pub returns-in_ok-answer-in-None-clause-answer : goal.returns-in_ok-answer-in-None-clause-answer
returns-in_ok-answer-in-None-clause-answer g c =
    let answer = c.in_ok-answer-in-None.answer in
    let program = c.args.program.now in
    let none = entry_among program.functions.items c.in-Some.name ∙ sym (rw c.deref-2.ensures.value at c.in-None.ensures) in
    lacking_answers _ c.args.words.now (typed_program program) answer.status answer.text.items c.in-Some.name c.in-Some.is none
    c.in_ok-answer-in-None.ensures.status c.in_ok-answer-in-None.ensures.text
