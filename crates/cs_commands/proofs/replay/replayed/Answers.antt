use Rattle.std.proofs.Common.{sym, ◌∙◌}
use Rattle.cs_ast.specs.TypedProgram.{typed_program}
use Rattle.cs_commands.proofs.ReplayLemmas.{entry_among, answers_replay, refuses_entry}
use Rattle.cs_commands.proofs.replay.replayed.Goals as goal

pub run_of-requires-clause-found : goal.run_of-requires-clause-found
run_of-requires-clause-found c = entry_among c.args.program.now.functions.items c.args.words.now.entry ∙ sym (rw c.deref.ensures.value at c.in-Some.ensures)

pub returns-in_ok-answer-in-Some : goal.returns-in_ok-answer-in-Some
returns-in_ok-answer-in-Some c =
    let answer = c.in_ok-answer-in-Some.answer in
    let program = c.args.program.now in
    let words = c.args.words.now in
    let found = entry_among program.functions.items words.entry ∙ sym (rw c.deref.ensures.value at c.in-Some.ensures) in
    answers_replay c.args.files.now (typed_program program) words c.in-Some.entry answer.status answer.text.items found c.in_ok-answer-in-Some.ensures

pub returns-in_ok-answer-in-None : goal.returns-in_ok-answer-in-None
returns-in_ok-answer-in-None c =
    let answer = c.in_ok-answer-in-None.answer in
    let program = c.args.program.now in
    let words = c.args.words.now in
    let none = entry_among program.functions.items words.entry ∙ sym (rw c.deref.ensures.value at c.in-None.ensures) in
    refuses_entry c.args.files.now (typed_program program) words answer.status answer.text.items none c.in_ok-answer-in-None.ensures.status
    c.in_ok-answer-in-None.ensures.text
