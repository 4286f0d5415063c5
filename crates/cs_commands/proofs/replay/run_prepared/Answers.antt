use Rattle.std.proofs.Common.{Err, refl, ap, ◌∙◌}
use Rattle.cs_ast.specs.TypedProgram.{typed_program}
use Rattle.cs_run_log.specs.LogView.{log_of}
use Rattle.cs_commands.proofs.ReplayLemmas.{entry_has_body, replay_is}
use Rattle.cs_commands.proofs.replay.run_prepared.Goals as goal

pub replay-requires-clause-ready : goal.replay-requires-clause-ready
replay-requires-clause-ready c = record { laid_out = c.requires.well_formed.laid_out; prepared = c.requires.prepared }

pub returns-in-Ok : goal.returns-in-Ok
returns-in-Ok c =
    let answer = c.in_ok-answer-in-Ok.answer in
    let replayed = c.in-Ok.replayed in
    let none = c.deref.ensures.value ∙ c.new-guesses.ensures.items in
    replay_is c.args.files.now (typed_program c.args.program.now) c.args.words.now c.args.entry c.args.entry c.deref.result.now replayed.outcome
    (log_of replayed.log) answer.status answer.text.items refl none c.in-Ok.ensures.gives c.in_ok-answer-in-Ok.ensures.text
    c.in_ok-answer-in-Ok.ensures.status

pub returns-in-Err-NoEntry : goal.returns-in-Err-NoEntry
returns-in-Err-NoEntry c =
    let program = typed_program c.args.program.now in
    let none = c.in-Err-NoEntry.ensures.no_entry.0 (ap Err c.in-Err-NoEntry.field-0-is) in
    absurd (entry_has_body program c.args.words.now.entry c.args.entry c.requires.found none)
