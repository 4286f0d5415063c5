-- Every machine keeps the laws of runs: for the laws `code_keeps_run_laws` and `programs_keep_run_laws`.
use Rattle.std.proofs.Common.{suc, ℤ, List, length}
use Rattle.cs_inputs.specs.declared.path.Path.{Path}
use Rattle.cs_events.specs.declared.guess.Guess.{Guess}
use Rattle.cs_events.specs.declared.outcome.Outcome.{Outcome}
use Rattle.cs_events.specs.Acts.{Act}
use Rattle.cs_events.specs.Runs.{Setting, Log, EndsFrom}
use Rattle.cs_event_runs.specs.First.{Step, first_of}
use Rattle.cs_event_runs.specs.ByEvents.{RunsTo}
use Rattle.cs_event_runs.specs.Settings.{Agree, with_inputs, with_guesses, LeadAlike}
use Rattle.cs_event_runs.proofs.CellsThatMatter.{reads_alone_matter}
use Rattle.cs_event_runs.proofs.LaterGuesses.{pending_before_guesses}
use Rattle.cs_event_runs.proofs.OwnGuesses.{labels_alone}
use Rattle.cs_cfg.specs.RunLaws.{EndsAlike, KeepsRunLaws}

module _ {State : Type 0} (step : State → Act State) where
  cells : (setting : Setting) (inputs : Path → ℤ) (m : State) (log end : Log) (outcome : Outcome) → EndsFrom step setting m log outcome end
      → Agree setting.model setting.inputs inputs end.read → EndsFrom step (with_inputs inputs setting) m log outcome end
  cells setting inputs m log end outcome one agree = reads_alone_matter setting inputs step one agree

  own_guesses : (setting : Setting) (guesses : List Guess) (m : State) (log : Log) (steps : List Step) (outcome : Outcome) (end : Log)
      → RunsTo step setting (first_of setting log (step m)) steps outcome end → LeadAlike setting guesses (suc (length log.events)) steps
      → EndsAlike step (with_guesses guesses setting.budgets setting) m log steps outcome end
  own_guesses setting guesses m log steps outcome end runs leads =
      let it = labels_alone setting guesses step m log runs leads in
      record { others = it.others; other = it.other; runs = it.runs; labels = it.labels; logs = it.logs }

  pub keeps_run_laws : KeepsRunLaws step
  keeps_run_laws = record {
    cells = cells;
    later_guesses = λ setting guesses budgets event start pending alike one.
        pending_before_guesses setting guesses budgets event alike step start pending one;
    own_guesses = own_guesses;
  }
