-- Laws of the runs of a machine, whatever its steps are: which inputs, guesses and budgets they depend on.
use Rattle.std.specs.Prelude.{ℕ, suc, ℤ, List, length}
use Rattle.cs_inputs.specs.declared.path.Path.{Path}
use Rattle.cs_events.specs.declared.guess.Guess.{Guess}
use Rattle.cs_events.specs.declared.outcome.Outcome.{Outcome}
use Rattle.cs_events.specs.declared.outcome.RunBudgets.{RunBudgets}
use Rattle.cs_events.specs.Acts.{Act}
use Rattle.cs_events.specs.Runs.{Setting, Log, EndsFrom}
use Rattle.cs_events.specs.PendingEvents.{Pending}
use Rattle.cs_events.specs.Pending.{IsPending}
use Rattle.cs_event_runs.specs.First.{Step, first_of}
use Rattle.cs_event_runs.specs.ByEvents.{RunsTo}
use Rattle.cs_event_runs.specs.Settings.{Agree, with_inputs, with_guesses, AlikeBefore, LeadAlike, AllLabelsDiffer, LogsAlike}

-- a run with other guesses ends alike: its steps differ at most in what they show
pub record EndsAlike {State : Type 0} (step : State → Act State) (setting : Setting) (m : State) (log : Log) (steps : List Step) (outcome : Outcome)
    (end : Log) : Type 0 where
  pub others : List Step
  pub other : Log
  pub runs : RunsTo step setting (first_of setting log (step m)) others outcome other
  pub labels : AllLabelsDiffer steps others
  pub logs : LogsAlike end other

pub record KeepsRunLaws {State : Type 0} (step : State → Act State) : Type 0 where
  -- with inputs that yield the same cells wherever the run looks one up, the run is the same
  pub cells : (setting : Setting) (inputs : Path → ℤ) (m : State) (log end : Log) (outcome : Outcome) → EndsFrom step setting m log outcome end
      → Agree setting.model setting.inputs inputs end.read → EndsFrom step (with_inputs inputs setting) m log outcome end
  -- guesses at an event and later, and a budget of events that allows it, don't affect what is pending there
  pub later_guesses : (setting : Setting) (guesses : List Guess) (budgets : RunBudgets) (event : ℕ) (start : State) (pending : Pending)
      → AlikeBefore setting guesses budgets event → IsPending step setting start event pending
      → IsPending step (with_guesses guesses budgets setting) start event pending
  -- guesses with which each operation yields the same number change only labels
  pub own_guesses : (setting : Setting) (guesses : List Guess) (m : State) (log : Log) (steps : List Step) (outcome : Outcome) (end : Log)
      → RunsTo step setting (first_of setting log (step m)) steps outcome end → LeadAlike setting guesses (suc (length log.events)) steps
      → EndsAlike step (with_guesses guesses setting.budgets setting) m log steps outcome end
