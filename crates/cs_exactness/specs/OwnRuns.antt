-- Runs without guesses, and those that guess only truths, fit the states to which their events lead.
use Rattle.std.specs.Prelude.{◌≡◌, ℕ, ℤ, List, [], Some, slice_get}
use Rattle.cs_inputs.specs.declared.path.Path.{Path}
use Rattle.cs_ast.specs.TypedProgram.{TypedProgram}
use Rattle.cs_events.specs.declared.event.Event.{Event}
use Rattle.cs_events.specs.declared.guess.Guess.{Guess}
use Rattle.cs_events.specs.declared.outcome.Outcome.{Outcome}
use Rattle.cs_events.specs.declared.outcome.RunBudgets.{RunBudgets}
use Rattle.cs_events.specs.Acts.{Act}
use Rattle.cs_events.specs.Runs.{Setting, Log, read_cell}
use Rattle.cs_event_runs.specs.First.{Step}
use Rattle.cs_event_runs.specs.Left.{left_of}
use Rattle.cs_cfg.specs.Graph.{Code}
use Rattle.cs_cfg.specs.Working.{CodeState}
use Rattle.cs_state.specs.declared.state.State.{State}
use Rattle.cs_state.specs.Meaning.{StandsFor}
use Rattle.cs_state.specs.Naming.{Naming}
use Rattle.cs_explored.specs.declared.explored.End.{End}
use Rattle.cs_explored.specs.declared.explored.Row.{Row}
use Rattle.cs_exactness.specs.Chains.{IsChain}
use Rattle.cs_progress.specs.Stepping.{end_of, result_in, HasReturned}
use Rattle.cs_successors.specs.EntryRuns.{events_of, setting_with, HasLeft, EndsAfter, EndsWith}
use Rattle.cs_coverage.specs.OwnNumbers.{own_valuation, ListsOwn}

-- all events of a run
abbrev pub IsAny : ℕ → Type 0
IsAny event = Unit {0}

module _ (code : Code) (program : TypedProgram) (entry : ℕ) (budgets : RunBudgets) (names : Naming) where
  -- a state represents a run under the run's own numbers, which therefore fit the state
  abbrev pub StandsForOwn : State → Setting → List Step → Act CodeState → Log → Type 0
  StandsForOwn state setting steps left log =
      StandsFor code program budgets names state (own_valuation program entry names setting steps log) (left_of (read_cell setting) [] left) log

  -- each run that passes exactly these events first fits the state, if it has no guesses, or only truths, where the state guesses; and the state
  -- represents it then
  abbrev pub FitsAfter : State → List Event → Type 0
  FitsAfter state chain =
      (inputs : Path → ℤ) (guesses : List Guess) (steps : List Step) (left : Act CodeState) (log : Log) → ListsOwn state chain IsAny guesses
      → HasLeft code program entry budgets (setting_with program budgets inputs guesses) steps left log → events_of steps ≡ chain
      → StandsForOwn state (setting_with program budgets inputs guesses) steps left log

  -- an end's state represents a run under the run's own numbers before the run ends with this outcome, and has the value that it returns
  pub record EndsOwn (state : State) (setting : Setting) (steps : List Step) (outcome : Outcome) (log : Log) : Type 0 where
    pub last : Act CodeState
    pub before : Log
    pub ends_with : EndsWith code program entry budgets setting steps last before outcome log
    pub stands : StandsFor code program budgets names state (own_valuation program entry names setting steps log) (left_of (read_cell setting) [] last) before
    pub returned : HasReturned outcome (result_in names.bases state.blocks (own_valuation program entry names setting steps log) state.result)

  -- each such run that passes exactly these events and has the outcome of an end fits the end's state
  abbrev pub FitsAtEnd : End → List Event → Type 0
  FitsAtEnd end chain =
      (inputs : Path → ℤ) (guesses : List Guess) (steps : List Step) (outcome : Outcome) (log : Log) → ListsOwn end.state.value chain IsAny guesses
      → EndsAfter code program entry budgets (setting_with program budgets inputs guesses) steps outcome log → events_of steps ≡ chain
      → end.outcome ≡ end_of outcome
      → EndsOwn end.state.value (setting_with program budgets inputs guesses) steps outcome log

  -- the runs of each row's chain fit the row's state, and those with the outcome of an end fit the end's state
  pub record HasOwnRuns (rows : List Row) (ends : List End) : Type 0 where
    pub of_rows : (number : ℕ) (row : Row) (chain : List Event) → slice_get rows number ≡ Some row → IsChain rows number chain
        → FitsAfter row.state.value chain
    pub of_ends : (number : ℕ) (end : End) (chain : List Event) → slice_get ends number ≡ Some end → IsChain rows end.row chain
        → FitsAtEnd end chain
