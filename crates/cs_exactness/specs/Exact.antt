-- What the rows and ends of a graph state about runs: under each valuation that fits, they represent the run of that valuation, at the position to which
-- the row's events lead. `explore` of `cs_engine` ensures it for integer entries.
use Rattle.std.specs.Prelude.{◌≡◌, ℕ, List, [], Some, slice_get}
use Rattle.cs_ast.specs.TypedProgram.{TypedProgram}
use Rattle.cs_terms.specs.Term.{Valuation}
use Rattle.cs_constraints.specs.Constraints.{Fits}
use Rattle.cs_events.specs.declared.event.Event.{Event}
use Rattle.cs_events.specs.declared.outcome.Outcome.{Outcome}
use Rattle.cs_events.specs.declared.outcome.RunBudgets.{RunBudgets}
use Rattle.cs_events.specs.Acts.{Act}
use Rattle.cs_events.specs.Runs.{Log, read_cell}
use Rattle.cs_event_runs.specs.First.{Step}
use Rattle.cs_event_runs.specs.Left.{left_of}
use Rattle.cs_cfg.specs.Graph.{Code}
use Rattle.cs_cfg.specs.Working.{CodeState}
use Rattle.cs_state.specs.declared.state.State.{State}
use Rattle.cs_state.specs.Naming.{Naming}
use Rattle.cs_state.specs.Meaning.{StandsFor, setting_of}
use Rattle.cs_explored.specs.declared.explored.End.{End}
use Rattle.cs_explored.specs.declared.explored.Row.{Row}
use Rattle.cs_exactness.specs.Chains.{IsChain}
use Rattle.cs_progress.specs.Stepping.{end_of, result_in, HasReturned}
use Rattle.cs_successors.specs.EntryRuns.{events_of, HasLeft, EndsWith}

-- some valuation fits
abbrev pub IsPossible : State → Type 0
IsPossible state = (valuation : Valuation) × Fits valuation state.constraints

module _ (code : Code) (program : TypedProgram) (entry : ℕ) (budgets : RunBudgets) (names : Naming) where
  -- the state represents the run of a valuation when this act remains
  abbrev pub Stands : State → Valuation → Act CodeState → Log → Type 0
  Stands state valuation left log =
      StandsFor code program budgets names state valuation (left_of (read_cell (setting_of names budgets state valuation)) [] left) log

  -- the run of the valuation passes exactly these events first, and directly after them the state represents it
  pub record ComesToState (state : State) (chain : List Event) (valuation : Valuation) : Type 0 where
    pub steps : List Step
    pub passes : events_of steps ≡ chain
    pub left : Act CodeState
    pub log : Log
    pub has_left : HasLeft code program entry budgets (setting_of names budgets state valuation) steps left log
    pub stands : Stands state valuation left log

  -- the run of the valuation passes exactly these events and has the outcome of the end, and the end's state represents it before that
  pub record ComesToEnd (end : End) (chain : List Event) (valuation : Valuation) : Type 0 where
    pub steps : List Step
    pub passes : events_of steps ≡ chain
    pub last : Act CodeState
    pub before : Log
    pub outcome : Outcome
    pub log : Log
    pub ends : EndsWith code program entry budgets (setting_of names budgets end.state.value valuation) steps last before outcome log
    pub ended : end.outcome ≡ end_of outcome
    pub returned : HasReturned outcome (result_in names.bases end.state.value.blocks valuation end.state.value.result)
    pub stands : Stands end.state.value valuation last before

  -- a row has a chain, by which the runs of all valuations that fit reach it, under the program's data model; and some valuation fits
  pub record IsExactRow (rows : List Row) (number : ℕ) (row : Row) : Type 0 where
    pub model : row.state.value.model ≡ program.model
    pub chain : List Event
    pub leads : IsChain rows number chain
    pub possible : IsPossible row.state.value
    pub comes : (valuation : Valuation) → Fits valuation row.state.value.constraints → ComesToState row.state.value chain valuation

  -- the runs of all valuations that fit an end pass its row's chain and have its outcome, under the program's data model; and some valuation fits
  pub record IsExactEnd (rows : List Row) (end : End) : Type 0 where
    pub model : end.state.value.model ≡ program.model
    pub chain : List Event
    pub leads : IsChain rows end.row chain
    pub possible : IsPossible end.state.value
    pub comes : (valuation : Valuation) → Fits valuation end.state.value.constraints → ComesToEnd end chain valuation

  -- rows and ends represent the runs of exactly the valuations that fit them
  pub record IsExact (rows : List Row) (ends : List End) : Type 0 where
    pub of_rows : (number : ℕ) (row : Row) → slice_get rows number ≡ Some row → IsExactRow rows number row
    pub of_ends : (number : ℕ) (end : End) → slice_get ends number ≡ Some end → IsExactEnd rows end
