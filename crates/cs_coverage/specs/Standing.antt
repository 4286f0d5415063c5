-- The positions of runs in a graph: a row directly after an event, and an end before they end.
use Rattle.std.specs.Prelude.{◌≡◌, ℕ, List, Some, length, slice_get}
use Rattle.cs_ast.specs.TypedProgram.{TypedProgram}
use Rattle.cs_terms.specs.Term.{Valuation}
use Rattle.cs_events.specs.declared.outcome.Outcome.{Outcome}
use Rattle.cs_events.specs.declared.outcome.RunBudgets.{RunBudgets}
use Rattle.cs_events.specs.Acts.{Act}
use Rattle.cs_events.specs.Runs.{Setting, Log}
use Rattle.cs_event_runs.specs.First.{Step}
use Rattle.cs_cfg.specs.Graph.{Code}
use Rattle.cs_cfg.specs.Working.{CodeState}
use Rattle.cs_state.specs.Naming.{Naming}
use Rattle.cs_explored.specs.declared.explored.End.{End}
use Rattle.cs_explored.specs.declared.explored.Row.{Row}
use Rattle.cs_explored.specs.declared.watch.Rule.{Rule}
use Rattle.cs_explored.specs.Placing.{IsPlain}
use Rattle.cs_cfg.specs.IntegerCode.{HasIntegerCode}
use Rattle.cs_progress.specs.Locals.{HasLocalsAlone}
use Rattle.cs_progress.specs.Stepping.{end_of, result_in, HasReturned}
use Rattle.cs_successors.specs.EntryRuns.{events_of, EndsWith}
use Rattle.cs_successors.specs.Coming.{is_declared, IsAt}
use Rattle.cs_coverage.specs.Agreeing.{AgreesOnMentioned}
use Rattle.cs_coverage.specs.Phases.{IsPhaseAlong}

module _ (code : Code) (program : TypedProgram) (entry : ℕ) (budgets : RunBudgets) (names : Naming) (rules : List Rule) where
  -- a run that has passed these steps, with this remaining act and this log, has reached a row, which has the phase of the events: under a valuation that
  -- agrees with the run's own one on what the row's state mentions
  pub record StandsAtRow (rows : List Row) (setting : Setting) (own : Valuation) (steps : List Step) (left : Act CodeState) (log : Log) : Type 0 where
    pub number : ℕ
    pub row : Row
    pub there : slice_get rows number ≡ Some row
    pub valuation : Valuation
    pub at : IsAt code program budgets names row.state.value setting valuation left log
    pub count : row.state.value.counters.events ≡ length steps
    pub phase : IsPhaseAlong rules (events_of steps) row.state.value.phase
    pub agrees : AgreesOnMentioned program names.bases row.state.value own valuation

  -- a run that passes these steps and ends with this outcome and log has reached an end before that, whose state is one of integer code
  pub record StandsAtEnd (ends : List End) (setting : Setting) (own : Valuation) (steps : List Step) (outcome : Outcome) (log : Log) : Type 0 where
    pub number : ℕ
    pub end : End
    pub there : slice_get ends number ≡ Some end
    pub ended : end.outcome ≡ end_of outcome
    pub last : Act CodeState
    pub before : Log
    pub ends_with : EndsWith code program entry budgets setting steps last before outcome log
    pub valuation : Valuation
    pub at : IsAt code program budgets names end.state.value setting valuation last before
    pub phase : IsPhaseAlong rules (events_of steps) end.state.value.phase
    pub agrees : AgreesOnMentioned program names.bases end.state.value own valuation
    pub locals : HasLocalsAlone program names.bases (is_declared end.state.value.constraints) end.state.value
    pub integers : HasIntegerCode code program end.state.value.frame.spot.function
    pub plain : IsPlain end.state.value
    pub returned : HasReturned outcome (result_in names.bases end.state.value.blocks valuation end.state.value.result)
