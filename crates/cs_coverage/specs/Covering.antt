-- What an exploration has to find for the runs of an entry: their positions and their ends, under their own numbers of live symbols.
use Rattle.std.specs.Prelude.{◌≡◌, ◌≢◌, ℕ, ℤ, List, [], ◌∷◌, Some, slice_get, Contains}
use Rattle.cs_inputs.specs.declared.path.Path.{Path}
use Rattle.cs_ast.specs.declared.place.Place.{Place}
use Rattle.cs_ast.specs.TypedProgram.{TypedProgram}
use Rattle.cs_terms.specs.Term.{Valuation}
use Rattle.cs_constraints.specs.Constraints.{Sets, set_of}
use Rattle.cs_events.specs.declared.event.Event.{Event}
use Rattle.cs_events.specs.declared.outcome.Outcome.{Outcome}
use Rattle.cs_events.specs.declared.outcome.RunBudgets.{RunBudgets}
use Rattle.cs_events.specs.PendingEvents.{Pending, Accesses}
use Rattle.cs_events.specs.Acts.{Act}
use Rattle.cs_events.specs.Runs.{Setting, Log, read_cell}
use Rattle.cs_event_runs.specs.First.{Step}
use Rattle.cs_event_runs.specs.Left.{left_of}
use Rattle.cs_cfg.specs.Graph.{Code}
use Rattle.cs_cfg.specs.Working.{CodeState}
use Rattle.cs_results.specs.declared.result.Cut.{Cut}
use Rattle.cs_results.specs.declared.result.Cut.TheVariants.{Nodes, Splits}
use Rattle.cs_state.specs.declared.state.State.{State}
use Rattle.cs_state.specs.Naming.{Naming, naming}
use Rattle.cs_state.specs.Meaning.{StandsFor}
use Rattle.cs_keys.specs.Live.{live_part}
use Rattle.cs_explored.specs.declared.explored.End.{End}
use Rattle.cs_explored.specs.declared.explored.Explored.{Explored}
use Rattle.cs_explored.specs.declared.explored.Row.{Row}
use Rattle.cs_explored.specs.declared.watch.Rule.{Rule}
use Rattle.cs_progress.specs.Stepping.{end_of}
use Rattle.cs_successors.specs.EntryRuns.{events_of, setting_with, HasLeft, EndsAfter, EndsWith}
use Rattle.cs_coverage.specs.OwnNumbers.{own_valuation}
use Rattle.cs_coverage.specs.Phases.{IsPhaseAlong}

-- the live part of a state depends on the numbers that a symbol may have
pub record IsLive (state : State) (sym : ℕ) : Type 0 where
  pub sets : Sets
  pub elsewhere : (other : ℕ) → other ≢ sym → set_of sets other ≡ set_of state.constraints other
  pub differs : live_part (record state { constraints = sets }) ≢ live_part state

-- two valuations have the same number for each symbol on which the state's live part depends
abbrev pub AgreesOnLive : State → Valuation → Valuation → Type 0
AgreesOnLive state own valuation = (sym : ℕ) → IsLive state sym → valuation sym ≡ own sym

-- the pending operation is no access at one of these places
abbrev pub IsElsewhere : (Place → Type 0) → Pending → Type 0
IsElsewhere IsCut (Accesses at object offset) = ¬ IsCut at
IsElsewhere IsCut other = Unit {0}

-- no access at one of these places has shown its offset
abbrev pub PassesNone : (Place → Type 0) → List Step → Type 0
PassesNone IsCut [] = Unit {0}
PassesNone IsCut (one ∷ steps) = IsElsewhere IsCut one.pending × PassesNone IsCut steps

abbrev pub IsCutAt : List Cut → Place → Type 0
IsCutAt cuts place = (count : ℕ) × Contains cuts (Splits place count)

-- no cut was caused by the budget of nodes
abbrev pub HasAllNodes : List Cut → Type 0
HasAllNodes cuts = (nodes : ℕ) → ¬ Contains cuts (Nodes nodes)

module _ (code : Code) (program : TypedProgram) (entry : ℕ) (budgets : RunBudgets) (names : Naming) (rules : List Rule) where
  -- the state represents a run that has passed these events and has this act left: under a valuation in which live symbols have this run's own numbers,
  -- and with the phase that the rules determine for the events
  pub record StandsForRun (state : State) (setting : Setting) (own : Valuation) (events : List Event) (left : Act CodeState) (log : Log) : Type 0 where
    pub valuation : Valuation
    pub stands : StandsFor code program budgets names state valuation (left_of (read_cell setting) [] left) log
    pub agrees : AgreesOnLive state own valuation
    pub phase : IsPhaseAlong rules events state.phase

  -- some row represents a run directly after these steps
  pub record HasRow (rows : List Row) (setting : Setting) (steps : List Step) (left : Act CodeState) (log : Log) : Type 0 where
    pub number : ℕ
    pub row : Row
    pub there : slice_get rows number ≡ Some row
    pub stands : StandsForRun row.state.value setting (own_valuation program entry names setting steps log) (events_of steps) left log

  -- some end represents a run that passes these steps and ends with this outcome and this log
  pub record HasEnd (ends : List End) (setting : Setting) (steps : List Step) (outcome : Outcome) (log : Log) : Type 0 where
    pub number : ℕ
    pub end : End
    pub there : slice_get ends number ≡ Some end
    pub ended : end.outcome ≡ end_of outcome
    pub last : Act CodeState
    pub before : Log
    pub ends_with : EndsWith code program entry budgets setting steps last before outcome log
    pub stands : StandsForRun end.state.value setting (own_valuation program entry names setting steps log) (events_of steps) last before

module _ (code : Code) (program : TypedProgram) (entry : ℕ) (budgets : RunBudgets) (rules : List Rule) where
  -- each run without guesses has a row at its beginning and after each event, and an end at its end, unless it has passed an access that was cut
  pub record Covers (explored : Explored) : Type 0 where
    pub positions : HasAllNodes explored.cuts.items → (inputs : Path → ℤ) (steps : List Step) (left : Act CodeState) (log : Log)
        → HasLeft code program entry budgets (setting_with program budgets inputs []) steps left log → PassesNone (IsCutAt explored.cuts.items) steps
        → HasRow code program entry budgets (naming explored.tables) rules explored.rows.items (setting_with program budgets inputs []) steps left log
    pub endings : HasAllNodes explored.cuts.items → (inputs : Path → ℤ) (steps : List Step) (outcome : Outcome) (log : Log)
        → EndsAfter code program entry budgets (setting_with program budgets inputs []) steps outcome log → PassesNone (IsCutAt explored.cuts.items) steps
        → HasEnd code program entry budgets (naming explored.tables) rules explored.ends.items (setting_with program budgets inputs []) steps outcome log
