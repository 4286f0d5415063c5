-- The faults directly after the events of rows that have children: an exploration has found all of them, also if the budget of nodes is used up.
use Rattle.std.specs.Prelude.{◌≡◌, ◌≢◌, ℕ, ℤ, List, [], Some, slice_get}
use Rattle.cs_inputs.specs.declared.path.Path.{Path}
use Rattle.cs_ast.specs.declared.place.Place.{Place}
use Rattle.cs_ast.specs.TypedProgram.{TypedProgram}
use Rattle.cs_model.specs.declared.kind.Kind.{Kind}
use Rattle.cs_events.specs.declared.event.Event.{Event}
use Rattle.cs_events.specs.declared.outcome.Outcome.TheVariants.{Fault}
use Rattle.cs_events.specs.declared.outcome.RunBudgets.{RunBudgets}
use Rattle.cs_events.specs.Runs.{Log}
use Rattle.cs_event_runs.specs.First.{Step}
use Rattle.cs_cfg.specs.Graph.{Code}
use Rattle.cs_explored.specs.declared.explored.End.{End}
use Rattle.cs_explored.specs.declared.explored.Row.{Row}
use Rattle.cs_successors.specs.EntryRuns.{events_of, setting_with, EndsAfter}
use Rattle.cs_exactness.specs.Chains.{IsChain}

-- the row with this number has a child
abbrev pub HasChild : List Row → ℕ → Type 0
HasChild rows number = (other : ℕ) × (row : Row) × (slice_get rows other ≡ Some row) × (other ≢ number) × (row.parent ≡ number)

-- an end has the fault
abbrev pub HasFaultEnd : List End → Kind → Place → Type 0
HasFaultEnd ends kind at = (number : ℕ) × (end : End) × (slice_get ends number ≡ Some end) × (end.outcome ≡ Fault kind at)

-- each fault of a run without guesses directly after the events of a row that has a child is the outcome of an end
abbrev pub FindsFaults : Code → TypedProgram → ℕ → RunBudgets → List Row → List End → Type 0
FindsFaults code program entry budgets rows ends = (number : ℕ) (chain : List Event) → HasChild rows number → IsChain rows number chain
    → (inputs : Path → ℤ) (steps : List Step) (kind : Kind) (at : Place) (log : Log) → events_of steps ≡ chain
    → EndsAfter code program entry budgets (setting_with program budgets inputs []) steps (Fault kind at) log
    → HasFaultEnd ends kind at
