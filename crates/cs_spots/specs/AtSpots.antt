-- The instruction at the spot of a state, and how a step there changes the state.
use Rattle.std.specs.Prelude.{◌≡◌, ℕ, Bool, true, false, List, [], Result, OnOk, IfErr}
use Rattle.cs_types.specs.declared.data_model.DataModel.{DataModel}
use Rattle.cs_ast.specs.TypedProgram.{TypedProgram}
use Rattle.cs_terms.specs.declared.term.Lin.{Lin}
use Rattle.cs_terms.specs.Term.{Valuation, value_of}
use Rattle.cs_constraints.specs.Constraints.{Fits}
use Rattle.cs_events.specs.declared.outcome.RunBudgets.{RunBudgets}
use Rattle.cs_regions.specs.Numbering.{IsNumbered}
use Rattle.cs_cfg.specs.declared.code.Spot.{Spot}
use Rattle.cs_cfg.specs.Graph.{Operation, SwitchCase, BlockEnd, Code, before}
use Rattle.cs_cfg.specs.Spots as spots
use Rattle.cs_cfg.specs.Spots.{point_of}
use Rattle.cs_cfg.specs.CodeSteps.{way_of, do_end}
use Rattle.cs_state.specs.declared.state.State.{State}
use Rattle.cs_state.specs.Naming.{Naming, Extends}
use Rattle.cs_state.specs.Writes.{with_answers}
use Rattle.cs_progress.specs.declared.next.Next.{Next}
use Rattle.cs_progress.specs.declared.next.Next.TheVariants as next
use Rattle.cs_progress.specs.declared.pause.Pause.{Pause}
use Rattle.cs_progress.specs.declared.pause.Pause.TheVariants as pause
use Rattle.cs_progress.specs.declared.progress.Progress.{Progress}
use Rattle.cs_cfg.specs.IntegerCode.{HasIntegerCode}
use Rattle.cs_progress.specs.Locals.{HasLocalsAlone}
use Rattle.cs_progress.specs.Stepping.{Leaves, IsDone, Waits}

-- an operation is at a spot, followed by the rest of its block
abbrev pub StandsAt : Code → Operation → Spot → Type 0
StandsAt code operation spot = point_of code spot ≡ before operation (point_of code (spots.after spot))

-- the end of a block is at a spot
abbrev pub EndsAt : Code → BlockEnd → Spot → Type 0
EndsAt code end spot = point_of code spot ≡ record { operations = []; end = end }

-- under each valuation that fits, the value of a term selects the block
abbrev pub LeadsTo : State → Lin → List SwitchCase → ℕ → ℕ → Type 0
LeadsTo state term cases otherwise block =
    (valuation : Valuation) → Fits valuation state.constraints → (way_of cases otherwise (value_of valuation term) 0).block ≡ block

-- the frame leaves the end of a block as in the reference semantics, in each state with pointers to locals only: under all names that extend these
abbrev pub LeavesBlock : {T : Type 0} → Code → Naming → State → State → Progress → Progress → Result T Pause → BlockEnd → Type 0
LeavesBlock code given before after earlier later answer end =
    (names : Naming) (program : TypedProgram) (known : ℕ → Bool) → Extends given names → HasLocalsAlone program names.bases known before
    → Leaves code names program known before after earlier later answer (do_end code end)

-- what comes next after a step: nothing if the operation is done
abbrev pub came_to : Bool → Next → Next
came_to true first = next.Done
came_to false first = first

-- the instruction at the spot of a state is done, once the answers are dropped; or the state waits
pub record TakesStep {T : Type 0} (code : Code) (names : Naming) (program : TypedProgram) (budgets : RunBudgets) (known : ℕ → Bool)
    (before after : State) (later : Progress) (answer : Result T Pause) : Type 0 where
  pub done : OnOk answer (IsDone code names program budgets before (with_answers [] after)
      × HasLocalsAlone program names.bases known (with_answers [] after))
  pub waits : IfErr answer (λ why. why ≡ pause.Waits → Waits code names program budgets before after later.first
      × HasLocalsAlone program names.bases known after)

-- the same in each state of integer code with pointers to locals only, if no answer was used before: under all names that extend these
abbrev pub StepsAtSpot : {T : Type 0} → Code → DataModel → RunBudgets → Naming → State → State → Progress → Progress → Result T Pause
    → Type 0
StepsAtSpot code model budgets given before after earlier later answer =
    (names : Naming) (program : TypedProgram) (known : ℕ → Bool) → program.model ≡ model → Extends given names → IsNumbered names.bases
    → HasLocalsAlone program names.bases known before → HasIntegerCode code program before.frame.spot.function → earlier.used ≡ 0
    → TakesStep code names program budgets known before after later answer
