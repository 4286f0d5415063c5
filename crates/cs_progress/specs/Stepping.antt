-- Steps of a state, compared with the run of the code: how a state changes as the operation in progress continues.
use Rattle.std.specs.Prelude.{◌≡◌, ℕ, ◌+◌, ◌≤◌, ℤ, Bool, List, [], map, take, length, Option, None, Some, Result, OnOk, IfErr}
use Rattle.cs_inputs.specs.declared.path.Path.{Path}
use Rattle.cs_types.specs.declared.data_model.DataModel.{DataModel}
use Rattle.cs_ast.specs.declared.place.Place.{Place}
use Rattle.cs_ast.specs.TypedProgram.{TypedProgram}
use Rattle.cs_terms.specs.declared.term.Lin.{Lin}
use Rattle.cs_terms.specs.Term.{Valuation, value_of}
use Rattle.cs_constraints.specs.Constraints.{Fits}
use Rattle.cs_events.specs.declared.event.Label.TheVariants.{Case}
use Rattle.cs_events.specs.declared.input.InputKind.{InputKind}
use Rattle.cs_events.specs.declared.operation.Operation.TheVariants.{Show}
use Rattle.cs_events.specs.declared.outcome.Outcome.{Outcome}
use Rattle.cs_events.specs.declared.outcome.Outcome.TheVariants.{Done, Fault, Over}
use Rattle.cs_events.specs.declared.outcome.Returned.TheVariants as returned
use Rattle.cs_events.specs.declared.outcome.RunBudgets.{RunBudgets}
use Rattle.cs_events.specs.Objects.{Cell}
use Rattle.cs_events.specs.Acts.{Act, Goes, Stops, Asks}
use Rattle.cs_event_runs.specs.Left.{left_of}
use Rattle.cs_meaning.specs.Calls.{returned_of}
use Rattle.cs_meaning.specs.Machine.{Operand, Scalar, Nothing}
use Rattle.cs_cfg.specs.declared.code.Spot.{Spot}
use Rattle.cs_cfg.specs.Graph.{Work, SwitchCase, BlockEnd, Branch, Switch, Return, Code}
use Rattle.cs_cfg.specs.Working.{CodeState, do_work}
use Rattle.cs_cfg.specs.CodeSteps.{code_step, way_of}
use Rattle.cs_cfg.specs.Instructions.{JumpsTo, IsNext}
use Rattle.cs_cfg.specs.Spots.{point_of, begins}
use Rattle.cs_regions.specs.declared.base.Base.{Base}
use Rattle.cs_regions.specs.Numbering.{IsNumbered}
use Rattle.cs_store.specs.declared.value.Value.{Value}
use Rattle.cs_state.specs.declared.state.State.{State}
use Rattle.cs_state.specs.Cells.{Blocks, cell_of}
use Rattle.cs_state.specs.Meaning.{meaning}
use Rattle.cs_state.specs.Naming.{Naming, Extends}
use Rattle.cs_state.specs.Writes.{at_spot, with_result, with_temporaries}
use Rattle.cs_progress.specs.declared.next.Next.{Next}
use Rattle.cs_progress.specs.declared.next.Next.TheVariants as next
use Rattle.cs_progress.specs.declared.pause.Pause.{Pause}
use Rattle.cs_progress.specs.declared.pause.Pause.TheVariants as pause
use Rattle.cs_progress.specs.declared.progress.Progress.{Progress}
use Rattle.cs_progress.specs.Acting.{UsesAll, Leads, BeginsWith}
use Rattle.cs_progress.specs.Answering.{answers_left}
use Rattle.cs_progress.specs.Computing.{Computes}
use Rattle.cs_cfg.specs.IntegerCode.{IsIntegerWork, HasIntegerCode, count_of_locals}
use Rattle.cs_progress.specs.Locals.{HasLocalsAlone}

-- the outcome of an end, which omits the value that the entry returns
abbrev pub end_of : Outcome → Outcome
end_of (Done value) = Done returned.Nothing
end_of other = other

-- the value that the entry returns according to a state; nothing if the state has no result
abbrev pub result_in : List Base → Blocks → Valuation → Option Value → Operand
result_in bases blocks valuation None = Nothing
result_in bases blocks valuation (Some value) = Scalar (cell_of bases blocks valuation value)

-- if the run is done, it has returned this
abbrev pub HasReturned : Outcome → Operand → Type 0
HasReturned (Done returned) result = returned ≡ returned_of result
HasReturned (Fault kind at) result = Unit {0}
HasReturned (Over budget at) result = Unit {0}

-- an act is the end of the run; if the run is done, the state has the value that it returns
pub record EndsAs (bases : List Base) (state : State) (valuation : Valuation) (outcome : Outcome) (act : Act CodeState) : Type 0 where
  pub last : Outcome
  pub stops : act ≡ Stops last
  pub same : outcome ≡ end_of last
  pub has_returned : HasReturned last (result_in bases state.blocks valuation state.result)

-- an act is that of the `switch` at the state's spot, and shows the case of the term's value
pub record ShowsCase (code : Code) (state : State) (valuation : Valuation) (at : Place) (term : Lin) (act : Act CodeState) : Type 0 where
  pub temporary : ℕ
  pub cases : List SwitchCase
  pub otherwise : ℕ
  pub stands : point_of code state.frame.spot ≡ record { operations = []; end = Switch at temporary cases otherwise }
  pub onward : ℤ → Act CodeState
  pub shows : act ≡ Asks at (Show (Case (way_of cases otherwise (value_of valuation term) 0).number)) onward

-- an act begins with what a state waits for
abbrev pub BeginsIn : Code → List Base → State → Valuation → Next → Act CodeState → Type 0
BeginsIn code bases state valuation (next.Selects at term) act = ShowsCase code state valuation at term act
BeginsIn code bases state valuation (next.Ends outcome) act = EndsAs bases state valuation outcome act
BeginsIn code bases state valuation other act = BeginsWith bases state valuation other act

-- states that differ only in their position, or in what was computed there
pub record KeepsKnown (before after : State) : Type 0 where
  pub model : after.model ≡ before.model
  pub constraints : after.constraints ≡ before.constraints
  pub counters : after.counters ≡ before.counters
  pub asked : after.asked ≡ before.asked
  pub phase : after.phase ≡ before.phase
  pub blocks : after.blocks ≡ before.blocks

-- the same, and the current frame is at the same spot, with the same callers
pub record StaysInFrame (before after : State) : Type 0 where
  pub known : KeepsKnown before after
  pub answers : after.answers ≡ before.answers
  pub callers : after.callers ≡ before.callers
  pub number : after.frame.number ≡ before.frame.number
  pub spot : after.frame.spot ≡ before.frame.spot

-- a state with pointers to locals only remains one
abbrev pub KeepsLocals : TypedProgram → List Base → (ℕ → Bool) → State → State → Type 0
KeepsLocals program bases known before after = HasLocalsAlone program bases known before → HasLocalsAlone program bases known after

-- an operation that waits has changed nothing
abbrev pub WaitsUnchanged : {T : Type 0} → State → State → Result T Pause → Type 0
WaitsUnchanged before after answer = IfErr answer (λ why. why ≡ pause.Waits → after ≡ before)

-- an operation of a state with pointers to locals only does all of its act, and the state remains one; or it waits, and has changed nothing
pub record Works {T : Type 0} (code : Code) (names : Naming) (program : TypedProgram) (known : ℕ → Bool) (before after : State) (earlier later : Progress)
    (answer : Result T Pause) (act : CodeState → Act CodeState) : Type 0 where
  pub computes : Computes code names program before after earlier later answer act
  pub stays : OnOk answer (StaysInFrame before after)
  pub locals : OnOk answer (HasLocalsAlone program names.bases known after)
  pub unchanged : WaitsUnchanged before after answer

-- the work of an operation at a place is done as the reference semantics does it, in each state with pointers to locals only: under all names
-- that extend these
abbrev pub DoesWork : {T : Type 0} → DataModel → Naming → State → State → Progress → Progress → Result T Pause → Place → Work → Type 0
DoesWork model given before after earlier later answer at work =
    (code : Code) (names : Naming) (program : TypedProgram) (budgets : RunBudgets) (known : ℕ → Bool) → program.model ≡ model
    → Extends given names → IsNumbered names.bases → HasLocalsAlone program names.bases known before
    → IsIntegerWork (count_of_locals program before.frame.spot.function) work
    → Works code names program known before after earlier later answer (do_work code program budgets at work)

-- only the first `number` temporaries remain
abbrev pub IsCutTo : ℕ → State → State → Type 0
IsCutTo number before after = after ≡ with_temporaries (take number before.frame.temporaries) before

-- the temporaries that the end of a block doesn't need are dropped
abbrev pub IsCutForEnd : BlockEnd → State → State → Type 0
IsCutForEnd (Branch at temporary one other) before after = IsCutTo (temporary + 1) before after
IsCutForEnd (Switch at temporary cases otherwise) before after = IsCutTo (temporary + 1) before after
IsCutForEnd (Return temporary) before after = IsCutTo (temporary + 1) before after
IsCutForEnd other before after = after ≡ before

-- there are no temporaries that the end of a block doesn't need
abbrev pub IsCutFor : BlockEnd → State → Type 0
IsCutFor (Branch at temporary one other) state = length state.frame.temporaries ≤ temporary + 1
IsCutFor (Switch at temporary cases otherwise) state = length state.frame.temporaries ≤ temporary + 1
IsCutFor (Return temporary) state = length state.frame.temporaries ≤ temporary + 1
IsCutFor other state = Unit {0}

-- the current frame has continued with a block of its function, and has followed jumps; nothing else changes
pub record GoesTo (code : Code) (block : ℕ) (before after : State) : Type 0 where
  pub jumps : JumpsTo code (begins before.frame.spot.function block) after.frame.spot
  pub moved : after ≡ at_spot after.frame.spot before

-- the current frame has continued after the instruction at its spot, and nothing else changes
abbrev pub IsMovedOn : Code → State → State → Type 0
IsMovedOn code before after = (last : Spot) × IsNext code before.frame.spot (Some last) × (after ≡ at_spot last before)

-- the same, and then the frame continues after the operation
pub record WorksOn {T : Type 0} (code : Code) (names : Naming) (program : TypedProgram) (known : ℕ → Bool) (before after : State) (earlier later : Progress)
    (answer : Result T Pause) (act : CodeState → Act CodeState) : Type 0 where
  pub middle : State
  pub works : Works code names program known before middle earlier later answer act
  pub moved_on : OnOk answer (IsMovedOn code middle after)
  pub unchanged : WaitsUnchanged before after answer

-- the work of an operation is done like this, and the frame continues after it
abbrev pub DoesWorkAndGoesOn : {T : Type 0} → Code → DataModel → RunBudgets → Naming → State → State → Progress → Progress → Result T Pause
    → Place → Work → Type 0
DoesWorkAndGoesOn code model budgets given before after earlier later answer at work =
    (names : Naming) (program : TypedProgram) (known : ℕ → Bool) → program.model ≡ model → Extends given names
    → IsNumbered names.bases → HasLocalsAlone program names.bases known before
    → IsIntegerWork (count_of_locals program before.frame.spot.function) work
    → WorksOn code names program known before after earlier later answer (do_work code program budgets at work)

-- the end of a block leads the run to a spot from which only jumps lead to the spot of the resulting state; or it waits, and nothing changes but
-- the entry's result
pub record Leaves {T : Type 0} (code : Code) (names : Naming) (program : TypedProgram) (known : ℕ → Bool) (before after : State) (earlier later : Progress)
    (answer : Result T Pause) (act : CodeState → Act CodeState) : Type 0 where
  pub done : OnOk answer ((spot : Spot) × JumpsTo code spot after.frame.spot
      × ((cells : Path → InputKind → Cell) (valuation : Valuation) → Fits valuation before.constraints
      → Leads cells (answers_left before earlier.used valuation) (answers_left before later.used valuation)
      (act (meaning code names program before valuation)) (Goes (meaning code names program (at_spot spot after) valuation))))
  pub keeps : OnOk answer (KeepsKnown before after)
  pub function : OnOk answer (after.frame.spot.function ≡ before.frame.spot.function)
  pub locals : OnOk answer (HasLocalsAlone program names.bases known after)
  pub unchanged : IfErr answer (λ why. why ≡ pause.Waits → after ≡ with_result after.result before)
  pub rests : IfErr answer (λ why. why ≡ pause.Waits → HasLocalsAlone program names.bases known after)
  pub waits : IfErr answer (λ why. why ≡ pause.Waits → (cells : Path → InputKind → Cell) (valuation : Valuation)
      → Fits valuation before.constraints
      → UsesAll cells (answers_left before earlier.used valuation) (act (meaning code names program before valuation))
      → BeginsIn code names.bases after valuation later.first
      (left_of cells (answers_left before earlier.used valuation) (act (meaning code names program before valuation))))

module _ (code : Code) (names : Naming) (program : TypedProgram) (budgets : RunBudgets) where
  -- what the run of the code does next, before the operation in progress
  abbrev pub next_act : State → Valuation → Act CodeState
  next_act state valuation = code_step code program budgets (meaning code names program state valuation)

  -- what remains of that after the answers
  abbrev pub next_left : (Path → InputKind → Cell) → State → Valuation → Act CodeState
  next_left cells state valuation = left_of cells (map (value_of valuation) state.answers) (next_act state valuation)

  -- the operation in progress uses all answers
  abbrev pub UsesAnswers : (Path → InputKind → Cell) → State → Valuation → Type 0
  UsesAnswers cells state valuation = UsesAll cells (map (value_of valuation) state.answers) (next_act state valuation)

  -- the operation is done: the run continues at a spot from which only jumps lead to the spot of the resulting state
  pub record IsDone (before after : State) : Type 0 where
    pub known : KeepsKnown before after
    pub function : after.frame.spot.function ≡ before.frame.spot.function
    pub answers : after.answers ≡ []
    pub spot : Spot
    pub jumps : JumpsTo code spot after.frame.spot
    pub goes : (cells : Path → InputKind → Cell) (valuation : Valuation) → Fits valuation before.constraints → UsesAnswers cells before valuation
        → next_left cells before valuation ≡ Goes (meaning code names program (at_spot spot after) valuation)

  -- the operation waits: the run does the same next, and this comes first in what remains of that
  pub record Waits (before after : State) (first : Next) : Type 0 where
    pub known : KeepsKnown before after
    pub function : after.frame.spot.function ≡ before.frame.spot.function
    pub answers : after.answers ≡ before.answers
    pub same : (valuation : Valuation) → next_act after valuation ≡ next_act before valuation
    pub begins : (cells : Path → InputKind → Cell) (valuation : Valuation) → Fits valuation before.constraints
        → UsesAnswers cells before valuation → BeginsIn code names.bases after valuation first (next_left cells before valuation)

  -- how a state changes as the operation in progress continues
  abbrev pub Steps : State → State → Next → Type 0
  Steps before after next.Done = IsDone before after
  Steps before after other = Waits before after other

-- the same, in each state of integer code with pointers to locals only: under all names that extend these. It remains such a state
pub record StepsInLocals (code : Code) (model : DataModel) (budgets : RunBudgets) (given : Naming) (before after : State) (next : Next)
    : Type 0 where
  pub steps : (names : Naming) (program : TypedProgram) (known : ℕ → Bool) → program.model ≡ model → Extends given names
      → IsNumbered names.bases → HasLocalsAlone program names.bases known before → HasIntegerCode code program before.frame.spot.function
      → (valuation : Valuation) × Fits valuation before.constraints
      → ((cells : Path → InputKind → Cell) (valuation : Valuation) → Fits valuation before.constraints
      → UsesAnswers code names program budgets cells before valuation)
      → Steps code names program budgets before after next × HasLocalsAlone program names.bases known after
