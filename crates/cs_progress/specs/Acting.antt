-- What remains of an operation in progress: its act, which has used some answers. The operation continues through its act with the answers that
-- remain, and waits if none remains for its next event.
use Rattle.std.specs.Prelude.{◌≡◌, ◌≢◌, ℕ, ℤ, List, [], ◌∷◌, All, Option, None, Some, slice_get, Result, IfOk, IfErr}
use Rattle.cs_inputs.specs.declared.path.Path.{Path}
use Rattle.cs_ast.specs.declared.place.Place.{Place}
use Rattle.cs_model.specs.declared.kind.Kind.{Kind}
use Rattle.cs_checker.specs.declared.subject.Subject.{Subject}
use Rattle.cs_terms.specs.Term.{Valuation, value_of}
use Rattle.cs_terms.specs.declared.term.Lin.{Lin}
use Rattle.cs_constraints.specs.Constraints.{Fits}
use Rattle.cs_events.specs.declared.event.Label.TheVariants as label
use Rattle.cs_events.specs.declared.input.InputKind.{InputKind}
use Rattle.cs_events.specs.declared.outcome.Outcome.{Outcome}
use Rattle.cs_events.specs.declared.outcome.Outcome.TheVariants.{Done, Fault, Over}
use Rattle.cs_events.specs.Operations.{is_true}
use Rattle.cs_events.specs.Objects.{Cell}
use Rattle.cs_events.specs.Acts.{Act, Goes, Stops, Reads, Asks, Allocates, Reaches, Touches}
use Rattle.cs_event_runs.specs.Left.{left_of}
use Rattle.cs_meaning.specs.Access as access
use Rattle.cs_cfg.specs.Working.{CodeState}
use Rattle.cs_regions.specs.declared.base.Base.{Base}
use Rattle.cs_store.specs.declared.value.Value.{Value}
use Rattle.cs_store.specs.declared.value.Value.TheVariants as value
use Rattle.cs_state.specs.declared.state.State.{State}
use Rattle.cs_state.specs.Cells.{cell_of, object_of}
use Rattle.cs_access.specs.declared.checking.Checked.{Checked}
use Rattle.cs_access.specs.Checks.{AreFaults, IsRest}
use Rattle.cs_eval.specs.Questions.{operation_of}
use Rattle.cs_progress.specs.declared.pause.Pause.{Pause}
use Rattle.cs_progress.specs.declared.pause.Pause.TheVariants as pause
use Rattle.cs_progress.specs.declared.progress.Progress.{Progress}
use Rattle.cs_progress.specs.declared.next.Next.{Next}
use Rattle.cs_progress.specs.declared.next.Next.TheVariants as next
use Rattle.cs_progress.specs.Answering.{answers_left}

-- an act uses all answers: none remains when it stops or continues with another state
unfoldable pub UsesAll : (Path → InputKind → Cell) → List ℤ → Act CodeState → Type 0
UsesAll cells answers (Goes next) = answers ≡ []
UsesAll cells answers (Stops outcome) = answers ≡ []
UsesAll cells answers (Reads path kind onward) = UsesAll cells answers (onward (cells path kind))
UsesAll cells answers (Touches touch act) = UsesAll cells answers act
UsesAll cells [] (Asks at operation onward) = Unit {0}
UsesAll cells [] (Allocates at path onward) = Unit {0}
UsesAll cells [] (Reaches at object offset act) = Unit {0}
UsesAll cells (answer ∷ answers) (Asks at operation onward) = UsesAll cells answers (onward answer)
UsesAll cells (answer ∷ answers) (Allocates at path onward) = UsesAll cells answers (onward (is_true answer))
UsesAll cells (answer ∷ answers) (Reaches at object offset act) = UsesAll cells answers act

-- if the first act uses all answers before, it and the second act with the answers after have the same remainder, and the second uses all of those
abbrev pub Leads : (Path → InputKind → Cell) → List ℤ → List ℤ → Act CodeState → Act CodeState → Type 0
Leads cells before after one other =
    UsesAll cells before one → (left_of cells before one ≡ left_of cells after other) × UsesAll cells after other

-- under each valuation that fits, an operation executes the first part of its act, whatever comes after that
abbrev pub GetsThrough : State → ℕ → ℕ → (Valuation → Act CodeState → Act CodeState) → Type 0
GetsThrough state before after part = (cells : Path → InputKind → Cell) (valuation : Valuation) → Fits valuation state.constraints
    → (act : Act CodeState) → Leads cells (answers_left state before valuation) (answers_left state after valuation) (part valuation act) act

-- under each valuation that fits, an operation executes the first part of its act, which yields a result for what comes after it
abbrev pub Gives : {Given : Type 0} → State → ℕ → ℕ → (Valuation → (Given → Act CodeState) → Act CodeState) → (Valuation → Given)
    → Type 0
Gives {Given} state before after part given =
    (cells : Path → InputKind → Cell) (valuation : Valuation) → Fits valuation state.constraints → (onward : Given → Act CodeState)
    → Leads cells (answers_left state before valuation) (answers_left state after valuation) (part valuation onward) (onward (given valuation))

-- the result of the checks of a state: its faulty parts, and its rest
pub record ComesOf (state : State) (checked : Checked) : Type 0 where
  pub subject : Subject
  pub kinds : List Kind
  pub faults : AreFaults state subject kinds checked.faults.items
  pub rest : IsRest state subject kinds checked.rest

-- an act is the fault of each faulty part that the valuation fits, and the parts are those of the state
pub record BeginsWithCheck (state : State) (valuation : Valuation) (at : Place) (checked : Checked) (act : Act CodeState) : Type 0 where
  pub faults : All (λ part. Fits valuation part.state.constraints → act ≡ Stops (Fault part.kind at)) checked.faults.items
  pub parts : ComesOf state checked

-- a run ends before its entry returns
abbrev pub IsCutShort : Outcome → Type 0
IsCutShort (Done returned) = ⊥
IsCutShort (Fault kind at) = Unit {0}
IsCutShort (Over budget at) = Unit {0}

-- what remains of an act in a state begins with this: with a question, or with the offset of an access; or it is a fault under each valuation
-- that fits one of the faulty parts; or the end of a run that is cut short. An operator doesn't wait for anything else
abbrev pub BeginsWith : List Base → State → Valuation → Next → Act CodeState → Type 0
BeginsWith bases state valuation next.Done act = ⊥
BeginsWith bases state valuation (next.Asks at question) act =
    (onward : ℤ → Act CodeState) × (act ≡ Asks at (operation_of valuation question) onward)
BeginsWith bases state valuation (next.Selects at term) act = ⊥
BeginsWith bases state valuation (next.Reaches at base offset) act =
    (region : Base) × (onward : Act CodeState) × (slice_get bases base ≡ Some region)
    × (act ≡ Reaches at (object_of region) (value_of valuation offset) onward)
BeginsWith bases state valuation (next.Checks at checked) act = BeginsWithCheck state valuation at checked.value act
BeginsWith bases state valuation (next.Ends outcome) act = IsCutShort outcome × (act ≡ Stops outcome)

-- this comes first in what remains of an act, if that uses all answers
abbrev pub StandsFirst : List Base → State → ℕ → Next → (Path → InputKind → Cell) → Valuation → Act CodeState → Type 0
StandsFirst bases state used first cells valuation act =
    UsesAll cells (answers_left state used valuation) act → BeginsWith bases state valuation first (left_of cells (answers_left state used valuation) act)

-- this holds under each valuation that fits
abbrev pub WaitsFor : List Base → State → ℕ → Next → (Valuation → Act CodeState) → Type 0
WaitsFor bases state used first act =
    (cells : Path → InputKind → Cell) (valuation : Valuation) → Fits valuation state.constraints
    → StandsFirst bases state used first cells valuation (act valuation)

-- an operation carries out a part of its act that yields a number, a cell or a truth: it executes it, or what it waits for comes first there
pub record CarriesOut {T Given : Type 0} (bases : List Base) (state : State) (before after : Progress) (answer : Result T Pause)
    (part : Valuation → (Given → Act CodeState) → Act CodeState) (given : T → Valuation → Given) : Type 0 where
  pub through : IfOk answer (λ made. Gives state before.used after.used part (given made))
  pub waits : IfErr answer (λ why. why ≡ pause.Waits
      → (onward : Given → Act CodeState) → WaitsFor bases state before.used after.first (λ valuation. part valuation onward))

-- the same for a part that yields nothing
pub record Passes {T : Type 0} (bases : List Base) (state : State) (before after : Progress) (answer : Result T Pause)
    (part : Valuation → Act CodeState → Act CodeState) : Type 0 where
  pub through : IfOk answer (λ done. GetsThrough state before.used after.used part)
  pub waits : IfErr answer (λ why. why ≡ pause.Waits
      → (act : Act CodeState) → WaitsFor bases state before.used after.first (λ valuation. part valuation act))

-- the base region of a pointer has a name
abbrev pub IsNamed : List Base → Value → Type 0
IsNamed bases (value.Number term) = Unit {0}
IsNamed bases value.Null = Unit {0}
IsNamed bases (value.At base offset) = slice_get bases base ≢ None
IsNamed bases (value.Start base offset) = slice_get bases base ≢ None
IsNamed bases value.Unset = Unit {0}

-- a value is inspected before an act
abbrev pub looked : List Base → State → Place → Value → Valuation → Act CodeState → Act CodeState
looked bases state at value valuation act = access.look at (cell_of bases state.blocks valuation value) act

-- the term whose truth an inspection of a value shows, if that is an event
abbrev pub ShowsLook : State → Value → Option Lin → Type 0
ShowsLook state value None = (bases : List Base) (valuation : Valuation) (at : Place) (act : Act CodeState)
    → looked bases state at value valuation act ≡ act
ShowsLook state value (Some there) = (bases : List Base) (valuation : Valuation) → IsNamed bases value → (at : Place) (act : Act CodeState)
    → looked bases state at value valuation act ≡ access.shows_then at (label.Look (is_true (value_of valuation there))) act
