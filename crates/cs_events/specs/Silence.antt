-- A condition on the steps without an event of a machine, from which every run of it ends.
use Rattle.std.specs.Prelude.{ℕ, ℤ, Bool, ◌<◌, ◌≤◌, ◌⊎◌}
use Rattle.cs_ast.specs.declared.place.Place.{Place}
use Rattle.cs_inputs.specs.declared.path.Path.{Path}
use Rattle.cs_events.specs.declared.operation.Operation.{Operation}
use Rattle.cs_events.specs.declared.input.InputKind.{InputKind}
use Rattle.cs_events.specs.Objects.{Object, Cell}
use Rattle.cs_events.specs.Touches.{Touch}
use Rattle.cs_events.specs.declared.outcome.Outcome.{Outcome}
use Rattle.cs_events.specs.Acts.{Act, Goes, Stops, Reads, Asks, Allocates, Reaches, Touches}
use Rattle.cs_events.specs.Runs.{Setting, Log, EndsFrom}

module _ {State : Type 0} where
  -- if an act continues without an event, whatever the inputs, the next state satisfies a predicate
  pub data Owes (Next : State → Type 0) : Act State → Type 0 where
    owes_next : {next : State} → Next next → Owes Next (Goes next)
    stops : {outcome : Outcome} → Owes Next (Stops outcome)
    reads : {path : Path} {kind : InputKind} {onward : Cell → Act State} → ((cell : Cell) → Owes Next (onward cell))
        → Owes Next (Reads path kind onward)
    asks : {at : Place} {operation : Operation} {onward : ℤ → Act State} → Owes Next (Asks at operation onward)
    allocates : {at : Place} {path : Path} {onward : Bool → Act State} → Owes Next (Allocates at path onward)
    reaches : {at : Place} {object : Object} {offset : ℤ} {act : Act State} → Owes Next (Reaches at object offset act)
    touches : {touch : Touch} {act : Act State} → Owes Next act → Owes Next (Touches touch act)

  -- a state with fewer turns, or with at most as many and less weight
  abbrev pub IsBelow : (State → ℕ) → (State → ℕ) → ℕ → ℕ → State → Type 0
  IsBelow turns weight some much next = (turns next < some) ⊎ ((turns next ≤ some) × (weight next < much))

  -- each step that continues without an event lessens the turns, or the weight without more turns
  abbrev pub Lessens : (State → Act State) → (State → ℕ) → (State → ℕ) → Type 0
  Lessens step turns weight = (m : State) → Owes (IsBelow turns weight (turns m) (weight m)) (step m)

  -- an end of the run from a state and a log
  pub record Ending (step : State → Act State) (setting : Setting) (m : State) (log : Log) : Type 0 where
    pub outcome : Outcome
    pub end : Log
    pub ended : EndsFrom step setting m log outcome end
