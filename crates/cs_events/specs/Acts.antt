-- One step of a machine, as a tree: the inputs it looks up and the events it shows before the machine continues or ends. It is generic
-- in the machine's states, so that every machine that runs a program shares the meaning of operations.
use Rattle.std.specs.Prelude.{ℤ, Bool}
use Rattle.cs_ast.specs.declared.place.Place.{Place}
use Rattle.cs_inputs.specs.declared.path.Path.{Path}
use Rattle.cs_events.specs.declared.input.InputKind.{InputKind}
use Rattle.cs_events.specs.declared.outcome.Outcome.{Outcome}
use Rattle.cs_events.specs.declared.operation.Operation.{Operation}
use Rattle.cs_events.specs.Objects.{Object, Cell}
use Rattle.cs_events.specs.Touches.{Touch}

module _ (State : Type 0) where
  pub data Act : Type 0 where
    -- the machine continues in this state
    Goes : (next : State) → Act
    -- the run ends
    Stops : (outcome : Outcome) → Act
    -- an input is looked up; the act continues with the cell that it yields
    Reads : (path : Path) (kind : InputKind) (onward : Cell → Act) → Act
    -- an operation shows as an event at a source position; the act continues with its result, or with the number guessed for it
    Asks : (at : Place) (operation : Operation) (onward : ℤ → Act) → Act
    -- an allocation shows as an event: the path's number, which is read with the event, decides whether it returns a block
    Allocates : (at : Place) (path : Path) (onward : Bool → Act) → Act
    -- an access shows the offset that it has reached in an object, as an event at a source position
    Reaches : (at : Place) (object : Object) (offset : ℤ) (act : Act) → Act
    -- a touch, which shows no event
    Touches : (touch : Touch) (act : Act) → Act
