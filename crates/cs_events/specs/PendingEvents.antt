-- What is pending: about to show as an event.
use Rattle.std.specs.Prelude.{ℤ}
use Rattle.cs_ast.specs.declared.place.Place.{Place}
use Rattle.cs_inputs.specs.declared.path.Path.{Path}
use Rattle.cs_events.specs.declared.operation.Operation.{Operation}
use Rattle.cs_events.specs.Objects.{Object}

-- what is pending at a source position: an operation with its operands, an allocation, or an access to an object at an offset. A guess
-- at this event doesn't affect the operation's own result and wrap quotient
pub data Pending : Type 0 where
  Operates : (at : Place) (operation : Operation) → Pending
  Tries : (at : Place) (path : Path) → Pending
  Accesses : (at : Place) (object : Object) (offset : ℤ) → Pending
