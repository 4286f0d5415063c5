-- What comes first in an act that is performed with a log.
use Rattle.std.specs.Prelude.{ℤ, if◌then◌else◌}
use Rattle.cs_ast.specs.declared.place.Place.{Place}
use Rattle.cs_inputs.specs.declared.path.Path.{Path}
use Rattle.cs_events.specs.declared.event.Event.{Event}
use Rattle.cs_events.specs.declared.operation.Operation.{Operation}
use Rattle.cs_events.specs.Objects.{Object}
use Rattle.cs_events.specs.declared.outcome.Outcome.{Outcome}
use Rattle.cs_events.specs.declared.outcome.Outcome.TheVariants.{Over}
use Rattle.cs_events.specs.declared.outcome.Budget.TheVariants.{Events}
use Rattle.cs_events.specs.declared.input.InputKind.TheVariants.{Allocation}
use Rattle.cs_events.specs.Operations.{is_true, truth_number}
use Rattle.cs_events.specs.Acts.{Act, Goes, Stops, Reads, Asks, Allocates, Reaches, Touches}
use Rattle.cs_events.specs.Runs.{Setting, Log, Performed, Continues, Finishes, perform, with_event, with_read, with_touch, allows_event, operation_event}
use Rattle.cs_events.specs.Runs.{number_of}
use Rattle.cs_events.specs.Runs.{allocation_event, access_event, read_cell}
use Rattle.cs_events.specs.PendingEvents.{Pending, Operates, Tries, Accesses}

-- one event of a run: what was pending there, the event that it shows, and the number that the run continues with
pub record Step : Type 0 where
  pub pending : Pending
  pub event : Event
  pub answer : ℤ

-- what comes first: the machine continues in a state, or shows an event and has the rest of the act left, or ends
pub data First (State : Type 0) : Type 0 where
  Silent : (next : State) (log : Log) → First State
  Shown : (shown : Step) (left : Act State) (log : Log) → First State
  Ended : (outcome : Outcome) (log : Log) → First State

-- an operation, an allocation and an access as events of a run
abbrev pub operated : Setting → Log → Place → Operation → Step
operated setting log at operation = record {
  pending = Operates at operation;
  event = operation_event setting log at operation;
  answer = number_of setting log operation;
}

abbrev pub tried : Setting → Place → Path → Step
tried setting at path =
    record { pending = Tries at path; event = allocation_event setting at path; answer = truth_number (is_true (setting.inputs path)) }

abbrev pub accessed : Place → Object → ℤ → Step
accessed at object offset = record { pending = Accesses at object offset; event = access_event at offset; answer = offset }

module _ {State : Type 0} where
  -- an event that shows if the budget of events allows it; else the run ends
  abbrev pub shown_if_allowed : Setting → Log → Place → Step → Log → Act State → First State
  shown_if_allowed setting log at shown before left =
      if allows_event setting log then Shown shown left (with_event before shown.pending shown.event) else Ended (Over Events at) log

  unfoldable pub first_of : Setting → Log → Act State → First State
  first_of setting log (Goes next) = Silent next log
  first_of setting log (Stops outcome) = Ended outcome log
  first_of setting log (Reads path kind onward) = first_of setting (with_read log path kind) (onward (read_cell setting path kind))
  first_of setting log (Touches touch act) = first_of setting (with_touch log touch) act
  first_of setting log (Asks at operation onward) =
      shown_if_allowed setting log at (operated setting log at operation) log (onward (number_of setting log operation))
  first_of setting log (Allocates at path onward) =
      shown_if_allowed setting log at (tried setting at path) (with_read log path Allocation) (onward (is_true (setting.inputs path)))
  first_of setting log (Reaches at object offset act) = shown_if_allowed setting log at (accessed at object offset) log act

  -- the result of performing the act
  abbrev pub performed : Setting → First State → Performed State
  performed setting (Silent next log) = Continues next log
  performed setting (Shown shown left log) = perform setting log left
  performed setting (Ended outcome log) = Finishes outcome log
