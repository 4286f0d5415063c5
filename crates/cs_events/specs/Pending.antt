-- The next event of a run.
use Rattle.std.specs.Prelude.{◌≡◌, ℕ, suc, ◌==◌, Bool, Option, Some, None, length, if◌then◌else◌}
use Rattle.cs_events.specs.Operations.{is_true}
use Rattle.cs_events.specs.PendingEvents.{Pending, Operates, Tries, Accesses}
use Rattle.cs_events.specs.Acts.{Act, Goes, Stops, Reads, Asks, Allocates, Reaches, Touches}
use Rattle.cs_events.specs.Runs.{Setting, Log, empty, with_operation, with_allocation, with_access, with_read, with_touch, allows_event, number_of, read_cell}
use Rattle.cs_events.specs.Runs.{Leads}

-- whether the event with this number is the next one of a run with this log
abbrev pub is_next : Log → ℕ → Bool
is_next log event = suc (length log.events) == event

module _ {State : Type 0} where
  -- what is pending at the event with this number, if an act reaches it
  unfoldable pub pending_in : Setting → Log → ℕ → Act State → Option Pending
  pending_in setting log event (Goes next) = None
  pending_in setting log event (Stops outcome) = None
  pending_in setting log event (Reads path kind onward) = pending_in setting (with_read log path kind) event (onward (read_cell setting path kind))
  pending_in setting log event (Asks at operation onward) =
      if allows_event setting log
      then (if is_next log event then Some (Operates at operation)
      else pending_in setting (with_operation setting log at operation) event (onward (number_of setting log operation)))
      else None
  pending_in setting log event (Allocates at path onward) =
      if allows_event setting log
      then (if is_next log event then Some (Tries at path)
      else pending_in setting (with_allocation setting log at path) event (onward (is_true (setting.inputs path))))
      else None
  pending_in setting log event (Reaches at object offset act) =
      if allows_event setting log
      then (if is_next log event then Some (Accesses at object offset) else pending_in setting (with_access log at object offset) event act)
      else None
  pending_in setting log event (Touches touch act) = pending_in setting (with_touch log touch) event act

  -- the run from a state reaches the event with this number, and this is pending there
  pub record IsPending (step : State → Act State) (setting : Setting) (start : State) (event : ℕ) (pending : Pending) : Type 0 where
    pub last : State
    pub before : Log
    pub leads : Leads step setting start empty last before
    pub pends : pending_in setting before event (step last) ≡ Some pending
