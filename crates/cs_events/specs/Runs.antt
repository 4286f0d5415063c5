-- Runs of any machine whose steps are acts.
use Rattle.std.specs.Prelude.{◌≡◌, ℕ, suc, ◌==◌, Bool, nat_lt, ℤ, List, [], ◌∷◌, ◌++◌, Option, Some, None, length}
use Rattle.std.specs.Prelude.{◌⊎◌, if◌then◌else◌}
use Rattle.cs_ast.specs.declared.place.Place.{Place}
use Rattle.cs_inputs.specs.declared.path.Path.{Path}
use Rattle.cs_types.specs.declared.data_model.DataModel.{DataModel}
use Rattle.cs_events.specs.declared.event.Event.{Event}
use Rattle.cs_events.specs.declared.outcome.Outcome.{Outcome}
use Rattle.cs_events.specs.declared.outcome.Outcome.TheVariants.{Over}
use Rattle.cs_events.specs.declared.outcome.Budget.TheVariants.{Events}
use Rattle.cs_events.specs.declared.outcome.RunBudgets.{RunBudgets}
use Rattle.cs_events.specs.declared.guess.Guess.{Guess}
use Rattle.cs_events.specs.declared.event.Label.TheVariants.{Alloc, Offset}
use Rattle.cs_events.specs.Operations.{result_with, guess_range, shows, is_true, offset_shown}
use Rattle.cs_events.specs.declared.operation.Operation.{Operation}
use Rattle.cs_events.specs.Touches.{Touch}
use Rattle.cs_events.specs.Objects.{Object, Cell}
use Rattle.cs_events.specs.declared.input.InputKind.{InputKind}
use Rattle.cs_events.specs.declared.input.InputKind.TheVariants.{Allocation}
use Rattle.cs_events.specs.declared.input.Lookup.{Lookup}
use Rattle.cs_events.specs.InputCells.{input_cell, lies_in}
use Rattle.cs_events.specs.PendingEvents.{Pending, Operates, Tries, Accesses}
use Rattle.cs_events.specs.Acts.{Act, Goes, Stops, Reads, Asks, Allocates, Reaches, Touches}

-- what determines a run, beside the program
pub record Setting : Type 0 where
  pub model : DataModel
  pub inputs : Path → ℤ
  pub guesses : List Guess
  pub budgets : RunBudgets

-- the events, lookups and touches of a run so far, in order; `pending` has what was pending at each event
pub record Log : Type 0 where
  pub events : List Event
  pub pending : List Pending
  pub read : List Lookup
  pub touches : List Touch

-- the empty log
abbrev pub empty : Log
empty = record { events = []; pending = []; read = []; touches = [] }

-- the number of the first guess listed for an event
abbrev pub guess_at : List Guess → ℕ → Option ℤ
guess_at [] event = None
guess_at (guess ∷ guesses) event = if guess.event == event then Some guess.number else guess_at guesses event

-- the guess, if the operation has a range and the guess is in it
abbrev pub used : Option (ℤ × ℤ) → Option ℤ → Option ℤ
used None guess = None
used (Some range) None = None
used (Some range) (Some number) = if lies_in range number then Some number else None

-- the guess that a run uses at its next event, if any
abbrev pub used_guess : Setting → Log → Operation → Option ℤ
used_guess setting log operation = used (guess_range setting.model operation) (guess_at setting.guesses (suc (length log.events)))

-- the log with one more entry of each sort
abbrev pub with_event : Log → Pending → Event → Log
with_event log pending event = record log { events = log.events ++ event ∷ []; pending = log.pending ++ pending ∷ [] }

abbrev pub with_read : Log → Path → InputKind → Log
with_read log path kind = record log { read = log.read ++ record { path = path; kind = kind } ∷ [] }

abbrev pub with_touch : Log → Touch → Log
with_touch log touch = record log { touches = log.touches ++ touch ∷ [] }

-- whether the budget of events allows one more
abbrev pub allows_event : Setting → Log → Bool
allows_event setting log = nat_lt (length log.events) setting.budgets.events

-- the event of an operation
abbrev pub operation_event : Setting → Log → Place → Operation → Event
operation_event setting log at operation = record { place = at; label = shows setting.model operation (used_guess setting log operation) }

-- the number that a run continues with after an operation
abbrev pub number_of : Setting → Log → Operation → ℤ
number_of setting log operation = result_with setting.model operation (used_guess setting log operation)

-- the event of an allocation
abbrev pub allocation_event : Setting → Place → Path → Event
allocation_event setting at path = record { place = at; label = Alloc (is_true (setting.inputs path)) }

-- the event of an access
abbrev pub access_event : Place → ℤ → Event
access_event at offset = record { place = at; label = Offset (offset_shown offset) }

-- the log after an operation, an allocation and an access
abbrev pub with_operation : Setting → Log → Place → Operation → Log
with_operation setting log at operation = with_event log (Operates at operation) (operation_event setting log at operation)

abbrev pub with_allocation : Setting → Log → Place → Path → Log
with_allocation setting log at path = with_event (with_read log path Allocation) (Tries at path) (allocation_event setting at path)

abbrev pub with_access : Log → Place → Object → ℤ → Log
with_access log at object offset = with_event log (Accesses at object offset) (access_event at offset)

-- the cell that an input yields
abbrev pub read_cell : Setting → Path → InputKind → Cell
read_cell setting path kind = input_cell setting.model path kind (setting.inputs path)

-- the result of performing an act: a state to continue in, or the end; with the log
pub data Performed (State : Type 0) : Type 0 where
  Continues : (next : State) (log : Log) → Performed State
  Finishes : (outcome : Outcome) (log : Log) → Performed State

module _ {State : Type 0} where
  -- performs an act: each event counts against the budget of events, and a used guess replaces the operation's result
  unfoldable pub perform : Setting → Log → Act State → Performed State
  perform setting log (Goes next) = Continues next log
  perform setting log (Stops outcome) = Finishes outcome log
  perform setting log (Reads path kind onward) = perform setting (with_read log path kind) (onward (read_cell setting path kind))
  perform setting log (Asks at operation onward) =
      if allows_event setting log
      then perform setting (with_operation setting log at operation) (onward (number_of setting log operation))
      else Finishes (Over Events at) log
  perform setting log (Allocates at path onward) =
      if allows_event setting log
      then perform setting (with_allocation setting log at path) (onward (is_true (setting.inputs path)))
      else Finishes (Over Events at) log
  perform setting log (Reaches at object offset act) =
      if allows_event setting log
      then perform setting (with_access log at object offset) act
      else Finishes (Over Events at) log
  perform setting log (Touches touch act) = perform setting (with_touch log touch) act

  -- the run of a machine with this step function leads from a state and a log to others
  pub data Leads (step : State → Act State) (setting : Setting) : State → Log → State → Log → Type 0 where
    stays : {m last : State} {log end : Log} → m ≡ last → log ≡ end → Leads step setting m log last end
    goes : {m next last : State} {log later end : Log} → perform setting log (step m) ≡ Continues next later → Leads step setting next later last end
        → Leads step setting m log last end

  -- the run from a state and a log ends with this outcome and log; `last` is the state before its last act
  pub record EndsFrom (step : State → Act State) (setting : Setting) (m : State) (log : Log) (outcome : Outcome) (end : Log) : Type 0 where
    pub last : State
    pub before : Log
    pub leads : Leads step setting m log last before
    pub finishes : perform setting before (step last) ≡ Finishes outcome end

  -- the run from a state ends with this outcome and log
  abbrev pub Ends : (State → Act State) → Setting → State → Outcome → Log → Type 0
  Ends step setting start outcome log = EndsFrom step setting start empty outcome log

  -- the run from a state reaches this log, on its way or at its end
  abbrev pub ComesTo : (State → Act State) → Setting → State → Log → Type 0
  ComesTo step setting start log = ((last : State) × Leads step setting start empty last log) ⊎ ((outcome : Outcome) × Ends step setting start outcome log)

  -- these are the first events that the run from a state passes
  abbrev pub Passes : (State → Act State) → Setting → State → List Event → Type 0
  Passes step setting start events = (log : Log) × (more : List Event) × ComesTo step setting start log × (log.events ≡ events ++ more)
