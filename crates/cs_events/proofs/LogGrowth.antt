-- Logs only grow: the events, lookups and touches of an act are added after those before.
use Rattle.std.proofs.Common.{◌≡◌, Bool, true, false, List, [], ◌∷◌, ◌++◌, if◌then◌else◌, refl, sym, ap, ◌∙◌, subst}
use Rattle.std.proofs.lemmas.List.{append-nil, append_assoc}
use Rattle.cs_events.specs.declared.event.Event.{Event}
use Rattle.cs_inputs.specs.declared.path.Path.{Path}
use Rattle.cs_events.specs.declared.input.InputKind.{InputKind}
use Rattle.cs_events.specs.declared.input.InputKind.TheVariants.{Allocation}
use Rattle.cs_events.specs.PendingEvents.{Pending, Operates, Tries, Accesses}
use Rattle.cs_events.specs.declared.outcome.Outcome.{Outcome}
use Rattle.cs_events.specs.Operations.{is_true}
use Rattle.cs_events.specs.Touches.{Touch}
use Rattle.cs_events.specs.Acts.{Act, Goes, Stops, Reads, Asks, Allocates, Reaches, Touches}
use Rattle.cs_events.specs.Runs.{Setting, Log, Performed, Continues, Finishes, perform, with_event, with_operation, with_allocation, with_access, with_read}
use Rattle.cs_events.specs.Runs.{with_touch, allows_event, operation_event, number_of, read_cell}
use Rattle.cs_events.specs.Runs.{allocation_event, access_event, Leads, stays, goes, EndsFrom}
use Rattle.cs_events.specs.Growth.{GoesOn, log_of}

-- nothing is added
nothing_more : {A : Type 0} (xs : List A) → (more : List A) × (xs ≡ xs ++ more)
nothing_more xs = ([], sym (append-nil xs))

-- additions one after another
more_yet : {A : Type 0} (xs ys zs : List A) → (more : List A) × (ys ≡ xs ++ more) → (more : List A) × (zs ≡ ys ++ more)
    → (more : List A) × (zs ≡ xs ++ more)
more_yet xs ys zs one two = (one.0 ++ two.0, two.1 ∙ ap (λ l. l ++ two.0) one.1 ∙ append_assoc xs one.0 two.0)

-- a log extends itself
pub stays_so : (log : Log) → GoesOn log log
stays_so log = record { events = nothing_more log.events; pending = nothing_more log.pending; read = nothing_more log.read; touches = nothing_more log.touches }

-- extension of logs is transitive
pub goes_on_yet : {log middle later : Log} → GoesOn log middle → GoesOn middle later → GoesOn log later
goes_on_yet {log = log} {middle = middle} {later = later} one two = record {
  events = more_yet log.events middle.events later.events one.events two.events;
  pending = more_yet log.pending middle.pending later.pending one.pending two.pending;
  read = more_yet log.read middle.read later.read one.read two.read;
  touches = more_yet log.touches middle.touches later.touches one.touches two.touches;
}

event_more : (log : Log) (here : Pending) (event : Event) → GoesOn log (with_event log here event)
event_more log here event =
    record { events = (event ∷ [], refl); pending = (here ∷ [], refl); read = nothing_more log.read; touches = nothing_more log.touches }

read_more : (log : Log) (path : Path) (kind : InputKind) → GoesOn log (with_read log path kind)
read_more log path kind = record {
  events = nothing_more log.events;
  pending = nothing_more log.pending;
  read = (record { path = path; kind = kind } ∷ [], refl);
  touches = nothing_more log.touches;
}

touch_more : (log : Log) (touch : Touch) → GoesOn log (with_touch log touch)
touch_more log touch = record {
  events = nothing_more log.events;
  pending = nothing_more log.pending;
  read = nothing_more log.read;
  touches = (touch ∷ [], refl);
}

module _ {State : Type 0} where
  -- an event that is passed, or the end of the run if the budget is used up
  if_allowed : (room : Bool) (log : Log) (outcome : Outcome) (done : Performed State) → GoesOn log (log_of done)
      → GoesOn log (log_of (if room then done else Finishes outcome log))
  if_allowed true log outcome done more = more
  if_allowed false log outcome done more = stays_so log

  -- what an act adds to a log
  pub act_adds : (setting : Setting) (log : Log) (act : Act State) → GoesOn log (log_of (perform setting log act))
  unfolding perform
  act_adds setting log (Goes next) = stays_so log
  act_adds setting log (Stops outcome) = stays_so log
  act_adds setting log (Reads path kind onward) =
      goes_on_yet (read_more log path kind) (act_adds setting (with_read log path kind) (onward (read_cell setting path kind)))
  act_adds setting log (Asks at operation onward) =
      if_allowed (allows_event setting log) log _ _
      (goes_on_yet (event_more log (Operates at operation) (operation_event setting log at operation))
      (act_adds setting (with_operation setting log at operation) (onward (number_of setting log operation))))
  act_adds setting log (Allocates at path onward) =
      if_allowed (allows_event setting log) log _ _
      (goes_on_yet (goes_on_yet (read_more log path Allocation) (event_more (with_read log path Allocation) (Tries at path) (allocation_event setting at path)))
      (act_adds setting (with_allocation setting log at path) (onward (is_true (setting.inputs path)))))
  act_adds setting log (Reaches at object offset act) =
      if_allowed (allows_event setting log) log _ _
      (goes_on_yet (event_more log (Accesses at object offset) (access_event at offset)) (act_adds setting (with_access log at object offset) act))
  act_adds setting log (Touches touch act) = goes_on_yet (touch_more log touch) (act_adds setting (with_touch log touch) act)

  module _ (step : State → Act State) (setting : Setting) where
    -- what a step adds
    step_adds : (m : State) {log later : Log} (done : Performed State) → perform setting log (step m) ≡ done → log_of done ≡ later → GoesOn log later
    step_adds m {log = log} done e f = subst (GoesOn log) (ap log_of e ∙ f) (act_adds setting log (step m))

    -- a run only adds to its log, before its end
    pub way_adds : {m last : State} {log end : Log} → Leads step setting m log last end → GoesOn log end
    way_adds {log = log} (stays e f) = subst (GoesOn log) f (stays_so log)
    way_adds (goes {m = m} {next = next} {later = later} s way) = goes_on_yet (step_adds m (Continues next later) s refl) (way_adds way)

    -- and at its end
    pub end_adds : {m : State} {log end : Log} {outcome : Outcome} → EndsFrom step setting m log outcome end → GoesOn log end
    end_adds {end = end} {outcome = outcome} ended = goes_on_yet (way_adds ended.leads) (step_adds ended.last (Finishes outcome end) ended.finishes refl)
