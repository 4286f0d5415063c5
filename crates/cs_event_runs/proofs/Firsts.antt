-- What comes first in an act is what performing it passes first: for runs by their events.
use Rattle.std.proofs.Common.{◌≡◌, ℕ, suc, ◌==◌, Bool, true, false, List, [], ◌∷◌, ◌++◌, Option, Some, None, length, if◌then◌else◌}
use Rattle.std.proofs.Common.{refl, sym, ap, ◌∙◌, arith}
use Rattle.std.proofs.lemmas.List.{length-append}
use Rattle.cs_events.specs.declared.event.Event.{Event}
use Rattle.cs_events.specs.declared.outcome.Outcome.{Outcome}
use Rattle.cs_events.specs.Operations.{is_true}
use Rattle.cs_events.specs.Acts.{Act, Goes, Stops, Reads, Asks, Allocates, Reaches, Touches}
use Rattle.cs_events.specs.declared.input.InputKind.TheVariants.{Allocation}
use Rattle.cs_events.specs.Runs.{Setting, Log, perform, with_event, with_operation, with_allocation, with_access, with_read, with_touch, allows_event}
use Rattle.cs_events.specs.Runs.{number_of}
use Rattle.cs_events.specs.Runs.{read_cell}
use Rattle.cs_events.specs.PendingEvents.{Pending}
use Rattle.cs_events.specs.Pending.{is_next, pending_in}
use Rattle.cs_event_runs.specs.First.{Step, First, Silent, Shown, Ended, operated, tried, accessed, first_of, performed}

-- the number of an event that is shown
one_more : (log : Log) (here : Pending) (shown : Event) → suc (length log.events) ≡ length (with_event log here shown).events
one_more log here shown = let a = length-append log.events (shown ∷ []) in omega arith

module _ {State : Type 0} (setting : Setting) where
  -- a function of what comes first, applied to both branches of a test
  into_both : {A : Type 0} (f : First State → A) (room : Bool) (one other : First State)
      → (if room then f one else f other) ≡ f (if room then one else other)
  into_both f true one other = refl
  into_both f false one other = refl

  -- performing an act is performing what comes first in it
  pub performs_first : (log : Log) (act : Act State) → perform setting log act ≡ performed setting (first_of setting log act)
  unfolding perform first_of
  performs_first log (Goes next) = refl
  performs_first log (Stops outcome) = refl
  performs_first log (Reads path kind onward) = performs_first (with_read log path kind) (onward (read_cell setting path kind))
  performs_first log (Touches touch act) = performs_first (with_touch log touch) act
  performs_first log (Asks at operation onward) =
      into_both (performed setting) (allows_event setting log)
      (Shown (operated setting log at operation) (onward (number_of setting log operation)) (with_operation setting log at operation)) _
  performs_first log (Allocates at path onward) =
      into_both (performed setting) (allows_event setting log)
      (Shown (tried setting at path) (onward (is_true (setting.inputs path))) (with_allocation setting log at path)) _
  performs_first log (Reaches at object offset act) =
      into_both (performed setting) (allows_event setting log) (Shown (accessed at object offset) act (with_access log at object offset)) _

  -- the events of an act are finite: after what comes first, some more events lead to a state or an end
  pub data Within : First State → Type 0 where
    then_silent : {next : State} {log : Log} → Within (Silent next log)
    then_ended : {outcome : Outcome} {log : Log} → Within (Ended outcome log)
    then_shown : {one : Step} {left : Act State} {log : Log} → Within (first_of setting log left) → Within (Shown one left log)

  within_both : (room : Bool) (one other : First State) → Within one → Within other → Within (if room then one else other)
  within_both true one other a b = a
  within_both false one other a b = b

  pub within : (log : Log) (act : Act State) → Within (first_of setting log act)
  unfolding first_of
  within log (Goes next) = then_silent
  within log (Stops outcome) = then_ended
  within log (Reads path kind onward) = within (with_read log path kind) (onward (read_cell setting path kind))
  within log (Touches touch act) = within (with_touch log touch) act
  within log (Asks at operation onward) =
      within_both (allows_event setting log) _ _
      (then_shown (within (with_operation setting log at operation) (onward (number_of setting log operation)))) then_ended
  within log (Allocates at path onward) =
      within_both (allows_event setting log) _ _
      (then_shown (within (with_allocation setting log at path) (onward (is_true (setting.inputs path))))) then_ended
  within log (Reaches at object offset act) =
      within_both (allows_event setting log) _ _ (then_shown (within (with_access log at object offset) act)) then_ended

  -- the events so far, including that of what comes first
  abbrev pub HasEvents : List Event → First State → Type 0
  HasEvents events (Silent next log) = log.events ≡ events
  HasEvents events (Shown shown left log) = log.events ≡ events ++ shown.event ∷ []
  HasEvents events (Ended outcome log) = log.events ≡ events

  has_both : (events : List Event) (room : Bool) (one other : First State) → HasEvents events one → HasEvents events other
      → HasEvents events (if room then one else other)
  has_both events true one other a b = a
  has_both events false one other a b = b

  pub adds_first : (log : Log) (act : Act State) → HasEvents log.events (first_of setting log act)
  unfolding first_of
  adds_first log (Goes next) = refl
  adds_first log (Stops outcome) = refl
  adds_first log (Reads path kind onward) = adds_first (with_read log path kind) (onward (read_cell setting path kind))
  adds_first log (Touches touch act) = adds_first (with_touch log touch) act
  adds_first log (Asks at operation onward) = has_both log.events (allows_event setting log) _ _ refl refl
  adds_first log (Allocates at path onward) = has_both log.events (allows_event setting log) _ _ refl refl
  adds_first log (Reaches at object offset act) = has_both log.events (allows_event setting log) _ _ refl refl

  -- what is pending at an event: what comes first, if that is the event, or else what is pending in the rest
  abbrev pub first_pending : ℕ → First State → Option Pending
  first_pending event (Silent next log) = None
  first_pending event (Shown shown left log) =
      if length log.events == event then Some shown.pending else pending_in setting log event left
  first_pending event (Ended outcome log) = None

  asked : (event : ℕ) (room : Bool) (log before : Log) (shown : Step) (left : Act State) (outcome : Outcome) → before.events ≡ log.events →
      (if room then (if is_next log event then Some shown.pending else pending_in setting (with_event before shown.pending shown.event) event left) else None)
      ≡ first_pending event (if room then Shown shown left (with_event before shown.pending shown.event) else Ended outcome log)
  asked event true log before shown left outcome same =
      ap (λ n. if n == event then Some shown.pending else pending_in setting (with_event before shown.pending shown.event) event left)
      (ap (λ l. suc (length l)) (sym same)
      ∙ one_more before shown.pending shown.event)
  asked event false log before shown left outcome same = refl

  pub pends_first : (event : ℕ) (log : Log) (act : Act State) → pending_in setting log event act ≡ first_pending event (first_of setting log act)
  unfolding pending_in first_of
  pends_first event log (Goes next) = refl
  pends_first event log (Stops outcome) = refl
  pends_first event log (Reads path kind onward) = pends_first event (with_read log path kind) (onward (read_cell setting path kind))
  pends_first event log (Touches touch act) = pends_first event (with_touch log touch) act
  pends_first event log (Asks at operation onward) =
      asked event (allows_event setting log) log log (operated setting log at operation) (onward (number_of setting log operation)) _ refl
  pends_first event log (Allocates at path onward) =
      asked event (allows_event setting log) log (with_read log path Allocation) (tried setting at path) (onward (is_true (setting.inputs path))) _ refl
  pends_first event log (Reaches at object offset act) =
      asked event (allows_event setting log) log log (accessed at object offset) act _ refl
