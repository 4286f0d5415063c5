-- What a run passes: the events of its steps, and one list of each length.
use Rattle.std.proofs.Common.{◌≡◌, ℕ, ◌≤◌, Bool, true, false, List, [], ◌∷◌, ◌++◌, map, length, Option, Some, None, if◌then◌else◌}
use Rattle.std.proofs.Common.{refl, sym, ap, ◌∙◌, subst, inl, inr, ◌⊎◌, append_assoc, append-nil, arith}
use Rattle.std.proofs.lemmas.Bool.Decides.{nat_tests}
use Rattle.cs_events.specs.declared.event.Event.{Event}
use Rattle.cs_events.specs.declared.outcome.Outcome.{Outcome}
use Rattle.cs_events.specs.Operations.{is_true}
use Rattle.cs_events.specs.Acts.{Act, Goes, Stops, Reads, Asks, Allocates, Reaches, Touches}
use Rattle.cs_events.specs.PendingEvents.{Pending, Operates, Tries, Accesses}
use Rattle.cs_events.specs.Runs.{Setting, Log, Performed, Continues, Finishes, perform, Leads, stays, goes, EndsFrom, empty, Ends, Passes, ComesTo}
use Rattle.cs_events.specs.Runs.{allows_event, with_read, with_touch, with_operation, with_allocation, with_access, number_of, read_cell}
use Rattle.cs_events.specs.Pending.{is_next, pending_in, IsPending}
use Rattle.cs_events.specs.Growth.{log_of}
use Rattle.cs_events.proofs.LogGrowth.{act_adds, end_adds}
use Rattle.cs_events.proofs.RunLaws.{left_after, one_end}
use Rattle.cs_event_runs.specs.First.{Step, First, first_of, performed}
use Rattle.cs_event_runs.specs.ByEvents.{ShowsAfter, now, later, unseen}
use Rattle.cs_event_runs.proofs.Firsts.{performs_first, HasEvents, adds_first}

-- the events of steps
abbrev pub events_of : List Step → List Event
events_of steps = map (λ (s : Step). s.event) steps

-- lists joined in another way
ends_with : (reached between events more : List Event) (x : Event) → reached ≡ between ++ more → between ≡ events ++ x ∷ []
    → reached ≡ (events ++ []) ++ x ∷ more
ends_with reached between events more x e f =
    e ∙ ap (λ l. l ++ more) f ∙ append_assoc events (x ∷ []) more ∙ ap (λ l. l ++ x ∷ more) (sym (append-nil events))

one_earlier : (reached between events rest more : List Event) (x : Event) → reached ≡ (between ++ rest) ++ more → between ≡ events ++ x ∷ []
    → reached ≡ (events ++ x ∷ rest) ++ more
one_earlier reached between events rest more x e f =
    e ∙ ap (λ l. (l ++ rest) ++ more) f ∙ ap (λ l. l ++ more) (append_assoc events (x ∷ []) rest)

same_start : (xs ys more more' : List Event) → xs ++ more ≡ ys ++ more' → length xs ≡ length ys → xs ≡ ys
same_start [] [] more more' e n = refl
same_start [] (y ∷ ys) more more' e n = absurd (omega arith)
same_start (x ∷ xs) [] more more' e n = absurd (omega arith)
same_start (x ∷ xs) (y ∷ ys) more more' e n =
    let tails : xs ++ more ≡ ys ++ more' = cc in
    let heads : x ≡ y = cc in
    let rest = same_start xs ys more more' tails (omega arith) in
    cc

module _ {State : Type 0} (step : State → Act State) (setting : Setting) where
  -- the log that a run from a state and a log reaches
  abbrev ComesFrom : State → Log → Log → Type 0
  ComesFrom m log reached = ((last : State) × Leads step setting m log last reached) ⊎ ((outcome : Outcome) × EndsFrom step setting m log outcome reached)

  -- the run from a state and a log reaches a log that begins with these events
  record PassesFrom (m : State) (log : Log) (events : List Event) : Type 0 where
    reached : Log
    more : List Event
    comes : ComesFrom m log reached
    has : reached.events ≡ events ++ more

  -- after its next act is performed
  performed_passes : (m : State) (log : Log) (done : Performed State) (events more : List Event) → perform setting log (step m) ≡ done
      → (log_of done).events ≡ events ++ more → PassesFrom m log events
  performed_passes m log (Continues next reached) events more e has =
      record { reached = reached; more = more; comes = inl (next, goes e (stays refl refl)); has = has }
  performed_passes m log (Finishes outcome reached) events more e has =
      let end : EndsFrom step setting m log outcome reached = record { last = m; before = log; leads = stays refl refl; finishes = e } in
      record { reached = reached; more = more; comes = inr (outcome, end); has = has }

  -- after a silent step
  next_comes : {m next : State} {log between reached : Log} → perform setting log (step m) ≡ Continues next between → ComesFrom next between reached
      → ComesFrom m log reached
  next_comes s (inl way) = inl (way.0, goes s way.1)
  next_comes s (inr end) =
      inr (end.0, record { last = end.1.last; before = end.1.before; leads = goes s end.1.leads; finishes = end.1.finishes })

  -- a run that shows a step after others passes the events of these
  passes_at : {first : First State} {steps : List Step} {one : Step} → ShowsAfter step setting first steps one
      → (m : State) (log : Log) (events : List Event)
      → HasEvents setting events first → perform setting log (step m) ≡ performed setting first → PassesFrom m log (events ++ events_of steps)
  passes_at (now {one = one} {left = left} {log = between} e) m log events has h =
      let there : between.events ≡ events ++ one.event ∷ [] = subst (HasEvents setting events) e has in
      let added = act_adds setting between left in
      performed_passes m log (perform setting between left) (events ++ []) (one.event ∷ added.events.0) (h ∙ ap (performed setting) e)
      (ends_with (log_of (perform setting between left)).events between.events events added.events.0 one.event added.events.1 there)
  passes_at (later {shown = shown} {left = left} {log = between} {steps = steps} e rest) m log events has h =
      let there : between.events ≡ events ++ shown.event ∷ [] = subst (HasEvents setting events) e has in
      let it = passes_at rest m log between.events (adds_first setting between left) (h ∙ ap (performed setting) e ∙ performs_first setting between left) in
      record {
        reached = it.reached;
        more = it.more;
        comes = it.comes;
        has = one_earlier it.reached.events between.events events (events_of steps) it.more shown.event it.has there;
      }
  passes_at (unseen {next = next} {log = between} {steps = steps} e rest) m log events has h =
      let there : between.events ≡ events = subst (HasEvents setting events) e has in
      let it = passes_at rest next between between.events (adds_first setting between (step next)) (performs_first setting between (step next)) in
      record {
        reached = it.reached;
        more = it.more;
        comes = next_comes (h ∙ ap (performed setting) e) it.comes;
        has = it.has ∙ ap (λ l. (l ++ events_of steps) ++ it.more) there;
      }

  pub shown_passes : (start : State) {steps : List Step} {one : Step} → ShowsAfter step setting (first_of setting empty (step start)) steps one
      → Passes step setting start (events_of steps)
  shown_passes start {steps = steps} shown =
      let it = passes_at shown start empty [] (adds_first setting empty (step start)) (performs_first setting empty (step start)) in
      (it.reached, it.more, it.comes, it.has)

  -- the events that a run has passed come first among those at its end
  pub passed_first : {start : State} {outcome : Outcome} {end log : Log} → Ends step setting start outcome end → ComesTo step setting start log
      → (more : List Event) × (end.events ≡ log.events ++ more)
  passed_first ended (inl way) = (end_adds step setting (left_after step setting way.1 ended.leads ended.finishes)).events
  passed_first {end = end} {log = log} ended (inr other) =
      let same : log ≡ end = (one_end step setting ended other.1).1 in
      ([], sym (append-nil log.events ∙ ap (λ (l : Log). l.events) same))

  -- a run that ends passes only one list of each length
  pub passes_one : {start : State} {outcome : Outcome} {end : Log} → Ends step setting start outcome end → (xs ys : List Event)
      → Passes step setting start xs → Passes step setting start ys → length xs ≡ length ys → xs ≡ ys
  passes_one {end = end} ended xs ys one other n =
      let a = passed_first ended one.2 in
      let b = passed_first ended other.2 in
      let c : end.events ≡ (xs ++ one.1) ++ a.0 = a.1 ∙ ap (λ l. l ++ a.0) one.3 in
      let d : end.events ≡ (ys ++ other.1) ++ b.0 = b.1 ∙ ap (λ l. l ++ b.0) other.3 in
      let e : xs ++ (one.1 ++ a.0) ≡ ys ++ (other.1 ++ b.0) =
      sym (append_assoc xs one.1 a.0) ∙ sym c ∙ d ∙ append_assoc ys other.1 b.0 in
      same_start xs ys (one.1 ++ a.0) (other.1 ++ b.0) e n

  module _ (event : ℕ) where
    -- if something is pending at an event, the budget allows the event
    room_at : (log : Log) (here pending : Pending) (rest : Option Pending) (room next : Bool) → allows_event setting log ≡ room → is_next log event ≡ next
        → (rest ≡ Some pending → event ≤ setting.budgets.events) → (if room then (if next then Some here else rest) else None) ≡ Some pending
        → event ≤ setting.budgets.events
    room_at log here pending rest true true r n following h = grind (arith, nat_tests)
    room_at log here pending rest true false r n following h = following h
    room_at log here pending rest false next r n following h = cc

    allows_event_there : (log : Log) (act : Act State) (pending : Pending) → pending_in setting log event act ≡ Some pending
        → event ≤ setting.budgets.events
    unfolding pending_in
    allows_event_there log (Goes next) pending h = cc
    allows_event_there log (Stops outcome) pending h = cc
    allows_event_there log (Reads path kind onward) pending h = allows_event_there (with_read log path kind) (onward (read_cell setting path kind)) pending h
    allows_event_there log (Asks at operation onward) pending h =
        room_at log (Operates at operation) pending _ (allows_event setting log) (is_next log event) refl refl
        (allows_event_there (with_operation setting log at operation) (onward (number_of setting log operation)) pending) h
    allows_event_there log (Allocates at path onward) pending h =
        room_at log (Tries at path) pending _ (allows_event setting log) (is_next log event) refl refl
        (allows_event_there (with_allocation setting log at path) (onward (is_true (setting.inputs path))) pending) h
    allows_event_there log (Reaches at object offset act) pending h =
        room_at log (Accesses at object offset) pending _ (allows_event setting log) (is_next log event) refl refl
        (allows_event_there (with_access log at object offset) act pending) h
    allows_event_there log (Touches touch act) pending h = allows_event_there (with_touch log touch) act pending h

  pub pends_in_budget : {start : State} {event : ℕ} {pending : Pending} → IsPending step setting start event pending → event ≤ setting.budgets.events
  pends_in_budget {event = event} {pending = pending} one = allows_event_there event one.before (step one.last) pending one.pends
