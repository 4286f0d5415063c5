-- The n-th step of a run is what is pending at its n-th event, and conversely.
use Rattle.std.proofs.Common.{◌≡◌, ℕ, suc, ◌+◌, ◌<◌, ◌==◌, Bool, true, false, List, [], ◌∷◌, ◌++◌, Some, length}
use Rattle.std.proofs.Common.{if◌then◌else◌, refl, sym, ap, ◌∙◌, subst, arith}
use Rattle.std.proofs.lemmas.Bool.Decides.{nat_tests}
use Rattle.std.proofs.lemmas.List.{length-append}
use Rattle.cs_events.specs.declared.event.Event.{Event}
use Rattle.cs_events.specs.declared.outcome.Outcome.{Outcome}
use Rattle.cs_events.specs.Acts.{Act}
use Rattle.cs_events.specs.Runs.{Setting, Log, empty, Continues, perform, Leads, stays, goes}
use Rattle.cs_events.specs.PendingEvents.{Pending}
use Rattle.cs_events.specs.Pending.{pending_in, IsPending}
use Rattle.cs_event_runs.specs.First.{Step, First, Silent, Shown, first_of, performed}
use Rattle.cs_event_runs.specs.ByEvents.{RunsTo, ends, shows, silently, ShowsAfter, now, later, unseen, PendingFrom, ShownPending}
use Rattle.cs_event_runs.proofs.Firsts.{performs_first, Within, then_silent, then_ended, then_shown, within, HasEvents, adds_first, first_pending, pends_first}

-- the number of the event after those of the log
pub next_is : (log : Log) (events : List Event) (shown : Event) → log.events ≡ events ++ shown ∷ [] → length log.events ≡ suc (length events)
next_is log events shown e =
    let a : length log.events ≡ length (events ++ shown ∷ []) = ap length e in
    let b = length-append events (shown ∷ []) in
    omega arith

module _ {State : Type 0} (step : State → Act State) (setting : Setting) where
  -- whether the shown event is this one
  shown_or_left : (event : ℕ) (shown : Step) (left : Act State) (log : Log) (b : Bool) → (length log.events == event) ≡ b
      → first_pending setting event (Shown shown left log) ≡ (if b then Some shown.pending else pending_in setting log event left)
  shown_or_left event shown left log b t = ap (λ b. if b then Some shown.pending else pending_in setting log event left) t

  -- an event that comes first is pending at its number, and a later one in the rest
  now_pending : (event : ℕ) (shown : Step) (left : Act State) (log : Log) → length log.events ≡ event
      → first_pending setting event (Shown shown left log) ≡ Some shown.pending
  now_pending event shown left log e = shown_or_left event shown left log true (grind (arith, nat_tests))

  then_pending : (event : ℕ) (shown : Step) (left : Act State) (log : Log) → length log.events < event
      → first_pending setting event (Shown shown left log) ≡ first_pending setting event (first_of setting log left)
  then_pending event shown left log e = shown_or_left event shown left log false (grind (arith, nat_tests)) ∙ pends_first setting event log left

  -- the next act has the same result as what comes first, and the same later events are pending in both
  record Continued (m : State) (log : Log) (events : List Event) (first : First State) : Type 0 where
    performs : perform setting log (step m) ≡ performed setting first
    pends : (event : ℕ) → length events < event → pending_in setting log event (step m) ≡ first_pending setting event first

  at_beginning : (m : State) (log : Log) → Continued m log log.events (first_of setting log (step m))
  at_beginning m log = record { performs = performs_first setting log (step m); pends = λ event later. pends_first setting event log (step m) }

  -- a step that is shown after others is pending at its number
  pends_at : {first : First State} {before : List Step} {one : Step} → ShowsAfter step setting first before one
      → (m : State) (log : Log) (events : List Event) → HasEvents setting events first → Continued m log events first
      → PendingFrom step setting m log (suc (length events + length before)) one.pending
  pends_at (now {one = one} {left = left} {log = between} e) m log events has h =
      let count = next_is between events one.event (subst (HasEvents setting events) e has) in
      let number : ℕ = suc (length events + 0) in
      let there : length between.events ≡ number = omega arith in
      record {
        last = m;
        before = log;
        leads = stays refl refl;
        pends = h.pends number (omega arith) ∙ ap (first_pending setting number) e ∙ now_pending number one left between there;
      }
  pends_at (later {shown = shown} {one = one} {left = left} {log = between} {steps = steps} e rest) m log events has h =
      let count = next_is between events shown.event (subst (HasEvents setting events) e has) in
      let yet : Continued m log between.events (first_of setting between left) = record {
        performs = h.performs ∙ ap (performed setting) e ∙ performs_first setting between left;
        pends = λ event after. h.pends event (omega arith) ∙ ap (first_pending setting event) e ∙ then_pending event shown left between after;
      } in
      let it = pends_at rest m log between.events (adds_first setting between left) yet in
      let number : suc (length between.events + length steps) ≡ suc (length events + suc (length steps)) = omega arith in
      subst (λ n. PendingFrom step setting m log n one.pending) number it
  pends_at (unseen {next = next} {log = between} {steps = steps} {one = one} e rest) m log events has h =
      let same : between.events ≡ events = subst (HasEvents setting events) e has in
      let it = pends_at rest next between between.events (adds_first setting between (step next)) (at_beginning next between) in
      subst (λ n. PendingFrom step setting m log n one.pending) (ap (λ l. suc (length l + length steps)) same)
      (record { last = it.last; before = it.before; leads = goes (h.performs ∙ ap (performed setting) e) it.leads; pends = it.pends })

  -- a step that is shown after some others is pending at the event after them
  pub shown_is_pending : (start : State) {before : List Step} {one : Step} → ShowsAfter step setting (first_of setting empty (step start)) before one
      → IsPending step setting start (suc (length before)) one.pending
  shown_is_pending start {before = before} {one = one} shown =
      let it = pends_at shown start empty [] (adds_first setting empty (step start)) (at_beginning start empty) in
      let none : List Event = [] in
      let number : suc (length none + length before) ≡ suc (length before) = omega arith in
      let there = subst (λ n. PendingFrom step setting start empty n one.pending) number it in
      record { last = there.last; before = there.before; leads = there.leads; pends = there.pends }

  -- each step of a run is shown after those before it
  pub shown_in_run : {first : First State} {steps : List Step} {outcome : Outcome} {end : Log} → RunsTo step setting first steps outcome end
      → (before after : List Step) (one : Step) → steps ≡ before ++ one ∷ after → ShowsAfter step setting first before one
  shown_in_run (ends e) [] after one is = cc
  shown_in_run (ends e) (x ∷ before) after one is = cc
  shown_in_run {first = first} (shows {shown = shown} e rest) [] after one is =
      let same : shown ≡ one = cc in
      subst (ShowsAfter step setting first []) same (now e)
  shown_in_run {first = first} (shows {shown = shown} {steps = steps} e rest) (x ∷ before) after one is =
      let tail : steps ≡ before ++ one ∷ after = cc in
      let same : shown ≡ x = cc in
      subst (λ s. ShowsAfter step setting first (s ∷ before) one) same (later e (shown_in_run rest before after one tail))
  shown_in_run (silently e rest) before after one is = unseen e (shown_in_run rest before after one is)

  -- what is pending comes first, or is pending in the rest
  by_test : (one : Step) (left : Act State) (log : Log) (events : List Event) (event : ℕ) (pending : Pending) → length log.events ≡ suc (length events)
      → first_pending setting event (Shown one left log) ≡ Some pending
      → (first_pending setting event (first_of setting log left) ≡ Some pending
      → ShownPending step setting (first_of setting log left) (length log.events) event pending)
      → (b : Bool) → (length log.events == event) ≡ b → ShownPending step setting (Shown one left log) (length events) event pending
  by_test one left log events event pending count h rest true t =
      let is : Some one.pending ≡ Some pending = sym (shown_or_left event one left log true t) ∙ h in
      record { steps = []; one = one; shows = now refl; pends = cc; number = grind (arith, nat_tests) }
  by_test one left log events event pending count h rest false t =
      let it = rest (sym (shown_or_left event one left log false t ∙ pends_first setting event log left) ∙ h) in
      let n = it.number in
      record { steps = one ∷ it.steps; one = it.one; shows = later refl it.shows; pends = it.pends; number = omega arith }

  -- what is pending in an act is shown in it
  within_pends : {first : First State} → Within setting first → (events : List Event) → HasEvents setting events first
      → (event : ℕ) (pending : Pending) → first_pending setting event first ≡ Some pending
      → ShownPending step setting first (length events) event pending
  within_pends then_silent events has event pending h = cc
  within_pends then_ended events has event pending h = cc
  within_pends (then_shown {one = one} {left = left} {log = log} rest) events has event pending h =
      by_test one left log events event pending (next_is log events one.event has) h
      (λ g. within_pends rest log.events (adds_first setting log left) event pending g) (length log.events == event) refl

  -- a step after an act that continues is shown after the act's events and others
  within_goes : {first : First State} {next : State} {after : Log} {event : ℕ} {pending : Pending} → Within setting first
      → (events : List Event) → HasEvents setting events first → performed setting first ≡ Continues next after
      → ShownPending step setting (first_of setting after (step next)) (length after.events) event pending
      → ShownPending step setting first (length events) event pending
  within_goes {next = next} {after = after} (then_silent {next = n} {log = l}) events has e it =
      let same : n ≡ next = cc in
      let same_log : l ≡ after = cc in
      let n = it.number in
      let many : length after.events ≡ length events = ap (λ (x : Log). length x.events) (sym same_log) ∙ ap length has in
      record { steps = it.steps; one = it.one; shows = unseen (λ i. Silent (same i) (same_log i)) it.shows; pends = it.pends; number = omega arith }
  within_goes then_ended events has e it = cc
  within_goes (then_shown {one = one} {left = left} {log = log} rest) events has e it =
      let more = within_goes rest log.events (adds_first setting log left) (sym (performs_first setting log left) ∙ e) it in
      let count = next_is log events one.event has in
      let n = more.number in
      record { steps = one ∷ more.steps; one = more.one; shows = later refl more.shows; pends = more.pends; number = omega arith }

  by_way : {m last : State} {log before : Log} {event : ℕ} {pending : Pending} → Leads step setting m log last before
      → pending_in setting before event (step last) ≡ Some pending
      → ShownPending step setting (first_of setting log (step m)) (length log.events) event pending
  by_way {m = m} {log = log} {event = event} {pending = pending} (stays e f) h =
      within_pends (within setting log (step m)) log.events (adds_first setting log (step m)) event pending
      (sym (pends_first setting event log (step m)) ∙ ((λ i. pending_in setting (f i) event (step (e i))) ∙ h))
  by_way {m = m} {log = log} (goes s way) h =
      within_goes (within setting log (step m)) log.events (adds_first setting log (step m)) (sym (performs_first setting log (step m)) ∙ s) (by_way way h)

  -- what is pending at an event is shown after as many steps as there are events before
  pub pending_is_shown : (start : State) {event : ℕ} {pending : Pending} → IsPending step setting start event pending
      → ShownPending step setting (first_of setting empty (step start)) 0 event pending
  pending_is_shown start one = by_way one.leads one.pends
