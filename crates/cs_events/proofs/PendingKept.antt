-- A log records at each event what was pending there.
use Rattle.std.proofs.Common.{◌≡◌, ℕ, zero, suc, ◌<◌, ◌≤◌, ◌≢◌, nat_lt, Bool, true, false, List, [], ◌∷◌, ◌++◌, Option, Some}
use Rattle.std.proofs.Common.{None, length, slice_get, if◌then◌else◌, inl, inr, refl, sym, ap, ◌∙◌, subst, arith}
use Rattle.std.proofs.lemmas.Bool.Decides.{nat_tests}
use Rattle.std.proofs.lemmas.List.{length-append}
use Rattle.cs_events.specs.declared.event.Event.{Event}
use Rattle.cs_events.specs.declared.input.InputKind.TheVariants.{Allocation}
use Rattle.cs_events.specs.declared.outcome.Outcome.{Outcome}
use Rattle.cs_events.specs.Operations.{is_true}
use Rattle.cs_events.specs.Acts.{Act, Goes, Stops, Reads, Asks, Allocates, Reaches, Touches}
use Rattle.cs_events.specs.PendingEvents.{Pending, Operates, Tries, Accesses}
use Rattle.cs_events.specs.Runs.{Setting, Log, Performed, Continues, Finishes, perform, with_event, with_operation, with_allocation, with_access}
use Rattle.cs_events.specs.Runs.{with_read, with_touch, allows_event, operation_event, allocation_event, access_event, number_of, read_cell, Leads, stays, goes}
use Rattle.cs_events.specs.Runs.{ComesTo}
use Rattle.cs_events.specs.Pending.{is_next, pending_in, IsPending}
use Rattle.cs_events.specs.Growth.{GoesOn, log_of}
use Rattle.cs_events.proofs.LogGrowth.{act_adds, way_adds, end_adds}

-- as many pending operations as events
abbrev IsEven : Log → Type 0
IsEven log = length log.pending ≡ length log.events

-- one more of each
even_with : (log : Log) (here : Pending) (event : Event) → IsEven log → IsEven (with_event log here event)
even_with log here event even =
    let a = length-append log.pending (here ∷ []) in
    let b = length-append log.events (event ∷ []) in
    omega arith

-- an element at the end of a list, and the elements before it
last_item : {A : Type 0} (xs more : List A) (x : A) → slice_get ((xs ++ x ∷ []) ++ more) (length xs) ≡ Some x
last_item [] more x = refl
last_item (y ∷ ys) more x = last_item ys more x

earlier_item : {A : Type 0} (xs more : List A) (n : ℕ) → n < length xs → slice_get (xs ++ more) n ≡ slice_get xs n
earlier_item [] more n h = absurd (omega arith)
earlier_item (y ∷ ys) more zero h = refl
earlier_item (y ∷ ys) more (suc n) h = earlier_item ys more n (omega arith)

-- an index at which an element is found is below the length
is_there : {A : Type 0} (xs : List A) (n : ℕ) (x : A) → slice_get xs n ≡ Some x → n < length xs
is_there [] n x h = cc
is_there (y ∷ ys) zero x h = omega arith
is_there (y ∷ ys) (suc n) x h = let a = is_there ys n x h in omega arith

-- what was recorded remains
kept_on : (log later : Log) (n : ℕ) → GoesOn log later → n < length log.pending → slice_get later.pending n ≡ slice_get log.pending n
kept_on log later n more h = ap (λ l. slice_get l n) more.pending.1 ∙ earlier_item log.pending more.pending.0 n h

-- what is recorded for the next event
kept_next : (log later : Log) (here : Pending) (event : Event) → IsEven log → GoesOn (with_event log here event) later
    → slice_get later.pending (length log.events) ≡ Some here
kept_next log later here event even more =
    ap (λ l. slice_get l (length log.events)) more.pending.1
    ∙ subst (λ n. slice_get ((log.pending ++ here ∷ []) ++ more.pending.0) n ≡ Some here) even (last_item log.pending more.pending.0 here)

module _ {State : Type 0} (setting : Setting) where
  even_if : (room : Bool) (log : Log) (outcome : Outcome) (done : Performed State) → IsEven log → IsEven (log_of done)
      → IsEven (log_of (if room then done else Finishes outcome log))
  even_if true log outcome done one other = other
  even_if false log outcome done one other = one

  -- an act records what was pending at each of its events
  act_even : (log : Log) (act : Act State) → IsEven log → IsEven (log_of (perform setting log act))
  unfolding perform
  act_even log (Goes next) even = even
  act_even log (Stops outcome) even = even
  act_even log (Reads path kind onward) even = act_even (with_read log path kind) (onward (read_cell setting path kind)) even
  act_even log (Asks at operation onward) even =
      even_if (allows_event setting log) log _ _ even
      (act_even (with_operation setting log at operation) (onward (number_of setting log operation)) (even_with log (Operates at operation) _ even))
  act_even log (Allocates at path onward) even =
      even_if (allows_event setting log) log _ _ even
      (act_even (with_allocation setting log at path) (onward (is_true (setting.inputs path)))
      (even_with (with_read log path Allocation) (Tries at path) _ even))
  act_even log (Reaches at object offset act) even =
      even_if (allows_event setting log) log _ _ even
      (act_even (with_access log at object offset) act (even_with log (Accesses at object offset) _ even))
  act_even log (Touches touch act) even = act_even (with_touch log touch) act even

  -- what is recorded for the event that is next here, or for a later one
  kept_after : (log end : Log) (here : Pending) (shown : Event) (rest : Option Pending) (outcome : Outcome) (done : Performed State) (n : ℕ) (room now : Bool)
      → is_next log (suc n) ≡ now → IsEven log → length end.events ≡ length log.events → length log.events ≤ n
      → n < length (log_of (if room then done else Finishes outcome end)).events → GoesOn (with_event log here shown) (log_of done)
      → (length (with_event log here shown).events ≤ n → n < length (log_of done).events → slice_get (log_of done).pending n ≡ rest)
      → slice_get (log_of (if room then done else Finishes outcome end)).pending n ≡ (if room then (if now then Some here else rest) else None)
  kept_after log end here shown rest outcome done n true true next even same_end before after more later =
      let same : length log.events ≡ n = grind (arith, nat_tests) in
      subst (λ k. slice_get (log_of done).pending k ≡ Some here) same (kept_next log (log_of done) here shown even more)
  kept_after log end here shown rest outcome done n true false next even same_end before after more later =
      let a = length-append log.events (shown ∷ []) in
      let b : suc (length log.events) ≢ suc n = grind (arith, nat_tests) in
      later (omega arith) after
  kept_after log end here shown rest outcome done n false now next even same_end before after more later = absurd (omega arith)

  act_keeps : (log : Log) (act : Act State) (n : ℕ) → IsEven log → length log.events ≤ n → n < length (log_of (perform setting log act)).events
      → slice_get (log_of (perform setting log act)).pending n ≡ pending_in setting log (suc n) act
  unfolding perform pending_in
  act_keeps log (Goes next) n even before after = absurd (omega arith)
  act_keeps log (Stops outcome) n even before after = absurd (omega arith)
  act_keeps log (Reads path kind onward) n even before after =
      act_keeps (with_read log path kind) (onward (read_cell setting path kind)) n even before after
  act_keeps log (Asks at operation onward) n even before after =
      kept_after log log (Operates at operation) (operation_event setting log at operation) _ _ _ n (allows_event setting log) (is_next log (suc n)) refl even
      refl
      before
      after (act_adds setting (with_operation setting log at operation) (onward (number_of setting log operation)))
      (act_keeps (with_operation setting log at operation) (onward (number_of setting log operation)) n (even_with log (Operates at operation) _ even))
  act_keeps log (Allocates at path onward) n even before after =
      kept_after (with_read log path Allocation) log (Tries at path) (allocation_event setting at path) _ _ _ n (allows_event setting log) (is_next log (suc n))
      refl
      even refl before after (act_adds setting (with_allocation setting log at path) (onward (is_true (setting.inputs path))))
      (act_keeps (with_allocation setting log at path) (onward (is_true (setting.inputs path))) n
      (even_with (with_read log path Allocation) (Tries at path) _ even))
  act_keeps log (Reaches at object offset act) n even before after =
      kept_after log log (Accesses at object offset) (access_event at offset) _ _ _ n (allows_event setting log) (is_next log (suc n)) refl even refl before
      after
      (act_adds setting (with_access log at object offset) act)
      (act_keeps (with_access log at object offset) act n (even_with log (Accesses at object offset) _ even))
  act_keeps log (Touches touch act) n even before after = act_keeps (with_touch log touch) act n even before after

  module _ (step : State → Act State) where
    -- what is pending at an event of a run from a state and a log
    record PendsFrom (m : State) (log : Log) (event : ℕ) (pending : Pending) : Type 0 where
      last : State
      before : Log
      leads : Leads step setting m log last before
      pends : pending_in setting before event (step last) ≡ Some pending

    -- after a step
    next_pends : {m next : State} {log later : Log} {event : ℕ} {pending : Pending} → perform setting log (step m) ≡ Continues next later
        → PendsFrom next later event pending → PendsFrom m log event pending
    next_pends s it = record { last = it.last; before = it.before; leads = goes s it.leads; pends = it.pends }

    -- the events of a step
    step_pends : (m : State) (log end : Log) (done : Performed State) (n : ℕ) (pending : Pending) → perform setting log (step m) ≡ done
        → log_of done ≡ end
        → IsEven log → length log.events ≤ n → n < length end.events → slice_get end.pending n ≡ Some pending → PendsFrom m log (suc n) pending
    step_pends m log end done n pending e f even before after h =
        let same : log_of (perform setting log (step m)) ≡ end = ap log_of e ∙ f in
        let there : n < length (log_of (perform setting log (step m))).events = subst (λ l. n < length l.events) (sym same) after in
        let kept : slice_get (log_of (perform setting log (step m))).pending n ≡ Some pending =
        subst (λ l. slice_get l.pending n ≡ Some pending) (sym same) h in
        record { last = m; before = log; leads = stays refl refl; pends = sym (act_keeps log (step m) n even before there) ∙ kept }

    even_after : (m : State) (log end : Log) (done : Performed State) → perform setting log (step m) ≡ done → log_of done ≡ end → IsEven log
        → IsEven end
    even_after m log end done e f even = subst IsEven (ap log_of e ∙ f) (act_even log (step m) even)

    -- the event is passed in the next step, or later
    soon_or_later : {m next : State} {log later : Log} (end : Log) (n : ℕ) (pending : Pending) → perform setting log (step m) ≡ Continues next later
        → IsEven log → GoesOn later end → length log.events ≤ n → (now : Bool) → nat_lt n (length later.events) ≡ now
        → slice_get end.pending n ≡ Some pending → (length later.events ≤ n → PendsFrom next later (suc n) pending)
        → PendsFrom m log (suc n) pending
    soon_or_later {m = m} {next = next} {log = log} {later = later} end n pending s even more before true r h rest =
        let after : n < length later.events = grind (arith, nat_tests) in
        let same : length later.pending ≡ length later.events = even_after m log later (Continues next later) s refl even in
        let kept = kept_on later end n more (omega arith) in
        step_pends m log later (Continues next later) n pending s refl even before after (sym kept ∙ h)
    soon_or_later end n pending s even more before false r h rest = next_pends s (rest (grind (arith, nat_tests)))

    -- on the way of a run
    way_pends : {m last : State} {log end : Log} (n : ℕ) (pending : Pending) → Leads step setting m log last end → IsEven log → length log.events ≤ n
        → n < length end.events → slice_get end.pending n ≡ Some pending → PendsFrom m log (suc n) pending
    way_pends {log = log} {end = end} n pending (stays e f) even before after h =
        let same : length log.events ≡ length end.events = ap (λ l. length l.events) f in
        absurd (omega arith)
    way_pends {m = m} {log = log} {end = end} n pending (goes {next = next} {later = later} s way) even before after h =
        soon_or_later end n pending s even (way_adds step setting way) before (nat_lt n (length later.events)) refl h
        (λ still. way_pends n pending way (even_after m log later (Continues next later) s refl even) still after h)

    -- at its end
    end_pends : {m last : State} {log before end : Log} {outcome : Outcome} (n : ℕ) (pending : Pending) → Leads step setting m log last before
        → perform setting before (step last) ≡ Finishes outcome end → IsEven log → length log.events ≤ n → n < length end.events
        → slice_get end.pending n ≡ Some pending → PendsFrom m log (suc n) pending
    end_pends {m = m} {log = log} {end = end} {outcome = outcome} n pending (stays e f) finish even before after h =
        step_pends m log end (Finishes outcome end) n pending ((λ i. perform setting (f i) (step (e i))) ∙ finish) refl even before after h
    end_pends {m = m} {last = last} {log = log} {before = middle} {end = end} n pending (goes {next = next} {later = later} s way) finish even before after h =
        soon_or_later end n pending s even
        (end_adds step setting (record { last = last; before = middle; leads = way; finishes = finish })) before (nat_lt n (length later.events)) refl h
        (λ still. end_pends n pending way finish (even_after m log later (Continues next later) s refl even) still after h)

    -- a run records as many pending operations as events
    way_even : {m last : State} {log end : Log} → Leads step setting m log last end → IsEven log → IsEven end
    way_even (stays e f) even = subst IsEven f even
    way_even {m = m} {log = log} (goes {next = next} {later = later} s way) even =
        way_even way (even_after m log later (Continues next later) s refl even)

    pub all_kept : {start : State} {log : Log} → ComesTo step setting start log → length log.pending ≡ length log.events
    all_kept (inl way) = way_even way.1 refl
    all_kept {log = log} (inr ended) =
        even_after ended.1.last ended.1.before log (Finishes ended.0 log) ended.1.finishes refl (way_even ended.1.leads refl)

    -- what a run records for its n-th event was pending there
    pub kept_is_pending : {start : State} {log : Log} (n : ℕ) (pending : Pending) → ComesTo step setting start log
        → slice_get log.pending n ≡ Some pending
        → IsPending step setting start (suc n) pending
    kept_is_pending {log = log} n pending (inl way) h =
        let even = all_kept (inl way) in
        let there = is_there log.pending n pending h in
        let it = way_pends n pending way.1 refl (omega arith) (omega arith) h in
        record { last = it.last; before = it.before; leads = it.leads; pends = it.pends }
    kept_is_pending {log = log} n pending (inr ended) h =
        let even = all_kept (inr ended) in
        let there = is_there log.pending n pending h in
        let it = end_pends n pending ended.1.leads ended.1.finishes refl (omega arith) (omega arith) h in
        record { last = it.last; before = it.before; leads = it.leads; pends = it.pends }
