-- What is pending at an event is unique: a run comes to an event only once.
use Rattle.std.proofs.Common.{◌≡◌, ℕ, suc, ◌+◌, ◌<◌, ◌≤◌, nat_le, ◌≢◌, Bool, true, false, [], ◌∷◌, ◌++◌, Option, Some}
use Rattle.std.proofs.Common.{None, unwrap_or, length, if◌then◌else◌, refl, sym, ap, ◌∙◌, arith}
use Rattle.std.proofs.lemmas.Bool.Decides.{nat_tests}
use Rattle.std.proofs.lemmas.List.{length-append}
use Rattle.cs_events.specs.declared.event.Event.{Event}
use Rattle.cs_events.specs.declared.outcome.Outcome.{Outcome}
use Rattle.cs_events.specs.Operations.{is_true}
use Rattle.cs_events.specs.Acts.{Act, Goes, Stops, Reads, Asks, Allocates, Reaches, Touches}
use Rattle.cs_events.specs.Runs.{Setting, Log, Performed, Continues, Finishes, perform, with_event, with_operation, with_allocation, with_access, with_read}
use Rattle.cs_events.specs.Runs.{with_touch, allows_event, operation_event, number_of, read_cell}
use Rattle.cs_events.specs.Runs.{allocation_event, access_event, Leads, stays, goes, EndsFrom}
use Rattle.cs_events.specs.PendingEvents.{Pending, Operates, Tries, Accesses}
use Rattle.cs_events.specs.declared.input.InputKind.TheVariants.{Allocation}
use Rattle.cs_events.specs.Pending.{is_next, pending_in, IsPending}
use Rattle.cs_events.specs.Growth.{GoesOn, log_of}
use Rattle.cs_events.proofs.RunLaws.{moved}
use Rattle.cs_events.proofs.LogGrowth.{act_adds, way_adds, end_adds}

-- the number of events of a log
abbrev passed : Log → ℕ
passed log = length log.events

-- a log that extends another has no fewer events
as_many : (log later : Log) → GoesOn log later → passed log ≤ passed later
as_many log later more =
    let a : length later.events ≡ length (log.events ++ more.events.0) = ap length more.events.1 in
    let b = length-append log.events more.events.0 in
    omega arith

-- with one more event there is one more
one_more : (log : Log) (here : Pending) (event : Event) → passed (with_event log here event) ≡ passed log + 1
one_more log here event = length-append log.events (event ∷ [])

-- the shown event, and one that is pending after it, weren't passed before
before_event : (event : ℕ) (log : Log) (shown : Event) (here pending : Pending) (rest : Option Pending) (room next : Bool) → is_next log event ≡ next
    → (rest ≡ Some pending → passed (with_event log here shown) < event) → (if room then (if next then Some here else rest) else None) ≡ Some pending
    → passed log < event
before_event event log shown here pending rest true true n following h = grind (arith, nat_tests)
before_event event log shown here pending rest true false n following h =
    let a = following h in
    let b = one_more log here shown in
    omega arith
before_event event log shown here pending rest false next n following h = cc

module _ {State : Type 0} (setting : Setting) (event : ℕ) where
  -- a pending event wasn't passed yet
  not_passed : (log : Log) (act : Act State) (pending : Pending) → pending_in setting log event act ≡ Some pending → passed log < event
  unfolding pending_in
  not_passed log (Goes next) pending h = cc
  not_passed log (Stops outcome) pending h = cc
  not_passed log (Reads path kind onward) pending h = not_passed (with_read log path kind) (onward (read_cell setting path kind)) pending h
  not_passed log (Asks at operation onward) pending h =
      before_event event log (operation_event setting log at operation) (Operates at operation) pending
      (pending_in setting (with_operation setting log at operation) event (onward (number_of setting log operation)))
      (allows_event setting log) (is_next log event) refl
      (λ g. not_passed (with_operation setting log at operation) (onward (number_of setting log operation)) pending g) h
  not_passed log (Allocates at path onward) pending h =
      before_event event log (allocation_event setting at path) (Tries at path) pending
      (pending_in setting (with_allocation setting log at path) event (onward (is_true (setting.inputs path))))
      (allows_event setting log) (is_next log event) refl
      (λ g. not_passed (with_allocation setting log at path) (onward (is_true (setting.inputs path))) pending g) h
  not_passed log (Reaches at object offset act) pending h =
      before_event event log (access_event at offset) (Accesses at object offset) pending
      (pending_in setting (with_access log at object offset) event act) (allows_event setting log) (is_next log event) refl
      (λ g. not_passed (with_access log at object offset) act pending g) h
  not_passed log (Touches touch act) pending h = not_passed (with_touch log touch) act pending h

  -- the shown event, and one that is pending after it, are passed
  following_event : (log : Log) (shown : Event) (here pending : Pending) (rest : Option Pending) (outcome : Outcome) (done : Performed State) (room now : Bool)
      → is_next log event ≡ now → passed log + 1 ≤ passed (log_of done) → (rest ≡ Some pending → event ≤ passed (log_of done))
      → (if room then (if now then Some here else rest) else None) ≡ Some pending
      → event ≤ passed (log_of (if room then done else Finishes outcome log))
  following_event log shown here pending rest outcome done true true n more following h =
      let b : suc (passed log) ≡ event = grind (arith, nat_tests) in
      omega arith
  following_event log shown here pending rest outcome done true false n more following h = following h
  following_event log shown here pending rest outcome done false now n more following h = cc

  -- the event of an act is passed at its end
  one_more_passed : (log log' : Log) (here : Pending) (shown : Event) (act : Act State) → passed log' ≡ passed log
      → passed log + 1 ≤ passed (log_of (perform setting (with_event log' here shown) act))
  one_more_passed log log' here shown act same =
      let a = as_many (with_event log' here shown) (log_of (perform setting (with_event log' here shown) act))
      (act_adds setting (with_event log' here shown) act) in
      let b = one_more log' here shown in
      omega arith

  -- a pending event is passed in the act
  is_passed : (log : Log) (act : Act State) (pending : Pending) → pending_in setting log event act ≡ Some pending
      → event ≤ passed (log_of (perform setting log act))
  unfolding pending_in perform
  is_passed log (Goes n) pending h = cc
  is_passed log (Stops outcome) pending h = cc
  is_passed log (Reads path kind onward) pending h = is_passed (with_read log path kind) (onward (read_cell setting path kind)) pending h
  is_passed log (Asks at operation onward) pending h =
      following_event log (operation_event setting log at operation) (Operates at operation) pending
      (pending_in setting (with_operation setting log at operation) event (onward (number_of setting log operation))) _
      (perform setting (with_operation setting log at operation) (onward (number_of setting log operation))) (allows_event setting log)
      (is_next log event) refl
      (one_more_passed log log (Operates at operation) (operation_event setting log at operation) (onward (number_of setting log operation)) refl)
      (λ g. is_passed (with_operation setting log at operation) (onward (number_of setting log operation)) pending g) h
  is_passed log (Allocates at path onward) pending h =
      following_event log (allocation_event setting at path) (Tries at path) pending
      (pending_in setting (with_allocation setting log at path) event (onward (is_true (setting.inputs path)))) _
      (perform setting (with_allocation setting log at path) (onward (is_true (setting.inputs path)))) (allows_event setting log)
      (is_next log event) refl
      (one_more_passed log (with_read log path Allocation) (Tries at path) (allocation_event setting at path) (onward (is_true (setting.inputs path))) refl)
      (λ g. is_passed (with_allocation setting log at path) (onward (is_true (setting.inputs path))) pending g) h
  is_passed log (Reaches at object offset act) pending h =
      following_event log (access_event at offset) (Accesses at object offset) pending (pending_in setting (with_access log at object offset) event act)
      _
      (perform setting (with_access log at object offset) act) (allows_event setting log) (is_next log event) refl
      (one_more_passed log log (Accesses at object offset) (access_event at offset) act refl)
      (λ g. is_passed (with_access log at object offset) act pending g) h
  is_passed log (Touches touch act) pending h = is_passed (with_touch log touch) act pending h

  -- an event that is passed is the shown one, or was pending after it
  pending_after : (log : Log) (shown : Event) (here : Pending) (rest : Option Pending) (outcome : Outcome) (done : Performed State) (room now : Bool)
      → is_next log event ≡ now → passed log < event → event ≤ passed (log_of (if room then done else Finishes outcome log))
      → (passed (with_event log here shown) < event → event ≤ passed (log_of done) → (pending : Pending) × (rest ≡ Some pending))
      → (pending : Pending) × ((if room then (if now then Some here else rest) else None) ≡ Some pending)
  pending_after log shown here rest outcome done true true n before after following = (here, refl)
  pending_after log shown here rest outcome done true false n before after following =
      let a = one_more log here shown in
      let b : suc (passed log) ≢ event = grind (arith, nat_tests) in
      following (omega arith) after
  pending_after log shown here rest outcome done false now n before after following = absurd (omega arith)

  -- an event that an act passes was pending in it
  was_pending : (log : Log) (act : Act State) → passed log < event → event ≤ passed (log_of (perform setting log act))
      → (pending : Pending) × (pending_in setting log event act ≡ Some pending)
  unfolding pending_in perform
  was_pending log (Goes n) before after = absurd (omega arith)
  was_pending log (Stops outcome) before after = absurd (omega arith)
  was_pending log (Reads path kind onward) before after = was_pending (with_read log path kind) (onward (read_cell setting path kind)) before after
  was_pending log (Asks at operation onward) before after =
      pending_after log (operation_event setting log at operation) (Operates at operation)
      (pending_in setting (with_operation setting log at operation) event (onward (number_of setting log operation))) _
      (perform setting (with_operation setting log at operation) (onward (number_of setting log operation))) (allows_event setting log)
      (is_next log event) refl before after
      (λ b a. was_pending (with_operation setting log at operation) (onward (number_of setting log operation)) b a)
  was_pending log (Allocates at path onward) before after =
      pending_after log (allocation_event setting at path) (Tries at path)
      (pending_in setting (with_allocation setting log at path) event (onward (is_true (setting.inputs path)))) _
      (perform setting (with_allocation setting log at path) (onward (is_true (setting.inputs path)))) (allows_event setting log)
      (is_next log event) refl before after
      (λ b a. was_pending (with_allocation setting log at path) (onward (is_true (setting.inputs path))) b a)
  was_pending log (Reaches at object offset act) before after =
      pending_after log (access_event at offset) (Accesses at object offset) (pending_in setting (with_access log at object offset) event act) _
      (perform setting (with_access log at object offset) act) (allows_event setting log) (is_next log event) refl before after
      (λ b a. was_pending (with_access log at object offset) act b a)
  was_pending log (Touches touch act) before after = was_pending (with_touch log touch) act before after

  module _ (step : State → Act State) where
    -- after an act in which an event was pending, it isn't pending any more
    gone_by : (m next last : State) (log later before : Log) (one other : Pending) → pending_in setting log event (step m) ≡ Some one
        → perform setting log (step m) ≡ Continues next later → Leads step setting next later last before
        → pending_in setting before event (step last) ≡ Some other → ⊥
    gone_by m next last log later before one other h e way g =
        let a = is_passed log (step m) one h in
        let d : passed (log_of (perform setting log (step m))) ≡ passed later = ap (λ p. passed (log_of p)) e in
        let b = not_passed before (step last) other g in
        let c = as_many later before (way_adds step setting way) in
        absurd (omega arith)

    -- what is pending at the end of an empty path is pending at its beginning
    at_start : (m last : State) (log before : Log) (pending : Pending) → m ≡ last → log ≡ before
        → pending_in setting before event (step last) ≡ Some pending → pending_in setting log event (step m) ≡ Some pending
    at_start m last log before pending e f h = (λ i. pending_in setting (f i) event (step (e i))) ∙ h

    -- what is pending at the ends of two paths from one state is the same
    pending_at : {m last last' : State} {log before before' : Log} (one other : Pending) → Leads step setting m log last before
        → Leads step setting m log last' before' → pending_in setting before event (step last) ≡ Some one
        → pending_in setting before' event (step last') ≡ Some other → other ≡ one
    pending_at {m = m} {last = last} {last' = last'} {log = log} {before = before} {before' = before'} one other (stays e f) (stays e' f') h g =
        let a = at_start m last log before one e f h in
        let b = at_start m last' log before' other e' f' g in
        ap (λ o. unwrap_or o one) (sym b ∙ a)
    pending_at {m = m} {last = last} {last' = last'} {log = log} {before = before} {before' = before'} one other (stays e f)
        (goes {next = next} {later = later} s way) h g =
        absurd (gone_by m next last' log later before' one other (at_start m last log before one e f h) s way g)
    pending_at {m = m} {last = last} {last' = last'} {log = log} {before = before} {before' = before'} one other (goes {next = next} {later = later} s way)
        (stays e f) h g =
        absurd (gone_by m next last log later before other one (at_start m last' log before' other e f g) s way h)
    pending_at one other (goes {next = next} {later = later} s way) (goes {next = next'} {later = later'} s' way') h g =
        let same : next' ≡ next = cc in
        let same_log : later' ≡ later = cc in
        pending_at one other way (moved step setting (sym same) (sym same_log) way') h g

    -- what is pending at an event is unique
    pub one_pending : (start : State) (one other : Pending) → IsPending step setting start event one → IsPending step setting start event other
        → other ≡ one
    one_pending start one other p q = pending_at one other p.leads q.leads p.pends q.pends

    -- something is pending at an event of a run from a state and a log
    pub record Pends (m : State) (log : Log) : Type 0 where
      pub last : State
      pub before : Log
      pub pending : Pending
      pub leads : Leads step setting m log last before
      pub pends : pending_in setting before event (step last) ≡ Some pending

    -- an event that a step passes was pending in it, whatever its result is
    pends_now : (m : State) (log end : Log) (done : Performed State) → perform setting log (step m) ≡ done → log_of done ≡ end → passed log < event
        → event ≤ passed end → Pends m log
    pends_now m log end done e f before after =
        let a : passed (log_of (perform setting log (step m))) ≡ passed end = ap passed (ap log_of e ∙ f) in
        let it = was_pending log (step m) before (omega arith) in
        record { last = m; before = log; pending = it.0; leads = stays refl refl; pends = it.1 }

    -- the event is passed in the next step, or later
    pends_soon : (m next : State) (log later : Log) → perform setting log (step m) ≡ Continues next later → passed log < event
        → (reached : Bool) → nat_le event (passed later) ≡ reached → (passed later < event → Pends next later) → Pends m log
    pends_soon m next log later e before true r rest = pends_now m log later (Continues next later) e refl before (grind (arith, nat_tests))
    pends_soon m next log later e before false r rest =
        let it = rest (grind (arith, nat_tests)) in
        record { last = it.last; before = it.before; pending = it.pending; leads = goes e it.leads; pends = it.pends }

    -- each event that a run passes was pending
    pends_before : {m last : State} {log before end : Log} {outcome : Outcome} → Leads step setting m log last before
        → perform setting before (step last) ≡ Finishes outcome end → passed log < event → event ≤ passed end → Pends m log
    pends_before {m = m} {log = log} {end = end} {outcome = outcome} (stays e f) finish following after =
        pends_now m log end (Finishes outcome end) ((λ i. perform setting (f i) (step (e i))) ∙ finish) refl following after
    pends_before {m = m} {log = log} (goes {next = next} {later = later} s way) finish following after =
        pends_soon m next log later s following (nat_le event (passed later)) refl (λ still. pends_before way finish still after)

    -- the events of a run that ends were pending
    pub ended_pends : {m : State} {log end : Log} {outcome : Outcome} → EndsFrom step setting m log outcome end → passed log < event
        → event ≤ passed end → Pends m log
    ended_pends one before after = pends_before one.leads one.finishes before after

    -- a pending event is passed before the run ends
    passed_by_way : {m last : State} {log before end : Log} {outcome : Outcome} (pending : Pending) → pending_in setting log event (step m) ≡ Some pending
        → Leads step setting m log last before → perform setting before (step last) ≡ Finishes outcome end → event ≤ passed end
    passed_by_way {m = m} {log = log} {end = end} {outcome = outcome} pending h (stays e f) finish =
        let a = is_passed log (step m) pending h in
        let b : passed (log_of (perform setting log (step m))) ≡ passed end =
        ap (λ p. passed (log_of p)) ((λ i. perform setting (f i) (step (e i))) ∙ finish) in
        omega arith
    passed_by_way {m = m} {last = last} {log = log} {before = before} {end = end} {outcome = outcome} pending h (goes {later = later} s way) finish =
        let a = is_passed log (step m) pending h in
        let b : passed (log_of (perform setting log (step m))) ≡ passed later = ap (λ p. passed (log_of p)) s in
        let rest : EndsFrom step setting _ later outcome end = record { last = last; before = before; leads = way; finishes = finish } in
        let c = as_many later end (end_adds step setting rest) in
        omega arith

    pub passed_at_end : {m : State} {log end : Log} {outcome : Outcome} (pending : Pending) → pending_in setting log event (step m) ≡ Some pending
        → EndsFrom step setting m log outcome end → event ≤ passed end
    passed_at_end pending h one = passed_by_way pending h one.leads one.finishes

    -- events are numbered from 1
    pub is_event : (start : State) (pending : Pending) → IsPending step setting start event pending → 0 < event
    is_event start pending one =
        let a = not_passed one.before (step one.last) pending one.pends in
        omega arith
