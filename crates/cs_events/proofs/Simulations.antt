-- If states simulate the states related to them, runs from them have the same outcomes and the same pending operations: from the simulated run
-- to the other one, and back if every run ends.
use Rattle.std.proofs.Common.{◌≡◌, ℕ, Bool, true, false, Some, None, if◌then◌else◌, refl, sym, ap, ◌∙◌, subst}
use Rattle.cs_events.specs.declared.outcome.Outcome.{Outcome}
use Rattle.cs_events.specs.Operations.{is_true}
use Rattle.cs_events.specs.Acts.{Act, Goes}
use Rattle.cs_events.specs.Runs.{Setting, Log, empty, Performed, Continues, Finishes, perform, with_operation, with_allocation, with_access, with_read}
use Rattle.cs_events.specs.Runs.{with_touch, allows_event, read_cell}
use Rattle.cs_events.specs.Runs.{number_of, Leads, stays, goes, EndsFrom}
use Rattle.cs_events.specs.PendingEvents.{Pending, Operates, Tries, Accesses}
use Rattle.cs_events.specs.Pending.{is_next, pending_in, IsPending}
use Rattle.cs_events.specs.Silence.{Ending}
use Rattle.cs_events.specs.Simulation.{Yields, both_go, both_stop, both_read, both_ask, both_allocate, both_reach, both_touch, Answers, alone, together, first}
use Rattle.cs_events.specs.Simulation.{Simulates}
use Rattle.cs_events.proofs.RunLaws.{one_end, left_after}
use Rattle.cs_events.proofs.PendingLaws.{passed_at_end, ended_pends, is_event, one_pending}

module _ {S T : Type 0} (R : S → T → Type 0) (setting : Setting) where
  -- the results of two acts that do the same
  data Alike : Performed S → Performed T → Type 0 where
    both_continue : {s : S} {t : T} {log : Log} → R s t → Alike (Continues s log) (Continues t log)
    both_finish : {outcome : Outcome} {log : Log} → Alike (Finishes outcome log) (Finishes outcome log)

  alike_if : (room : Bool) {a : Performed S} {b : Performed T} (outcome : Outcome) (log : Log) → Alike a b
      → Alike (if room then a else Finishes outcome log) (if room then b else Finishes outcome log)
  alike_if true outcome log same = same
  alike_if false outcome log same = both_finish

  performs_alike : (log : Log) {a : Act S} {b : Act T} → Yields R a b → Alike (perform setting log a) (perform setting log b)
  unfolding perform
  performs_alike log (both_go related) = both_continue related
  performs_alike log both_stop = both_finish
  performs_alike log (both_read {path = path} {kind = kind} same) = performs_alike (with_read log path kind) (same (read_cell setting path kind))
  performs_alike log (both_ask {at = at} {operation = operation} same) =
      alike_if (allows_event setting log) _ log
      (performs_alike (with_operation setting log at operation) (same (number_of setting log operation)))
  performs_alike log (both_allocate {at = at} {path = path} same) =
      alike_if (allows_event setting log) _ log
      (performs_alike (with_allocation setting log at path) (same (is_true (setting.inputs path))))
  performs_alike log (both_reach {at = at} {object = object} {offset = offset} same) =
      alike_if (allows_event setting log) _ log (performs_alike (with_access log at object offset) same)
  performs_alike log (both_touch {touch = touch} same) = performs_alike (with_touch log touch) same

  -- acts that do the same have the same pending operations
  pends_alike : (event : ℕ) (log : Log) {a : Act S} {b : Act T} → Yields R a b → pending_in setting log event b ≡ pending_in setting log event a
  unfolding pending_in
  pends_alike event log (both_go related) = refl
  pends_alike event log both_stop = refl
  pends_alike event log (both_read {path = path} {kind = kind} same) = pends_alike event (with_read log path kind) (same (read_cell setting path kind))
  pends_alike event log (both_ask {at = at} {operation = operation} same) =
      ap (λ rest. if allows_event setting log then (if is_next log event then Some (Operates at operation) else rest) else None)
      (pends_alike event (with_operation setting log at operation) (same (number_of setting log operation)))
  pends_alike event log (both_allocate {at = at} {path = path} same) =
      ap (λ rest. if allows_event setting log then (if is_next log event then Some (Tries at path) else rest) else None)
      (pends_alike event (with_allocation setting log at path) (same (is_true (setting.inputs path))))
  pends_alike event log (both_reach {at = at} {object = object} {offset = offset} same) =
      ap (λ rest. if allows_event setting log then (if is_next log event then Some (Accesses at object offset) else rest) else None)
      (pends_alike event (with_access log at object offset) same)
  pends_alike event log (both_touch {touch = touch} same) = pends_alike event (with_touch log touch) same

  -- if one act continues or finishes, so does one that does the same
  continues_alike : {a : Performed S} {b : Performed T} {s : S} {log : Log} → Alike a b → a ≡ Continues s log
      → (t : T) × (b ≡ Continues t log) × R s t
  continues_alike {s = s} {log = log} (both_continue {s = next} {t = t} {log = later} related) e =
      let same : next ≡ s = cc in
      let same_log : later ≡ log = cc in
      (t, ap (Continues t) same_log, subst (λ x. R x t) same related)
  continues_alike both_finish e = cc

  finishes_alike : {a : Performed S} {b : Performed T} {outcome : Outcome} {log : Log} → Alike a b → a ≡ Finishes outcome log
      → b ≡ Finishes outcome log
  finishes_alike (both_continue related) e = cc
  finishes_alike both_finish e = cc

  module _ (step : S → Act S) (step' : T → Act T) where
    -- the simulating run comes to a related state, whose next act has the property that the other's next act has
    record Comes (At : Log → Act T → Type 0) (t : T) (log : Log) (near : S) (end : Log) : Type 0 where
      last : T
      leads : Leads step' setting t log last end
      here : At end (step' last)
      related : R near last

    module _ (Of : Log → Act S → Type 0) (At : Log → Act T → Type 0) (over : (log : Log) (a : Act S) (b : Act T) → Yields R a b → Of log a
        → At log b) (moved_on : (log : Log) (next : S) → Of log (Goes next) → ⊥) where
      -- after a silent step of the simulating run
      following : {t next : T} {near : S} {log end : Log} → step' t ≡ Goes next → Comes At next log near end → Comes At t log near end
      unfolding perform
      following {t = t} {log = log} e come = record {
        last = come.last;
        leads = goes (ap (perform setting log) e) come.leads;
        here = come.here;
        related = come.related;
      }

      -- if the run is there already
      here_now : {s : S} {t : T} {log : Log} → Of log (step s) → R s t → Answers R step step' s t → Comes At t log s log
      here_now {log = log} it related (alone {next = next} e r) = absurd (moved_on log next (subst (Of log) e it))
      here_now {s = s} {t = t} {log = log} it related (together yields) =
          record { last = t; leads = stays refl refl; here = over log (step s) (step' t) yields it; related = related }
      here_now it related (first e r rest) = following e (here_now it r rest)

      -- if the run continues from its next act
      goes_on : {s next near : S} {t : T} {log later end : Log} → perform setting log (step s) ≡ Continues next later
          → ((t' : T) → R next t' → Comes At t' later near end) → R s t → Answers R step step' s t → Comes At t log near end
      unfolding perform
      goes_on {next = next} {near = near} {t = t} {log = log} {later = later} {end = end} e onward related (alone {next = quiet} q r) =
          let silent : Continues quiet log ≡ Continues next later = sym (ap (perform setting log) q) ∙ e in
          let same : quiet ≡ next = cc in
          let same_log : later ≡ log = cc in
          subst (λ l. Comes At t l near end) same_log (onward t (subst (λ x. R x t) same r))
      goes_on {log = log} e onward related (together yields) =
          let reported = continues_alike (performs_alike log yields) e in
          let come = onward reported.0 reported.2 in
          record { last = come.last; leads = goes reported.1 come.leads; here = come.here; related = come.related }
      goes_on e onward related (first q r rest) = following q (goes_on e onward r rest)

      -- the simulating run follows
      comes_along : Simulates R step step' → {s near : S} {t : T} {log end : Log} → R s t → Leads step setting s log near end → Of end (step near)
          → Comes At t log near end
      comes_along simulates {s = s} {t = t} {log = log} {end = end} related (stays e f) it =
          let here : Of log (step s) = subst (λ l. Of l (step s)) (sym f) (subst (λ x. Of end (step x)) (sym e) it) in
          subst (λ x. Comes At t log x end) e (subst (λ l. Comes At t log s l) f (here_now here related (simulates s t related)))
      comes_along simulates {s = s} {t = t} related (goes e way) it = goes_on e (λ t' r. comes_along simulates r way it) related (simulates s t related)

    -- the last states of two runs are related
    pub record EndsTogether (m : S) (t : T) (log : Log) (outcome : Outcome) (end : Log) (one : EndsFrom step setting m log outcome end) : Type 0 where
      pub other : EndsFrom step' setting t log outcome end
      pub related : R one.last other.last

    -- the simulating run has the same outcome and the same log, and their last states are related
    pub ends_too : Simulates R step step' → {s : S} {t : T} {log end : Log} {outcome : Outcome} → R s t
        → (one : EndsFrom step setting s log outcome end) → EndsTogether s t log outcome end one
    unfolding perform
    ends_too simulates {end = end} {outcome = outcome} related one =
        let come = comes_along (λ log a. perform setting log a ≡ Finishes outcome end) (λ log b. perform setting log b ≡ Finishes outcome end)
        (λ log a b yields it. finishes_alike (performs_alike log yields) it) (λ log next it. cc) simulates related one.leads one.finishes in
        record { other = record { last = come.last; before = one.before; leads = come.leads; finishes = come.here }; related = come.related }

    -- what is pending in a run is pending in the simulating one
    pub pends_too : Simulates R step step' → {s : S} {t : T} {event : ℕ} {pending : Pending} → R s t → IsPending step setting s event pending
        → IsPending step' setting t event pending
    unfolding pending_in
    pends_too simulates {event = event} {pending = pending} related one =
        let come = comes_along (λ log a. pending_in setting log event a ≡ Some pending) (λ log b. pending_in setting log event b ≡ Some pending)
        (λ log a b yields it. pends_alike event log yields ∙ it) (λ log next it. cc) simulates related one.leads one.pends in
        record { last = come.last; before = one.before; leads = come.leads; pends = come.here }

    -- if the simulated run ends, it ends as the simulating one does
    pub ends_back : Simulates R step step' → {s : S} {t : T} {log end : Log} {outcome : Outcome} → R s t → Ending step setting s log
        → EndsFrom step' setting t log outcome end → EndsFrom step setting s log outcome end
    ends_back simulates {s = s} {log = log} related ending other =
        let same = one_end step' setting (ends_too simulates related ending.ended).other other in
        subst (λ o. EndsFrom step setting s log o _) (sym same.0) (subst (λ l. EndsFrom step setting s log ending.outcome l) (sym same.1) ending.ended)

    -- if the simulated run ends, what is pending in the simulating one is pending in it
    pub pends_back : Simulates R step step' → {s : S} {t : T} {event : ℕ} {pending : Pending} → R s t → Ending step setting s empty
        → IsPending step' setting t event pending → IsPending step setting s event pending
    pends_back simulates {s = s} {t = t} {event = event} {pending = pending} related ending other =
        let ended = (ends_too simulates related ending.ended).other in
        let left = left_after step' setting other.leads ended.leads ended.finishes in
        let there = passed_at_end setting event step' pending other.pends left in
        let one = ended_pends setting event step ending.ended (is_event setting event step' t pending other) there in
        let known : IsPending step setting s event one.pending = record { last = one.last; before = one.before; leads = one.leads; pends = one.pends } in
        let same = one_pending setting event step' t pending one.pending other (pends_too simulates related known) in
        subst (IsPending step setting s event) same known
