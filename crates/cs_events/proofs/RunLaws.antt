-- Runs are deterministic, and continue from each state that they come to: for every machine whose steps are acts.
use Rattle.std.proofs.Common.{◌≡◌, ℕ, zero, suc, refl, sym, ◌∙◌, subst}
use Rattle.cs_events.specs.declared.outcome.Outcome.{Outcome}
use Rattle.cs_ast.specs.declared.place.Place.{Place}
use Rattle.cs_model.specs.declared.kind.Kind.{Kind}
use Rattle.cs_events.specs.declared.outcome.Outcome.TheVariants.{Done, Fault, Over}
use Rattle.cs_events.specs.declared.outcome.Returned.{Returned}
use Rattle.cs_events.specs.declared.outcome.Budget.{Budget}
use Rattle.cs_events.specs.Acts.{Act}
use Rattle.cs_events.specs.Runs.{Setting, Log, Performed, Continues, Finishes, perform, Leads, stays, goes, EndsFrom}
use Rattle.cs_events.specs.Counted.{onward, followed}

module _ {State : Type 0} (step : State → Act State) (setting : Setting) where
  -- a path from an equal state and log
  pub moved : {m m' last : State} {log log' end : Log} → m ≡ m' → log ≡ log' → Leads step setting m' log' last end
      → Leads step setting m log last end
  moved {m = m} {last = last} {log' = log'} {end = end} e f way =
      subst (λ l. Leads step setting m l last end) (sym f) (subst (λ x. Leads step setting x log' last end) (sym e) way)

  -- two paths, one after the other
  pub leads_on : {m middle last : State} {log between end : Log} → Leads step setting m log middle between → Leads step setting middle between last end
      → Leads step setting m log last end
  leads_on (stays e f) way = moved e f way
  leads_on (goes s first) way = goes s (leads_on first way)

  -- a path, and the end of the run after it
  pub ends_after : {m middle : State} {log between end : Log} {outcome : Outcome} → Leads step setting m log middle between
      → EndsFrom step setting middle between outcome end → EndsFrom step setting m log outcome end
  ends_after way end = record { last = end.last; before = end.before; leads = leads_on way end.leads; finishes = end.finishes }

  -- a run that ends follows every path of its steps
  pub left_after : {m middle last : State} {log between before end : Log} {outcome : Outcome} → Leads step setting m log middle between
      → Leads step setting m log last before → perform setting before (step last) ≡ Finishes outcome end
      → EndsFrom step setting middle between outcome end
  left_after {last = last} {before = before} (stays e f) way finish =
      record { last = last; before = before; leads = moved (sym e) (sym f) way; finishes = finish }
  left_after (goes s first) (stays e f) finish = cc
  left_after (goes {next = next} {later = later} s first) (goes {next = other} {later = log} s' way) finish =
      let same : other ≡ next = cc in
      let same_log : log ≡ later = cc in
      left_after first (moved (sym same) (sym same_log) way) finish

  -- a state in which the run ends has no other end
  one_finish : {m : State} {log end end' : Log} {outcome outcome' : Outcome} → perform setting log (step m) ≡ Finishes outcome end
      → {last : State} {before : Log} → Leads step setting m log last before → perform setting before (step last) ≡ Finishes outcome' end'
      → (outcome' ≡ outcome) × (end' ≡ end)
  one_finish finish (stays e f) finish' = (cc, cc)
  one_finish finish (goes s way) finish' = cc

  -- a run has one outcome, with one log
  pub one_end : {m : State} {log end end' : Log} {outcome outcome' : Outcome} → EndsFrom step setting m log outcome end
      → EndsFrom step setting m log outcome' end' → (outcome' ≡ outcome) × (end' ≡ end)
  one_end one other =
      let left = left_after one.leads other.leads other.finishes in
      one_finish one.finishes left.leads left.finishes

  -- a run that ends in its next act, or after it
  ends_onward : {m : State} {log end : Log} {outcome : Outcome} (follow : State → Log → Performed State)
      → ((next : State) (later : Log) → follow next later ≡ Finishes outcome end → EndsFrom step setting next later outcome end)
      → (done : Performed State) → perform setting log (step m) ≡ done → onward follow done ≡ Finishes outcome end
      → EndsFrom step setting m log outcome end
  ends_onward follow rest (Continues next later) e h =
      let end = rest next later h in
      record { last = end.last; before = end.before; leads = goes e end.leads; finishes = end.finishes }
  ends_onward {m = m} {log = log} follow rest (Finishes outcome later) e h = record { last = m; before = log; leads = stays refl refl; finishes = e ∙ h }

  -- a run that has ended after so many steps has this outcome
  pub ends_by : (steps : ℕ) (m : State) (log end : Log) (outcome : Outcome) → followed step setting steps m log ≡ Finishes outcome end
      → EndsFrom step setting m log outcome end
  ends_by zero m log end outcome h = cc
  ends_by (suc steps) m log end outcome h =
      ends_onward (followed step setting steps) (λ next later. ends_by steps next later end outcome) (perform setting log (step m)) refl h

  -- a run ends in only one of: done, a fault, and an exceeded budget
  pub done_or_fault : {m : State} {log end end' : Log} {returned : Returned} {kind : Kind} {at : Place} → EndsFrom step setting m log (Done returned) end
      → EndsFrom step setting m log (Fault kind at) end' → ⊥
  done_or_fault one other =
      let same = (one_end one other).0 in
      absurd (cc)

  pub done_or_over : {m : State} {log end end' : Log} {returned : Returned} {budget : Budget} {at : Place} → EndsFrom step setting m log (Done returned) end
      → EndsFrom step setting m log (Over budget at) end' → ⊥
  done_or_over one other =
      let same = (one_end one other).0 in
      absurd (cc)

  pub fault_or_over : {m : State} {log end end' : Log} {kind : Kind} {budget : Budget} {at at' : Place} → EndsFrom step setting m log (Fault kind at) end
      → EndsFrom step setting m log (Over budget at') end' → ⊥
  fault_or_over one other =
      let same = (one_end one other).0 in
      absurd (cc)
