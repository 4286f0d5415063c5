-- How many steps the run of placed code has, and how many remain: for the loop of `follow`.
use Rattle.std.proofs.Common.{◌≡◌, ℕ, zero, suc, ◌≤◌, refl, sym, ap, ◌∙◌, subst, arith}
use Rattle.cs_events.specs.Acts.{Act}
use Rattle.cs_events.specs.Runs.{Setting, Log, Performed, Continues, Finishes, perform, Leads, stays, goes, EndsFrom}
use Rattle.cs_events.specs.declared.outcome.Outcome.{Outcome}
use Rattle.cs_replay.specs.RunLengths.{HasLeft, HasLength}

module _ {State : Type 0} (step : State → Act State) (setting : Setting) where
  -- the remaining steps, counted up to a number
  abbrev pub counted : ℕ → Performed State → ℕ
  counted zero done = zero
  counted (suc most) (Finishes outcome log) = zero
  counted (suc most) (Continues next log) = suc (counted most (perform setting log (step next)))

  -- the count is the number of remaining steps, if it isn't greater than that number
  pub counts_left : (steps most : ℕ) (done : Performed State) → steps ≤ most → HasLeft step setting steps done → counted most done ≡ steps
  counts_left zero zero done few left = refl
  counts_left (suc steps) zero done few left = absurd (omega arith)
  counts_left zero (suc most) (Finishes outcome log) few left = refl
  counts_left zero (suc most) (Continues next log) few left = absurd left
  counts_left (suc steps) (suc most) (Finishes outcome log) few left = absurd left
  counts_left (suc steps) (suc most) (Continues next log) few left = ap suc (counts_left steps most (perform setting log (step next)) (omega arith) left)

  -- after an act that continues, a run has one step less
  pub record OneLess (steps : ℕ) (next : State) (later : Log) : Type 0 where
    pub fewer : ℕ
    pub one_more : steps ≡ suc fewer
    pub left : HasLeft step setting fewer (perform setting later (step next))

  pub one_less : (steps : ℕ) (done : Performed State) (next : State) (later : Log) → done ≡ Continues next later → HasLeft step setting steps done
      → OneLess steps next later
  one_less zero (Finishes outcome log) next later e left = cc
  one_less (suc steps) (Finishes outcome log) next later e left = cc
  one_less zero (Continues other log) next later e left = absurd left
  one_less (suc steps) (Continues other log) next later e left =
      let same : other ≡ next = cc in
      let same_log : log ≡ later = cc in
      record {
        fewer = steps;
        one_more = refl;
        left = subst (λ (l : Log). HasLeft step setting steps (perform setting l (step next))) same_log
            (subst (λ (x : State). HasLeft step setting steps (perform setting log (step x))) same left);
      }

  -- a run that ends has a number of steps
  finished_left : (done : Performed State) (outcome : Outcome) (end : Log) → done ≡ Finishes outcome end → HasLeft step setting zero done
  finished_left (Finishes o l) outcome end e = tt
  finished_left (Continues next log) outcome end e = cc

  more_left : (done : Performed State) (next : State) (later : Log) → done ≡ Continues next later
      → (steps : ℕ) → HasLeft step setting steps (perform setting later (step next)) → HasLeft step setting (suc steps) done
  more_left done next later e steps left = subst (λ (d : Performed State). HasLeft step setting (suc steps) d) (sym e) left

  length_by : {m last : State} {log before end : Log} {outcome : Outcome} → Leads step setting m log last before
      → perform setting before (step last) ≡ Finishes outcome end → HasLength step setting m log
  length_by {m = m} {log = log} {before = before} {end = end} {outcome = outcome} (stays e f) finish = (
    zero,
    finished_left (perform setting log (step m)) outcome end
        ((ap (λ (l : Log). perform setting l (step m)) f ∙ ap (λ (x : State). perform setting before (step x)) e) ∙ finish),
  )
  length_by {m = m} {log = log} (goes {next = next} {later = later} s way) finish =
      let rest = length_by way finish in
      (suc rest.0, more_left (perform setting log (step m)) next later s rest.0 rest.1)

  pub has_length : {m : State} {log end : Log} {outcome : Outcome} → EndsFrom step setting m log outcome end → HasLength step setting m log
  has_length one = length_by one.leads one.finishes
