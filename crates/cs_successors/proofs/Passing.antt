-- Runs are deterministic: what follows directly after an event, and nothing after the end. For `back` of `IsChildOf`, and for the coverage of runs.
use Rattle.std.proofs.Common.{◌≡◌, ◌⊎◌, inl, inr, List, [], ◌∷◌, refl, sym, ◌∙◌, subst}
use Rattle.cs_events.specs.declared.outcome.Outcome.{Outcome}
use Rattle.cs_events.specs.Acts.{Act}
use Rattle.cs_events.specs.Runs.{Setting, Log}
use Rattle.cs_event_runs.specs.First.{Step, First, Silent, Shown, Ended, first_of}
use Rattle.cs_event_runs.specs.ByEvents.{RunsTo, ends, shows, silently}
use Rattle.cs_successors.specs.EntryRuns.{LeavesAfter, now, later, unseen, Proceeds, stays, silently as quietly, shows as passes}

same_head : (one other : Step) (steps more : List Step) → one ∷ steps ≡ other ∷ more → one ≡ other
same_head one other steps more e = cc

same_tail : (one other : Step) (more : List Step) → other ∷ [] ≡ one ∷ more → more ≡ []
same_tail one other more e = cc

module _ {M : Type 0} (step : M → Act M) (setting : Setting) where
  -- at least one step is passed
  pub passes_some : {first : First M} {left : Act M} {log : Log} {steps : List Step} → LeavesAfter step setting first steps left log → steps ≡ [] → ⊥
  passes_some (now e) none = cc
  passes_some (later e rest) none = cc
  passes_some (unseen e rest) none = passes_some rest none

  -- what comes after silent steps
  pub after_silence : {left middle rest : Act M} {log between end : Log} {steps : List Step} → Proceeds step setting left log [] middle between
      → LeavesAfter step setting (first_of setting between middle) steps rest end → LeavesAfter step setting (first_of setting log left) steps rest end
  after_silence {rest = rest} {end = end} {steps = steps} (stays {left = left} {last = last} {log = log} is same) leaves =
      subst (λ act. LeavesAfter step setting (first_of setting log act) steps rest end) (sym is)
      (subst (λ before. LeavesAfter step setting (first_of setting before last) steps rest end) (sym same) leaves)
  after_silence (quietly is onward) leaves = unseen is (after_silence onward leaves)

  -- a path on which steps are passed
  as_way : {first : First M} {rest : Act M} {end : Log} {steps : List Step} (left : Act M) (log : Log) → first_of setting log left ≡ first
      → LeavesAfter step setting first steps rest end → Proceeds step setting left log steps rest end
  as_way left log is (now e) = passes (is ∙ e) (stays refl refl)
  as_way left log is (later {between = between} {before = before} e rest) = passes (is ∙ e) (as_way between before refl rest)
  as_way left log is (unseen {next = next} {before = before} e rest) = quietly (is ∙ e) (as_way (step next) before refl rest)

  pub as_proceeds : {left rest : Act M} {log end : Log} {steps : List Step} → LeavesAfter step setting (first_of setting log left) steps rest end
      → Proceeds step setting left log steps rest end
  as_proceeds {left = left} {log = log} leaves = as_way left log refl leaves

  -- what comes first is determined
  same_silent : (first : First M) (next other : M) (log end : Log) → first ≡ Silent next log → first ≡ Silent other end
      → (next ≡ other) × (log ≡ end)
  same_silent first next other log end e f =
      let nexts : next ≡ other = cc in
      let logs : log ≡ end = cc in
      (nexts, logs)

  same_shown : (first : First M) (one other : Step) (left rest : Act M) (log end : Log) → first ≡ Shown one left log → first ≡ Shown other rest end
      → (one ≡ other) × (left ≡ rest) × (log ≡ end)
  same_shown first one other left rest log end e f =
      let ones : one ≡ other = cc in
      let acts : left ≡ rest = cc in
      let logs : log ≡ end = cc in
      (ones, acts, logs)

  not_both : {A : Type 0} (first : First M) (next : M) (one : Step) (left : Act M) (log end : Log) → first ≡ Silent next log
      → first ≡ Shown one left end → A
  not_both first next one left log end e f = cc

  not_ended : {A : Type 0} (first : First M) (one : Step) (left : Act M) (outcome : Outcome) (log end : Log) → first ≡ Shown one left log
      → first ≡ Ended outcome end → A
  not_ended first one left outcome log end e f = cc

  not_silent : {A : Type 0} (first : First M) (next : M) (outcome : Outcome) (log end : Log) → first ≡ Silent next log → first ≡ Ended outcome end → A
  not_silent first next outcome log end e f = cc

  -- after this step nothing more is passed, and the same remains; or the other steps are passed, from what remains then
  abbrev pub GoesOn : Step → Act M → Log → List Step → Act M → Log → Type 0
  GoesOn one rest end steps left log = ((steps ≡ one ∷ []) × (rest ≡ left) × (end ≡ log))
      ⊎ ((more : List Step) × (steps ≡ one ∷ more) × LeavesAfter step setting (first_of setting end rest) more left log)

  after_step : {first : First M} {rest left : Act M} {end log : Log} {passed steps : List Step} (one : Step)
      → LeavesAfter step setting first passed rest end → passed ≡ one ∷ [] → LeavesAfter step setting first steps left log
      → GoesOn one rest end steps left log
  after_step {first = first} {end = end} one (now {one = it} {left = rest} e) is (now {one = other} {left = left} {log = log} f) =
      let same = same_shown first it other rest left end log e f in
      let here : it ≡ one = cc in
      inl (λ i. (sym same.0 ∙ here) i ∷ [], same.1, same.2)
  after_step {first = first} {left = left} {end = end} {log = log} one (now {one = it} {left = rest} e) is
      (later {one = other} {between = between} {before = before} {steps = more} f onward) =
      let same = same_shown first it other rest between end before e f in
      let here : it ≡ one = cc in
      inr (
        more,
        λ i. (sym same.0 ∙ here) i ∷ more,
        subst (λ act. LeavesAfter step setting (first_of setting end act) more left log) (sym same.1)
            (subst (λ l. LeavesAfter step setting (first_of setting l between) more left log) (sym same.2) onward),
      )
  after_step {first = first} one (now {one = it} {left = rest} {log = end} e) is (unseen {next = next} {before = before} f onward) =
      not_both first next it rest before end f e
  after_step one (later {one = it} {steps = steps} e onward) is leaves =
      let none : steps ≡ [] = cc in
      absurd (passes_some onward none)
  after_step {first = first} one (unseen {next = next} {before = before} e onward) is (now {one = it} {left = rest} {log = end} f) =
      not_both first next it rest before end e f
  after_step {first = first} one (unseen {next = next} {before = before} e onward) is (later {one = it} {between = between} {before = between_log} f rest) =
      not_both first next it between before between_log e f
  after_step {first = first} {left = left} {log = log} {steps = steps} one (unseen {next = next} {before = before} e onward) is
      (unseen {next = other} {before = later_log} f rest) =
      let same = same_silent first next other before later_log e f in
      after_step one onward is (subst (λ m. LeavesAfter step setting (first_of setting before (step m)) steps left log) (sym same.0)
      (subst (λ l. LeavesAfter step setting (first_of setting l (step other)) steps left log) (sym same.1) rest))

  pub after_one : {first : First M} {rest left : Act M} {end log : Log} {steps : List Step} {one : Step}
      → LeavesAfter step setting first (one ∷ []) rest end → LeavesAfter step setting first steps left log → GoesOn one rest end steps left log
  after_one {one = one} first all = after_step one first refl all

  -- if one step is passed next, no other step can be
  pub one_alone : {first : First M} {rest left : Act M} {end log : Log} {one other : Step} → LeavesAfter step setting first (one ∷ []) rest end
      → LeavesAfter step setting first (other ∷ []) left log → (one ≡ other) × (rest ≡ left) × (end ≡ log)
  one_alone {one = one} {other = other} this that = elim (after_one this that) [
    | inl last ↦ (sym (same_head other one [] [] last.0), last.1, last.2)
    | inr more ↦ absurd (passes_some more.2 (same_tail one other more.0 more.1))
  ]

  -- if the next step is silent, the steps that are passed are passed after it
  past_silent : {Goal : Type 0} {steps : List Step} {rest : Act M} {end : Log} (next : M) (between : Log) (first : First M) → first ≡ Silent next between
      → (LeavesAfter step setting (first_of setting between (step next)) steps rest end → Goal) → LeavesAfter step setting first steps rest end → Goal
  past_silent next between first e onward (now {one = one} {left = left} {log = log} f) = not_both first next one left between log e f
  past_silent next between first e onward (later {one = one} {between = left} {before = log} f more) = not_both first next one left between log e f
  past_silent {steps = steps} {rest = rest} {end = end} next between first e onward (unseen {next = other} {before = log} f more) =
      let same = same_silent first next other between log e f in
      onward (subst (λ m. LeavesAfter step setting (first_of setting between (step m)) steps rest end) (sym same.0)
      (subst (λ l. LeavesAfter step setting (first_of setting l (step other)) steps rest end) (sym same.1) more))

  past_silence : {left middle rest : Act M} {log between end : Log} {steps none : List Step} → Proceeds step setting left log none middle between
      → none ≡ [] → LeavesAfter step setting (first_of setting log left) steps rest end
      → LeavesAfter step setting (first_of setting between middle) steps rest end
  past_silence {rest = rest} {between = between} {end = end} {steps = steps} (stays {left = left} {last = last} {log = log} is same) empty leaves =
      subst (λ act. LeavesAfter step setting (first_of setting between act) steps rest end) is
      (subst (λ l. LeavesAfter step setting (first_of setting l left) steps rest end) same leaves)
  past_silence {left = left} {log = log} (quietly {next = next} {between = between} is onward) empty leaves =
      past_silent next between (first_of setting log left) is (λ more. past_silence onward empty more) leaves
  past_silence (passes is onward) empty leaves = cc

  -- and the same for several silent steps
  pub after_silent_steps : {left middle rest : Act M} {log between end : Log} {steps : List Step} → Proceeds step setting left log [] middle between
      → LeavesAfter step setting (first_of setting log left) steps rest end → LeavesAfter step setting (first_of setting between middle) steps rest end
  after_silent_steps way leaves = past_silence way refl leaves

  -- a run that ends still ends alike after its first step
  ends_step : {first : First M} {rest : Act M} {later_log end : Log} {passed steps : List Step} {outcome : Outcome} (one : Step)
      → LeavesAfter step setting first passed rest later_log → passed ≡ one ∷ [] → RunsTo step setting first steps outcome end
      → (more : List Step) × (steps ≡ one ∷ more) × RunsTo step setting (first_of setting later_log rest) more outcome end
  ends_step {first = first} {end = end} one (now {one = it} {left = rest} {log = log} e) is (ends {outcome = outcome} f) =
      not_ended first it rest outcome log end e f
  ends_step {first = first} {later_log = log} {end = end} {outcome = outcome} one (now {one = it} {left = rest} e) is
      (shows {shown = other} {left = left} {log = before} {steps = more} f onward) =
      let same = same_shown first it other rest left log before e f in
      let here : it ≡ one = cc in (
        more,
        λ i. (sym same.0 ∙ here) i ∷ more,
        subst (λ act. RunsTo step setting (first_of setting log act) more outcome end) (sym same.1)
            (subst (λ l. RunsTo step setting (first_of setting l left) more outcome end) (sym same.2) onward),
      )
  ends_step {first = first} one (now {one = it} {left = rest} {log = log} e) is (silently {next = next} {log = before} f onward) =
      not_both first next it rest before log f e
  ends_step one (later {one = it} {steps = steps} e onward) is runs =
      let none : steps ≡ [] = cc in
      absurd (passes_some onward none)
  ends_step {first = first} one (unseen {next = next} {before = before} e onward) is (ends {outcome = outcome} {end = end} f) =
      not_silent first next outcome before end e f
  ends_step {first = first} one (unseen {next = next} {before = before} e onward) is (shows {shown = it} {left = left} {log = log} f rest) =
      not_both first next it left before log e f
  ends_step {first = first} {end = end} {steps = steps} {outcome = outcome} one (unseen {next = next} {before = before} e onward) is
      (silently {next = other} {log = log} f rest) =
      let same = same_silent first next other before log e f in
      ends_step one onward is (subst (λ m. RunsTo step setting (first_of setting before (step m)) steps outcome end) (sym same.0)
      (subst (λ l. RunsTo step setting (first_of setting l (step other)) steps outcome end) (sym same.1) rest))

  pub ends_after_one : {first : First M} {rest : Act M} {later_log end : Log} {steps : List Step} {outcome : Outcome} {one : Step}
      → LeavesAfter step setting first (one ∷ []) rest later_log → RunsTo step setting first steps outcome end
      → (more : List Step) × (steps ≡ one ∷ more) × RunsTo step setting (first_of setting later_log rest) more outcome end
  ends_after_one {one = one} first runs = ends_step one first refl runs

  -- if a run ends without a further event, nothing more is passed
  at_end : {left last : Act M} {log before end : Log} {steps none : List Step} {rest : Act M} {after : Log} {outcome : Outcome}
      → Proceeds step setting left log none last before → none ≡ [] → first_of setting before last ≡ Ended outcome end
      → LeavesAfter step setting (first_of setting log left) steps rest after → ⊥
  at_end {last = last} {before = before} {end = end} {steps = steps} {rest = rest} {after = after} {outcome = outcome} (stays {left = left} {log = log} is same)
      empty ended
      leaves =
      past (first_of setting before last) ended (subst (λ act. LeavesAfter step setting (first_of setting before act) steps rest after) is
      (subst (λ l. LeavesAfter step setting (first_of setting l left) steps rest after) same leaves))
    where
      past : {steps : List Step} {rest : Act M} {after : Log} (first : First M) → first ≡ Ended outcome end
          → LeavesAfter step setting first steps rest after → ⊥
      past first e (now {one = one} {left = left} {log = log} f) = not_ended first one left outcome log end f e
      past first e (later {one = one} {between = left} {before = log} f more) = not_ended first one left outcome log end f e
      past first e (unseen {next = next} {before = log} f more) = not_silent first next outcome log end f e
  at_end {left = left} {log = log} {steps = steps} {rest = rest} {after = after} (quietly {next = next} {between = between} is onward) empty ended leaves =
      past (first_of setting log left) is (λ more. at_end onward empty ended more) leaves
    where
      past : {steps : List Step} {rest : Act M} {after : Log} (first : First M) → first ≡ Silent next between
          → (LeavesAfter step setting (first_of setting between (step next)) steps rest after → ⊥)
          → LeavesAfter step setting first steps rest after → ⊥
      past first e onward (now {one = one} {left = left} {log = log} f) = not_both first next one left between log e f
      past first e onward (later {one = one} {between = left} {before = log} f more) = not_both first next one left between log e f
      past {steps = steps} {rest = rest} {after = after} first e onward (unseen {next = other} {before = log} f more) =
          let same = same_silent first next other between log e f in
          onward (subst (λ m. LeavesAfter step setting (first_of setting between (step m)) steps rest after) (sym same.0)
          (subst (λ l. LeavesAfter step setting (first_of setting l (step other)) steps rest after) (sym same.1) more))
  at_end (passes is onward) empty ended leaves = cc

  pub leaves_no_end : {left last : Act M} {log before end : Log} {steps : List Step} {rest : Act M} {after : Log} {outcome : Outcome}
      → Proceeds step setting left log [] last before → first_of setting before last ≡ Ended outcome end
      → LeavesAfter step setting (first_of setting log left) steps rest after → ⊥
  leaves_no_end way ended leaves = at_end way refl ended leaves

  -- and the run ends there
  pub record IsThatEnd (steps : List Step) (outcome other : Outcome) (log end : Log) : Type 0 where
    pub none : steps ≡ []
    pub outcome_is : other ≡ outcome
    pub log_is : end ≡ log

  ends_there : {left last : Act M} {log before end : Log} {steps none : List Step} {after : Log} {outcome other : Outcome}
      → Proceeds step setting left log none last before → none ≡ [] → first_of setting before last ≡ Ended outcome end
      → RunsTo step setting (first_of setting log left) steps other after → IsThatEnd steps outcome other end after
  ends_there {last = last} {before = before} {end = end} {steps = steps} {after = after} {outcome = outcome} {other = other}
      (stays {left = left} {log = log} is same) empty ended runs =
      past (first_of setting before last) ended (subst (λ act. RunsTo step setting (first_of setting before act) steps other after) is
      (subst (λ l. RunsTo step setting (first_of setting l left) steps other after) same runs))
    where
      past : {steps : List Step} {other : Outcome} {after : Log} (first : First M) → first ≡ Ended outcome end
          → RunsTo step setting first steps other after
          → IsThatEnd steps outcome other end after
      past first e (ends {outcome = it} {end = log} f) =
          let outcomes : it ≡ outcome = cc in
          let logs : log ≡ end = cc in
          record { none = refl; outcome_is = outcomes; log_is = logs }
      past first e (shows {shown = one} {left = left} {log = log} f more) = not_ended first one left outcome log end f e
      past first e (silently {next = next} {log = log} f more) = not_silent first next outcome log end f e
  ends_there {left = left} {log = log} {end = end} {steps = steps} {after = after} {outcome = outcome} {other = other}
      (quietly {next = next} {between = between} is onward) empty ended runs =
      past (first_of setting log left) is (λ more. ends_there onward empty ended more) runs
    where
      past : {steps : List Step} {other : Outcome} {after : Log} (first : First M) → first ≡ Silent next between
          → (RunsTo step setting (first_of setting between (step next)) steps other after → IsThatEnd steps outcome other end after)
          → RunsTo step setting first steps other after
          → IsThatEnd steps outcome other end after
      past first e onward (ends {outcome = it} {end = log} f) = not_silent first next it between log e f
      past first e onward (shows {shown = one} {left = left} {log = log} f more) = not_both first next one left between log e f
      past {steps = steps} {other = other} {after = after} first e onward (silently {next = it} {log = log} f more) =
          let same = same_silent first next it between log e f in
          onward (subst (λ m. RunsTo step setting (first_of setting between (step m)) steps other after) (sym same.0)
          (subst (λ l. RunsTo step setting (first_of setting l (step it)) steps other after) (sym same.1) more))
  ends_there (passes is onward) empty ended runs = cc

  pub ends_alone : {left last : Act M} {log before end : Log} {steps : List Step} {after : Log} {outcome other : Outcome}
      → Proceeds step setting left log [] last before → first_of setting before last ≡ Ended outcome end
      → RunsTo step setting (first_of setting log left) steps other after → IsThatEnd steps outcome other end after
  ends_alone way ended runs = ends_there way refl ended runs
