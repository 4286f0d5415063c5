-- Parts of a run: one after another, and parts without an event. For the contract of `find`.
use Rattle.std.proofs.Common.{◌≡◌, ◌≤◌, List, [], ◌∷◌, ◌++◌, length, sym, ap, ◌∙◌, subst, arith}
use Rattle.std.proofs.lemmas.List.{length-append}
use Rattle.cs_events.specs.Acts.{Act}
use Rattle.cs_events.specs.Growth.{GoesOn, log_of}
use Rattle.cs_events.specs.Runs.{Setting, Log, Performed, Continues, perform, Leads, stays as rests, goes}
use Rattle.cs_events.proofs.LogGrowth.{act_adds, way_adds}
use Rattle.cs_event_runs.specs.ByEvents.{ShowsAfter, later as shown_later, unseen as shown_unseen}
use Rattle.cs_event_runs.specs.First.{Step, First, Silent, Shown, Ended, first_of, performed}
use Rattle.cs_event_runs.proofs.Firsts.{performs_first, HasEvents, adds_first}
use Rattle.cs_successors.specs.EntryRuns.{LeavesAfter, later as follows, unseen, Proceeds, stays, silently, shows}

-- a log that continues another one has at least as many events
as_long : (log later : Log) → GoesOn log later → length log.events ≤ length later.events
as_long log later more =
    let all = ap length more.events.1 in
    let both = length-append log.events more.events.0 in
    omega (arith, all, both)

module _ {M : Type 0} (step : M → Act M) (setting : Setting) where
  -- two paths, one after the other
  pub proceeds_on : {left middle last : Act M} {log between end : Log} {steps more : List Step} → Proceeds step setting left log steps middle between
      → Proceeds step setting middle between more last end → Proceeds step setting left log (steps ++ more) last end
  proceeds_on {last = last} {end = end} {more = more} (stays {last = middle} {log = log} is same) onward =
      subst (λ act. Proceeds step setting act log more last end) (sym is)
      (subst (λ log. Proceeds step setting middle log more last end) (sym same) onward)
  proceeds_on (silently is rest) onward = silently is (proceeds_on rest onward)
  proceeds_on (shows is rest) onward = shows is (proceeds_on rest onward)

  -- a path, and more steps after it
  pub leaves_on : {left middle last : Act M} {log between end : Log} {steps more : List Step} → Proceeds step setting left log steps middle between
      → LeavesAfter step setting (first_of setting between middle) more last end
      → LeavesAfter step setting (first_of setting log left) (steps ++ more) last end
  leaves_on {last = last} {end = end} {more = more} (stays {last = middle} {log = log} is same) onward =
      subst (λ act. LeavesAfter step setting (first_of setting log act) more last end) (sym is)
      (subst (λ log. LeavesAfter step setting (first_of setting log middle) more last end) (sym same) onward)
  leaves_on (silently is rest) onward = unseen is (leaves_on rest onward)
  leaves_on (shows is rest) onward = follows is (leaves_on rest onward)

  -- a path, and the step shown after it
  pub shows_on : {left middle : Act M} {log between : Log} {steps more : List Step} {one : Step} → Proceeds step setting left log steps middle between
      → ShowsAfter step setting (first_of setting between middle) more one → ShowsAfter step setting (first_of setting log left) (steps ++ more) one
  shows_on {more = more} {one = one} (stays {last = middle} {log = log} is same) onward =
      subst (λ act. ShowsAfter step setting (first_of setting log act) more one) (sym is)
      (subst (λ log. ShowsAfter step setting (first_of setting log middle) more one) (sym same) onward)
  shows_on (silently is rest) onward = shown_unseen is (shows_on rest onward)
  shows_on (shows is rest) onward = shown_later is (shows_on rest onward)

  -- what continues and adds no event is silent
  module _ (log : Log) (act : Act M) (next : M) (later : Log) (short : length later.events ≤ length log.events) where
    shows_nothing : (first : First M) → HasEvents setting log.events first → performed setting first ≡ Continues next later
        → first ≡ Silent next later
    shows_nothing (Silent other after) has is =
        let same : other ≡ next = cc in
        let same_log : after ≡ later = cc in
        λ i. Silent (same i) (same_log i)
    shows_nothing (Ended outcome after) has is = cc
    shows_nothing (Shown one left after) has is =
        let more = as_long after later (subst (λ (done : Performed M). GoesOn after (log_of done)) is (act_adds setting after left)) in
        let all = ap length has in
        let both = length-append log.events (one.event ∷ []) in
        absurd (omega (arith, more, all, both, short))

    silent_act : perform setting log act ≡ Continues next later → first_of setting log act ≡ Silent next later
    silent_act is = shows_nothing (first_of setting log act) (adds_first setting log act) (sym (performs_first setting log act) ∙ is)

  -- a run that continues and adds no event shows nothing
  pub leads_silently : {m last : M} {log end : Log} → Leads step setting m log last end → length end.events ≤ length log.events
      → Proceeds step setting (step m) log [] (step last) end
  leads_silently (rests is same) short = stays (ap step is) same
  leads_silently {m = m} {log = log} {end = end} (goes {next = next} {later = later} is way) short =
      let first = as_long log later (subst (λ (done : Performed M). GoesOn log (log_of done)) is (act_adds setting log (step m))) in
      let rest = as_long later end (way_adds step setting way) in
      silently (silent_act log (step m) next later (omega (arith, short, first, rest)) is) (leads_silently way (omega (arith, short, first, rest)))
