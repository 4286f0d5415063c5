-- Runs by their events are runs: they have the same outcomes, the events of the log, and the same pending operations; and they are unique.
use Rattle.std.proofs.Common.{◌≡◌, List, [], ◌∷◌, ◌++◌, map, refl, sym, ap, ◌∙◌, subst}
use Rattle.std.proofs.lemmas.List.{append-nil, append_assoc}
use Rattle.cs_events.specs.declared.event.Event.{Event}
use Rattle.cs_events.specs.declared.outcome.Outcome.{Outcome}
use Rattle.cs_events.specs.Acts.{Act}
use Rattle.cs_events.specs.Runs.{Setting, Log, Continues, Finishes, perform, Leads, stays, goes, EndsFrom}
use Rattle.cs_event_runs.specs.First.{Step, First, Silent, Ended, first_of, performed}
use Rattle.cs_event_runs.specs.ByEvents.{RunsTo, ends, shows, silently, Found}
use Rattle.cs_event_runs.proofs.Firsts.{performs_first, Within, then_silent, then_ended, then_shown, within, HasEvents, adds_first}

module _ {State : Type 0} (step : State → Act State) (setting : Setting) where
  -- a run by its events ends the same way from a state whose next act has the result of what comes first
  ends_from : {first : First State} {steps : List Step} {outcome : Outcome} {end : Log} → RunsTo step setting first steps outcome end
      → (m : State) (log : Log) → perform setting log (step m) ≡ performed setting first → EndsFrom step setting m log outcome end
  ends_from (ends e) m log h = record { last = m; before = log; leads = stays refl refl; finishes = h ∙ ap (performed setting) e }
  ends_from (shows {left = left} {log = between} e rest) m log h = ends_from rest m log (h ∙ ap (performed setting) e ∙ performs_first setting between left)
  ends_from (silently {next = next} {log = later} e rest) m log h =
      let end = ends_from rest next later (performs_first setting later (step next)) in
      record { last = end.last; before = end.before; leads = goes (h ∙ ap (performed setting) e) end.leads; finishes = end.finishes }

  pub ends_by_events : {m : State} {log : Log} {steps : List Step} {outcome : Outcome} {end : Log}
      → RunsTo step setting (first_of setting log (step m)) steps outcome end → EndsFrom step setting m log outcome end
  ends_by_events {m = m} {log = log} runs = ends_from runs m log (performs_first setting log (step m))

  -- the events of an act that ends the run
  within_ends : {first : First State} {outcome : Outcome} {end : Log} → Within setting first → performed setting first ≡ Finishes outcome end
      → Found step setting first outcome end
  within_ends then_silent e = cc
  within_ends {outcome = outcome} {end = end} (then_ended {outcome = o} {log = l}) e =
      let same : o ≡ outcome = cc in
      let same_log : l ≡ end = cc in
      record { steps = []; runs = ends (λ i. Ended (same i) (same_log i)) }
  within_ends (then_shown {one = one} {left = left} {log = log} rest) e =
      let found = within_ends rest (sym (performs_first setting log left) ∙ e) in
      record { steps = one ∷ found.steps; runs = shows refl found.runs }

  -- the events of an act that continues, and those of the run after it
  within_goes : {first : First State} {next : State} {later : Log} {outcome : Outcome} {end : Log} → Within setting first
      → performed setting first ≡ Continues next later → Found step setting (first_of setting later (step next)) outcome end
      → Found step setting first outcome end
  within_goes {next = next} {later = later} {outcome = outcome} {end = end} (then_silent {next = n} {log = l}) e found =
      let same : n ≡ next = cc in
      let same_log : l ≡ later = cc in
      record { steps = found.steps; runs = silently (λ i. Silent (same i) (same_log i)) found.runs }
  within_goes then_ended e found = cc
  within_goes (then_shown {one = one} {left = left} {log = log} rest) e found =
      let more = within_goes rest (sym (performs_first setting log left) ∙ e) found in
      record { steps = one ∷ more.steps; runs = shows refl more.runs }

  by_way : {m last : State} {log before end : Log} {outcome : Outcome} → Leads step setting m log last before
      → perform setting before (step last) ≡ Finishes outcome end → Found step setting (first_of setting log (step m)) outcome end
  by_way {m = m} {log = log} (stays e f) finish =
      within_ends (within setting log (step m)) (sym (performs_first setting log (step m)) ∙ ((λ i. perform setting (f i) (step (e i))) ∙ finish))
  by_way {m = m} {log = log} (goes s way) finish =
      within_goes (within setting log (step m)) (sym (performs_first setting log (step m)) ∙ s) (by_way way finish)

  -- a run that ends has this outcome by its events
  pub events_by_end : {m : State} {log end : Log} {outcome : Outcome} → EndsFrom step setting m log outcome end
      → Found step setting (first_of setting log (step m)) outcome end
  events_by_end one = by_way one.leads one.finishes

  -- the log at the end has the events of the steps, after those before
  shown_events : {first : First State} {steps : List Step} {outcome : Outcome} {end : Log} → RunsTo step setting first steps outcome end
      → (events : List Event) → HasEvents setting events first → end.events ≡ events ++ map (λ s. s.event) steps
  shown_events (ends e) events h = subst (HasEvents setting events) e h ∙ sym (append-nil events)
  shown_events (shows {shown = shown} {left = left} {log = log} {steps = steps} e rest) events h =
      let has : log.events ≡ events ++ shown.event ∷ [] = subst (HasEvents setting events) e h in
      shown_events rest log.events (adds_first setting log left)
      ∙ ap (λ l. l ++ map (λ s. s.event) steps) has
      ∙ append_assoc events (shown.event ∷ []) (map (λ s. s.event) steps)
  shown_events (silently {next = next} {log = log} {steps = steps} e rest) events h =
      let has : log.events ≡ events = subst (HasEvents setting events) e h in
      shown_events rest log.events (adds_first setting log (step next)) ∙ ap (λ l. l ++ map (λ s. s.event) steps) has

  pub events_shown : (m : State) (log : Log) {steps : List Step} {outcome : Outcome} {end : Log}
      → RunsTo step setting (first_of setting log (step m)) steps outcome end → end.events ≡ log.events ++ map (λ s. s.event) steps
  events_shown m log runs = shown_events runs log.events (adds_first setting log (step m))

  -- if what comes first is equal, the runs are
  from_equal : {first other : First State} {steps : List Step} {outcome : Outcome} {end : Log} → other ≡ first
      → RunsTo step setting other steps outcome end → RunsTo step setting first steps outcome end
  from_equal {steps = steps} {outcome = outcome} {end = end} e runs = subst (λ f. RunsTo step setting f steps outcome end) e runs

  -- a run is unique
  pub one_way : {first : First State} {steps other : List Step} {outcome outcome' : Outcome} {end end' : Log} → RunsTo step setting first steps outcome end
      → RunsTo step setting first other outcome' end' → (other ≡ steps) × (outcome' ≡ outcome) × (end' ≡ end)
  one_way (ends e) (ends e') = (refl, cc, cc)
  one_way (ends e) (shows e' rest) = cc
  one_way (ends e) (silently e' rest) = cc
  one_way (shows e rest) (ends e') = cc
  one_way (shows {shown = shown} {left = left} {log = log} e rest) (shows {shown = shown'} {left = left'} {log = log'} e' rest') =
      let same_step : shown' ≡ shown = cc in
      let same_left : left' ≡ left = cc in
      let same_log : log' ≡ log = cc in
      let more = one_way rest (from_equal (λ i. first_of setting (same_log i) (same_left i)) rest') in
      ((λ i. same_step i ∷ more.0 i), more.1, more.2)
  one_way (shows e rest) (silently e' rest') = cc
  one_way (silently e rest) (ends e') = cc
  one_way (silently e rest) (shows e' rest') = cc
  one_way (silently {next = next} {log = log} e rest) (silently {next = next'} {log = log'} e' rest') =
      let same : next' ≡ next = cc in
      let same_log : log' ≡ log = cc in
      one_way rest (from_equal (λ i. first_of setting (same_log i) (step (same i))) rest')
