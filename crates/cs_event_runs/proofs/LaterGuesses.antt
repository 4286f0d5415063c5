-- Guesses at an event and later, and the budget of events, don't affect what is pending there.
use Rattle.std.proofs.Common.{◌≡◌, ℕ, suc, ◌+◌, ◌<◌, ◌≤◌, ℤ, Bool, true, false, List, [], ◌∷◌, ◌++◌, Option, length}
use Rattle.std.proofs.Common.{if◌then◌else◌, refl, sym, ap, ◌∙◌, subst, arith}
use Rattle.std.proofs.lemmas.Bool.Decides.{nat_tests}
use Rattle.cs_ast.specs.declared.place.Place.{Place}
use Rattle.cs_events.specs.declared.event.Event.{Event}
use Rattle.cs_events.specs.declared.outcome.Outcome.{Outcome}
use Rattle.cs_events.specs.declared.outcome.RunBudgets.{RunBudgets}
use Rattle.cs_events.specs.declared.operation.Operation.{Operation}
use Rattle.cs_events.specs.declared.guess.Guess.{Guess}
use Rattle.cs_events.specs.Operations.{guess_range, result_with, shows}
use Rattle.cs_events.specs.Acts.{Act, Goes, Stops, Reads, Asks, Allocates, Reaches, Touches}
use Rattle.cs_events.specs.Runs.{Setting, Log, empty, with_event, with_operation, with_read, with_touch, allows_event, used, number_of, read_cell}
use Rattle.cs_events.specs.PendingEvents.{Pending, Operates}
use Rattle.cs_events.specs.Pending.{IsPending}
use Rattle.cs_event_runs.specs.First.{Step, First, Silent, Shown, Ended, operated, first_of}
use Rattle.cs_event_runs.specs.ByEvents.{ShowsAfter, now, later, unseen}
use Rattle.cs_event_runs.specs.Settings.{with_guesses, AlikeBefore}
use Rattle.cs_event_runs.proofs.Firsts.{HasEvents, adds_first}
use Rattle.cs_event_runs.proofs.Pendings.{next_is, shown_is_pending, pending_is_shown}

module _ (setting : Setting) (guesses : List Guess) (budgets : RunBudgets) (event : ℕ) (alike : AlikeBefore setting guesses budgets event) where
  abbrev Other : Setting
  Other = with_guesses guesses budgets setting

  -- the budget allows the events up to this one
  has_yet : (log : Log) → suc (length log.events) ≤ event → allows_event Other log ≡ true
  has_yet log before = let b = alike.budget in grind (arith, nat_tests)

  module _ {State : Type 0} where
    -- what comes first before the event also comes first with the other guesses
    abbrev Kept : First State → First State → Type 0
    Kept (Silent next log) first = first ≡ Silent next log
    Kept (Shown shown left log) first = first ≡ Shown shown left log
    Kept (Ended outcome log) first = Unit {0}

    -- at the event the same is pending
    record ShowsLike (shown : Step) (first : First State) : Type 0 where
      one : Step
      left : Act State
      log : Log
      is : first ≡ Shown one left log
      pends : one.pending ≡ shown.pending

    abbrev Near : First State → First State → Type 0
    Near (Silent next log) first = first ≡ Silent next log
    Near (Shown shown left log) first = ShowsLike shown first
    Near (Ended outcome log) first = Unit {0}

    kept_if : (room other : Bool) (shown : Step) (left : Act State) (log end : Log) (outcome : Outcome) (first rest : First State) → other ≡ true
        → first ≡ Shown shown left log → Kept (if room then Shown shown left log else Ended outcome end) (if other then first else rest)
    kept_if true true shown left log end outcome first rest h is = is
    kept_if false true shown left log end outcome first rest h is = tt
    kept_if true false shown left log end outcome first rest h is = cc
    kept_if false false shown left log end outcome first rest h is = tt

    near_if : (room other : Bool) (shown one : Step) (left left' : Act State) (log log' end : Log) (outcome : Outcome) (rest : First State) → other ≡ true
        → one.pending ≡ shown.pending → Near (if room then Shown shown left log else Ended outcome end) (if other then Shown one left' log' else rest)
    near_if true true shown one left left' log log' end outcome rest h same = record { one = one; left = left'; log = log'; is = refl; pends = same }
    near_if true false shown one left left' log log' end outcome rest h same = cc
    near_if false other shown one left left' log log' end outcome rest h same = tt

    -- an operation with a guess, or without one, as what comes first
    with_guess : Log → Place → Operation → (ℤ → Act State) → Option ℤ → First State
    with_guess log at operation onward guess =
        let number = result_with setting.model operation (used (guess_range setting.model operation) guess) in
        let shown : Event = record { place = at; label = shows setting.model operation (used (guess_range setting.model operation) guess) } in
        Shown (record { pending = Operates at operation; event = shown; answer = number }) (onward number)
        (with_event log (Operates at operation) shown)

    asked_alike : (log : Log) (at : Place) (operation : Operation) (onward : ℤ → Act State) → suc (length log.events) < event
        → Shown (operated Other log at operation) (onward (number_of Other log operation)) (with_operation Other log at operation)
        ≡ Shown (operated setting log at operation) (onward (number_of setting log operation)) (with_operation setting log at operation)
    unfolding with_guess
    asked_alike log at operation onward before = ap (with_guess log at operation onward) (alike.same (suc (length log.events)) before)

    kept : (log : Log) (act : Act State) → suc (length log.events) < event → Kept (first_of setting log act) (first_of Other log act)
    unfolding first_of
    kept log (Goes next) before = refl
    kept log (Stops outcome) before = tt
    kept log (Reads path kind onward) before = kept (with_read log path kind) (onward (read_cell setting path kind)) before
    kept log (Touches touch act) before = kept (with_touch log touch) act before
    kept log (Asks at operation onward) before =
        kept_if (allows_event setting log) (allows_event Other log) _ _ _ log _ _ _ (has_yet log (omega arith)) (asked_alike log at operation onward before)
    kept log (Allocates at path onward) before = kept_if (allows_event setting log) (allows_event Other log) _ _ _ log _ _ _ (has_yet log (omega arith)) refl
    kept log (Reaches at object offset act) before =
        kept_if (allows_event setting log) (allows_event Other log) _ _ _ log _ _ _ (has_yet log (omega arith)) refl

    near : (log : Log) (act : Act State) → suc (length log.events) ≤ event → Near (first_of setting log act) (first_of Other log act)
    unfolding first_of
    near log (Goes next) before = refl
    near log (Stops outcome) before = tt
    near log (Reads path kind onward) before = near (with_read log path kind) (onward (read_cell setting path kind)) before
    near log (Touches touch act) before = near (with_touch log touch) act before
    near log (Asks at operation onward) before = near_if (allows_event setting log) (allows_event Other log) _ _ _ _ _ _ log _ _ (has_yet log before) refl
    near log (Allocates at path onward) before = near_if (allows_event setting log) (allows_event Other log) _ _ _ _ _ _ log _ _ (has_yet log before) refl
    near log (Reaches at object offset act) before = near_if (allows_event setting log) (allows_event Other log) _ _ _ _ _ _ log _ _ (has_yet log before) refl

    module _ (step : State → Act State) where
      -- the run with the other guesses passes the same steps, and then shows one with the same pending operation
      pub record ShowsToo (first : First State) (steps : List Step) (pending : Pending) : Type 0 where
        pub one : Step
        pub shows : ShowsAfter step Other first steps one
        pub pends : one.pending ≡ pending

      pub shows_too : {first : First State} {steps : List Step} {one : Step} → ShowsAfter step setting first steps one
          → (log : Log) (act : Act State) → first_of setting log act ≡ first → event ≡ suc (length log.events + length steps)
          → ShowsToo (first_of Other log act) steps one.pending
      shows_too (now {one = one} {left = left} {log = after} e) log act is number =
          let it : ShowsLike one (first_of Other log act) = subst (λ f. Near f (first_of Other log act)) (is ∙ e) (near log act (omega arith)) in
          record { one = it.one; shows = now it.is; pends = it.pends }
      shows_too (later {shown = shown} {one = one} {left = left} {log = between} {steps = steps} e rest) log act is number =
          let same : first_of Other log act ≡ Shown shown left between =
          subst (λ f. Kept f (first_of Other log act)) (is ∙ e) (kept log act (omega arith)) in
          let has : between.events ≡ log.events ++ shown.event ∷ [] = subst (HasEvents setting log.events) (is ∙ e) (adds_first setting log act) in
          let count = next_is between log.events shown.event has in
          let it = shows_too rest between left refl (omega arith) in
          record { one = it.one; shows = later same it.shows; pends = it.pends }
      shows_too (unseen {next = next} {log = between} {steps = steps} e rest) log act is number =
          let same : first_of Other log act ≡ Silent next between = subst (λ f. Near f (first_of Other log act)) (is ∙ e) (near log act (omega arith)) in
          let has : between.events ≡ log.events = subst (HasEvents setting log.events) (is ∙ e) (adds_first setting log act) in
          let count : length between.events ≡ length log.events = ap length has in
          let it = shows_too rest between (step next) refl (omega arith) in
          record { one = it.one; shows = unseen {one = it.one} same it.shows; pends = it.pends }

      -- later guesses don't change what is pending at the event
      pub pending_before_guesses : (start : State) (pending : Pending) → IsPending step setting start event pending
          → IsPending step Other start event pending
      pending_before_guesses start pending one =
          let shown = pending_is_shown step setting start one in
          let it = shows_too shown.shows empty (step start) refl shown.number in
          let there = shown_is_pending step Other start it.shows in
          let n : event ≡ suc (length shown.steps) = let m = shown.number in omega arith in
          subst (λ k. IsPending step Other start k pending) (sym n)
          (subst (IsPending step Other start (suc (length shown.steps))) (it.pends ∙ shown.pends) there)
