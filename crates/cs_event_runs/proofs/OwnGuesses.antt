-- Listing results as guesses changes only labels: if each operation continues with the same number, the run is the same except for
-- the labels of its events.
use Rattle.std.proofs.Common.{◌≡◌, suc, nat_lt, ℤ, Bool, true, false, List, [], ◌∷◌, ◌++◌, length, if◌then◌else◌, refl, sym, ap}
use Rattle.std.proofs.Common.{◌∙◌, subst, arith}
use Rattle.std.proofs.lemmas.List.{length-append}
use Rattle.cs_inputs.specs.declared.path.Path.{Path}
use Rattle.cs_ast.specs.declared.place.Place.{Place}
use Rattle.cs_events.specs.declared.operation.Operation.{Operation}
use Rattle.cs_events.specs.declared.event.Event.{Event}
use Rattle.cs_events.specs.declared.outcome.Outcome.{Outcome}
use Rattle.cs_events.specs.declared.guess.Guess.{Guess}
use Rattle.cs_events.specs.Operations.{guess_range, result_with}
use Rattle.cs_events.specs.Touches.{Touch}
use Rattle.cs_events.specs.Acts.{Act, Goes, Stops, Reads, Asks, Allocates, Reaches, Touches}
use Rattle.cs_events.specs.PendingEvents.{Pending, Operates, Tries, Accesses}
use Rattle.cs_events.specs.declared.input.InputKind.{InputKind}
use Rattle.cs_events.specs.declared.input.InputKind.TheVariants.{Allocation}
use Rattle.cs_events.specs.Runs.{Setting, Log, with_event, with_operation, read_cell, with_read, with_touch, allows_event, used, guess_at, operation_event}
use Rattle.cs_events.specs.Runs.{number_of, allocation_event}
use Rattle.cs_events.specs.Runs.{access_event}
use Rattle.cs_event_runs.specs.First.{Step, First, Silent, Shown, Ended, operated, first_of}
use Rattle.cs_event_runs.specs.ByEvents.{RunsTo, ends, shows, silently}
use Rattle.cs_event_runs.specs.Settings.{with_guesses, LeadsAlike, LeadAlike, LabelsDiffer, AllLabelsDiffer, LogsAlike}
use Rattle.cs_event_runs.proofs.Firsts.{HasEvents, adds_first}
use Rattle.cs_event_runs.proofs.Pendings.{next_is}

-- logs remain alike
one_event_more : {log other : Log} (here : Pending) (event event' : Event) → LogsAlike log other
    → LogsAlike (with_event log here event) (with_event other here event')
one_event_more {log = log} {other = other} here event event' alike =
    let a = length-append log.events (event ∷ []) in
    let b = length-append other.events (event' ∷ []) in
    let c = alike.passed in
    record { passed = omega arith; pending = ap (λ l. l ++ here ∷ []) alike.pending; read = alike.read; touches = alike.touches }

one_read_more : {log other : Log} (path : Path) (kind : InputKind) → LogsAlike log other → LogsAlike (with_read log path kind) (with_read other path kind)
one_read_more path kind alike = record {
  passed = alike.passed;
  pending = alike.pending;
  read = ap (λ l. l ++ record { path = path; kind = kind } ∷ []) alike.read;
  touches = alike.touches;
}

one_touch_more : {log other : Log} (touch : Touch) → LogsAlike log other → LogsAlike (with_touch log touch) (with_touch other touch)
one_touch_more touch alike = record { passed = alike.passed; pending = alike.pending; read = alike.read; touches = ap (λ l. l ++ touch ∷ []) alike.touches }

module _ (setting : Setting) (guesses : List Guess) where
  abbrev Other : Setting
  Other = with_guesses guesses setting.budgets setting

  -- with as many events, as much of the budget remains
  same_room : (log other : Log) → LogsAlike log other → allows_event Other other ≡ allows_event setting log
  same_room log other alike = ap (λ n. nat_lt n setting.budgets.events) alike.passed

  module _ {State : Type 0} where
    -- what comes first is alike
    data FirstsAlike : First State → First State → Type 0 where
      silent_alike : {next : State} {log other : Log} → LogsAlike log other → FirstsAlike (Silent next log) (Silent next other)
      shown_alike : {one shown : Step} {left left' : Act State} {log other : Log} → LabelsDiffer one shown → left' ≡ left → LogsAlike log other
          → FirstsAlike (Shown one left log) (Shown shown left' other)
      ended_alike : {outcome : Outcome} {log other : Log} → LogsAlike log other → FirstsAlike (Ended outcome log) (Ended outcome other)

    -- the step that comes first continues with its number under the guesses too
    abbrev FirstLeads : First State → Type 0
    FirstLeads (Silent next log) = Unit {0}
    FirstLeads (Shown shown left log) = LeadsAlike setting guesses (length log.events) shown
    FirstLeads (Ended outcome log) = Unit {0}

    both_if : (room other : Bool) (one shown end end' : First State) → other ≡ room → (room ≡ true → FirstLeads one → FirstsAlike one shown)
        → FirstsAlike end end' → FirstLeads (if room then one else end) → FirstsAlike (if room then one else end) (if other then shown else end')
    both_if true true one shown end end' e alike over leads = alike refl leads
    both_if true false one shown end end' e alike over leads = cc
    both_if false true one shown end end' e alike over leads = cc
    both_if false false one shown end end' e alike over leads = over

    asks_alike : (log other : Log) → LogsAlike log other → (at : Place) (operation : Operation) (onward : ℤ → Act State) →
        LeadsAlike setting guesses (length (with_operation setting log at operation).events) (operated setting log at operation) →
        FirstsAlike (Shown (operated setting log at operation) (onward (number_of setting log operation))
        (with_operation setting log at operation))
        (Shown (operated Other other at operation) (onward (number_of Other other operation)) (with_operation Other other at operation))
    asks_alike log other alike at operation onward leads =
        let a = length-append log.events (operation_event setting log at operation ∷ []) in
        let c = alike.passed in
        let number : suc (length other.events) ≡ length (with_operation setting log at operation).events = omega arith in
        let same : number_of Other other operation ≡ number_of setting log operation =
        ap (λ n. result_with setting.model operation (used (guess_range setting.model operation) (guess_at guesses n))) number ∙ leads in
        shown_alike (record { pends = refl; answers = same; places = refl }) (ap onward same)
        (one_event_more (Operates at operation) (operation_event setting log at operation) (operation_event Other other at operation) alike)

    firsts_alike : (log other : Log) → LogsAlike log other → (act : Act State) → FirstLeads (first_of setting log act)
        → FirstsAlike (first_of setting log act) (first_of Other other act)
    unfolding first_of
    firsts_alike log other alike (Goes next) leads = silent_alike alike
    firsts_alike log other alike (Stops outcome) leads = ended_alike alike
    firsts_alike log other alike (Reads path kind onward) leads =
        firsts_alike (with_read log path kind) (with_read other path kind) (one_read_more path kind alike) (onward (read_cell setting path kind)) leads
    firsts_alike log other alike (Touches touch act) leads = firsts_alike (with_touch log touch) (with_touch other touch) (one_touch_more touch alike) act leads
    firsts_alike log other alike (Asks at operation onward) leads =
        both_if (allows_event setting log) (allows_event Other other) _ _ _ _ (same_room log other alike)
        (λ room h. asks_alike log other alike at operation onward h)
        (ended_alike alike) leads
    firsts_alike log other alike (Allocates at path onward) leads =
        both_if (allows_event setting log) (allows_event Other other) _ _ _ _ (same_room log other alike)
        (λ room h.
        shown_alike (record { pends = refl; answers = refl; places = refl }) refl
        (one_event_more (Tries at path) (allocation_event setting at path) (allocation_event setting at path)
        (one_read_more path Allocation alike)))
        (ended_alike alike) leads
    firsts_alike log other alike (Reaches at object offset act) leads =
        both_if (allows_event setting log) (allows_event Other other) _ _ _ _ (same_room log other alike)
        (λ room h.
        shown_alike (record { pends = refl; answers = refl; places = refl }) refl
        (one_event_more (Accesses at object offset) (access_event at offset) (access_event at offset) alike))
        (ended_alike alike) leads

    -- a silent step, an event or an end that is alike
    record SilentToo (next : State) (log : Log) (first : First State) : Type 0 where
      other : Log
      is : first ≡ Silent next other
      logs : LogsAlike log other

    record ShownToo (one : Step) (left : Act State) (log : Log) (first : First State) : Type 0 where
      shown : Step
      other : Log
      is : first ≡ Shown shown left other
      labels : LabelsDiffer one shown
      logs : LogsAlike log other

    record EndedToo (outcome : Outcome) (log : Log) (first : First State) : Type 0 where
      other : Log
      is : first ≡ Ended outcome other
      logs : LogsAlike log other

    silent_too : {next : State} {log : Log} {first other : First State} → first ≡ Silent next log → FirstsAlike first other → SilentToo next log other
    silent_too {next = next} {log = log} e (silent_alike {next = n} {log = l} {other = o} logs) =
        let same : n ≡ next = cc in
        let same_log : l ≡ log = cc in
        record { other = o; is = ap (λ n. Silent n o) same; logs = subst (λ l. LogsAlike l o) same_log logs }
    silent_too e (shown_alike labels lefts logs) = cc
    silent_too e (ended_alike logs) = cc

    shown_too : {one : Step} {left : Act State} {log : Log} {first other : First State} → first ≡ Shown one left log → FirstsAlike first other
        → ShownToo one left log other
    shown_too e (silent_alike logs) = cc
    shown_too {one = one} {left = left} {log = log} e (shown_alike {one = a} {shown = s} {left = r} {left' = r'} {log = l} {other = o} labels lefts logs) =
        let same : a ≡ one = cc in
        let same_left : r ≡ left = cc in
        let same_log : l ≡ log = cc in
        record {
          shown = s;
          other = o;
          is = ap (λ x. Shown s x o) (lefts ∙ same_left);
          labels = subst (λ x. LabelsDiffer x s) same labels;
          logs = subst (λ x. LogsAlike x o) same_log logs;
        }
    shown_too e (ended_alike logs) = cc

    ended_too : {outcome : Outcome} {log : Log} {first other : First State} → first ≡ Ended outcome log → FirstsAlike first other
        → EndedToo outcome log other
    ended_too e (silent_alike logs) = cc
    ended_too e (shown_alike labels lefts logs) = cc
    ended_too {outcome = outcome} {log = log} e (ended_alike {outcome = x} {log = l} {other = o} logs) =
        let same : x ≡ outcome = cc in
        let same_log : l ≡ log = cc in
        record { other = o; is = ap (λ x. Ended x o) same; logs = subst (λ x. LogsAlike x o) same_log logs }

    module _ (step : State → Act State) where
      -- the run with the guesses has the same outcome, with steps that differ at most in their labels
      pub record EndsAlike (first : First State) (steps : List Step) (outcome : Outcome) (end : Log) : Type 0 where
        pub others : List Step
        pub other : Log
        pub runs : RunsTo step Other first others outcome other
        pub labels : AllLabelsDiffer steps others
        pub logs : LogsAlike end other

      runs_alike : {first : First State} {steps : List Step} {outcome : Outcome} {end : Log} → RunsTo step setting first steps outcome end
          → (log other : Log) → LogsAlike log other → (act : Act State) → first_of setting log act ≡ first
          → LeadAlike setting guesses (suc (length log.events)) steps → EndsAlike (first_of Other other act) steps outcome end
      runs_alike (ends e) log other alike act is leads =
          let it = ended_too (is ∙ e) (firsts_alike log other alike act (subst FirstLeads (sym (is ∙ e)) tt)) in
          record { others = []; other = it.other; runs = ends it.is; labels = tt; logs = it.logs }
      runs_alike (shows {shown = shown} {left = left} {log = between} {steps = steps} e rest) log other alike act is leads =
          let has : between.events ≡ log.events ++ shown.event ∷ [] = subst (HasEvents setting log.events) (is ∙ e) (adds_first setting log act) in
          let number : suc (length log.events) ≡ length between.events = sym (next_is between log.events shown.event has) in
          let first_leads : FirstLeads (Shown shown left between) = subst (λ n. LeadsAlike setting guesses n shown) number leads.0 in
          let it = shown_too (is ∙ e) (firsts_alike log other alike act (subst FirstLeads (sym (is ∙ e)) first_leads)) in
          let more = runs_alike rest between it.other it.logs left refl (subst (λ n. LeadAlike setting guesses (suc n) steps) number leads.1) in
          record { others = it.shown ∷ more.others; other = more.other; runs = shows it.is more.runs; labels = (it.labels, more.labels); logs = more.logs }
      runs_alike (silently {next = next} {log = between} {steps = steps} e rest) log other alike act is leads =
          let has : between.events ≡ log.events = subst (HasEvents setting log.events) (is ∙ e) (adds_first setting log act) in
          let it = silent_too (is ∙ e) (firsts_alike log other alike act (subst FirstLeads (sym (is ∙ e)) tt)) in
          let more = runs_alike rest between it.other it.logs (step next) refl
          (subst (λ l. LeadAlike setting guesses (suc (length l)) steps) (sym has) leads) in
          record { others = more.others; other = more.other; runs = silently it.is more.runs; labels = more.labels; logs = more.logs }

      -- listing results as guesses changes only labels
      pub labels_alone : (m : State) (log : Log) {steps : List Step} {outcome : Outcome} {end : Log}
          → RunsTo step setting (first_of setting log (step m)) steps outcome end → LeadAlike setting guesses (suc (length log.events)) steps
          → EndsAlike (first_of Other log (step m)) steps outcome end
      labels_alone m log runs leads = runs_alike runs log log (record { passed = refl; pending = refl; read = refl; touches = refl }) (step m) refl leads
