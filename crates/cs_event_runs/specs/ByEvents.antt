-- Runs by their events, each reached by steps without an event.
use Rattle.std.specs.Prelude.{◌≡◌, ℕ, suc, ◌+◌, List, [], ◌∷◌, length, Some}
use Rattle.cs_events.specs.declared.outcome.Outcome.{Outcome}
use Rattle.cs_events.specs.Acts.{Act}
use Rattle.cs_events.specs.Runs.{Setting, Log, Leads}
use Rattle.cs_events.specs.PendingEvents.{Pending}
use Rattle.cs_events.specs.Pending.{pending_in}
use Rattle.cs_event_runs.specs.First.{Step, First, Silent, Shown, Ended, first_of}

module _ {State : Type 0} (step : State → Act State) (setting : Setting) where
  -- from this first event or end, a run passes these steps and ends with this outcome and log
  pub data RunsTo : First State → List Step → Outcome → Log → Type 0 where
    ends : {first : First State} {outcome : Outcome} {end : Log} → first ≡ Ended outcome end → RunsTo first [] outcome end
    shows : {first : First State} {shown : Step} {left : Act State} {log : Log} {steps : List Step} {outcome : Outcome} {end : Log}
        → first ≡ Shown shown left log → RunsTo (first_of setting log left) steps outcome end → RunsTo first (shown ∷ steps) outcome end
    silently : {first : First State} {next : State} {log : Log} {steps : List Step} {outcome : Outcome} {end : Log} → first ≡ Silent next log
        → RunsTo (first_of setting log (step next)) steps outcome end → RunsTo first steps outcome end

  -- from this first event or end, a run passes these steps, and then shows this one
  pub data ShowsAfter : First State → List Step → Step → Type 0 where
    now : {first : First State} {one : Step} {left : Act State} {log : Log} → first ≡ Shown one left log → ShowsAfter first [] one
    later : {first : First State} {shown one : Step} {left : Act State} {log : Log} {steps : List Step} → first ≡ Shown shown left log
        → ShowsAfter (first_of setting log left) steps one → ShowsAfter first (shown ∷ steps) one
    unseen : {first : First State} {next : State} {log : Log} {steps : List Step} {one : Step} → first ≡ Silent next log
        → ShowsAfter (first_of setting log (step next)) steps one → ShowsAfter first steps one

  -- the steps of a run that ends with this outcome and log
  pub record Found (first : First State) (outcome : Outcome) (end : Log) : Type 0 where
    pub steps : List Step
    pub runs : RunsTo first steps outcome end

  -- the run from a state and a log reaches the event with this number, and this is pending there
  pub record PendingFrom (m : State) (log : Log) (event : ℕ) (pending : Pending) : Type 0 where
    pub last : State
    pub before : Log
    pub leads : Leads step setting m log last before
    pub pends : pending_in setting before event (step last) ≡ Some pending

  -- a run passes some steps, after `passed` events, and then shows one at which this is pending
  pub record ShownPending (first : First State) (passed : ℕ) (event : ℕ) (pending : Pending) : Type 0 where
    pub steps : List Step
    pub one : Step
    pub shows : ShowsAfter first steps one
    pub pends : one.pending ≡ pending
    pub number : event ≡ suc (passed + length steps)
