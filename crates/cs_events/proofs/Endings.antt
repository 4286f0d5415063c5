-- Every run ends if each silent step of the machine lowers the number of turns, or keeps it and lowers the weight: by the remaining events,
-- then the turns, then the weight.
use Rattle.std.proofs.Common.{◌≡◌, ℕ, zero, suc, ◌+◌, ◌<◌, ◌≤◌, ◌⊎◌, Bool, true, false, [], ◌∷◌, ◌++◌, length}
use Rattle.std.proofs.Common.{if◌then◌else◌, inl, inr, refl, ap, ◌∙◌, arith}
use Rattle.std.proofs.lemmas.Bool.Decides.{nat_tests}
use Rattle.std.proofs.lemmas.List.{length-append}
use Rattle.cs_events.specs.declared.event.Event.{Event}
use Rattle.cs_events.specs.declared.outcome.Outcome.{Outcome}
use Rattle.cs_events.specs.Operations.{is_true}
use Rattle.cs_events.specs.Acts.{Act}
use Rattle.cs_events.specs.Runs.{Setting, Log, Performed, Continues, Finishes, perform, with_event, with_operation, with_allocation, with_access, with_read}
use Rattle.cs_events.specs.Runs.{with_touch, allows_event, operation_event, number_of, read_cell}
use Rattle.cs_events.specs.Runs.{allocation_event, access_event, stays, goes}
use Rattle.cs_events.specs.PendingEvents.{Pending, Operates, Tries, Accesses}
use Rattle.cs_events.specs.declared.input.InputKind.TheVariants.{Allocation}
use Rattle.cs_events.specs.Growth.{GoesOn, log_of}
use Rattle.cs_events.specs.Silence.{Owes, owes_next, stops, reads, asks, allocates, reaches, touches, IsBelow, Lessens, Ending}
use Rattle.cs_events.proofs.LogGrowth.{act_adds}

-- the number of events of a log
abbrev passed : Log → ℕ
passed log = length log.events

-- one log has more events than another, whose budget allowed one more
abbrev IsLouder : Setting → Log → Log → Type 0
IsLouder setting log later = (passed log < setting.budgets.events) × (passed log < passed later)

-- a log that extends one with an additional event has more events
more_events : (log later : Log) (here : Pending) (event : Event) → GoesOn (with_event log here event) later → passed log < passed later
more_events log later here event more =
    let a : length later.events ≡ length ((log.events ++ event ∷ []) ++ more.events.0) = ap length more.events.1 in
    let b = length-append (log.events ++ event ∷ []) more.events.0 in
    let c = length-append log.events (event ∷ []) in
    let d : length (event ∷ []) ≡ 1 = refl in
    omega arith

module _ {State : Type 0} where
  -- the result of an act: it has passed an event, or the next state has a property
  abbrev Went : Setting → (State → Type 0) → Log → Performed State → Type 0
  Went setting Next log (Continues next later) = IsLouder setting log later ⊎ (Next next × (passed later ≡ passed log))
  Went setting Next log (Finishes outcome later) = Unit {0}

  -- after an event that the budget allowed
  louder : (setting : Setting) (Next : State → Type 0) (log : Log) (here : Pending) (event : Event) (done : Performed State)
      → passed log < setting.budgets.events
      → GoesOn (with_event log here event) (log_of done) → Went setting Next log done
  louder setting Next log here event (Continues next later) room more = inl (room, more_events log later here event more)
  louder setting Next log here event (Finishes outcome later) room more = tt

  -- after an event, or at the end of the run if the budget was used up
  after_event : (setting : Setting) (Next : State → Type 0) (log : Log) (here : Pending) (event : Event) (outcome : Outcome) (end : Log)
      (done : Performed State) (room : Bool)
      → allows_event setting log ≡ room → GoesOn (with_event log here event) (log_of done)
      → Went setting Next log (if room then done else Finishes outcome end)
  after_event setting Next log here event outcome end done true h more = louder setting Next log here event done (grind (arith, nat_tests)) more
  after_event setting Next log here event outcome end done false h more = tt

  -- the same for a log with as many events
  from_as_many : (setting : Setting) (Next : State → Type 0) (log before : Log) (done : Performed State) → passed before ≡ passed log
      → Went setting Next before done → Went setting Next log done
  from_as_many setting Next log before (Continues next later) e (inl loud) =
      let room = loud.0 in
      let more = loud.1 in
      inl (omega arith, omega arith)
  from_as_many setting Next log before (Continues next later) e (inr quiet) = inr (quiet.0, quiet.1 ∙ e)
  from_as_many setting Next log before (Finishes outcome later) e w = tt

  -- the result of an act that owes a property of the next state if it passes no event
  went : (setting : Setting) (Next : State → Type 0) (log : Log) {act : Act State} → Owes Next act → Went setting Next log (perform setting log act)
  unfolding perform
  went setting Next log (owes_next next) = inr (next, refl)
  went setting Next log stops = tt
  went setting Next log (reads {path = path} {kind = kind} onward) =
      from_as_many setting Next log (with_read log path kind) _ refl (went setting Next (with_read log path kind) (onward (read_cell setting path kind)))
  went setting Next log (asks {at = at} {operation = operation} {onward = onward}) =
      after_event setting Next log (Operates at operation) (operation_event setting log at operation) _ log _ (allows_event setting log) refl
      (act_adds setting (with_operation setting log at operation) (onward (number_of setting log operation)))
  went setting Next log (allocates {at = at} {path = path} {onward = onward}) =
      from_as_many setting Next log (with_read log path Allocation) _ refl
      (after_event setting Next (with_read log path Allocation) (Tries at path) (allocation_event setting at path) _ log _ (allows_event setting log) refl
      (act_adds setting (with_allocation setting log at path) (onward (is_true (setting.inputs path)))))
  went setting Next log (reaches {at = at} {object = object} {offset = offset} {act = act}) =
      after_event setting Next log (Accesses at object offset) (access_event at offset) _ log _ (allows_event setting log) refl
      (act_adds setting (with_access log at object offset) act)
  went setting Next log (touches {touch = touch} owed) =
      from_as_many setting Next log (with_touch log touch) _ refl (went setting Next (with_touch log touch) owed)

  module _ (step : State → Act State) (setting : Setting) (turns weight : State → ℕ) where
    -- at most so many events remain
    abbrev HasLeft : ℕ → Log → Type 0
    HasLeft events log = setting.budgets.events ≤ passed log + events

    -- a run ends if it ends after its next act
    one_more : (m next : State) (log later : Log) → perform setting log (step m) ≡ Continues next later → Ending step setting next later
        → Ending step setting m log
    one_more m next log later e ending = record {
      outcome = ending.outcome;
      end = ending.end;
      ended = record { last = ending.ended.last; before = ending.ended.before; leads = goes e ending.ended.leads; finishes = ending.ended.finishes };
    }

    -- a run ends if the results of its next act do
    act_ends : (m : State) (log : Log) (done : Performed State) → perform setting log (step m) ≡ done
        → Went setting (IsBelow turns weight (turns m) (weight m)) log done
        → ((next : State) (later : Log) → IsLouder setting log later → Ending step setting next later)
        → ((next : State) (later : Log) → passed later ≡ passed log → IsBelow turns weight (turns m) (weight m) next → Ending step setting next later)
        → Ending step setting m log
    act_ends m log (Finishes outcome later) e w loud quiet =
        record { outcome = outcome; end = later; ended = record { last = m; before = log; leads = stays refl refl; finishes = e } }
    act_ends m log (Continues next later) e (inl l) loud quiet = one_more m next log later e (loud next later l)
    act_ends m log (Continues next later) e (inr q) loud quiet = one_more m next log later e (quiet next later q.1 q.0)

    -- a run ends from a lower state, if runs with fewer turns end, and so do those with as many turns and less weight
    below_ends : (events some much : ℕ) → ((next : State) (later : Log) → HasLeft events later → turns next < some → Ending step setting next later)
        → ((next : State) (later : Log) → HasLeft events later → turns next ≤ some → weight next < much → Ending step setting next later)
        → (m : State) (log : Log) → HasLeft events log → turns m ≤ some → weight m < suc much
        → (next : State) (later : Log) → passed later ≡ passed log → IsBelow turns weight (turns m) (weight m) next → Ending step setting next later
    below_ends events some much fewer lighter m log left few light next later same (inl less) = fewer next later (omega arith) (omega arith)
    below_ends events some much fewer lighter m log left few light next later same (inr less) =
        let as_few = less.0 in
        let lighter_yet = less.1 in
        lighter next later (omega arith) (omega arith) (omega arith)

    -- by the weight, if runs with fewer turns or fewer remaining events end
    by_weight : Lessens step turns weight → (events some : ℕ)
        → ((next : State) (log later : Log) → HasLeft events log → IsLouder setting log later → Ending step setting next later)
        → ((next : State) (later : Log) → HasLeft events later → turns next < some → Ending step setting next later)
        → (much : ℕ) (m : State) (log : Log) → HasLeft events log → turns m ≤ some → weight m < much → Ending step setting m log
    by_weight lessens events some loud fewer zero m log left few light = absurd (omega arith)
    by_weight lessens events some loud fewer (suc much) m log left few light =
        act_ends m log (perform setting log (step m)) refl (went setting (IsBelow turns weight (turns m) (weight m)) log (lessens m))
        (λ next later l. loud next log later left l)
        (below_ends events some much fewer (λ next later left' few' light'. by_weight lessens events some loud fewer much next later left' few' light') m log
        left few light)

    -- by the turns, if runs with fewer remaining events end
    by_turns : Lessens step turns weight → (events : ℕ)
        → ((next : State) (log later : Log) → HasLeft events log → IsLouder setting log later → Ending step setting next later)
        → (some : ℕ) (m : State) (log : Log) → HasLeft events log → turns m ≤ some → Ending step setting m log
    by_turns lessens events loud zero m log left few =
        by_weight lessens events zero loud (λ next later left' none. absurd (omega arith)) (suc (weight m)) m log left few (omega arith)
    by_turns lessens events loud (suc some) m log left few =
        by_weight lessens events (suc some) loud (λ next later left' less. by_turns lessens events loud some next later left' (omega arith)) (suc (weight m)) m
        log left few (omega arith)

    -- by the remaining events
    by_events : Lessens step turns weight → (events : ℕ) (m : State) (log : Log) → HasLeft events log → Ending step setting m log
    by_events lessens zero m log left =
        by_turns lessens zero (λ next log' later left' loud. let room = loud.0 in absurd (omega arith)) (turns m) m log left (omega arith)
    by_events lessens (suc events) m log left =
        by_turns lessens (suc events) (λ next log' later left' loud.
        let room = loud.0 in let more = loud.1 in by_events lessens events next later (omega arith)) (turns m) m log left (omega arith)

    -- every run ends
    pub every_run_ends : Lessens step turns weight → (m : State) (log : Log) → Ending step setting m log
    every_run_ends lessens m log = by_events lessens setting.budgets.events m log (omega arith)
