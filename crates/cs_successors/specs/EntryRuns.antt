-- The runs of an entry: how one begins, what remains for it to do after some steps, and how it ends.
use Rattle.std.specs.Prelude.{◌≡◌, ℕ, ℤ, List, [], ◌∷◌, map}
use Rattle.cs_inputs.specs.declared.path.Path.{Path}
use Rattle.cs_ast.specs.TypedProgram.{TypedProgram}
use Rattle.cs_events.specs.declared.event.Event.{Event}
use Rattle.cs_events.specs.declared.guess.Guess.{Guess}
use Rattle.cs_events.specs.declared.outcome.Outcome.{Outcome}
use Rattle.cs_events.specs.declared.outcome.RunBudgets.{RunBudgets}
use Rattle.cs_events.specs.Acts.{Act}
use Rattle.cs_events.specs.PendingEvents.{Pending}
use Rattle.cs_events.specs.Runs.{Setting, Log, empty}
use Rattle.cs_event_runs.specs.First.{Step, First, Silent, Shown, Ended, first_of}
use Rattle.cs_event_runs.specs.ByEvents.{RunsTo, ShowsAfter}
use Rattle.cs_meaning.specs.Machine.{routine_of}
use Rattle.cs_cfg.specs.Graph.{Code}
use Rattle.cs_cfg.specs.Working.{CodeState}
use Rattle.cs_cfg.specs.CodeSteps.{code_step, code_started}

-- the events that steps show
abbrev pub events_of : List Step → List Event
events_of steps = map (λ (one : Step). one.event) steps

-- the setting of a run with these inputs and guesses
abbrev pub setting_with : TypedProgram → RunBudgets → (Path → ℤ) → List Guess → Setting
setting_with program budgets inputs guesses = record { model = program.model; inputs = inputs; guesses = guesses; budgets = budgets }

module _ {M : Type 0} (step : M → Act M) (setting : Setting) where
  -- from this first step on, a run passes these steps, and directly after the last of them this act remains, with this log
  pub data LeavesAfter : First M → List Step → Act M → Log → Type 0 where
    now : {first : First M} {one : Step} {left : Act M} {log : Log} → first ≡ Shown one left log → LeavesAfter first (one ∷ []) left log
    later : {first : First M} {one : Step} {between left : Act M} {before log : Log} {steps : List Step} → first ≡ Shown one between before
        → LeavesAfter (first_of setting before between) steps left log → LeavesAfter first (one ∷ steps) left log
    unseen : {first : First M} {next : M} {left : Act M} {before log : Log} {steps : List Step} → first ≡ Silent next before
        → LeavesAfter (first_of setting before (step next)) steps left log → LeavesAfter first steps left log

  -- with this remaining act and this log, a run passes these steps and then has that act left: after the last step, or after silent ones that follow it
  pub data Proceeds : Act M → Log → List Step → Act M → Log → Type 0 where
    stays : {left last : Act M} {log end : Log} → left ≡ last → log ≡ end → Proceeds left log [] last end
    silently : {left last : Act M} {next : M} {log between end : Log} {steps : List Step} → first_of setting log left ≡ Silent next between
        → Proceeds (step next) between steps last end → Proceeds left log steps last end
    shows : {left rest last : Act M} {one : Step} {log between end : Log} {steps : List Step} → first_of setting log left ≡ Shown one rest between
        → Proceeds rest between steps last end → Proceeds left log (one ∷ steps) last end

module _ (code : Code) (program : TypedProgram) (entry : ℕ) (budgets : RunBudgets) where
  -- the act of the code at each step of a run, and the state in which the run begins
  abbrev pub step_of : CodeState → Act CodeState
  step_of = code_step code program budgets

  abbrev pub start_of : Setting → CodeState
  start_of setting = code_started code program setting.inputs entry (routine_of program entry)

  -- the first step of a run, which is silent
  abbrev pub first_in : Setting → First CodeState
  first_in setting = Silent (start_of setting) empty

  -- this act remains for a run directly after these steps; after no steps, at its beginning
  pub data HasLeft (setting : Setting) : List Step → Act CodeState → Log → Type 0 where
    begins : {left : Act CodeState} {log : Log} → left ≡ step_of (start_of setting) → log ≡ empty → HasLeft setting [] left log
    passes : {steps : List Step} {left : Act CodeState} {log : Log} → LeavesAfter step_of setting (first_in setting) steps left log
        → HasLeft setting steps left log

  -- a run passes exactly these steps and ends with this outcome and this log
  abbrev pub EndsAfter : Setting → List Step → Outcome → Log → Type 0
  EndsAfter setting steps outcome log = RunsTo step_of setting (first_in setting) steps outcome log

  -- a run passes exactly these steps, and has this act left before it ends with this outcome and this log
  pub record EndsWith (setting : Setting) (steps : List Step) (last : Act CodeState) (before : Log) (outcome : Outcome) (log : Log) : Type 0 where
    pub proceeds : Proceeds step_of setting (step_of (start_of setting)) empty steps last before
    pub ends : first_of setting before last ≡ Ended outcome log

  -- a run passes these events, and then this operation is pending
  pub record PassesTo (setting : Setting) (events : List Event) (pending : Pending) : Type 0 where
    pub steps : List Step
    pub one : Step
    pub passes : events_of steps ≡ events
    pub shows : ShowsAfter step_of setting (first_in setting) steps one
    pub pends : one.pending ≡ pending
