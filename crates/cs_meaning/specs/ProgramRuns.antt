-- The runs of a program: how each ends, which events it passes, what is pending, and which paths it reads.
use Rattle.std.specs.Prelude.{◌≡◌, ℕ, ℤ, List, Contains}
use Rattle.cs_inputs.specs.declared.path.Path.{Path}
use Rattle.cs_inputs.specs.Inputs.{number_at}
use Rattle.cs_ast.specs.TypedProgram.{TypedProgram}
use Rattle.cs_events.specs.declared.event.Event.{Event}
use Rattle.cs_events.specs.declared.guess.Guess.{Guess}
use Rattle.cs_events.specs.declared.outcome.Outcome.{Outcome}
use Rattle.cs_events.specs.declared.outcome.RunBudgets.{RunBudgets}
use Rattle.cs_events.specs.Runs.{Setting, Log, Ends, Passes, ComesTo}
use Rattle.cs_events.specs.declared.input.InputKind.{InputKind}
use Rattle.cs_events.specs.PendingEvents.{Pending}
use Rattle.cs_events.specs.Pending.{IsPending}
use Rattle.cs_meaning.specs.Machine.{State}
use Rattle.cs_meaning.specs.Steps.{step, start}

-- the initial data of a run: the numbers of paths, and guesses
pub record ProgramRun : Type 0 where
  pub inputs : List (Path × ℤ)
  pub guesses : List Guess

-- the setting of the run of a program
abbrev pub setting_of : TypedProgram → ProgramRun → RunBudgets → Setting
setting_of program run budgets = record { model = program.model; inputs = number_at run.inputs; guesses = run.guesses; budgets = budgets }

-- the state in which the run of an entry begins
abbrev pub start_of : TypedProgram → ℕ → ProgramRun → State
start_of program entry run = start program (number_at run.inputs) entry

-- the run ends with this outcome and this log
abbrev pub RunGives : TypedProgram → ℕ → ProgramRun → RunBudgets → Outcome → Log → Type 0
RunGives program entry run budgets outcome log = Ends (step program budgets) (setting_of program run budgets) (start_of program entry run) outcome log

-- the run passes exactly these events and ends with this outcome
abbrev pub RunEnds : TypedProgram → ℕ → ProgramRun → RunBudgets → List Event → Outcome → Type 0
RunEnds program entry run budgets events outcome = (log : Log) × RunGives program entry run budgets outcome log × (log.events ≡ events)

-- these are the first events that the run passes
abbrev pub RunPasses : TypedProgram → ℕ → ProgramRun → RunBudgets → List Event → Type 0
RunPasses program entry run budgets events = Passes (step program budgets) (setting_of program run budgets) (start_of program entry run) events

-- this is pending in the run at the event with this number
abbrev pub RunIsPending : TypedProgram → ℕ → ProgramRun → RunBudgets → ℕ → Pending → Type 0
RunIsPending program entry run budgets event pending =
    IsPending (step program budgets) (setting_of program run budgets) (start_of program entry run) event pending

-- the run reads a path
abbrev pub RunReads : TypedProgram → ℕ → ProgramRun → RunBudgets → Path → Type 0
RunReads program entry run budgets path =
    (log : Log) × (kind : InputKind) × ComesTo (step program budgets) (setting_of program run budgets) (start_of program entry run) log
    × Contains log.read (record { path = path; kind = kind })
