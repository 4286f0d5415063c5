-- Notation for small hand-written graphs, and for how runs of code end compared with those of the reference machine.
use Rattle.std.proofs.Common.{ℕ, true, false, Option, Some, None}
use Rattle.cs_types.specs.Shape.{Shape}
use Rattle.cs_ast.specs.TypedProgram.{TypedProgram}
use Rattle.cs_events.specs.declared.outcome.Outcome.{Outcome}
use Rattle.cs_events.specs.declared.outcome.RunBudgets.{RunBudgets}
use Rattle.cs_events.specs.Runs.{Log, empty, Performed, Continues, Finishes}
use Rattle.cs_events.specs.Counted.{followed}
use Rattle.cs_meaning.specs.Access.{Access}
use Rattle.cs_meaning.specs.Steps.{step}
use Rattle.cs_meaning.specs.ProgramRuns.{ProgramRun, setting_of, start_of}
use Rattle.cs_meaning.proofs.Building.{at}
use Rattle.cs_cfg.specs.Graph.{Work, Operation, Code}
use Rattle.cs_cfg.specs.CodeSteps.{code_step, code_start}

-- an operation at a column, on the temporaries from a number
abbrev pub does : ℕ → ℕ → Work → Operation
does column temporary work = record { at = at column; temporary = temporary; work = work }

-- the access to a local at a column
abbrev pub direct_local : ℕ → Shape → ℕ → Access
direct_local column ty declaration = record { at = at column; ty = ty; direct = true; local = Some declaration }

-- the access to what a pointer points to
abbrev pub pointed : ℕ → Shape → Access
pointed column ty = record { at = at column; ty = ty; direct = false; local = None }

-- how a run has ended, and its log
abbrev pub ended : {State : Type 0} → Performed State → Option (Outcome × Log)
ended (Continues m log) = None
ended (Finishes outcome log) = Some (outcome, log)

-- how the run of a program's entry has ended after so many steps
abbrev pub machine_run : TypedProgram → ℕ → ProgramRun → RunBudgets → ℕ → Option (Outcome × Log)
machine_run program entry run budgets steps = ended (followed (step program budgets) (setting_of program run budgets) steps (start_of program entry run) empty)

-- the same for the run of code
abbrev pub code_run : Code → TypedProgram → ℕ → ProgramRun → RunBudgets → ℕ → Option (Outcome × Log)
code_run code program entry run budgets steps =
    ended (followed (code_step code program budgets) (setting_of program run budgets) steps (code_start code program entry run) empty)

-- the outcome with which a run has ended
abbrev pub outcome_of : Option (Outcome × Log) → Option Outcome
outcome_of None = None
outcome_of (Some ended) = Some ended.0
