-- Code passes and reads what its program does, with the same pending at each event.
use Rattle.std.specs.Prelude.{◌≡◌, ℕ, ◌<◌, List, length, Some, slice_get}
use Rattle.cs_inputs.specs.declared.path.Path.{Path}
use Rattle.cs_ast.specs.TypedTree.{Statement}
use Rattle.cs_ast.specs.TypedProgram.{TypedProgram}
use Rattle.cs_events.specs.declared.event.Event.{Event}
use Rattle.cs_events.specs.declared.outcome.RunBudgets.{RunBudgets}
use Rattle.cs_events.specs.Runs.{Log, ComesTo}
use Rattle.cs_meaning.specs.Machine.{routine_of}
use Rattle.cs_meaning.specs.Steps.{step}
use Rattle.cs_meaning.specs.ProgramRuns.{ProgramRun, setting_of, start_of, RunPasses, RunReads}
use Rattle.cs_cfg.specs.Graph.{Code}
use Rattle.cs_cfg.specs.CodeSteps.{CodeComesTo, CodePasses, CodeReads}

-- the run of a program reaches this log, on its way or at its end
abbrev pub RunComesTo : TypedProgram → ℕ → ProgramRun → RunBudgets → Log → Type 0
RunComesTo program entry run budgets log = ComesTo (step program budgets) (setting_of program run budgets) (start_of program entry run) log

-- as far as both logs go, their events are the same, and so is what was pending at each of them
pub record ShowAlike (log other : Log) : Type 0 where
  pub events : (n : ℕ) → n < length log.events → n < length other.events → slice_get log.events n ≡ slice_get other.events n
  pub pending : (n : ℕ) → n < length log.pending → n < length other.pending → slice_get log.pending n ≡ slice_get other.pending n

-- runs of the code pass the events that the program's pass, read the same paths, and have the same pending at each event
pub record PassesAlike (code : Code) (program : TypedProgram) : Type 0 where
  pub passes : (entry : ℕ) (body : Statement) (run : ProgramRun) (budgets : RunBudgets) (events : List Event)
      → (routine_of program entry).body ≡ Some body
      → RunPasses program entry run budgets events → CodePasses code program entry run budgets events
  pub passes_only : (entry : ℕ) (body : Statement) (run : ProgramRun) (budgets : RunBudgets) (events : List Event)
      → (routine_of program entry).body ≡ Some body → CodePasses code program entry run budgets events → RunPasses program entry run budgets events
  pub reads : (entry : ℕ) (body : Statement) (run : ProgramRun) (budgets : RunBudgets) (path : Path) → (routine_of program entry).body ≡ Some body
      → RunReads program entry run budgets path → CodeReads code program entry run budgets path
  pub reads_only : (entry : ℕ) (body : Statement) (run : ProgramRun) (budgets : RunBudgets) (path : Path) → (routine_of program entry).body ≡ Some body
      → CodeReads code program entry run budgets path → RunReads program entry run budgets path
  -- any two logs that they reach agree as far as both go
  pub keeps : (entry : ℕ) (body : Statement) (run : ProgramRun) (budgets : RunBudgets) (log other : Log) → (routine_of program entry).body ≡ Some body
      → RunComesTo program entry run budgets log → CodeComesTo code program entry run budgets other → ShowAlike log other
