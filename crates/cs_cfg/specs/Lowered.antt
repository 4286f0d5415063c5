-- When code is the lowering of a program.
use Rattle.std.specs.Prelude.{◌≡◌, ℕ, List, [], ◌∷◌, ◌+◌, Bool, true, false, Option, Some, None, ⊤}
use Rattle.cs_ast.specs.TypedTree.{Statement}
use Rattle.cs_ast.specs.TypedProgram.{TypedProgram, Routine}
use Rattle.cs_events.specs.declared.outcome.Outcome.{Outcome}
use Rattle.cs_events.specs.declared.outcome.Outcome.TheVariants.{Done}
use Rattle.cs_events.specs.declared.outcome.Returned.{Returned}
use Rattle.cs_events.specs.declared.outcome.RunBudgets.{RunBudgets}
use Rattle.cs_events.specs.Objects.{UnsetCell}
use Rattle.cs_events.specs.Runs.{Log}
use Rattle.cs_events.specs.PendingEvents.{Pending}
use Rattle.cs_meaning.specs.Machine.{Operand, Scalar, Item, State, operand_at, routine_of}
use Rattle.cs_meaning.specs.ProgramRuns.{ProgramRun, RunGives, RunIsPending}
use Rattle.cs_cfg.specs.Graph.{BlockEnd, Return, Flow, Code, flow_of}
use Rattle.cs_cfg.specs.Working.{CodeState, cut}
use Rattle.cs_cfg.specs.CodeSteps.{CodeGives, CodeIsPending}
use Rattle.cs_cfg.specs.ControlPoints.{control_points}
use Rattle.cs_cfg.specs.GraphPoints.{HasPoints}

-- the value that the machine returns in a final state: the newest one, or an unset one if there is nothing to do
abbrev pub returned_with : List Item → State → Operand
returned_with [] m = Scalar UnsetCell
returned_with (item ∷ items) m = operand_at m 0

abbrev pub returned_value : State → Operand
returned_value m = returned_with m.frame.todo m

-- the value that the run of the code returns in such a state
abbrev pub end_value : BlockEnd → CodeState → Operand
end_value (Return temporary) m = operand_at (cut (temporary + 1) m) 0
end_value other m = Scalar UnsetCell

abbrev pub code_returned : CodeState → Operand
code_returned m = end_value m.frame.todo.end m

abbrev pub is_there : {T : Type 0} → Option T → Bool
is_there None = false
is_there (Some x) = true

-- exactly the functions with a body have a graph
abbrev pub HasGraphs : Code → TypedProgram → Type 0
HasGraphs code program = (function : ℕ) → is_there (flow_of code function) ≡ is_there (routine_of program function).body

-- the graph of a function has exactly the control points of its statements
abbrev pub ReadsOff : Routine → Option Flow → Type 0
ReadsOff routine None = ⊤
ReadsOff routine (Some flow) = HasPoints flow (control_points routine)

-- runs of the code end as those of the reference machine do, with the same events, paths read and touches; the same is pending at each event
pub record RunsAlike (code : Code) (program : TypedProgram) : Type 0 where
  -- if the machine's run ends, the run of the code ends with the same outcome and log
  pub ends : (entry : ℕ) (body : Statement) (run : ProgramRun) (budgets : RunBudgets) (outcome : Outcome) (log : Log) →
      (routine_of program entry).body ≡ Some body → RunGives program entry run budgets outcome log → CodeGives code program entry run budgets outcome log
  -- and conversely
  pub ends_only : (entry : ℕ) (body : Statement) (run : ProgramRun) (budgets : RunBudgets) (outcome : Outcome) (log : Log) →
      (routine_of program entry).body ≡ Some body → CodeGives code program entry run budgets outcome log → RunGives program entry run budgets outcome log
  -- the same is pending at each event, an access with the same object and offset
  pub pends : (entry : ℕ) (body : Statement) (run : ProgramRun) (budgets : RunBudgets) (event : ℕ) (pending : Pending) →
      (routine_of program entry).body ≡ Some body → RunIsPending program entry run budgets event pending
      → CodeIsPending code program entry run budgets event pending
  pub pends_only : (entry : ℕ) (body : Statement) (run : ProgramRun) (budgets : RunBudgets) (event : ℕ) (pending : Pending) →
      (routine_of program entry).body ≡ Some body → CodeIsPending code program entry run budgets event pending
      → RunIsPending program entry run budgets event pending
  -- if the run is done, the value that it returns and its memory are those of the machine's run
  pub returns : (entry : ℕ) (body : Statement) (run : ProgramRun) (budgets : RunBudgets) (what : Returned) (log : Log)
      → (routine_of program entry).body ≡ Some body →
      (one : RunGives program entry run budgets (Done what) log) (other : CodeGives code program entry run budgets (Done what) log) →
      (returned_value one.last ≡ code_returned other.last) × (one.last.memory ≡ other.last.memory)

-- the code is the lowering of a program: it runs as the reference machine does, and its control points are those of the statements
pub record IsLowered (code : Code) (program : TypedProgram) : Type 0 where
  pub graphs : HasGraphs code program
  pub runs : RunsAlike code program
  -- the control points of each graph are exactly those of the function's statements, with what is reached next on each way
  pub flows : (function : ℕ) → ReadsOff (routine_of program function) (flow_of code function)
