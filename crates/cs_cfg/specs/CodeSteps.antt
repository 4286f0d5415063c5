-- The run of the code: what it does at each step, and how it begins.
use Rattle.std.specs.Prelude.{ℕ, ◌+◌, ℤ, List, [], ◌∷◌, map, unwrap_or, if◌then◌else◌, Contains}
use Rattle.std.specs.Ordering.{int_eq}
use Rattle.cs_inputs.specs.declared.path.Path.{Path}
use Rattle.cs_inputs.specs.Inputs.{number_at as input_at}
use Rattle.cs_ast.specs.declared.place.Place.{Place}
use Rattle.cs_ast.specs.TypedProgram.{TypedProgram, Routine}
use Rattle.cs_events.specs.declared.event.Event.{Event}
use Rattle.cs_events.specs.declared.event.Label.TheVariants as label
use Rattle.cs_events.specs.declared.input.InputKind.{InputKind}
use Rattle.cs_events.specs.declared.outcome.Outcome.{Outcome}
use Rattle.cs_events.specs.declared.outcome.RunBudgets.{RunBudgets}
use Rattle.cs_events.specs.declared.point.PointKind.TheVariants as point
use Rattle.cs_events.specs.Objects.{UnsetCell}
use Rattle.cs_events.specs.Touches.{Meets}
use Rattle.cs_events.specs.Acts.{Act, Goes, Touches}
use Rattle.cs_events.specs.Runs.{Log, Ends, Passes, ComesTo}
use Rattle.cs_events.specs.PendingEvents.{Pending}
use Rattle.cs_events.specs.Pending.{IsPending}
use Rattle.cs_meaning.specs.Initials.{number_in}
use Rattle.cs_meaning.specs.Access.{shows_then}
use Rattle.cs_meaning.specs.Operators.{branch}
use Rattle.cs_meaning.specs.Machine.{Scalar, to_do, pop, operand_at, cell_at, routine_of}
use Rattle.cs_meaning.specs.Calls.{with_locals, leave}
use Rattle.cs_meaning.specs.Steps.{static_memory, received, with_received, parameters_of}
use Rattle.cs_meaning.specs.ProgramRuns.{ProgramRun, setting_of}
use Rattle.cs_cfg.specs.Graph.{Operation, SwitchCase, BlockEnd, Jump, Branch, Switch, Return, Finish, Code, no_flow, flow_of, block_in}
use Rattle.cs_cfg.specs.Working.{CodeState, takes, cut, code_frame, do_work}

-- the run continues with a block of the current function
abbrev pub enters : Code → ℕ → CodeState → CodeState
enters code block m = to_do (block_in code m.frame.function block) m

-- a case: its number among the cases, and its block
pub record Way : Type 0 where
  pub number : ℕ
  pub block : ℕ

-- the case of a number, with cases counted from a start; if there is none, its number is the count of cases
abbrev pub way_of : List SwitchCase → ℕ → ℤ → ℕ → Way
way_of [] otherwise number count = record { number = count; block = otherwise }
way_of (one ∷ cases) otherwise number count =
    if int_eq one.value number then record { number = count; block = one.block } else way_of cases otherwise number (count + 1)

-- a `switch` continues with a case, which shows
abbrev pub goes_way : Code → Place → Way → CodeState → Act CodeState
goes_way code at way m = Touches (Meets point.Switch at) (shows_then at (label.Case way.number) (Goes (enters code way.block m)))

-- the act of the end of a block; temporaries that it doesn't need are dropped
abbrev pub do_end : Code → BlockEnd → CodeState → Act CodeState
do_end code (Jump block) m = Goes (enters code block m)
do_end code (Branch at temporary one other) m =
    branch at (cell_at (cut (temporary + 1) m) 0) (λ holds. Goes (enters code (if holds then one else other) (pop (cut (temporary + 1) m))))
do_end code (Switch at temporary cases otherwise) m =
    goes_way code at (way_of cases otherwise (number_in (cell_at (cut (temporary + 1) m) 0)) 0) (pop (cut (temporary + 1) m))
do_end code (Return temporary) m = leave (operand_at (cut (temporary + 1) m) 0) m
do_end code Finish m = leave (Scalar UnsetCell) m

-- the act of an operation on the temporaries from its number on
abbrev pub do_operation : Code → TypedProgram → RunBudgets → Operation → CodeState → Act CodeState
do_operation code program budgets operation m = do_work code program budgets operation.at operation.work (cut (operation.temporary + takes operation.work) m)

-- the act of the next operation of a block, or of its end
abbrev pub step_at : Code → TypedProgram → RunBudgets → List Operation → BlockEnd → CodeState → Act CodeState
step_at code program budgets [] end m = do_end code end m
step_at code program budgets (operation ∷ operations) end m =
    do_operation code program budgets operation (to_do (record { operations = operations; end = end }) m)

-- one step of the run of the code
abbrev pub code_step : Code → TypedProgram → RunBudgets → CodeState → Act CodeState
code_step code program budgets m = step_at code program budgets m.frame.todo.operations m.frame.todo.end m

-- the first frame of an entry, whose parameters hold the values of their paths
abbrev pub code_started : Code → TypedProgram → (Path → ℤ) → ℕ → Routine → CodeState
code_started code program inputs entry routine = record {
  frame = code_frame entry (unwrap_or (flow_of code entry) no_flow) 0;
  callers = [];
  memory = with_locals program 0 routine.variables (map (λ v. Scalar (received program inputs v)) (parameters_of routine))
      (with_received program inputs (parameters_of routine) (static_memory program));
  frames = 1;
  allocations = 0;
  calls = 0;
}

-- the state in which the run of an entry begins
abbrev pub code_start : Code → TypedProgram → ℕ → ProgramRun → CodeState
code_start code program entry run = code_started code program (input_at run.inputs) entry (routine_of program entry)

-- the run of the code ends with this outcome and this log: its events, the paths that it has read, and its touches
abbrev pub CodeGives : Code → TypedProgram → ℕ → ProgramRun → RunBudgets → Outcome → Log → Type 0
CodeGives code program entry run budgets outcome log =
    Ends (code_step code program budgets) (setting_of program run budgets) (code_start code program entry run) outcome log

-- this is pending in the run of the code at the event with this number
abbrev pub CodeIsPending : Code → TypedProgram → ℕ → ProgramRun → RunBudgets → ℕ → Pending → Type 0
CodeIsPending code program entry run budgets event pending =
    IsPending (code_step code program budgets) (setting_of program run budgets) (code_start code program entry run) event pending

-- these are the first events that the run of the code passes
abbrev pub CodePasses : Code → TypedProgram → ℕ → ProgramRun → RunBudgets → List Event → Type 0
CodePasses code program entry run budgets events =
    Passes (code_step code program budgets) (setting_of program run budgets) (code_start code program entry run) events

-- the run of the code reaches this log, on its way or at its end
abbrev pub CodeComesTo : Code → TypedProgram → ℕ → ProgramRun → RunBudgets → Log → Type 0
CodeComesTo code program entry run budgets log =
    ComesTo (code_step code program budgets) (setting_of program run budgets) (code_start code program entry run) log

-- the run of the code reads a path
abbrev pub CodeReads : Code → TypedProgram → ℕ → ProgramRun → RunBudgets → Path → Type 0
CodeReads code program entry run budgets path =
    (log : Log) × (kind : InputKind) × CodeComesTo code program entry run budgets log × Contains log.read (record { path = path; kind = kind })
