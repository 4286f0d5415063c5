-- Laws of all code, and of code that executes the bodies of a program's functions.
use Rattle.std.specs.Prelude.{◌≡◌, ℕ, Some, option_map}
use Rattle.cs_meaning.specs.Machine.{to_do, routine_of}
use Rattle.cs_meaning.specs.ProgramRuns.{ProgramRun, setting_of, start_of}
use Rattle.cs_meaning.specs.Steps.{step}
use Rattle.cs_ast.specs.TypedTree.{Statement}
use Rattle.cs_ast.specs.TypedProgram.{TypedProgram}
use Rattle.cs_events.specs.declared.outcome.RunBudgets.{RunBudgets}
use Rattle.cs_events.specs.Runs.{Setting, Log, perform, Leads}
use Rattle.cs_cfg.specs.declared.code.Spot.{Spot}
use Rattle.cs_cfg.specs.Graph.{Point, Flow, Code, flow_of, block_in}
use Rattle.cs_cfg.specs.GraphPoints.{Occurs}
use Rattle.cs_cfg.specs.Fitting.{CodeFits}
use Rattle.cs_cfg.specs.Lowered.{RunsAlike, IsLowered}
use Rattle.cs_cfg.specs.Passing.{PassesAlike}
use Rattle.cs_cfg.specs.Placed.{IsPlaced}
use Rattle.cs_cfg.specs.RunLaws.{KeepsRunLaws}
use Rattle.cs_cfg.specs.FollowingFlow.{FollowsFlow, BeginsFlow, EndsFlow}
use Rattle.cs_cfg.specs.Working.{CodeState}
use Rattle.cs_cfg.specs.CodeSteps.{code_step, code_start}
use Rattle.cs_cfg.specs.Spots.{SpotState, point_at, point_of, begins, at_points}
use Rattle.cs_cfg.specs.Instructions.{JumpsTo, spot_step}
use Rattle.cs_cfg.specs.Touching.{touch_at, in_frame, HasTouched}

-- placed code runs as the reference machine does
abbrev pub PlacedCodeRunsAlike : Type 0
PlacedCodeRunsAlike = (code : Code) (program : TypedProgram) → IsPlaced code program → RunsAlike code program

-- and it is the lowering of its program if its blocks have no other control points than the statements
abbrev pub PlacedCodeIsLowered : Type 0
PlacedCodeIsLowered = (code : Code) (program : TypedProgram) → IsPlaced code program → CodeFits code program → IsLowered code program

-- the lowering of a program passes and reads what the program does, with the same pending at each event
abbrev pub LoweredCodePassesAlike : Type 0
LoweredCodePassesAlike = (code : Code) (program : TypedProgram) → IsLowered code program → PassesAlike code program

-- each rest of a block of a function's graph is the point at a spot of the function
abbrev pub PointsAreAtSpots : Type 0
PointsAreAtSpots = (code : Code) (function : ℕ) (flow : Flow) (p : Point) → flow_of code function ≡ Some flow → Occurs flow p →
    (spot : Spot) × (spot.function ≡ function) × (point_at code spot ≡ Some p)

-- a block is the point at the spot where it begins
abbrev pub BlocksBeginAtSpots : Type 0
BlocksBeginAtSpots = (code : Code) (function block : ℕ) → point_of code (begins function block) ≡ block_in code function block

-- the step of the code's run from a state whose frames are at spots is determined by the instruction at the current frame's spot
abbrev pub StepsGoBySpots : Type 0
StepsGoBySpots = (code : Code) (program : TypedProgram) (budgets : RunBudgets) (m : SpotState)
    → code_step code program budgets (at_points code m) ≡ spot_step code program budgets m

-- jumps are silent: a run reaches each spot to which only jumps lead, without an event, a lookup or a touch
abbrev pub JumpsAreSilent : Type 0
JumpsAreSilent = (code : Code) (program : TypedProgram) (budgets : RunBudgets) (setting : Setting) (m : SpotState) (last : Spot) (log : Log)
    → JumpsTo code m.frame.todo last
    → Leads (code_step code program budgets) setting (at_points code m) log (at_points code (to_do last m)) log

-- the step of the code's run from a spot touches what the instruction at the spot does, in the current frame: exactly this if the run
-- continues, and at most this if it ends
abbrev pub StepsTouchAsReported : Type 0
StepsTouchAsReported = (code : Code) (program : TypedProgram) (budgets : RunBudgets) (spot : Spot) (setting : Setting) (m : CodeState) (log : Log) →
    point_at code spot ≡ Some m.frame.todo →
    HasTouched log.touches (option_map (in_frame m.frame.number) (touch_at code spot)) (perform setting log (code_step code program budgets m))

-- runs of code, and of programs, depend only on what the laws of runs state
abbrev pub CodeKeepsRunLaws : Type 0
CodeKeepsRunLaws = (code : Code) (program : TypedProgram) (budgets : RunBudgets) → KeepsRunLaws (code_step code program budgets)

abbrev pub ProgramsKeepRunLaws : Type 0
ProgramsKeepRunLaws = (program : TypedProgram) (budgets : RunBudgets) → KeepsRunLaws (step program budgets)

-- runs of the lowering of a program follow its flow
abbrev pub LoweredCodeFollowsFlow : Type 0
LoweredCodeFollowsFlow = (code : Code) (program : TypedProgram) → IsLowered code program →
    (entry : ℕ) (body : Statement) (run : ProgramRun) (budgets : RunBudgets) → (routine_of program entry).body ≡ Some body
    → FollowsFlow (code_step code program budgets) (setting_of program run budgets) program (code_start code program entry run)

-- and so do runs of the reference machine, for each program that code is placed in and whose control points fit
abbrev pub ProgramsFollowFlow : Type 0
ProgramsFollowFlow = (code : Code) (program : TypedProgram) → IsPlaced code program → CodeFits code program →
    (entry : ℕ) (body : Statement) (run : ProgramRun) (budgets : RunBudgets) → (routine_of program entry).body ≡ Some body
    → FollowsFlow (step program budgets) (setting_of program run budgets) program (start_of program entry run)

-- frames begin as the flow does, in runs of placed code and in those of the reference machine
abbrev pub FramesBeginAsTheFlow : Type 0
FramesBeginAsTheFlow = (code : Code) (program : TypedProgram) → IsPlaced code program →
    (entry : ℕ) (body : Statement) (run : ProgramRun) (budgets : RunBudgets) → (routine_of program entry).body ≡ Some body
    → BeginsFlow (code_step code program budgets) (setting_of program run budgets) program (code_start code program entry run)
    × BeginsFlow (step program budgets) (setting_of program run budgets) program (start_of program entry run)

-- frames end as the flow does, in runs of the reference machine
abbrev pub FramesEndAsTheFlow : Type 0
FramesEndAsTheFlow = (code : Code) (program : TypedProgram) → IsPlaced code program →
    (entry : ℕ) (body : Statement) (run : ProgramRun) (budgets : RunBudgets) → (routine_of program entry).body ≡ Some body
    → EndsFlow (step program budgets) (setting_of program run budgets) (start_of program entry run)
