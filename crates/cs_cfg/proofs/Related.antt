-- Related states of the machine and of the code's run: frame by frame, the point does what is still to be done.
use Rattle.std.proofs.Common.{◌≡◌, ℕ, suc, List, [], ◌∷◌, length, Some}
use Rattle.cs_ast.specs.TypedTree.{Statement}
use Rattle.cs_ast.specs.TypedProgram.{TypedProgram}
use Rattle.cs_events.specs.declared.outcome.RunBudgets.{RunBudgets}
use Rattle.cs_events.specs.Acts.{Goes}
use Rattle.cs_meaning.specs.Machine.{CallFrame, Frame, State, routine_of}
use Rattle.cs_cfg.specs.Graph.{Point, Flow, Code, flow_of}
use Rattle.cs_cfg.specs.Working.{CodeState}
use Rattle.cs_cfg.specs.CodeSteps.{code_step}
use Rattle.cs_cfg.specs.Placing.{Joins}
use Rattle.cs_cfg.specs.Standing.{stands_at}
use Rattle.cs_cfg.specs.Placed.{LowersBody}

module _ (code : Code) (program : TypedProgram) where
  -- a frame of the code's run does what one of the machine's has to do, once so many temporaries are in use
  pub record FrameStands (depth : ℕ) (frame : Frame) (other : CallFrame Point) : Type 0 where
    pub function : other.function ≡ frame.function
    pub number : other.number ≡ frame.number
    pub stack : other.stack ≡ frame.stack
    pub visits : other.visits ≡ frame.visits
    pub body : Statement
    pub has_body : (routine_of program frame.function).body ≡ Some body
    pub flow : Flow
    pub has_flow : flow_of code frame.function ≡ Some flow
    pub lowers : LowersBody program (routine_of program frame.function) body flow
    -- where `break` and `continue` lead, and the point to which the code's jumps lead
    pub out : Point
    pub again : Point
    pub here : Point
    pub joins : Joins program flow other.todo here
    pub stands : stands_at program flow (routine_of program frame.function) lowers.labels frame.todo out again depth here

  -- the calling frames wait for a value
  pub data CallersStand : List Frame → List (CallFrame Point) → Type 0 where
    nobody : CallersStand [] []
    waits : {frame : Frame} {frames : List Frame} {other : CallFrame Point} {others : List (CallFrame Point)} →
        FrameStands (suc (length frame.stack)) frame other → CallersStand frames others → CallersStand (frame ∷ frames) (other ∷ others)

  -- a state of the code's run represents one of the machine, step by step
  pub record Aligned (m : State) (t : CodeState) : Type 0 where
    pub frame : FrameStands (length m.frame.stack) m.frame t.frame
    pub callers : CallersStand m.callers t.callers
    pub memory : t.memory ≡ m.memory
    pub frames : t.frames ≡ m.frames
    pub allocations : t.allocations ≡ m.allocations
    pub calls : t.calls ≡ m.calls

  -- the same, or the code's run gets there silently: if the first part of `&&` or `||` determines its value, the machine pushes the
  -- number in the same step, and the code in one of its own
  pub data Related (budgets : RunBudgets) (m : State) : CodeState → Type 0 where
    now : {t : CodeState} → Aligned m t → Related budgets m t
    soon : {t next : CodeState} → code_step code program budgets t ≡ Goes next → Related budgets m next → Related budgets m t
