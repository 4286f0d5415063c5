-- States of the code's run after a change of the current frame.
use Rattle.std.specs.Prelude.{ℕ, ◌+◌, ◌∷◌, Option}
use Rattle.cs_meaning.specs.Memory.{Block}
use Rattle.cs_meaning.specs.Calls.{without_locals}
use Rattle.cs_meaning.specs.Machine.{CallFrame, Operand, Frame}
use Rattle.cs_memory.specs.MemoryView.{with_frame}
use Rattle.cs_cfg.specs.Graph.{Point}
use Rattle.cs_cfg.specs.Working.{CodeState}
use Rattle.cs_replay.specs.CodeStates.{at_point}

-- the run in a new frame at a point, with these locals
abbrev pub inside_with : Point → Frame → (ℕ → Option Block) → CodeState → CodeState
inside_with p frame locals m = record m {
  frame = at_point p frame;
  callers = m.frame ∷ m.callers;
  memory = with_frame m.frames locals m.memory;
  frames = m.frames + 1;
}

-- the run with one more caller of the current frame
abbrev pub called_by : CallFrame Point → CodeState → CodeState
called_by caller m = record m { callers = caller ∷ m.callers }

-- the run in a caller to which the current frame returns a value
abbrev pub back_in : CallFrame Point → Operand → CodeState → CodeState
back_in caller value m = record m {
  frame = record caller { stack = value ∷ caller.stack };
  memory = without_locals m.frame.number m.memory;
}
