-- A state of the code's run, described by a state of the reference machine with nothing to do, and the points of its frames.
use Rattle.std.specs.Prelude.{ℕ, List, [], replicate}
use Rattle.cs_meaning.specs.Machine.{CallFrame, Frame, State}
use Rattle.cs_cfg.specs.Graph.{Point}
use Rattle.cs_cfg.specs.Working.{CodeState}

-- a frame at a point
abbrev pub at_point : Point → Frame → CallFrame Point
at_point p frame = record { function = frame.function; number = frame.number; todo = p; stack = frame.stack; visits = frame.visits }

-- a state whose frame is at a point of its function, with these callers
abbrev pub code_state : (ℕ → Point) → List (CallFrame Point) → State → CodeState
code_state p callers m = record {
  frame = at_point (p m.frame.function) m.frame;
  callers = callers;
  memory = m.memory;
  frames = m.frames;
  allocations = m.allocations;
  calls = m.calls;
}

-- a frame with nothing to do, with no visits of its counted points
abbrev pub begun : ℕ → ℕ → ℕ → Frame
begun function number counted_points = record { function = function; number = number; todo = []; stack = []; visits = replicate counted_points 0 }
