-- Returns from calls.
use Rattle.std.specs.Prelude.{◌∷◌}
use Rattle.cs_meaning.specs.Calls.{without_locals}
use Rattle.cs_meaning.specs.Machine.{Operand, Frame, State}

-- the machine in a frame to which the frame that ended returns a value
abbrev pub back_in : Frame → Operand → State → State
back_in caller value m = record m {
  frame = record caller { stack = value ∷ caller.stack };
  memory = without_locals m.frame.number m.memory;
}
