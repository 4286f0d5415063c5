-- Calls, defined by the parts of a function that they depend on.
use Rattle.std.specs.Prelude.{ℕ, ◌+◌, List, ◌∷◌, Bool, true, false, Option}
use Rattle.cs_types.specs.Shape.{Shape, void}
use Rattle.cs_ast.specs.declared.place.Place.{Place}
use Rattle.cs_ast.specs.TypedProgram.{TypedProgram}
use Rattle.cs_events.specs.declared.event.Label.TheVariants as label
use Rattle.cs_events.specs.Acts.{Act, Goes}
use Rattle.cs_meaning.specs.Memory.{Block, Memory, Unknown}
use Rattle.cs_meaning.specs.Access.{shows_then, receive}
use Rattle.cs_meaning.specs.Calls.{outside_result, write_arguments, result_path}
use Rattle.cs_meaning.specs.Machine.{Operand, Scalar, Frame, State, push}
use Rattle.cs_memory.specs.MemoryView.{with_frame}

-- whether a function with this return type returns nothing
abbrev pub is_nothing : Shape → Bool
is_nothing void = true
is_nothing other = false

-- the result of a call of a function without a body, if its type isn't `void`
abbrev pub received_result : TypedProgram → Shape → ℕ → Memory → (Memory → Operand → Act State) → Act State
received_result program ty call memory onward = receive program memory (Unknown (result_path call) ty) (λ after cell. onward after (Scalar cell))

-- a call of a function without a body that has this return type and writes through these parameters
abbrev pub call_returning : TypedProgram → Place → ℕ → Shape → List Bool → List Operand → State → Act State
call_returning program at function returns written arguments m =
    shows_then at (label.Callee function)
    (outside_result program returns (m.calls + 1) m.memory (λ memory result.
    write_arguments program at (m.calls + 1) 0 written arguments memory (λ after.
    Goes (push result (record m { memory = after; calls = m.calls + 1 })))))

-- the machine in a new frame with these locals
abbrev pub inside_with : Frame → (ℕ → Option Block) → State → State
inside_with frame locals m = record m {
  frame = frame;
  callers = m.frame ∷ m.callers;
  memory = with_frame m.frames locals m.memory;
  frames = m.frames + 1;
}

-- the machine with one more caller of the current frame
abbrev pub called_by : Frame → State → State
called_by caller m = record m { callers = caller ∷ m.callers }
