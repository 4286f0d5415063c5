-- The locals of a new frame: for the contracts of `local_block`, `enter` and `start`.
use Rattle.std.proofs.Common.{◌≡◌, ℕ, ◌+◌, ◌==◌, Bool, true, false, Option, Some, None, List, ◌∷◌, refl, ap, if◌then◌else◌}
use Rattle.std.specs.Prelude.{option_map, slice_get}
use mathlib.Core.Path.{fun_ext}
use Rattle.cs_ast.specs.TypedProgram.{TypedProgram, Routine, Variable}
use Rattle.cs_events.specs.Objects.{Object, StartBlock, GlobalObject, LiteralObject, LocalObject, HeapBlock, Cell}
use Rattle.cs_meaning.specs.Types.{size_of}
use Rattle.cs_meaning.specs.Memory.{Memory, Block, UnsetFill, new_block, write_cell, none_written}
use Rattle.cs_meaning.specs.Machine.{Operand, Frame, State, cell_of}
use Rattle.cs_meaning.specs.Calls.{argument_at, local_block, with_locals, inside}
use Rattle.cs_frames.specs.Calling.{inside_with}
use Rattle.cs_memory.specs.MemoryView.{with_frame}

-- a local other than a parameter holds nothing
pub no_argument : argument_at None ≡ none_written
no_argument =
    fun_ext (λ offset.
    elim (offset == 0) as (λ (b : Bool). (if b then option_map cell_of None else None) ≡ none_written offset) [ true ↦ refl | false ↦ refl ])

pub local_without : (program : TypedProgram) (v : Variable) → local_block program None v ≡ new_block v.ty (size_of program v.ty) UnsetFill
local_without program v = ap (λ (written : ℕ → Option Cell). record (new_block v.ty (size_of program v.ty) UnsetFill) { written = written }) no_argument

-- a parameter holds its argument
pub local_with : (program : TypedProgram) (operand : Operand) (v : Variable)
    → local_block program (Some operand) v ≡ write_cell 0 (cell_of operand) (new_block v.ty (size_of program v.ty) UnsetFill)
local_with program operand v = refl

-- memory with the locals of a frame, each with its block
pub locals_are : (program : TypedProgram) (frame : ℕ) (variables : List Variable) (arguments : List Operand) (locals : ℕ → Option Block) (memory : Memory)
    → ((n : ℕ) → locals n ≡ option_map (local_block program (slice_get arguments n)) (slice_get variables n))
    → with_frame frame locals memory ≡ with_locals program frame variables arguments memory
locals_are program frame variables arguments locals memory are = fun_ext (λ object. at object)
  where
    at : (object : Object) → with_frame frame locals memory object ≡ with_locals program frame variables arguments memory object
    at (StartBlock path) = refl
    at (GlobalObject global) = refl
    at (LiteralObject literal) = refl
    at (LocalObject n d) = rw (are d) refl
    at (HeapBlock allocation) = refl

-- the machine in a new frame, whose locals have their blocks
pub inside_is : (program : TypedProgram) (frame : Frame) (routine : Routine) (arguments : List Operand) (locals : ℕ → Option Block) (m : State)
    → ((n : ℕ) → locals n ≡ option_map (local_block program (slice_get arguments n)) (slice_get routine.variables n))
    → inside_with frame locals m ≡ inside program frame routine arguments m
inside_is program frame routine arguments locals m are =
    ap (λ (memory : Memory). record m { frame = frame; callers = m.frame ∷ m.callers; memory = memory; frames = m.frames + 1 })
    (locals_are program m.frames routine.variables arguments locals m.memory are)

pub ruleset locals = (local_without, local_with)
