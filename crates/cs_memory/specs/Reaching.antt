-- Touches, reads and writes of several cells, and the checks on the way to an object.
use Rattle.std.specs.Prelude.{◌≡◌, ℕ, ◌+◌, ℤ, pos, neg_ℤ, ◌-ℤ◌, List, [], ◌∷◌, unwrap_or}
use Rattle.cs_types.specs.Shape.{Shape, void}
use Rattle.cs_ast.specs.declared.place.Place.{Place}
use Rattle.cs_ast.specs.TypedProgram.{TypedProgram}
use Rattle.cs_events.specs.Objects.{Object, Cell}
use Rattle.cs_events.specs.Touches.{Touch, Loads, Stores}
use Rattle.cs_events.specs.Acts.{Act, Reaches}
use Rattle.cs_meaning.specs.Types.{size_of, scalar_of, scalar_offsets}
use Rattle.cs_meaning.specs.Initials.{byte_cell}
use Rattle.cs_meaning.specs.Memory.{Memory, Block, write_cell, begins_at}
use Rattle.cs_meaning.specs.Machine.{Operand, Scalar, Whole, State}
use Rattle.cs_meaning.specs.Access as access

-- a load of a local of a frame, and a store to it
abbrev pub load_touch : ℕ → Place → ℕ → Touch
load_touch frame place declaration = Loads frame declaration place

abbrev pub store_touch : ℕ → Place → ℕ → Touch
store_touch frame place declaration = Stores frame declaration place

-- the value of a scalar of an object, which must be set
abbrev pub scalar_value : TypedProgram → Memory → Place → Object → ℕ → (Memory → Operand → Act State) → Act State
scalar_value program memory at object offset onward =
    access.read program memory object offset (λ after cell. access.set_then at cell (onward after (Scalar cell)))

-- the bytes of a text written from an offset on in an object of a type
abbrev pub spells : TypedProgram → Shape → ℕ → List ℕ → Block → Block
spells program ty from [] block = block
spells program ty from (byte ∷ bytes) block =
    spells program ty (from + 1) bytes (write_cell from (byte_cell program.model (unwrap_or (scalar_of program ty from) void) byte) block)

-- an object holds these cells at offsets relative to `from`: reading them looks up no input
abbrev pub HoldsAll : Memory → Object → ℕ → List ℕ → List Cell → Type 0
HoldsAll memory object from offsets cells = (program : TypedProgram) (onward : Memory → List Cell → Act State)
    → access.read_all program memory object from offsets onward ≡ onward memory cells

-- the scalars of a struct of an object, set or not
abbrev pub struct_value : TypedProgram → Memory → Shape → Object → ℕ → (Memory → Operand → Act State) → Act State
struct_value program memory ty object offset onward =
    access.read_all program memory object offset (scalar_offsets program ty) (λ after cells. onward after (Whole cells))

-- access to a live object as one of a type: the type's bytes are within it, the offset shows, and such an object begins there
abbrev pub reach_standing : TypedProgram → Place → Shape → Object → ℤ → Block → (ℕ → Act State) → Act State
reach_standing program at ty object offset block onward =
    access.ordered at offset (pos 0)
    (access.ordered at (neg_ℤ offset) (pos block.extent -ℤ pos (size_of program ty))
    (Reaches at object offset
    (access.fits at (begins_at program ty object block offset) (onward (access.offset_number offset)))))
