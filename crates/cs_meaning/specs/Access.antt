-- Loads and stores (C11 6.3.2.1, 6.5.16): the checks and events on the way to an object, and what memory returns and keeps.
use Rattle.std.specs.Prelude.{ℕ, ◌+◌, ℤ, pos, negsuc, ◌-ℤ◌, neg_ℤ, Bool, true, false, List, [], ◌∷◌, Option, Some, None, unwrap_or}
use Rattle.std.specs.Prelude.{if◌then◌else◌}
use Rattle.cs_types.specs.Shape.{Shape, void, struct}
use Rattle.cs_ast.specs.declared.place.Place.{Place}
use Rattle.cs_ast.specs.TypedTree.{Typed, Of, Form, Local, Global, Member}
use Rattle.cs_ast.specs.TypedProgram.{TypedProgram}
use Rattle.cs_model.specs.declared.standing.Standing.{Standing}
use Rattle.cs_model.specs.declared.standing.Standing.TheVariants.{Live, Freed, Ended}
use Rattle.cs_model.specs.declared.kind.Kind.TheVariants as kind
use Rattle.cs_events.specs.declared.event.Label.{Label}
use Rattle.cs_events.specs.declared.event.Label.TheVariants.{Look}
use Rattle.cs_events.specs.declared.operation.Operation.TheVariants.{Order, Show}
use Rattle.cs_events.specs.declared.outcome.Outcome.TheVariants.{Fault}
use Rattle.cs_events.specs.Operations.{is_true}
use Rattle.cs_events.specs.InputCells.{input_kind}
use Rattle.cs_events.specs.Objects.{Object, LocalObject, Cell, NumberCell, NullCell, PointerCell, UnsetCell}
use Rattle.cs_events.specs.Touches.{Touch, Loads, Stores}
use Rattle.cs_events.specs.Acts.{Act, Stops, Reads, Asks, Reaches, Touches}
use Rattle.cs_meaning.specs.Types.{size_of, scalar_of, scalar_offsets, type_of, is_scalar}
use Rattle.cs_meaning.specs.Initials.{byte_cell}
use Rattle.cs_meaning.specs.Memory.{Block, Memory, UnsetFill, new_block, changed, write_cell, begins_at, Found, Holds, Unknown, found_in, is_constant}
use Rattle.cs_meaning.specs.Inputs.{opened}
use Rattle.cs_meaning.specs.Machine.{Operand, Scalar, Whole, Nothing}

-- the source position of an expression
abbrev pub place_of : Typed → Place
place_of (Of at ty form) = at

abbrev mutual
  -- whether an expression is a variable, or a member of one: such an object is accessed without a check
  pub is_direct : Typed → Bool
  is_direct (Of at ty form) = is_direct_form form

  pub is_direct_form : Form → Bool
  is_direct_form (Local declaration) = true
  is_direct_form (Global global) = true
  is_direct_form (Member object offset) = is_direct object
  is_direct_form other = false

-- the declaration that an expression designates, if it is a scalar local of the function
abbrev pub scalar_local : Typed → Option ℕ
scalar_local (Of at ty (Local declaration)) = if is_scalar ty then Some declaration else None
scalar_local other = None

-- what a load or a store needs to know of the expression that designates an object: its position and type, whether it is direct, and
-- its declaration if it is a scalar local
pub record Access : Type 0 where
  pub at : Place
  pub ty : Shape
  pub direct : Bool
  pub local : Option ℕ

abbrev pub access_of : Typed → Access
access_of e = record { at = place_of e; ty = type_of e; direct = is_direct e; local = scalar_local e }

-- writes a struct's scalars at offsets relative to `from`
abbrev pub write_cells : ℕ → List ℕ → List Cell → Block → Block
write_cells from (offset ∷ offsets) (cell ∷ cells) block = write_cells from offsets cells (write_cell (from + offset) cell block)
write_cells from offsets cells block = block

-- writes a value of a type at an offset
abbrev pub write_operand : TypedProgram → Shape → ℕ → Operand → Block → Block
write_operand program ty offset (Scalar cell) block = write_cell offset cell block
write_operand program ty offset (Whole cells) block = write_cells offset (scalar_offsets program ty) cells block
write_operand program ty offset Nothing block = block

-- writes the bytes of a text from an offset on, each in the scalar that begins there (C11 6.7.9, paragraph 14)
abbrev pub write_bytes : TypedProgram → ℕ → List ℕ → Block → Block
write_bytes program from [] block = block
write_bytes program from (byte ∷ bytes) block =
    write_bytes program (from + 1) bytes (write_cell from (byte_cell program.model (unwrap_or (scalar_of program block.shape from) void) byte) block)

-- an offset as a natural number; 0 if it is negative
abbrev pub offset_number : ℤ → ℕ
offset_number (pos n) = n
offset_number (negsuc n) = 0

-- a default for an object that doesn't exist
abbrev pub NO_BLOCK : Block
NO_BLOCK = new_block void 0 UnsetFill

module _ {S : Type 0} where
  -- a label shows at a source position, and then an act follows
  abbrev pub shows_then : Place → Label → Act S → Act S
  shows_then at what act = Asks at (Show what) (λ number. act)

  -- a touch, if there is one, and then an act follows
  abbrev pub touches_then : (ℕ → Touch) → Option ℕ → Act S → Act S
  touches_then touch None act = act
  touches_then touch (Some declaration) act = Touches (touch declaration) act

  -- a pointer shows whether it is null; other values show nothing
  abbrev pub look : Place → Cell → Act S → Act S
  look at NullCell act = shows_then at (Look false) act
  look at (PointerCell object offset) act = shows_then at (Look true) act
  look at (NumberCell n) act = act
  look at UnsetCell act = act

  -- null is a fault where an object is required (C11 6.5.3.2, paragraph 4)
  abbrev pub not_null : Place → Cell → Act S → Act S
  not_null at NullCell act = Stops (Fault kind.Null at)
  not_null at other act = act

  -- the result of an order test: it is a fault if the test fails
  abbrev pub within : Place → ℤ → Act S → Act S
  within at number act = if is_true number then act else Stops (Fault kind.Bounds at)

  abbrev pub ordered : Place → ℤ → ℤ → Act S → Act S
  ordered at first second act = Asks at (Order first second) (λ number. within at number act)

  -- an object that doesn't exist is a fault: a local of a frame that has ended, or else nothing to access (C11 6.2.4, paragraph 2)
  abbrev pub there : Place → Object → Option Block → Act S → Act S
  there at (LocalObject frame declaration) None act = Stops (Fault kind.DeadLocal at)
  there at other None act = Stops (Fault kind.Bounds at)
  there at object (Some block) act = act

  -- an object that was freed, or whose frame has ended, is a fault
  abbrev pub stands : Place → Standing → Act S → Act S
  stands at Live act = act
  stands at Freed act = Stops (Fault kind.Freed at)
  stands at Ended act = Stops (Fault kind.DeadLocal at)

  -- a type that doesn't fit is a fault
  abbrev pub fits : Place → Bool → Act S → Act S
  fits at true act = act
  fits at false act = Stops (Fault kind.Bounds at)

  -- a store to a constant object is a fault
  abbrev pub writable : TypedProgram → Place → Object → Act S → Act S
  writable program at object act = if is_constant program object then Stops (Fault kind.ConstWrite at) else act

  -- access to an object of a type in an existing one: that one is live, the type's bytes are within it, the offset shows, and such an
  -- object begins there
  abbrev pub reach_block : TypedProgram → Place → Shape → Object → ℤ → Block → (ℕ → Act S) → Act S
  reach_block program at ty object offset block onward =
      stands at block.standing
      (ordered at offset (pos 0)
      (ordered at (neg_ℤ offset) (pos block.extent -ℤ pos (size_of program ty))
      (Reaches at object offset
      (fits at (begins_at program ty object block offset) (onward (offset_number offset))))))

  abbrev pub reach_in : TypedProgram → Place → Shape → Object → ℤ → Option Block → (ℕ → Act S) → Act S
  reach_in program at ty object offset found onward =
      there at object found (reach_block program at ty object offset (unwrap_or found NO_BLOCK) onward)

  -- the object and the offset of a pointer; any other value is a fault
  abbrev pub named : Place → Cell → (Object → ℤ → Act S) → Act S
  named at (PointerCell object offset) onward = onward object offset
  named at other onward = Stops (Fault kind.Unset at)

  -- access to an object of a type through a pointer, which shows whether it is null
  abbrev pub reach : TypedProgram → Memory → Place → Shape → Cell → (Object → ℕ → Act S) → Act S
  reach program memory at ty cell onward =
      look at cell
      (not_null at cell
      (named at cell (λ object offset. reach_in program at ty object offset (memory object) (λ n. onward object n))))

  -- access to a variable, or to a member of one
  abbrev pub direct : Place → Cell → (Object → ℕ → Act S) → Act S
  direct at cell onward = named at cell (λ object offset. onward object (offset_number offset))

  -- access to the object whose lvalue is this
  abbrev pub locate_object : TypedProgram → Memory → Access → Cell → (Object → ℕ → Act S) → Act S
  locate_object program memory access cell onward =
      if access.direct then direct access.at cell onward else reach program memory access.at access.ty cell onward

  -- the same for the object that an expression designates
  abbrev pub locate : TypedProgram → Memory → Typed → Cell → (Object → ℕ → Act S) → Act S
  locate program memory e cell onward = locate_object program memory (access_of e) cell onward

  -- the cell of a scalar: an input is looked up first
  abbrev pub receive : TypedProgram → Memory → Found → (Memory → Cell → Act S) → Act S
  receive program memory (Holds cell) onward = onward memory cell
  receive program memory (Unknown path scalar) onward =
      Reads path (input_kind scalar) (λ cell. onward (opened program path scalar None cell memory) cell)

  -- the cell of a scalar of an object
  abbrev pub read : TypedProgram → Memory → Object → ℕ → (Memory → Cell → Act S) → Act S
  read program memory object offset onward = receive program memory (found_in program object (memory object) offset) onward

  -- the cells of an object at offsets relative to `from`, in order
  abbrev pub read_all : TypedProgram → Memory → Object → ℕ → List ℕ → (Memory → List Cell → Act S) → Act S
  read_all program memory object from [] onward = onward memory []
  read_all program memory object from (offset ∷ offsets) onward =
      read program memory object (from + offset) (λ after cell. read_all program after object from offsets (λ end cells. onward end (cell ∷ cells)))

  -- an unset scalar is a fault when it is used
  abbrev pub set_then : Place → Cell → Act S → Act S
  set_then at UnsetCell act = Stops (Fault kind.Unset at)
  set_then at other act = act

  -- the value of a type at an offset of an object: a scalar, which must be set, or the scalars of a struct, set or not
  abbrev pub value_at : TypedProgram → Memory → Place → Shape → Object → ℕ → (Memory → Operand → Act S) → Act S
  value_at program memory at (struct number) object offset onward =
      read_all program memory object offset (scalar_offsets program (struct number)) (λ after cells. onward after (Whole cells))
  value_at program memory at other object offset onward =
      read program memory object offset (λ after cell. set_then at cell (onward after (Scalar cell)))

  -- a load from an object, in a frame
  abbrev pub load_object : TypedProgram → Memory → ℕ → Access → Cell → (Memory → Operand → Act S) → Act S
  load_object program memory frame access cell onward =
      locate_object program memory access cell (λ object offset.
      touches_then (λ declaration. Loads frame declaration access.at) access.local
      (value_at program memory access.at access.ty object offset onward))

  -- the same from the object that an expression designates
  abbrev pub load : TypedProgram → Memory → ℕ → Typed → Cell → (Memory → Operand → Act S) → Act S
  load program memory frame e cell onward = load_object program memory frame (access_of e) cell onward

  -- a store, by an operation at a source position, in a frame, to an object
  abbrev pub store_object : TypedProgram → Memory → ℕ → Place → Access → Cell → Operand → (Memory → Act S) → Act S
  store_object program memory frame at access cell operand onward =
      locate_object program memory access cell (λ object offset.
      writable program access.at object
      (touches_then (λ declaration. Stores frame declaration at) access.local
      (onward (changed (write_operand program access.ty offset operand) object memory))))

  -- the same to the object that an expression designates
  abbrev pub store : TypedProgram → Memory → ℕ → Place → Typed → Cell → Operand → (Memory → Act S) → Act S
  store program memory frame at e cell operand onward = store_object program memory frame at (access_of e) cell operand onward
