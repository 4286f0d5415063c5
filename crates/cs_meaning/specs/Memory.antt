-- The memory of the reference machine.
use Rattle.std.specs.Prelude.{ℕ, zero, suc, ◌*◌, ◌%◌, ◌==◌, nat_lt, ℤ, pos, negsuc, Bool, ◌&&◌, true, false, List, [], ◌∷◌, ◌++◌}
use Rattle.std.specs.Prelude.{Option, Some}
use Rattle.std.specs.Prelude.{None, option_map, unwrap_or, slice_get, if◌then◌else◌}
use Rattle.cs_types.specs.DataModel.{start_extent_of}
use Rattle.cs_types.specs.Shape.{Shape, void}
use Rattle.cs_inputs.specs.declared.path.Path.{Path}
use Rattle.cs_ast.specs.TypedProgram.{TypedProgram, FileObject}
use Rattle.cs_model.specs.declared.standing.Standing.{Standing}
use Rattle.cs_model.specs.declared.standing.Standing.TheVariants.{Live}
use Rattle.cs_events.specs.Objects.{Object, StartBlock, GlobalObject, LiteralObject, HeapBlock, same_object, Cell, UnsetCell}
use Rattle.cs_meaning.specs.Types.{size_of, scalar_of, element_of, begins}
use Rattle.cs_meaning.specs.Initials.{Piece, zero_of, initial_cell}

-- the contents of an object's scalars that weren't written: unset, zeros, a constant initializer, or the inputs below a path
pub data Fill : Type 0 where
  UnsetFill : Fill
  ZeroFill : Fill
  InitialFill : (pieces : List Piece) → Fill
  InputFill : (root : Path) → Fill

-- an object: its type, or the type of its elements in a start or heap block; its size in bytes; its standing; and the contents of its
-- scalars, as they were written, else by the fill
pub record Block : Type 0 where
  pub shape : Shape
  pub extent : ℕ
  pub standing : Standing
  pub fill : Fill
  pub written : ℕ → Option Cell

-- memory: the existing objects, including freed blocks; locals of a frame that has ended no longer exist
abbrev pub Memory : Type 0
Memory = Object → Option Block

-- no scalar was written
abbrev pub none_written : ℕ → Option Cell
none_written offset = None

-- a live object with this type, size and fill, to which nothing was written
abbrev pub new_block : Shape → ℕ → Fill → Block
new_block shape extent fill = record { shape = shape; extent = extent; standing = Live; fill = fill; written = none_written }

-- memory in which an object becomes this
abbrev pub with_block : Object → Block → Memory → Memory
with_block object block memory other = if same_object object other then Some block else memory other

-- memory with an object changed, if it exists
abbrev pub changed : (Block → Block) → Object → Memory → Memory
changed change object memory other = if same_object object other then option_map change (memory other) else memory other

-- an object with a scalar written
abbrev pub write_cell : ℕ → Cell → Block → Block
write_cell offset cell block = record block { written = λ at. if at == offset then Some cell else block.written at }

-- an object all of whose scalars have the contents of a fill
abbrev pub refill : Fill → Block → Block
refill fill block = record block { fill = fill; written = none_written }

-- an object with another standing
abbrev pub stand : Standing → Block → Block
stand standing block = record block { standing = standing }

-- the path of a cell below another path
abbrev pub cell_path : Path → ℕ → Path
cell_path path offset = record path { cells = path.cells ++ offset ∷ [] }

-- an offset modulo the size of an element, if that isn't 0
abbrev pub rest_of : ℕ → ℕ → ℕ
rest_of offset zero = offset
rest_of offset (suc bytes) = offset % suc bytes

-- the position of an offset in an object's type: a start or heap block is a sequence of elements
abbrev pub position : TypedProgram → Object → Block → ℕ → ℕ
position program (StartBlock path) block offset = rest_of offset (size_of program block.shape)
position program (HeapBlock allocation) block offset = rest_of offset (size_of program block.shape)
position program other block offset = offset

-- the scalar that begins at an offset of an object; `void` if there is none
abbrev pub scalar_at : TypedProgram → Object → Block → ℕ → Shape
scalar_at program object block offset = unwrap_or (scalar_of program block.shape (position program object block offset)) void

-- whether an object has cells at all: a start or heap block has none if its elements have size 0
abbrev pub has_cells : TypedProgram → Object → Block → Bool
has_cells program (StartBlock path) block = nat_lt 0 (size_of program block.shape)
has_cells program (HeapBlock allocation) block = nat_lt 0 (size_of program block.shape)
has_cells program other block = true

-- whether a scalar of this type, or this struct, begins at an offset of an object
abbrev pub begins_at : TypedProgram → Shape → Object → Block → ℤ → Bool
begins_at program shape object block (pos offset) =
    has_cells program object block && begins program shape block.shape (position program object block offset)
begins_at program shape object block (negsuc n) = false

-- the contents of a scalar: a cell, or an input that isn't looked up yet, by its path and the scalar's type
pub data Found : Type 0 where
  Holds : (cell : Cell) → Found
  Unknown : (path : Path) (scalar : Shape) → Found

-- the contents that a fill determines for a scalar at an offset
abbrev pub filled : TypedProgram → Fill → Shape → ℕ → Found
filled program UnsetFill scalar offset = Holds UnsetCell
filled program ZeroFill scalar offset = Holds (zero_of scalar)
filled program (InitialFill pieces) scalar offset = Holds (initial_cell program scalar pieces offset)
filled program (InputFill root) scalar offset = Unknown (cell_path root offset) scalar

-- the cell that was written, else the contents by the fill
abbrev pub written_or : Option Cell → Found → Found
written_or (Some cell) otherwise = Holds cell
written_or None otherwise = otherwise

-- the contents of an object at an offset
abbrev pub found_in : TypedProgram → Object → Option Block → ℕ → Found
found_in program object None offset = Holds UnsetCell
found_in program object (Some block) offset = written_or (block.written offset) (filled program block.fill (scalar_at program object block offset) offset)

-- the size of the block to which an unknown pointer points: `count` elements, or the default number
abbrev pub start_extent : TypedProgram → Shape → Option ℕ → ℕ
start_extent program element None = start_extent_of program.model (size_of program element)
start_extent program element (Some count) = count * size_of program element

-- the start block of an unknown pointer with this path
abbrev pub start_block : TypedProgram → Path → Shape → Option ℕ → Block
start_block program path target count = new_block (element_of target) (start_extent program (element_of target) count) (InputFill path)

-- the object, or this one if it didn't exist
abbrev pub or_new : Block → Option Block → Option Block
or_new block None = Some block
or_new block (Some there) = Some there

-- memory in which an object exists from now on
abbrev pub with_new_block : Object → Block → Memory → Memory
with_new_block object block memory other = if same_object object other then or_new block (memory other) else memory other

-- whether a file-scope object must not be stored to
abbrev pub is_constant_global : TypedProgram → ℕ → Bool
is_constant_global program global = unwrap_or (option_map (λ (object : FileObject). object.constant) (slice_get program.globals global)) false

-- whether a store to an object is a fault: a const file-scope object or a string literal (C11 6.4.5, 6.7.3)
abbrev pub is_constant : TypedProgram → Object → Bool
is_constant program (GlobalObject global) = is_constant_global program global
is_constant program (LiteralObject literal) = true
is_constant program other = false
