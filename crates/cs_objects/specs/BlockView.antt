-- Objects, their types, and the contents of their scalars, seen as those of the reference machine.
use Rattle.std.specs.Prelude.{ℕ, List, map, Option, option_map, slice_get}
use Rattle.std.specs.BTreeMap.{get}
use Rattle.std.specs.Ordering.{nat_cmp}
use Rattle.cs_types.specs.declared.int_type.IntType.TheVariants.{Char}
use Rattle.cs_types.specs.Shape.{Shape, void, integer, array, shape_of}
use Rattle.cs_ast.specs.TypedView.{typed}
use Rattle.cs_meaning.specs.Initials as initials
use Rattle.cs_meaning.specs.Memory as meaning
use Rattle.cs_objects.specs.declared.blocks.BlockType.{BlockType}
use Rattle.cs_objects.specs.declared.blocks.BlockType.TheVariants.{Of, Integer, Text, Void}
use Rattle.cs_objects.specs.declared.blocks.Piece.{Piece}
use Rattle.cs_objects.specs.declared.blocks.Piece.TheVariants as piece
use Rattle.cs_objects.specs.declared.blocks.Fill.{Fill}
use Rattle.cs_objects.specs.declared.blocks.Fill.TheVariants as fill
use Rattle.cs_objects.specs.declared.blocks.Block.{Block}
use Rattle.cs_objects.specs.declared.blocks.Change.{Change}
use Rattle.cs_objects.specs.declared.blocks.Change.TheVariants as change
use Rattle.cs_values.specs.View.{cell_of}
use Rattle.cs_events.specs.Objects.{Cell}

-- the type of an object
abbrev pub type_of : BlockType → Shape
type_of (Of ty) = shape_of ty.now
type_of (Integer ty) = integer ty
type_of (Text count) = array (integer Char) count
type_of Void = void

-- a piece of an initializer
abbrev pub piece_of : Piece → initials.Piece
piece_of (piece.Value offset e) = initials.Evaluated offset (typed e.now)
piece_of (piece.Text offset bytes) = initials.Spelled offset bytes.now

-- the contents of scalars that weren't written
abbrev pub fill_of : Fill → meaning.Fill
fill_of fill.Unset = meaning.UnsetFill
fill_of fill.Zero = meaning.ZeroFill
fill_of (fill.Initial initializer) = meaning.InitialFill (map piece_of initializer.pieces.items)
fill_of (fill.Input path) = meaning.InputFill path

-- the cell that was written at an offset, if any
abbrev pub written_at : Block → ℕ → Option Cell
written_at block offset = option_map cell_of (get nat_cmp block.written offset)

-- an object
abbrev pub block_of : Block → meaning.Block
block_of block = record {
  shape = type_of block.ty;
  extent = block.extent;
  standing = block.standing;
  fill = fill_of block.fill;
  written = written_at block;
}

-- a change of an object
abbrev pub change_of : Change → meaning.Block → meaning.Block
change_of (change.Write offset cell) block = meaning.write_cell offset (cell_of cell) block
change_of (change.Refill fill) block = meaning.refill (fill_of fill) block
change_of (change.Stand standing) block = meaning.stand standing block

-- an object of a list
abbrev pub block_at : List Block → ℕ → Option meaning.Block
block_at row at = option_map block_of (slice_get row at)
