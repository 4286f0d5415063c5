-- The memory that a state represents under a valuation. The program or the state's blocks determine whether an object exists. It holds what
-- the store has for it: what was bound at an offset, else what it was filled with, else what it held at first.
use Rattle.std.specs.Prelude.{◌≡◌, ℕ, suc, ◌==◌, Bool, List, [], ◌∷◌, map, Option, None, Some, slice_get, option_map, unwrap_or}
use Rattle.std.specs.Prelude.{if◌then◌else◌}
use Rattle.std.specs.Option.{option_and_then}
use Rattle.std.specs.FinMap as finite
use Rattle.cs_pmap.specs.Keys.{key_cmp}
use Rattle.cs_types.specs.Shape.{Shape, void}
use Rattle.cs_terms.specs.Term.{Valuation, value_of}
use Rattle.cs_regions.specs.declared.base.Base.{Base}
use Rattle.cs_store.specs.declared.value.Value.{Value}
use Rattle.cs_store.specs.declared.value.Fill.TheVariants as fill
use Rattle.cs_store.specs.declared.value.Fill as store
use Rattle.cs_store.specs.Contents.{Contents, filled}
use Rattle.cs_store.specs.Held.{Regions, contents_of}
use Rattle.cs_ast.specs.TypedProgram.{TypedProgram, Variable}
use Rattle.cs_events.specs.Objects.{Object, StartBlock, GlobalObject, LiteralObject, LocalObject, HeapBlock, Cell, same_object}
use Rattle.cs_meaning.specs.Memory.{Fill, UnsetFill, ZeroFill, InputFill, Block, Memory, none_written}
use Rattle.cs_meaning.specs.Machine.{routine_of}
use Rattle.cs_meaning.specs.Calls.{local_block, wrote_path, bytes_of_number}
use Rattle.cs_meaning.specs.Steps.{static_memory}
use Rattle.cs_state.specs.declared.block.Block as state
use Rattle.cs_state.specs.declared.frame.Frame.{Frame}
use Rattle.cs_state.specs.Naming.{Naming}
use Rattle.cs_state.specs.Cells.{Blocks, block_of, object_of, is_there, cell_of}

-- the number of the base region of an object, if it has one
abbrev pub number_of : List Base → Object → Option ℕ
number_of [] object = None
number_of (base ∷ bases) object = if same_object object (object_of base) then Some 0 else option_map suc (number_of bases object)

-- whose locals a frame has: the frame's number in the run, and its function
pub record Owner : Type 0 where
  pub number : ℕ
  pub function : ℕ

abbrev pub owner : Frame → Owner
owner frame = record { number = frame.number; function = frame.spot.function }

-- the owner with a number among these
abbrev pub owner_numbered : ℕ → List Owner → Option Owner
owner_numbered number [] = None
owner_numbered number (it ∷ owners) = if it.number == number then Some it else owner_numbered number owners

-- a local of a frame in the call stack, with nothing set
abbrev pub local_of : TypedProgram → Owner → ℕ → Option Block
local_of program it declaration = option_map (local_block program None) (slice_get (routine_of program it.function).variables declaration)

-- what a start block or a heap block holds at first
abbrev pub first_fill : Object → Fill
first_fill (StartBlock path) = InputFill path
first_fill other = UnsetFill

-- a start block or a heap block as it was made
abbrev pub made_block : List Shape → Valuation → Object → state.Block → Block
made_block types valuation object block = record {
  shape = unwrap_or (slice_get types block.element.0) void;
  extent = bytes_of_number (value_of valuation block.extent);
  standing = block.standing;
  fill = first_fill object;
  written = none_written;
}

-- what an object is filled with: a fill of the store, else what it held at first
abbrev pub fill_over : store.Fill → Fill → Fill
fill_over fill.Unset first = first
fill_over fill.Input first = first
fill_over fill.Zero first = ZeroFill
fill_over (fill.Wrote call argument) first = InputFill (wrote_path call argument)

-- an object after the writes that the store has for it
abbrev pub written_over : (Value → Cell) → Contents → Block → Block
written_over cell contents block = record block {
  fill = fill_over contents.fill block.fill;
  written = λ offset. option_map cell (finite.get contents.direct (offset, 0));
}

-- what the store has for a base region; nothing for an object without a number
abbrev pub contents_in : Regions → Option ℕ → Contents
contents_in store None = filled fill.Unset
contents_in store (Some base) = contents_of store base

module _ (program : TypedProgram) (names : Naming) (owners : List Owner) (blocks : Blocks) (valuation : Valuation) where
  -- a start block or a heap block with a base region's number, if it exists
  abbrev pub block_there : Object → ℕ → Option Block
  block_there object base =
      if is_there valuation (block_of blocks base) then option_map (made_block names.types valuation object) (block_of blocks base) else None

  -- an object to which nothing was written since it exists
  abbrev pub unwritten : Memory
  unwritten (StartBlock path) = option_and_then (block_there (StartBlock path)) (number_of names.bases (StartBlock path))
  unwritten (GlobalObject global) = static_memory program (GlobalObject global)
  unwritten (LiteralObject literal) = static_memory program (LiteralObject literal)
  unwritten (LocalObject frame declaration) = option_and_then (λ it. local_of program it declaration) (owner_numbered frame owners)
  unwritten (HeapBlock allocation) = option_and_then (block_there (HeapBlock allocation)) (number_of names.bases (HeapBlock allocation))

  abbrev pub memory_of : Regions → Memory
  memory_of store object =
      option_map (written_over (cell_of names.bases blocks valuation) (contents_in store (number_of names.bases object))) (unwritten object)
