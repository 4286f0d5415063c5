-- The cells of values and the operands of temporaries, under a valuation.
use Rattle.std.specs.Prelude.{ℕ, ℤ, pos, Bool, false, List, map, Option, None, Some, slice_get, option_map, if◌then◌else◌}
use Rattle.std.specs.FinMap as finite
use Rattle.cs_pmap.specs.Keys.{key_cmp}
use Rattle.cs_terms.specs.Term.{Valuation, value_of}
use Rattle.cs_regions.specs.declared.base.Base.{Base}
use Rattle.cs_regions.specs.declared.base.Base.TheVariants.{Entry, Global, Literal, Local, Heap}
use Rattle.cs_store.specs.declared.value.Value.{Value}
use Rattle.cs_store.specs.declared.value.Value.TheVariants as value
use Rattle.cs_events.specs.Operations.{is_true}
use Rattle.cs_events.specs.Objects.{Object, StartBlock, GlobalObject, LiteralObject, LocalObject, HeapBlock}
use Rattle.cs_events.specs.Objects.{Cell, NumberCell, NullCell, PointerCell, UnsetCell}
use Rattle.cs_meaning.specs.Machine.{Operand, Scalar, Whole, Nothing}
use Rattle.cs_state.specs.declared.block.Block.{Block}
use Rattle.cs_state.specs.declared.temporary.Temporary.{Temporary}
use Rattle.cs_state.specs.declared.temporary.Temporary.TheVariants as temporary

-- the start blocks and heap blocks of a state, by their base regions
abbrev pub Blocks : Type 0
Blocks = finite.FinMap key_cmp Block

abbrev pub block_of : Blocks → ℕ → Option Block
block_of blocks base = finite.get blocks (base, 0)

-- the object of a base region
abbrev pub object_of : Base → Object
object_of (Entry path) = StartBlock path
object_of (Global global) = GlobalObject global
object_of (Literal literal) = LiteralObject literal
object_of (Local frame declaration) = LocalObject frame declaration
object_of (Heap allocation) = HeapBlock allocation

-- a pointer to an offset of a base region; unset if the number has no base region
abbrev pub pointer_to : Option Base → ℤ → Cell
pointer_to None offset = UnsetCell
pointer_to (Some base) offset = PointerCell (object_of base) offset

-- whether a block exists: its symbol's number isn't 0
abbrev pub is_there : Valuation → Option Block → Bool
is_there valuation None = false
is_there valuation (Some block) = is_true (valuation block.sym.0)

module _ (bases : List Base) (blocks : Blocks) (valuation : Valuation) where
  -- a pointer that no test has decided yet is null if its block doesn't exist
  abbrev pub cell_of : Value → Cell
  cell_of (value.Number term) = NumberCell (value_of valuation term)
  cell_of value.Null = NullCell
  cell_of (value.At base offset) = pointer_to (slice_get bases base) (value_of valuation offset)
  cell_of (value.Start base offset) = if is_there valuation (block_of blocks base) then pointer_to (slice_get bases base) (pos offset) else NullCell
  cell_of value.Unset = UnsetCell

  abbrev pub operand_of : Temporary → Operand
  operand_of (temporary.Scalar value) = Scalar (cell_of value)
  operand_of (temporary.Whole values) = Whole (map cell_of values)
  operand_of temporary.Nothing = Nothing
