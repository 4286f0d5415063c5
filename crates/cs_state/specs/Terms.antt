-- The invariant of a state: its terms are over symbols that are declared, and their values are integers of C.
use Rattle.std.specs.Prelude.{◌≡◌, ℕ, ℤ, List, Option, None, Some}
use Rattle.std.specs.List.{All}
use Rattle.cs_types.specs.IntType.{IsIntegerOfC}
use Rattle.cs_ranges.specs.declared.range_set.Interval.{Interval}
use Rattle.cs_ranges.specs.RangeSet.{contains}
use Rattle.std.specs.Prelude.{IsTrue}
use Rattle.cs_terms.specs.declared.symbol.Sym.{Sym}
use Rattle.cs_terms.specs.declared.term.Lin.{Lin}
use Rattle.cs_terms.specs.Term.{value_at, IsTerm}
use Rattle.cs_constraints.specs.Constraints.{Sets, set_of, IsDeclared}
use Rattle.cs_store.specs.declared.value.Value.{Value}
use Rattle.cs_store.specs.declared.value.Value.TheVariants as value
use Rattle.cs_store.specs.declared.value.Binding.TheVariants.{Direct}
use Rattle.cs_store.specs.Held.{Regions, held}
use Rattle.cs_state.specs.declared.block.Block.{Block}
use Rattle.cs_state.specs.declared.frame.Frame.{Frame}
use Rattle.cs_state.specs.declared.state.State.{State}
use Rattle.cs_state.specs.declared.temporary.Temporary.{Temporary}
use Rattle.cs_state.specs.declared.temporary.Temporary.TheVariants as temporary
use Rattle.cs_state.specs.ReadCells.{read_at}
use Rattle.cs_state.specs.Cells.{Blocks, block_of}

-- the number is in the set of the symbol; any number, without a symbol
abbrev pub MayBe : Sets → Option Sym → ℤ → Type 0
MayBe sets None number = Unit {0}
MayBe sets (Some sym) number = (set : List Interval) × (set_of sets sym.0 ≡ Some set) × IsTrue (contains set number)

-- a term that a state may hold, constants included
pub record IsHeldTerm (sets : Sets) (term : Lin) : Type 0 where
  pub is_term : IsTerm term
  pub declared : IsDeclared sets term.sym
  pub values : (number : ℤ) → MayBe sets term.sym number → IsIntegerOfC (value_at term number)

-- a base region with a block
abbrev pub HasBlock : Blocks → ℕ → Type 0
HasBlock blocks base = (block : Block) × (block_of blocks base ≡ Some block)

abbrev pub IsHeldValue : Sets → Blocks → Value → Type 0
IsHeldValue sets blocks (value.Number term) = IsHeldTerm sets term
IsHeldValue sets blocks (value.At base offset) = IsHeldTerm sets offset
IsHeldValue sets blocks (value.Start base offset) = HasBlock blocks base
IsHeldValue sets blocks value.Null = Unit {0}
IsHeldValue sets blocks value.Unset = Unit {0}

abbrev pub IsHeldTemporary : Sets → Blocks → Temporary → Type 0
IsHeldTemporary sets blocks (temporary.Scalar value) = IsHeldValue sets blocks value
IsHeldTemporary sets blocks (temporary.Whole values) = All (IsHeldValue sets blocks) values
IsHeldTemporary sets blocks temporary.Nothing = Unit {0}

abbrev pub IsHeldFrame : Sets → Blocks → Frame → Type 0
IsHeldFrame sets blocks frame = All (IsHeldTemporary sets blocks) frame.temporaries

-- a block's extent is held, and its symbol declared
pub record IsHeldBlock (sets : Sets) (block : Block) : Type 0 where
  pub extent : IsHeldTerm sets block.extent
  pub symbol : IsDeclared sets (Some block.sym)

abbrev pub IsHeldResult : Sets → Blocks → Option Value → Type 0
IsHeldResult sets blocks None = Unit {0}
IsHeldResult sets blocks (Some value) = IsHeldValue sets blocks value

pub record HoldsTerms (state : State) : Type 0 where
  pub frame : IsHeldFrame state.constraints state.blocks state.frame
  pub callers : All (IsHeldFrame state.constraints state.blocks) state.callers
  pub store : (base offset : ℕ) (value : Value) → held state.store base offset ≡ Direct value → IsHeldValue state.constraints state.blocks value
  pub blocks : (base : ℕ) (block : Block) → block_of state.blocks base ≡ Some block → IsHeldBlock state.constraints block
  pub read : (base offset : ℕ) (sym : Sym) → read_at state.read base offset ≡ Some sym → IsDeclared state.constraints (Some sym)
  pub answers : All (IsHeldTerm state.constraints) state.answers
  pub result : IsHeldResult state.constraints state.blocks state.result
