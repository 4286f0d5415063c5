-- The live part of a state: all that it states about the runs that reach its position, except its guesses and the numbers of symbols that
-- nothing mentions. Each mentioned symbol is kept with the numbers that it may have.
use Rattle.std.specs.Prelude.{ℕ, ℤ, List, map, Option, None, Some, option_map, if◌then◌else◌}
use Rattle.std.specs.FinMap as finite
use Rattle.cs_types.specs.declared.data_model.DataModel.{DataModel}
use Rattle.cs_model.specs.declared.standing.Standing.{Standing}
use Rattle.cs_ranges.specs.declared.range_set.Interval.{Interval}
use Rattle.cs_terms.specs.declared.symbol.Sym.{Sym}
use Rattle.cs_terms.specs.declared.term.Lin.{Lin}
use Rattle.cs_constraints.specs.Constraints.{Sets, set_of}
use Rattle.cs_store.specs.declared.value.Fill.{Fill}
use Rattle.cs_store.specs.declared.value.Value.{Value}
use Rattle.cs_store.specs.declared.value.Value.TheVariants as value
use Rattle.cs_store.specs.Contents.{Contents, bindings_of}
use Rattle.cs_store.specs.Held.{Regions, regions_of}
use Rattle.cs_store.specs.Listings.{origin_of, has_origin}
use Rattle.cs_cfg.specs.declared.code.Spot.{Spot}
use Rattle.cs_state.specs.declared.block.Block.{Block}
use Rattle.cs_state.specs.declared.frame.Frame.{Frame}
use Rattle.cs_state.specs.declared.read_cells.ReadCell.{ReadCell}
use Rattle.cs_state.specs.declared.state.Counters.{Counters}
use Rattle.cs_state.specs.declared.state.State.{State}
use Rattle.cs_state.specs.declared.temporary.Temporary.{Temporary}
use Rattle.cs_state.specs.declared.temporary.Temporary.TheVariants as temporary
use Rattle.cs_state.specs.Cells.{Blocks}
use Rattle.cs_state.specs.ReadCells.{ReadMap}
use Rattle.cs_state.specs.ReadLists.{cells_in_order}

-- a symbol with the numbers that it may have, none if it isn't declared
pub record LiveSymbol : Type 0 where
  pub number : ℕ
  pub set : Option (List Interval)

-- a function of a symbol: its slope, and its value where the symbol is 0
pub record Line : Type 0 where
  pub slope : ℤ
  pub origin : ℤ
  pub symbol : LiveSymbol

-- a function of a symbol as a term has it: its slope, and its value at some number
pub record FarLine : Type 0 where
  pub slope : ℤ
  pub at : ℤ
  pub value : ℤ
  pub symbol : LiveSymbol

-- a constant, a function whose value at 0 can be computed in 128 bits, or any other function
pub data LiveTerm : Type 0 where
  Constant : ℤ → LiveTerm
  Linear : Line → LiveTerm
  Far : FarLine → LiveTerm

pub data LiveValue : Type 0 where
  Number : LiveTerm → LiveValue
  Null : LiveValue
  At : ℕ → LiveTerm → LiveValue
  Start : ℕ → ℕ → LiveValue
  Unset : LiveValue

pub data LiveTemporary : Type 0 where
  Scalar : LiveValue → LiveTemporary
  Whole : List LiveValue → LiveTemporary
  Nothing : LiveTemporary

pub record LiveFrame : Type 0 where
  pub number : ℕ
  pub spot : Spot
  pub temporaries : List LiveTemporary
  pub visits : List ℕ

-- the contents of a base region
pub record LiveRegion : Type 0 where
  pub base : ℕ
  pub fill : Fill
  pub bindings : List (ℕ × LiveValue)

-- a start block or a heap block
pub record LiveBlock : Type 0 where
  pub base : ℕ
  pub extent : LiveTerm
  pub standing : Standing
  pub element : ℕ
  pub symbol : LiveSymbol
  pub made_by : ℕ

-- a cell that was read from an input
pub record LiveRead : Type 0 where
  pub base : ℕ
  pub offset : ℕ
  pub symbol : LiveSymbol

pub record LivePart : Type 0 where
  pub frame : LiveFrame
  pub callers : List LiveFrame
  pub answers : List LiveTerm
  pub returned : Option LiveValue
  pub regions : List LiveRegion
  pub blocks : List LiveBlock
  pub read : List LiveRead
  pub model : DataModel
  pub counters : Counters
  pub phase : ℕ

module _ (sets : Sets) where
  abbrev pub live_symbol : Sym → LiveSymbol
  live_symbol sym = record { number = sym.0; set = set_of sets sym.0 }

  abbrev pub live_line : Sym → Lin → Line
  live_line sym term = record { slope = term.slope; origin = origin_of term; symbol = live_symbol sym }

  abbrev pub far_line : Sym → Lin → FarLine
  far_line sym term = record { slope = term.slope; at = term.at; value = term.value; symbol = live_symbol sym }

  -- a constant, or a function of the symbol
  abbrev pub live_over : Option Sym → Lin → LiveTerm
  live_over None term = Constant term.value
  live_over (Some sym) term = if has_origin term then Linear (live_line sym term) else Far (far_line sym term)

  abbrev pub live_term : Lin → LiveTerm
  live_term term = live_over term.sym term

  abbrev pub live_value : Value → LiveValue
  live_value (value.Number term) = Number (live_term term)
  live_value value.Null = Null
  live_value (value.At base offset) = At base (live_term offset)
  live_value (value.Start base offset) = Start base offset
  live_value value.Unset = Unset

  abbrev pub live_temporary : Temporary → LiveTemporary
  live_temporary (temporary.Scalar value) = Scalar (live_value value)
  live_temporary (temporary.Whole values) = Whole (map live_value values)
  live_temporary temporary.Nothing = Nothing

  abbrev pub live_frame : Frame → LiveFrame
  live_frame frame = record {
    number = frame.number;
    spot = frame.spot;
    temporaries = map live_temporary frame.temporaries;
    visits = frame.visits;
  }

  abbrev pub live_binding : ℕ × Value → ℕ × LiveValue
  live_binding binding = (binding.0, live_value binding.1)

  abbrev pub live_region : ℕ × Contents → LiveRegion
  live_region region = record {
    base = region.0;
    fill = region.1.fill;
    bindings = map live_binding (bindings_of region.1);
  }

  abbrev pub live_block : ℕ → Block → LiveBlock
  live_block base block = record {
    base = base;
    extent = live_term block.extent;
    standing = block.standing;
    element = block.element.0;
    symbol = live_symbol block.sym;
    made_by = block.made_by;
  }

  abbrev pub live_entry : (ℕ × ℕ) × Block → LiveBlock
  live_entry entry = live_block entry.0.0 entry.1

  abbrev pub live_read : ReadCell → LiveRead
  live_read cell = record { base = cell.base; offset = cell.offset; symbol = live_symbol cell.sym }

  -- the contents of a store, in order of base region and offset
  abbrev pub live_regions : Regions → List LiveRegion
  live_regions store = map live_region (regions_of store)

  abbrev pub live_blocks : Blocks → List LiveBlock
  live_blocks blocks = map live_entry (finite.entries blocks)

  abbrev pub live_reads : ReadMap → List LiveRead
  live_reads read = map live_read (cells_in_order read)

-- the live part
abbrev pub live_part : State → LivePart
live_part state = record {
  frame = live_frame state.constraints state.frame;
  callers = map (live_frame state.constraints) state.callers;
  answers = map (live_term state.constraints) state.answers;
  returned = option_map (live_value state.constraints) state.result;
  regions = live_regions state.constraints state.store;
  blocks = live_blocks state.constraints state.blocks;
  read = live_reads state.constraints state.read;
  model = state.model;
  counters = state.counters;
  phase = state.phase;
}
