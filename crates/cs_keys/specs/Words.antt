-- Live parts as words. Each part is written after its own parts: the length of a list after its elements, the number of a variant after its
-- fields. So the words can be read from the last one, and no two live parts have the same words.
use Rattle.std.specs.Prelude.{ℕ, List, [], Option, None, Some}
use Rattle.std.specs.List.{flat_map}
use Rattle.std.specs.Option.{option_to_list}
use Rattle.cs_word_lists.specs.Written.{with_word, with_integer, with_list}
use Rattle.cs_types.specs.declared.data_model.DataModel.{DataModel}
use Rattle.cs_types.specs.declared.data_model.DataModel.TheVariants.{Lp64, Ilp32}
use Rattle.cs_model.specs.declared.standing.Standing.{Standing}
use Rattle.cs_model.specs.declared.standing.Standing.TheVariants.{Live, Freed, Ended}
use Rattle.cs_ranges.specs.declared.range_set.Interval.{Interval}
use Rattle.cs_constraints.specs.SetWords.{with_numbers}
use Rattle.cs_cfg.specs.declared.code.Spot.{Spot}
use Rattle.cs_store.specs.declared.value.Fill.{Fill}
use Rattle.cs_store.specs.declared.value.Fill.TheVariants as fill
use Rattle.cs_state.specs.declared.state.Counters.{Counters}
use Rattle.cs_keys.specs.Live.{LiveSymbol, Line, FarLine, LiveTerm, Constant, Linear, Far, LiveValue, Number, Null, At, Start, Unset}
use Rattle.cs_keys.specs.Live.{LiveTemporary, Scalar, Whole, Nothing, LiveFrame, LiveRegion, LiveBlock, LiveRead, LivePart}

abbrev pub with_set : List ℕ → Option (List Interval) → List ℕ
with_set words None = with_word words 0
with_set words (Some set) = with_numbers words set

abbrev pub with_symbol : List ℕ → LiveSymbol → List ℕ
with_symbol words symbol = with_word (with_set words symbol.set) symbol.number

abbrev pub with_line : List ℕ → Line → List ℕ
with_line words line = with_symbol (with_integer (with_integer words line.slope) line.origin) line.symbol

abbrev pub with_far_line : List ℕ → FarLine → List ℕ
with_far_line words line = with_symbol (with_integer (with_integer (with_integer words line.slope) line.at) line.value) line.symbol

abbrev pub with_term : List ℕ → LiveTerm → List ℕ
with_term words (Constant number) = with_word (with_integer words number) 0
with_term words (Linear line) = with_word (with_line words line) 1
with_term words (Far line) = with_word (with_far_line words line) 2

abbrev pub with_value : List ℕ → LiveValue → List ℕ
with_value words (Number term) = with_word (with_term words term) 0
with_value words Null = with_word words 1
with_value words (At base offset) = with_word (with_word (with_term words offset) base) 2
with_value words (Start base offset) = with_word (with_word (with_word words offset) base) 3
with_value words Unset = with_word words 4

abbrev pub with_temporary : List ℕ → LiveTemporary → List ℕ
with_temporary words (Scalar value) = with_word (with_value words value) 0
with_temporary words (Whole values) = with_word (with_list with_value words values) 1
with_temporary words Nothing = with_word words 2

abbrev pub with_spot : List ℕ → Spot → List ℕ
with_spot words spot = with_word (with_word (with_word words spot.function) spot.block) spot.operation

abbrev pub with_frame : List ℕ → LiveFrame → List ℕ
with_frame words frame =
    with_list with_word (with_list with_temporary (with_spot (with_word words frame.number) frame.spot) frame.temporaries) frame.visits

abbrev pub with_returned : List ℕ → Option LiveValue → List ℕ
with_returned words None = with_word words 0
with_returned words (Some value) = with_word (with_value words value) 1

abbrev pub with_fill : List ℕ → Fill → List ℕ
with_fill words fill.Unset = with_word words 0
with_fill words fill.Zero = with_word words 1
with_fill words fill.Input = with_word words 2
with_fill words (fill.Wrote call argument) = with_word (with_word (with_word words call) argument) 3

-- a term as a region lists it: without the numbers of its symbol
abbrev pub with_plain_term : List ℕ → LiveTerm → List ℕ
with_plain_term words (Constant number) = with_word (with_integer words number) 0
with_plain_term words (Linear line) =
    with_word (with_word (with_integer (with_integer words line.slope) line.origin) line.symbol.number) 1
with_plain_term words (Far line) =
    with_word (with_word (with_integer (with_integer (with_integer words line.slope) line.at) line.value) line.symbol.number) 2

abbrev pub with_plain_value : List ℕ → LiveValue → List ℕ
with_plain_value words (Number term) = with_word (with_plain_term words term) 0
with_plain_value words Null = with_word words 1
with_plain_value words (At base offset) = with_word (with_word (with_plain_term words offset) base) 2
with_plain_value words (Start base offset) = with_word (with_word (with_word words offset) base) 3
with_plain_value words Unset = with_word words 4

-- a value that was bound at an offset
abbrev pub with_plain_binding : List ℕ → ℕ × LiveValue → List ℕ
with_plain_binding words binding = with_word (with_plain_value words binding.1) binding.0

-- the numbers of the symbol that a term or a value mentions, if there is one
abbrev pub numbers_of_term : LiveTerm → Option (Option (List Interval))
numbers_of_term (Constant number) = None
numbers_of_term (Linear line) = Some line.symbol.set
numbers_of_term (Far line) = Some line.symbol.set

abbrev pub numbers_of : LiveValue → Option (Option (List Interval))
numbers_of (Number term) = numbers_of_term term
numbers_of Null = None
numbers_of (At base offset) = numbers_of_term offset
numbers_of (Start base offset) = None
numbers_of Unset = None

-- the numbers of all symbols that bindings mention, in order
abbrev pub all_numbers : List (ℕ × LiveValue) → List (Option (List Interval))
all_numbers bindings = flat_map (λ binding. option_to_list (numbers_of binding.1)) bindings

-- the bindings of a region, followed by the numbers of the symbols that they mention: the first part doesn't depend on these
abbrev pub with_bindings : List ℕ → List (ℕ × LiveValue) → List ℕ
with_bindings words bindings = with_list with_set (with_list with_plain_binding words bindings) (all_numbers bindings)

abbrev pub with_region : List ℕ → LiveRegion → List ℕ
with_region words region = with_bindings (with_fill (with_word words region.base) region.fill) region.bindings

abbrev pub with_standing : List ℕ → Standing → List ℕ
with_standing words Live = with_word words 0
with_standing words Freed = with_word words 1
with_standing words Ended = with_word words 2

abbrev pub with_block : List ℕ → LiveBlock → List ℕ
with_block words block =
    with_word (with_symbol (with_word (with_standing (with_term (with_word words block.base) block.extent) block.standing) block.element) block.symbol)
    block.made_by

abbrev pub with_read : List ℕ → LiveRead → List ℕ
with_read words cell = with_word (with_word (with_symbol words cell.symbol) cell.base) cell.offset

abbrev pub with_model : List ℕ → DataModel → List ℕ
with_model words Lp64 = with_word words 0
with_model words Ilp32 = with_word words 1

abbrev pub with_counters : List ℕ → Counters → List ℕ
with_counters words counters =
    with_word (with_word (with_word (with_word words counters.frames) counters.allocations) counters.calls) counters.events

-- the position of the run, the contents of memory, and the counters
abbrev pub with_position : List ℕ → LivePart → List ℕ
with_position words live =
    with_returned (with_list with_term (with_list with_frame (with_frame words live.frame) live.callers) live.answers) live.returned

abbrev pub with_memory : List ℕ → LivePart → List ℕ
with_memory words live = with_list with_read (with_list with_block (with_list with_region words live.regions) live.blocks) live.read

abbrev pub with_counted : List ℕ → LivePart → List ℕ
with_counted words live = with_word (with_counters (with_model words live.model) live.counters) live.phase

-- all of it
abbrev pub words_of : LivePart → List ℕ
words_of live = with_counted (with_memory (with_position [] live) live) live
