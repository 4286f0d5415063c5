-- A state with pointers to locals only means the same under valuations that agree on the symbols that it mentions: for the successors of a state.
use Rattle.std.proofs.Common.{◌≡◌, ℕ, ℤ, Bool, true, List, [], ◌∷◌, Option, None, Some, All, map, refl, sym, ap, ◌∙◌}
use Rattle.std.proofs.lemmas.List.Elements.{All-head, All-tail}
use Rattle.std.specs.Prelude.{option_map, slice_get, reverse, if◌then◌else◌}
use Rattle.std.specs.Option.{option_and_then, option_map_or}
use Rattle.std.specs.FinMap as finite
use Rattle.std.specs.FinMap.{get-empty}
use Rattle.cs_ast.specs.TypedProgram.{TypedProgram}
use Rattle.cs_terms.specs.declared.symbol.Sym.{Sym}
use Rattle.cs_terms.specs.declared.term.Lin.{Lin}
use Rattle.cs_terms.specs.Term.{Valuation, value_of, value_with}
use Rattle.cs_events.specs.Objects.{Object, StartBlock, GlobalObject, LiteralObject, LocalObject, HeapBlock, Cell, NumberCell}
use Rattle.cs_meaning.specs.Machine.{Scalar}
use Rattle.cs_meaning.specs.Memory as memory
use Rattle.cs_cfg.specs.Graph.{Code}
use Rattle.cs_regions.specs.declared.base.Base.{Base}
use Rattle.cs_store.specs.declared.value.Value.{Value}
use Rattle.cs_store.specs.declared.value.Value.TheVariants as value
use Rattle.cs_store.specs.declared.value.Binding.TheVariants.{Direct, Fill}
use Rattle.cs_store.specs.Held.{Regions, contents_of, held}
use Rattle.cs_state.specs.declared.block.Block.{Block}
use Rattle.cs_state.specs.declared.state.State.{State}
use Rattle.cs_state.specs.declared.temporary.Temporary.{Temporary}
use Rattle.cs_state.specs.declared.temporary.Temporary.TheVariants as temporary
use Rattle.cs_state.specs.Cells.{Blocks, block_of, is_there, cell_of, operand_of, pointer_to}
use Rattle.cs_state.specs.Meaning.{meaning, frame_of}
use Rattle.cs_state.specs.Naming.{Naming}
use Rattle.cs_state.specs.Objects.{Owner, owner, number_of, contents_in, written_over, fill_over, block_there, unwritten, made_block, memory_of}
use Rattle.cs_cfg.specs.IntegerCode.{count_of_locals}
use Rattle.cs_progress.specs.Locals.{IsOver, PointsToLocal, PointToLocals, HasLocalsAlone}

module _ (known : ℕ → Bool) (one other : Valuation) (agree : (symbol : ℕ) → known symbol ≡ true → other symbol ≡ one symbol) where
  value_agrees : (term : Lin) → IsOver known term → value_of other term ≡ value_of one term
  value_agrees term over = by term.sym refl
    where
      by : (symbol : Option Sym) → term.sym ≡ symbol
          → value_with other symbol term.slope term.at term.value ≡ value_with one symbol term.slope term.at term.value
      by None is = refl
      by (Some symbol) is =
          ap (λ (number : ℤ). value_with (λ s. number) (Some symbol) term.slope term.at term.value) (agree symbol.0 (over symbol is))

  -- the values of terms
  pub values_agree : (terms : List Lin) → All (IsOver known) terms → map (value_of other) terms ≡ map (value_of one) terms
  values_agree [] over = refl
  values_agree (term ∷ terms) over =
      λ i. value_agrees term (All-head (IsOver known) term terms over) i ∷ values_agree terms (All-tail (IsOver known) term terms over) i

  module _ (bases : List Base) (blocks : Blocks) (frame count : ℕ) where
    cell_agrees : (given : Value) → PointsToLocal bases known frame count given → cell_of bases blocks other given ≡ cell_of bases blocks one given
    cell_agrees (value.Number term) points = ap NumberCell (value_agrees term points)
    cell_agrees value.Null points = refl
    cell_agrees (value.At base offset) points = ap (pointer_to (slice_get bases base)) (value_agrees offset points.1)
    cell_agrees (value.Start base offset) points = absurd points
    cell_agrees value.Unset points = refl

    operand_agrees : (given : Temporary) → PointToLocals bases known frame count given
        → operand_of bases blocks other given ≡ operand_of bases blocks one given
    operand_agrees (temporary.Scalar given) points = ap Scalar (cell_agrees given points)
    operand_agrees (temporary.Whole given) points = absurd points
    operand_agrees temporary.Nothing points = refl

    operands_agree : (given : List Temporary) → All (PointToLocals bases known frame count) given
        → map (operand_of bases blocks other) given ≡ map (operand_of bases blocks one) given
    operands_agree [] points = refl
    operands_agree (first ∷ given) points =
        λ i. operand_agrees first (All-head (PointToLocals bases known frame count) first given points) i
        ∷ operands_agree given (All-tail (PointToLocals bases known frame count) first given points) i

  module _ (program : TypedProgram) (names : Naming) (owners : List Owner) (blocks : Blocks) (none : (base : ℕ) → block_of blocks base ≡ None) where
    -- there are no blocks
    no_block : (valuation : Valuation) (object : Object) (base : ℕ) → block_there program names owners blocks valuation object base ≡ None
    no_block valuation object base =
        ap (λ (block : Option Block). if is_there valuation block then option_map (made_block names.types valuation object) block else None) (none base)

    no_blocks : (valuation : Valuation) (object : Object) (base : Option ℕ)
        → option_and_then (block_there program names owners blocks valuation object) base ≡ None
    no_blocks valuation object None = refl
    no_blocks valuation object (Some base) = no_block valuation object base

    unwritten_agrees : (object : Object)
        → unwritten program names owners blocks other object ≡ unwritten program names owners blocks one object
    unwritten_agrees (StartBlock path) = no_blocks other (StartBlock path) _ ∙ sym (no_blocks one (StartBlock path) _)
    unwritten_agrees (GlobalObject global) = refl
    unwritten_agrees (LiteralObject literal) = refl
    unwritten_agrees (LocalObject frame declaration) = refl
    unwritten_agrees (HeapBlock allocation) = no_blocks other (HeapBlock allocation) _ ∙ sym (no_blocks one (HeapBlock allocation) _)

    module _ (store : Regions) (frame count : ℕ)
        (stored : (base offset : ℕ) (given : Value) → held store base offset ≡ Direct given → PointsToLocal names.bases known frame count given) where
      abbrev cell_in : Valuation → Option Value → Option Cell
      cell_in valuation found = option_map (cell_of names.bases blocks valuation) found

      held_agrees : (base offset : ℕ) → cell_in other (finite.get (contents_of store base).direct (offset, 0))
          ≡ cell_in one (finite.get (contents_of store base).direct (offset, 0))
      held_agrees base offset = by (finite.get (contents_of store base).direct (offset, 0)) refl
        where
          by : (found : Option Value) → finite.get (contents_of store base).direct (offset, 0) ≡ found → cell_in other found ≡ cell_in one found
          by None is = refl
          by (Some given) is =
              ap Some (cell_agrees names.bases blocks frame count given (stored base offset given
              (ap (λ (found : Option Value). option_map_or (λ given. Direct given) found (Fill (contents_of store base).fill)) is)))

      contents_agree : (base : Option ℕ) (offset : ℕ) → cell_in other (finite.get (contents_in store base).direct (offset, 0))
          ≡ cell_in one (finite.get (contents_in store base).direct (offset, 0))
      contents_agree None offset =
          let nothing = get-empty {X = Value} _ (offset, 0) in
          ap (cell_in other) nothing ∙ sym (ap (cell_in one) nothing)
      contents_agree (Some base) offset = held_agrees base offset

      written_agrees : (base : Option ℕ) (block : memory.Block) → written_over (cell_of names.bases blocks other) (contents_in store base) block
          ≡ written_over (cell_of names.bases blocks one) (contents_in store base) block
      written_agrees base block = λ i. record block {
        fill = fill_over (contents_in store base).fill block.fill;
        written = λ offset. contents_agree base offset i;
      }

      -- objects have the same cells
      memory_agrees : memory_of program names owners blocks other store ≡ memory_of program names owners blocks one store
      memory_agrees = λ i object.
          (ap (option_map (written_over (cell_of names.bases blocks other) (contents_in store (number_of names.bases object)))) (unwritten_agrees object)
          ∙ over (number_of names.bases object) (unwritten program names owners blocks one object)) i
        where
          over : (base : Option ℕ) (block : Option memory.Block)
              → option_map (written_over (cell_of names.bases blocks other) (contents_in store base)) block
              ≡ option_map (written_over (cell_of names.bases blocks one) (contents_in store base)) block
          over base None = refl
          over base (Some block) = ap Some (written_agrees base block)

-- a state whose pointers only point to locals, without blocks
pub means_alike : (known : ℕ → Bool) (one other : Valuation) → ((symbol : ℕ) → known symbol ≡ true → other symbol ≡ one symbol)
    → (code : Code) (names : Naming) (program : TypedProgram) (state : State) → HasLocalsAlone program names.bases known state
    → ((base : ℕ) → block_of state.blocks base ≡ None)
    → meaning code names program state other ≡ meaning code names program state one
means_alike known one other agree code names program state have none =
    λ i. record {
      frame = record (frame_of code names state one state.frame) { stack = reverse (stack i) };
      callers = callers i;
      memory = memory i;
      frames = state.counters.frames;
      allocations = state.counters.allocations;
      calls = state.counters.calls;
    }
  where
    frame : ℕ
    frame = state.frame.number

    count : ℕ
    count = count_of_locals program state.frame.spot.function

    stack : map (operand_of names.bases state.blocks other) state.frame.temporaries ≡ map (operand_of names.bases state.blocks one) state.frame.temporaries
    stack = operands_agree known one other agree names.bases state.blocks frame count state.frame.temporaries have.temporaries

    callers : map (frame_of code names state other) state.callers ≡ map (frame_of code names state one) state.callers
    callers = ap (map (frame_of code names state other)) have.callers ∙ sym (ap (map (frame_of code names state one)) have.callers)

    memory : memory_of program names (map owner (state.frame ∷ state.callers)) state.blocks other state.store
        ≡ memory_of program names (map owner (state.frame ∷ state.callers)) state.blocks one state.store
    memory = memory_agrees known one other agree program names (map owner (state.frame ∷ state.callers)) state.blocks none state.store frame count have.stored
