-- In integer code, the operation in progress of a state with pointers to locals only reads no input: for the coverage of runs.
use Rattle.std.proofs.Common.{◌≡◌, ◌-◌, ◌<◌, ℕ, Bool, List, [], ◌∷◌, map, length, Option, None, Some, All, refl, sym, ap, subst, arith}
use Rattle.std.specs.Prelude.{option_map, slice_get, reverse}
use Rattle.std.specs.Option.{option_and_then, option_map_or}
use Rattle.std.specs.FinMap as finite
use Rattle.std.proofs.lemmas.List.{get_or-reverse, length-reverse}
use Rattle.std.proofs.lemmas.List.Elements.{All-nil, All-cons, All-head, All-tail, All-get_or, All-from_get_or}
use Rattle.std.proofs.lemmas.Option.{same_Some}
use Rattle.cs_inputs.specs.declared.path.Path.{Path}
use Rattle.cs_ast.specs.TypedProgram.{TypedProgram, Variable}
use Rattle.cs_events.specs.declared.input.InputKind.{InputKind}
use Rattle.cs_events.specs.declared.outcome.RunBudgets.{RunBudgets}
use Rattle.cs_events.specs.Objects.{Object, LocalObject, Cell, UnsetCell}
use Rattle.cs_meaning.specs.Calls.{local_block}
use Rattle.cs_meaning.specs.Machine.{Operand, Scalar, routine_of}
use Rattle.cs_meaning.specs.Memory.{UnsetFill, Block, Memory, Holds, scalar_at, filled as what_fills, written_or, found_in}
use Rattle.cs_cfg.specs.Graph.{Code}
use Rattle.cs_cfg.specs.Spots.{point_of}
use Rattle.cs_terms.specs.Term.{Valuation, value_of}
use Rattle.cs_regions.specs.declared.base.Base.{Base}
use Rattle.cs_store.specs.declared.value.Fill.TheVariants.{Unset}
use Rattle.cs_store.specs.declared.value.Binding.TheVariants as found
use Rattle.cs_store.specs.declared.value.Value.{Value}
use Rattle.cs_store.specs.declared.value.Value.TheVariants as value
use Rattle.cs_store.specs.Contents.{Contents}
use Rattle.cs_store.specs.Held.{contents_of}
use Rattle.cs_state.specs.declared.state.State.{State}
use Rattle.cs_state.specs.declared.temporary.Temporary.{Temporary}
use Rattle.cs_state.specs.declared.temporary.Temporary.TheVariants as temporary
use Rattle.cs_state.specs.Cells.{pointer_to, cell_of, operand_of}
use Rattle.cs_state.specs.Meaning.{meaning}
use Rattle.cs_state.specs.Naming.{Naming}
use Rattle.cs_state.specs.Objects.{Owner, owner, owner_numbered, local_of, fill_over, written_over, contents_in, number_of, memory_of}
use Rattle.cs_cfg.specs.IntegerCode.{HasIntegerCode, count_of_locals}
use Rattle.cs_progress.specs.Locals.{PointsToLocal, PointToLocals, HasLocalsAlone}
use Rattle.cs_progress.specs.Stepping.{next_act, next_left}
use Rattle.cs_spots.proofs.Going.{integer_at}
use Rattle.cs_coverage.proofs.ReadingNothing.{ReadsNothing, same_left, PointsTo, IsKnown, IsKnownOperand, step_reads}

-- the cells of a local
module _ (program : TypedProgram) (cell : Value → Cell) (contents : Contents) (unset : (offset : ℕ) → finite.get contents.direct (offset, 0) ≡ None
    → contents.fill ≡ Unset) where
  found_block : (object : Object) (block : Block) → block.fill ≡ UnsetFill → (offset : ℕ)
      → (c : Cell) × (found_in program object (Some (written_over cell contents block)) offset ≡ Holds c)
  found_block object block bare offset = by (finite.get contents.direct (offset, 0)) (unset offset)
    where
      by : (bound : Option Value) → (bound ≡ None → contents.fill ≡ Unset)
          → (c : Cell)
          × (written_or (option_map cell bound)
          (what_fills program (fill_over contents.fill block.fill) (scalar_at program object (written_over cell contents block) offset) offset) ≡ Holds c)
      by (Some value) none = (cell value, refl)
      by None none =
          let fills = none refl in
          (UnsetCell, λ i. what_fills program (fill_over (fills i) (bare i)) (scalar_at program object (written_over cell contents block) offset) offset)

  found_known : (object : Object) (there : Option Block) → ((block : Block) → there ≡ Some block → block.fill ≡ UnsetFill) → (offset : ℕ)
      → (c : Cell) × (found_in program object (option_map (written_over cell contents) there) offset ≡ Holds c)
  found_known object None bare offset = (UnsetCell, refl)
  found_known object (Some block) bare offset = found_block object block (bare block refl) offset

local_unset : (program : TypedProgram) (declaration : ℕ) (it : Option Owner) (block : Block)
    → option_and_then (λ (o : Owner). local_of program o declaration) it ≡ Some block → block.fill ≡ UnsetFill
local_unset program declaration None block is = cc
local_unset program declaration (Some it) block is = by (slice_get (routine_of program it.function).variables declaration) is
  where
    by : (v : Option Variable) → option_map (local_block program None) v ≡ Some block → block.fill ≡ UnsetFill
    by None e = cc
    by (Some v) e = ap (λ (b : Block). b.fill) (sym (same_Some (local_block program None v) block e))

module _ (program : TypedProgram) (names : Naming) (known : ℕ → Bool) (state : State) (locals : HasLocalsAlone program names.bases known state)
    (valuation : Valuation) where
  abbrev memory : Memory
  memory = memory_of program names (map owner (state.frame ∷ state.callers)) state.blocks valuation state.store

  -- no fill was bound
  unset_in : (base : Option ℕ) (offset : ℕ) → finite.get (contents_in state.store base).direct (offset, 0) ≡ None
      → (contents_in state.store base).fill ≡ Unset
  unset_in None offset none = refl
  unset_in (Some base) offset none =
      locals.filled base offset (contents_of state.store base).fill
      (ap (λ b. option_map_or (λ value. found.Direct value) b (found.Fill (contents_of state.store base).fill)) none)

  local_known : (frame declaration : ℕ) → IsKnown program memory (LocalObject frame declaration)
  local_known frame declaration offset =
      found_known program (cell_of names.bases state.blocks valuation)
      (contents_in state.store (number_of names.bases (LocalObject frame declaration)))
      (unset_in (number_of names.bases (LocalObject frame declaration))) (LocalObject frame declaration)
      (option_and_then (λ (o : Owner). local_of program o declaration) (owner_numbered frame (map owner (state.frame ∷ state.callers))))
      (local_unset program declaration (owner_numbered frame (map owner (state.frame ∷ state.callers)))) offset

  -- the operands
  value_known : (frame count : ℕ) (v : Value) → PointsToLocal names.bases known frame count v
      → PointsTo (IsKnown program memory) (cell_of names.bases state.blocks valuation v)
  value_known frame count (value.Number term) points = tt
  value_known frame count value.Null points = tt
  value_known frame count (value.At number offset) points =
      subst (λ (b : Option Base). PointsTo (IsKnown program memory) (pointer_to b (value_of valuation offset))) (sym points.0.named)
      (local_known frame points.0.declaration)
  value_known frame count (value.Start number offset) points = absurd points
  value_known frame count value.Unset points = tt

  operand_points : (frame count : ℕ) (t : Temporary) → PointToLocals names.bases known frame count t
      → IsKnownOperand program memory (operand_of names.bases state.blocks valuation t)
  operand_points frame count (temporary.Scalar v) points = value_known frame count v points
  operand_points frame count (temporary.Whole values) points = tt
  operand_points frame count temporary.Nothing points = tt

  operands_known : (frame count : ℕ) (temporaries : List Temporary) → All (PointToLocals names.bases known frame count) temporaries
      → All (IsKnownOperand program memory) (map (operand_of names.bases state.blocks valuation) temporaries)
  operands_known frame count [] all = All-nil (IsKnownOperand program memory)
  operands_known frame count (t ∷ temporaries) all =
      All-cons (IsKnownOperand program memory) (operand_of names.bases state.blocks valuation t)
      (map (operand_of names.bases state.blocks valuation) temporaries)
      (operand_points frame count t (All-head (PointToLocals names.bases known frame count) t temporaries all))
      (operands_known frame count temporaries (All-tail (PointToLocals names.bases known frame count) t temporaries all))

  turned : (operands : List Operand) → All (IsKnownOperand program memory) operands → All (IsKnownOperand program memory) (reverse operands)
  turned operands all =
      All-from_get_or (IsKnownOperand program memory) (reverse operands) (Scalar UnsetCell) (λ k within.
      let inside : k < length operands = omega (arith, within, length-reverse operands) in
      subst (IsKnownOperand program memory) (sym (get_or-reverse operands k (Scalar UnsetCell) inside))
      (All-get_or (IsKnownOperand program memory) operands (length operands - 1 - k) (Scalar UnsetCell) (omega (arith, inside)) all))

  module _ (code : Code) (budgets : RunBudgets) (integers : HasIntegerCode code program state.frame.spot.function) where
    -- the operation in progress reads no input
    pub reads_nothing : ReadsNothing (next_act code names program budgets state valuation)
    reads_nothing =
        step_reads code program budgets (count_of_locals program state.frame.spot.function) (point_of code state.frame.spot).operations
        (point_of code state.frame.spot).end (meaning code names program state valuation)
        (λ one rest is. integer_at code program state.frame.spot one (record { operations = rest; end = (point_of code state.frame.spot).end }) integers
        (λ i. record { operations = is i; end = (point_of code state.frame.spot).end }))
        (turned (map (operand_of names.bases state.blocks valuation) state.frame.temporaries)
        (operands_known state.frame.number (count_of_locals program state.frame.spot.function) state.frame.temporaries locals.temporaries))

    -- so what remains of it is the same, whatever cells inputs have
    pub any_cells : (cells others : Path → InputKind → Cell)
        → next_left code names program budgets cells state valuation ≡ next_left code names program budgets others state valuation
    any_cells cells others = same_left cells others _ reads_nothing
