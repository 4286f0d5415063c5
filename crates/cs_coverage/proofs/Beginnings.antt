-- The state in which the exploration of an integer entry begins represents the beginning of each run: for `IsBeginning`.
use Rattle.std.proofs.Common.{◌≡◌, ◌≢◌, ◌<◌, ℕ, zero, suc, ℤ, pos, Bool, true, List, [], ◌∷◌, ◌++◌, map, length, Option, None}
use Rattle.std.proofs.Common.{Some, slice_get}
use Rattle.std.proofs.Common.{◌⊎◌, inl, inr, false, refl, sym, ap, ◌∙◌, subst, arith}
use Rattle.std.specs.Prelude.{◌==◌, option_map, unwrap_or, if◌then◌else◌}
use Rattle.std.specs.Option.{option_and_then, option_map_or}
use Rattle.std.specs.FinMap as finite
use Rattle.std.proofs.lemmas.Bool.Decides.{eqb_tells}
use Rattle.std.proofs.lemmas.Int.{ints}
use Rattle.std.proofs.lemmas.Option.{same_Some, slice_get-map, slice_get_within}
use Rattle.cs_pmap.specs.Keys.{key_cmp}
use Rattle.cs_types.specs.declared.int_type.IntType.{IntType}
use Rattle.cs_types.specs.Shape.{Shape, integer}
use Rattle.cs_inputs.specs.declared.path.Path.{Path}
use Rattle.cs_ast.specs.TypedProgram.{TypedProgram, Variable}
use Rattle.cs_ranges.specs.Affine.{affine}
use Rattle.cs_terms.specs.declared.symbol.Sym.{Sym}
use Rattle.cs_terms.specs.declared.symbol.SymName.TheVariants.{Input}
use Rattle.cs_terms.specs.Table.{HasEachOnce}
use Rattle.cs_terms.specs.Term.{Valuation, value_of}
use Rattle.cs_constraints.specs.Constraints.{Fits}
use Rattle.cs_events.specs.declared.outcome.RunBudgets.{RunBudgets}
use Rattle.cs_events.specs.InputCells.{input_kind, input_cell}
use Rattle.cs_events.specs.Objects.{Object, StartBlock, GlobalObject, LiteralObject, LocalObject, HeapBlock, Cell, NumberCell}
use Rattle.cs_events.specs.Runs.{empty}
use Rattle.cs_meaning.specs.Memory.{Block as Known, Memory, none_written}
use Rattle.cs_meaning.specs.Calls.{local_block, argument_at, with_locals}
use Rattle.cs_meaning.specs.Inputs.{opened}
use Rattle.cs_meaning.specs.Machine.{Scalar, Operand, cell_of as operand_cell, routine_of}
use Rattle.cs_meaning.specs.Steps.{static_memory, global_block, literal_block, parameter_path, received, with_received, parameters_of}
use Rattle.cs_cfg.specs.Graph.{Code, no_flow, flow_of}
use Rattle.cs_cfg.specs.Working.{code_frame}
use Rattle.cs_cfg.specs.CodeSteps.{code_started}
use Rattle.cs_cfg.proofs.SpotStates.{begins_block}
use Rattle.cs_regions.specs.declared.base.Base.{Base}
use Rattle.cs_regions.specs.declared.base.Base.TheVariants.{Local}
use Rattle.cs_regions.specs.Numbering.{IsNumbered}
use Rattle.cs_store.specs.declared.value.Fill as store
use Rattle.cs_store.specs.declared.value.Fill.TheVariants.{Unset as UnsetFill}
use Rattle.cs_store.specs.declared.value.Binding.TheVariants.{Direct, Fill}
use Rattle.cs_store.specs.declared.value.Value.{Value}
use Rattle.cs_store.specs.declared.value.Value.TheVariants as values
use Rattle.cs_store.specs.Contents.{Contents, filled}
use Rattle.cs_store.specs.Held.{contents_of, held}
use Rattle.cs_state.specs.declared.block.Block.{Block}
use Rattle.cs_state.specs.declared.state.Counters.{Counters}
use Rattle.cs_state.specs.declared.state.State.{State}
use Rattle.cs_state.specs.Cells.{block_of, is_there, object_of, cell_of}
use Rattle.cs_state.specs.Meaning.{frame_of, meaning}
use Rattle.cs_state.specs.Naming.{Naming, Extends}
use Rattle.cs_state.specs.Objects.{Owner, owner, local_of, made_block, fill_over, written_over, contents_in, number_of, block_there, unwritten, memory_of}
use Rattle.cs_state.specs.Starting.{IsStart, IsParameter, HoldsInput, HoldsNumber, HoldsValue, DifferInName, frame_in}
use Rattle.cs_state.proofs.Numbers.{number_here, number_of_object}
use Rattle.cs_state.proofs.Received.{same_name}
use Rattle.cs_successors.specs.EntryRuns.{setting_with}
use Rattle.cs_coverage.specs.IntegerEntries.{HasIntegerParameters}
use Rattle.cs_coverage.specs.OwnNumbers.{input_number, kind_in, number_of as number_for, own_valuation, received_by}
use Rattle.cs_coverage.proofs.OwnBeginnings.{IsScalar, parameter_number, own_fits}

-- an empty map has no values
nothing_found : {V : Type 0} (o : ℕ) (x : V) → finite.get (finite.empty {X = V} {R = key_cmp}) (o, 0) ≡ Some x → ⊥
nothing_found {V} o x is = none_some (sym (finite.get-empty {X = V} key_cmp (o, 0)) ∙ is)
  where
    none_some : None ≡ Some x → ⊥
    none_some e = cc

none_of : {A B : Type 0} (f : A → B) (o : Option A) → ((x : A) → o ≡ Some x → ⊥) → option_map f o ≡ None
none_of f None not = refl
none_of f (Some x) not = absurd (not x refl)

pub bound_in : (found : Option Value) (fill : store.Fill) (value : Value)
    → option_map_or (λ value. Direct value) found (Fill fill) ≡ Direct value → found ≡ Some value
bound_in None fill value e = absurd (no_direct fill value e)
  where
    no_direct : (fill : store.Fill) (value : Value) → Fill fill ≡ Direct value → ⊥
    no_direct fill value e = cc
bound_in (Some found) fill value e = let same : found ≡ value = cc in ap Some same

not_zero : (n : ℕ) → (suc n == 0) ≡ false
not_zero n = elim (eqb_tells (suc n) 0) [
  | inl same ↦ absurd (omega (arith, same.1))
  | inr apart ↦ apart.0
]

zero_not : (n : ℕ) → (0 == suc n) ≡ false
zero_not n = elim (eqb_tells 0 (suc n)) [
  | inl same ↦ absurd (omega (arith, same.1))
  | inr apart ↦ apart.0
]

own_value : (x : ℤ) → affine (pos 1) (pos 0) (pos 0) x ≡ x
own_value x = omega (arith, ints)

same_declaration : (frame declaration other number : ℕ) → LocalObject frame declaration ≡ LocalObject other number → declaration ≡ number
same_declaration frame declaration other number e = cc

scalar_integer : (shape : Shape) (ty : IntType) → shape ≡ integer ty → IsScalar shape
scalar_integer shape ty is = subst IsScalar (sym is) tt

-- integers add no blocks to memory
none_opened : (program : TypedProgram) (inputs : Path → ℤ) (vs : List Variable) (memory : Memory)
    → ((number : ℕ) (v : Variable) → slice_get vs number ≡ Some v → (ty : IntType) × (v.ty ≡ integer ty))
    → with_received program inputs vs memory ≡ memory
none_opened program inputs [] memory integers = refl
none_opened program inputs (v ∷ vs) memory integers =
    let first = integers 0 v refl in
    ap (with_received program inputs vs) (opens v.ty first.0 first.1)
    ∙ none_opened program inputs vs memory (λ number w there. integers (suc number) w there)
  where
    opens : (shape : Shape) (ty : IntType) → shape ≡ integer ty
        → opened program (parameter_path v) shape v.block (received program inputs v) memory ≡ memory
    opens shape ty is = ap (λ s. opened program (parameter_path v) s v.block (received program inputs v) memory) is

module _ (code : Code) (program : TypedProgram) (entry : ℕ) (budgets : RunBudgets) (given names : Naming) (state : State)
    (start : IsStart code program entry given state) (more : Extends given names) (numbered : IsNumbered names.bases)
    (once : HasEachOnce given.syms) (integers : HasIntegerParameters program entry)
    (differ : DifferInName (parameters_of (routine_of program entry))) (nothing : (base : ℕ) → block_of state.blocks base ≡ None) where
  abbrev parameters : List Variable
  parameters = parameters_of (routine_of program entry)

  abbrev IsHere : Variable → ℕ → Type 0
  IsHere v number = IsParameter parameters (length parameters) v number

  here : (number : ℕ) (v : Variable) → slice_get parameters number ≡ Some v → IsHere v number
  here number v there = record { early = slice_get_within parameters number v there; there = there }

  -- the binding of a base region
  bound_at : (base offset : ℕ) (value : Value) → finite.get (contents_of state.store base).direct (offset, 0) ≡ Some value
      → held state.store base offset ≡ Direct value
  bound_at base offset value is = ap (λ b. option_map_or (λ value. Direct value) b (Fill (contents_of state.store base).fill)) is

  fill_unset : (base : ℕ) → (contents_of state.store base).fill ≡ UnsetFill
  fill_unset base = by (finite.get (contents_of state.store base).direct (1, 0)) refl
    where
      by : (found : Option Value) → finite.get (contents_of state.store base).direct (1, 0) ≡ found → (contents_of state.store base).fill ≡ UnsetFill
      by None is =
          start.received.unfilled base 1 (contents_of state.store base).fill
          (ap (λ b. option_map_or (λ value. Direct value) b (Fill (contents_of state.store base).fill)) is)
      by (Some value) is = let bound = start.received.bound base 1 value (bound_at base 1 value is) in absurd (omega (arith, bound.0))

  fill_in : (object : Object) → (contents_in state.store (number_of names.bases object)).fill ≡ UnsetFill
  fill_in object = by (number_of names.bases object)
    where
      by : (found : Option ℕ) → (contents_in state.store found).fill ≡ UnsetFill
      by None = refl
      by (Some base) = fill_unset base

  -- the bindings are those of parameters
  record IsBound (object : Object) (offset : ℕ) : Type 0 where
    at_start : offset ≡ 0
    number : ℕ
    v : Variable
    parameter : IsHere v number
    object_is : object ≡ LocalObject 0 number

  is_bound : (object : Object) (offset : ℕ) (value : Value)
      → finite.get (contents_in state.store (number_of names.bases object)).direct (offset, 0) ≡ Some value → IsBound object offset
  is_bound object offset value is = by (number_of names.bases object) refl is
    where
      by : (found : Option ℕ) → number_of names.bases object ≡ found
          → finite.get (contents_in state.store found).direct (offset, 0) ≡ Some value → IsBound object offset
      by None e at = absurd (nothing_found offset value at)
      by (Some base) e at =
          let bound = start.received.bound base offset value (bound_at base offset value at) in
          let region = number_of_object names.bases object base e in
          let named = more.bases base (Local 0 bound.1) bound.4 in
          let same : region.0 ≡ Local 0 bound.1 = same_Some region.0 (Local 0 bound.1) (sym region.1 ∙ named) in
          record {
            at_start = bound.0;
            number = bound.1;
            v = bound.2;
            parameter = bound.3;
            object_is = sym region.2 ∙ ap object_of same;
          }

  module _ (inputs : Path → ℤ) where
    abbrev pub own : Valuation
    own = own_valuation program entry given (setting_with program budgets inputs []) [] empty

    abbrev cell : Value → Cell
    cell = cell_of names.bases state.blocks own

    -- the own number of a parameter's symbol is that of its input
    pub own_is : (number : ℕ) (v : Variable) → slice_get parameters number ≡ Some v → (symbol : ℕ)
        → slice_get given.syms symbol ≡ Some (Input (parameter_path v))
        → own symbol ≡ input_number program.model (input_kind v.ty) (inputs (parameter_path v))
    own_is number v there symbol named = parameter_number program entry budgets given differ number v there symbol named inputs [] [] empty

    holds_number : (v : Variable) (number : ℕ) → slice_get parameters number ≡ Some v → (value : Value) (shape : Shape) (ty : IntType)
        → v.ty ≡ shape → shape ≡ integer ty → HoldsValue program given shape (parameter_path v) v.block value state
        → cell value ≡ input_cell program.model (parameter_path v) (input_kind shape) (inputs (parameter_path v))
    holds_number v number there value shape ty of is holds =
        let held_number : HoldsNumber given (parameter_path v) _ value state
        = subst (λ s. HoldsValue program given s (parameter_path v) v.block value state) is holds in
        let own_number = own_is number v there held_number.sym.0 held_number.ranges.named
        ∙ ap (λ s. input_number program.model (input_kind s) (inputs (parameter_path v))) (of ∙ is) in
        ap cell held_number.value_is ∙ ap NumberCell (own_value (own held_number.sym.0) ∙ own_number)
        ∙ ap (λ s. input_cell program.model (parameter_path v) (input_kind s) (inputs (parameter_path v))) (sym is)

    holds_received : (number : ℕ) (v : Variable) (there : slice_get parameters number ≡ Some v) (it : HoldsInput program given number v state)
        → cell it.value ≡ received program inputs v
    holds_received number v there it =
        let ty = integers number v there in
        holds_number v number there it.value v.ty ty.0 refl ty.1 it.holds

    -- an object that isn't a parameter is unchanged
    as_it_was : (object : Object) → ((number : ℕ) → object ≢ LocalObject 0 number)
        → (block : Known) → ((offset : ℕ) → block.written offset ≡ None)
        → written_over cell (contents_in state.store (number_of names.bases object)) block ≡ block
    as_it_was object other block unset =
        let fills = fill_in object in
        let cells : (offset : ℕ) → option_map cell (finite.get (contents_in state.store (number_of names.bases object)).direct (offset, 0))
        ≡ block.written offset =
        λ offset. none_of cell _ (λ value is. let bound = is_bound object offset value is in other bound.number bound.object_is) ∙ sym (unset offset) in
        λ i. record block { fill = fill_over (fills i) block.fill; written = λ offset. cells offset i }

    statics : (object : Object) → ((number : ℕ) → object ≢ LocalObject 0 number) → (found : Option Known)
        → ((block : Known) → found ≡ Some block → (offset : ℕ) → block.written offset ≡ None)
        → option_map (written_over cell (contents_in state.store (number_of names.bases object))) found ≡ found
    statics object other None unset = refl
    statics object other (Some block) unset = ap Some (as_it_was object other block (unset block refl))

    -- there is no start block and no heap block
    no_block : (object : Object) (owners : List Owner) (found : Option ℕ)
        → option_and_then (block_there program names owners state.blocks own object) found ≡ None
    no_block object owners None = refl
    no_block object owners (Some base) =
        ap (λ (b : Option Block). if is_there own b then option_map (made_block names.types own object) b else None) (nothing base)

    -- the locals
    abbrev arguments : List Operand
    arguments = map (λ (v : Variable). Scalar (received program inputs v)) parameters

    abbrev contents_at : ℕ → Contents
    contents_at declaration = contents_in state.store (number_of names.bases (LocalObject 0 declaration))

    Written : ℕ → Option Operand → Type 0
    Written declaration argument =
        (offset : ℕ) → option_map cell (finite.get (contents_at declaration).direct (offset, 0)) ≡ argument_at argument offset

    written_parameter : (declaration : ℕ) (v : Variable) → slice_get parameters declaration ≡ Some v → (offset : ℕ)
        → option_map cell (finite.get (contents_at declaration).direct (offset, 0)) ≡ argument_at (Some (Scalar (received program inputs v))) offset
    written_parameter declaration v there zero =
        let it = start.received.each declaration v (here declaration v there) in
        let base_is = number_here names.bases it.base (Local 0 declaration) numbered (more.bases it.base (Local 0 declaration) it.named) in
        let bound = bound_in (finite.get (contents_of state.store it.base).direct (0, 0)) (contents_of state.store it.base).fill it.value it.here in
        ap (λ (b : Option ℕ). option_map cell (finite.get (contents_in state.store b).direct (0, 0))) base_is
        ∙ ap (option_map cell) bound ∙ ap Some (holds_received declaration v there it)
    written_parameter declaration v there (suc offset) =
        none_of cell (finite.get (contents_at declaration).direct (suc offset, 0)) (λ value is.
        let bound = is_bound (LocalObject 0 declaration) (suc offset) value is in omega (arith, bound.at_start))
        ∙ sym (ap (λ t. if t then Some (received program inputs v) else None) (not_zero offset))

    written_other : (declaration : ℕ) → slice_get parameters declaration ≡ None → (offset : ℕ)
        → option_map cell (finite.get (contents_at declaration).direct (offset, 0)) ≡ argument_at None offset
    written_other declaration none offset =
        none_of cell _ (λ value is.
        let bound = is_bound (LocalObject 0 declaration) offset value is in
        let one : declaration ≡ bound.number = same_declaration 0 declaration 0 bound.number bound.object_is in
        no_some bound.v (sym none ∙ subst (λ n. slice_get parameters n ≡ Some bound.v) (sym one) bound.parameter.there))
        ∙ no_argument offset
      where
        no_some : (v : Variable) → None ≡ Some v → ⊥
        no_some v e = cc

        no_argument : (offset : ℕ) → None ≡ argument_at None offset
        no_argument zero = refl
        no_argument (suc offset) = either (suc offset == 0)
          where
            either : (t : Bool) → None ≡ (if t then option_map operand_cell None else None)
            either true = refl
            either false = refl

    written_local : (declaration : ℕ) (found : Option Variable) → slice_get parameters declaration ≡ found → (offset : ℕ)
        → option_map cell (finite.get (contents_at declaration).direct (offset, 0))
        ≡ argument_at (option_map (λ (v : Variable). Scalar (received program inputs v)) found) offset
    written_local declaration None there offset = written_other declaration there offset
    written_local declaration (Some v) there offset = written_parameter declaration v there offset

    local_is : (declaration : ℕ) (found : Option Variable)
        → option_map (written_over cell (contents_at declaration)) (option_map (local_block program None) found)
        ≡ option_map (local_block program (slice_get arguments declaration)) found
    local_is declaration None = refl
    local_is declaration (Some v) =
        let fills = fill_in (LocalObject 0 declaration) in
        let argument = slice_get-map (λ (v : Variable). Scalar (received program inputs v)) parameters declaration in
        let cells : (offset : ℕ) → option_map cell (finite.get (contents_at declaration).direct (offset, 0))
        ≡ argument_at (slice_get arguments declaration) offset =
        λ offset. written_local declaration (slice_get parameters declaration) refl offset ∙ ap (λ a. argument_at a offset) (sym argument) in
        λ i. Some (record (local_block program None v) { fill = fill_over (fills i) (local_block program None v).fill; written = λ offset. cells offset i })

    -- the memory
    abbrev begun_memory : Memory
    begun_memory = with_locals program 0 (routine_of program entry).variables arguments (with_received program inputs parameters (static_memory program))

    opened_none : with_received program inputs parameters (static_memory program) ≡ static_memory program
    opened_none = none_opened program inputs parameters (static_memory program) integers

    abbrev first_owners : List Owner
    first_owners = record { number = 0; function = entry } ∷ []

    memory_is : (object : Object) → memory_of program names first_owners state.blocks own state.store object ≡ begun_memory object
    memory_is (StartBlock path) =
        ap (option_map _) (no_block (StartBlock path) first_owners (number_of names.bases (StartBlock path)))
        ∙ ap (λ (m : Memory). m (StartBlock path)) (sym opened_none)
    memory_is (GlobalObject global) =
        statics (GlobalObject global) (λ number e. cc) (static_memory program (GlobalObject global)) (global_unset global)
        ∙ ap (λ (m : Memory). m (GlobalObject global)) (sym opened_none)
      where
        global_unset : (global : ℕ) (block : Known) → static_memory program (GlobalObject global) ≡ Some block
            → (offset : ℕ) → block.written offset ≡ None
        global_unset global block is offset = by (slice_get program.globals global) is
          where
            by : (found : Option _) → option_map (global_block program) found ≡ Some block → block.written offset ≡ None
            by None e = absurd (no_some e)
              where
                no_some : None ≡ Some block → ⊥
                no_some e = cc
            by (Some object) e = ap (λ (b : Known). b.written offset) (sym (same_Some (global_block program object) block e))
    memory_is (LiteralObject literal) =
        statics (LiteralObject literal) (λ number e. cc) (static_memory program (LiteralObject literal)) (literal_unset literal)
        ∙ ap (λ (m : Memory). m (LiteralObject literal)) (sym opened_none)
      where
        literal_unset : (literal : ℕ) (block : Known) → static_memory program (LiteralObject literal) ≡ Some block → (offset : ℕ)
            → block.written offset ≡ None
        literal_unset literal block is offset = by (slice_get program.literals literal) is
          where
            by : (found : Option (List ℕ)) → option_map literal_block found ≡ Some block → block.written offset ≡ None
            by None e = absurd (no_some e)
              where
                no_some : None ≡ Some block → ⊥
                no_some e = cc
            by (Some bytes) e = ap (λ (b : Known). b.written offset) (sym (same_Some (literal_block bytes) block e))
    memory_is (LocalObject zero declaration) = local_is declaration (slice_get (routine_of program entry).variables declaration)
    memory_is (LocalObject (suc frame) declaration) =
        ap (λ t. option_map (written_over cell (contents_in state.store (number_of names.bases (LocalObject (suc frame) declaration))))
        (option_and_then (λ it. local_of program it declaration) (if t then Some (record { number = 0; function = entry }) else None))) (zero_not frame)
        ∙ ap (λ (m : Memory). m (LocalObject (suc frame) declaration)) (sym opened_none)
        ∙ sym (ap (λ t. if t
        then option_map (local_block program (slice_get arguments declaration)) (slice_get (routine_of program entry).variables declaration)
        else with_received program inputs parameters (static_memory program) (LocalObject (suc frame) declaration)) (not_zero frame))
    memory_is (HeapBlock allocation) =
        ap (option_map _) (no_block (HeapBlock allocation) first_owners (number_of names.bases (HeapBlock allocation)))
        ∙ ap (λ (m : Memory). m (HeapBlock allocation)) (sym opened_none)

    owners_are : map owner (state.frame ∷ state.callers) ≡ first_owners
    owners_are = λ i. map owner (start.frame i ∷ start.callers i)

    frame_is : frame_of code names state own state.frame ≡ code_frame entry (unwrap_or (flow_of code entry) no_flow) 0
    frame_is =
        ap (frame_of code names state own) start.frame
        ∙ (λ i. record (frame_of code names state own (frame_in entry (unwrap_or (flow_of code entry) no_flow))) {
          todo = begins_block code entry (unwrap_or (flow_of code entry) no_flow).entry i;
        })

    -- the state represents the beginning of the run
    pub meaning_is : meaning code names program state own ≡ code_started code program inputs entry (routine_of program entry)
    meaning_is =
        let frame = frame_is in
        let callers = ap (map (frame_of code names state own)) start.callers in
        let memory : (object : Object) → _ =
        λ object. ap (λ owners. memory_of program names owners state.blocks own state.store object) owners_are ∙ memory_is object in
        let counters = start.counters in
        λ i. record {
          frame = frame i;
          callers = callers i;
          memory = λ object. memory object i;
          frames = (counters i).frames;
          allocations = (counters i).allocations;
          calls = (counters i).calls;
        }

    pub fits_own : Fits own state.constraints
    fits_own =
        own_fits code program entry budgets given state start once
        (λ number v there. let ty = integers number v there in scalar_integer v.ty ty.0 ty.1) inputs [] [] empty
