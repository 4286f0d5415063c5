-- All runs fit the state in which an exploration begins, under their own numbers: for `own_valuation`.
use Rattle.std.proofs.Common.{◌≡◌, ℕ, zero, suc, ℤ, pos, Bool, true, false, List, [], ◌∷◌, ◌++◌, map, Option, Some, slice_get}
use Rattle.std.proofs.Common.{true≢false, if◌then◌else◌, IsTrue, refl, sym, ap, ◌∙◌, subst}
use Rattle.std.specs.Prelude.{is_some, option_map, unwrap_or}
use Rattle.std.specs.Cmp.{eq_by_cmp_equiv}
use Rattle.std.specs.declared.cmp.Ordering.{Ordering}
use Rattle.std.specs.declared.cmp.Ordering.TheVariants.{Less, Equal, Greater}
use Rattle.std.proofs.lemmas.Option.{same_Some, slice_get_within}
use Rattle.cs_ranges.specs.declared.range_set.Interval.{Interval}
use Rattle.cs_ranges.specs.RangeSet.{contains}
use Rattle.cs_types.specs.declared.data_model.DataModel.{DataModel}
use Rattle.cs_types.specs.declared.int_type.IntType.{IntType}
use Rattle.cs_types.specs.Shape.{Shape, void, integer, pointer, array, struct}
use Rattle.cs_inputs.specs.declared.path.Path.{Path}
use Rattle.cs_inputs.specs.PathOrder.{path_order}
use Rattle.cs_inputs.proofs.PathOrderLaws.{path_order-total, path_order-tie}
use Rattle.cs_store.proofs.Keys.{equal_from_eq}
use Rattle.cs_ast.specs.TypedProgram.{TypedProgram, Variable}
use Rattle.cs_terms.specs.declared.symbol.Sym.{Sym}
use Rattle.cs_terms.specs.declared.symbol.SymName.TheVariants.{Input}
use Rattle.cs_terms.specs.Table.{HasEachOnce}
use Rattle.cs_constraints.specs.Constraints.{set_of}
use Rattle.cs_store.specs.declared.value.Value.{Value}
use Rattle.cs_events.specs.declared.input.InputKind.TheVariants.{Integer}
use Rattle.cs_events.specs.declared.input.Lookup.{Lookup}
use Rattle.cs_events.specs.declared.guess.Guess.{Guess}
use Rattle.cs_events.specs.declared.outcome.RunBudgets.{RunBudgets}
use Rattle.cs_events.specs.Runs.{Log}
use Rattle.cs_event_runs.specs.First.{Step}
use Rattle.cs_events.specs.InputCells.{input_kind, lies_in}
use Rattle.cs_events.specs.Objects.{is_equal}
use Rattle.cs_events.specs.Operations.{numbers_of, is_true, truth_number, TRUTHS}
use Rattle.cs_meaning.specs.Machine.{routine_of}
use Rattle.cs_meaning.specs.Steps.{parameter_path, parameters_of}
use Rattle.cs_cfg.specs.Graph.{Code}
use Rattle.cs_constraints.specs.Constraints.{Fits}
use Rattle.cs_state.specs.declared.state.State.{State}
use Rattle.cs_state.specs.Naming.{Naming}
use Rattle.cs_state.specs.Starting.{IsStart, HoldsValue, Ranges, DifferInName}
use Rattle.cs_state.proofs.Inhabited.{zero_held}
use Rattle.cs_state.proofs.Received.{same_name}
use Rattle.cs_successors.specs.EntryRuns.{setting_with}
use Rattle.cs_coverage.specs.OwnNumbers.{input_number, kind_in, number_of, own_valuation, received_by}

-- the shapes that an entry's parameters may have
abbrev pub IsScalar : Shape → Type 0
IsScalar (integer ty) = Unit {0}
IsScalar (pointer target) = Unit {0}
IsScalar void = ⊥
IsScalar (array element count) = ⊥
IsScalar (struct number) = ⊥

tied : (o : Ordering) → is_equal o ≡ true → o ≡ Equal
tied Less e = absurd (true≢false (sym e))
tied Equal e = refl
tied Greater e = absurd (true≢false (sym e))

itself : (p : Path) → is_equal (path_order p p) ≡ true
itself p = ap is_equal (equal_from_eq (path_order p p) ((eq_by_cmp_equiv path_order-total).refl p))

abbrev pub lookup_of : Variable → Lookup
lookup_of v = record { path = parameter_path v; kind = input_kind v.ty }

-- the first variable with this path
pub record IsFirstAt (variables : List Variable) (path : Path) (more : List Lookup) : Type 0 where
  pub place : ℕ
  pub v : Variable
  pub there : slice_get variables place ≡ Some v
  pub same : parameter_path v ≡ path
  pub kind : kind_in (map lookup_of variables ++ more) path ≡ input_kind v.ty

-- depending on whether the first variable has this path
first_or_later : (w : Variable) (variables : List Variable) (more : List Lookup) (v : Variable) (b : Bool)
    → is_equal (path_order (parameter_path v) (parameter_path w)) ≡ b
    → ((place : ℕ) → slice_get variables place ≡ Some v → IsFirstAt variables (parameter_path v) more)
    → (place : ℕ) → slice_get (w ∷ variables) place ≡ Some v → IsFirstAt (w ∷ variables) (parameter_path v) more
first_or_later w variables more v true e later place there = record {
  place = 0;
  v = w;
  there = refl;
  same = sym (path_order-tie (parameter_path v) (parameter_path w) (tied (path_order (parameter_path v) (parameter_path w)) e));
  kind = ap (λ b. if b then input_kind w.ty else kind_in (map lookup_of variables ++ more) (parameter_path v)) e;
}
first_or_later w variables more v false e later zero there =
    let same : w ≡ v = same_Some w v there in
    let equal = subst (λ (x : Variable). is_equal (path_order (parameter_path v) (parameter_path x)) ≡ true) (sym same) (itself (parameter_path v)) in
    absurd (true≢false (sym equal ∙ e))
first_or_later w variables more v false e later (suc place) there =
    let found = later place there in
    record {
      place = suc found.place;
      v = found.v;
      there = found.there;
      same = found.same;
      kind = ap (λ b. if b then input_kind w.ty else kind_in (map lookup_of variables ++ more) (parameter_path v)) e ∙ found.kind;
    }

pub first_at : (variables : List Variable) (more : List Lookup) (v : Variable) (place : ℕ) → slice_get variables place ≡ Some v
    → IsFirstAt variables (parameter_path v) more
first_at [] more v place there = absurd (true≢false (ap is_some (sym there)))
first_at (w ∷ variables) more v place there =
    first_or_later w variables more v (is_equal (path_order (parameter_path v) (parameter_path w))) refl
    (λ n at. first_at variables more v n at) place there

in_range : (model : DataModel) (ty : IntType) (number : ℤ) → IsTrue (lies_in (numbers_of model ty) (input_number model (Integer ty) number))
in_range model ty number = by (lies_in (numbers_of model ty) number) refl
  where
    by : (b : Bool) → lies_in (numbers_of model ty) number ≡ b → IsTrue (lies_in (numbers_of model ty) (if b then number else pos 0))
    by true e = e
    by false e = zero_held model ty

is_truth : (b : Bool) → IsTrue (lies_in TRUTHS (truth_number b))
is_truth true = refl
is_truth false = refl

-- a parameter's symbol has the number of its input, in each run and whatever it reads later
pub parameter_number : (program : TypedProgram) (entry : ℕ) (budgets : RunBudgets) (names : Naming)
    → DifferInName (parameters_of (routine_of program entry))
    → (number : ℕ) (v : Variable) → slice_get (parameters_of (routine_of program entry)) number ≡ Some v → (symbol : ℕ)
    → slice_get names.syms symbol ≡ Some (Input (parameter_path v)) → (inputs : Path → ℤ) (guesses : List Guess) (steps : List Step) (log : Log)
    → own_valuation program entry names (setting_with program budgets inputs guesses) steps log symbol
    ≡ input_number program.model (input_kind v.ty) (inputs (parameter_path v))
parameter_number program entry budgets names differ number v there symbol named inputs guesses steps log =
    let parameters : List Variable = parameters_of (routine_of program entry) in
    let found = first_at parameters log.read v number there in
    let one : found.place ≡ number = differ found.place number found.v v found.there there (same_name found.v v found.same) in
    let same : found.v ≡ v = same_Some found.v v (sym found.there ∙ subst (λ n. slice_get parameters n ≡ Some v) (sym one) there) in
    ap (λ o. unwrap_or (option_map (number_of (setting_with program budgets inputs guesses) (received_by program entry ++ log.read) steps) o) (pos 0)) named
    ∙ ap (λ k. input_number program.model k (inputs (parameter_path v))) (found.kind ∙ ap (λ (w : Variable). input_kind w.ty) same)

module _ (program : TypedProgram) (names : Naming) (state : State) (once : HasEachOnce names.syms) where
  -- a symbol may have each number of its range in the state
  in_set : (path : Path) (range : ℤ × ℤ) (declared : Sym) → Ranges names path range declared state → (symbol : ℕ) (set : List Interval)
      → slice_get names.syms symbol ≡ Some (Input path) → set_of state.constraints symbol ≡ Some set → (x : ℤ) → IsTrue (lies_in range x)
      → IsTrue (contains set x)
  in_set path range declared ranges symbol set named at x lies =
      let one : declared.0 ≡ symbol = once declared.0 symbol (Input path) ranges.named named in
      let same : ranges.set ≡ set = same_Some ranges.set set (sym ranges.here ∙ ap (set_of state.constraints) one ∙ at) in
      subst (λ (s : List Interval). IsTrue (contains s x)) same (ranges.numbers x ∙ lies)

  -- what a scalar parameter holds may be the run's number for its input
  own_in_set : (shape : Shape) (path : Path) (count : Option ℕ) (value : Value) → IsScalar shape → HoldsValue program names shape path count value state
      → (symbol : ℕ) (set : List Interval) → slice_get names.syms symbol ≡ Some (Input path) → set_of state.constraints symbol ≡ Some set
      → (number : ℤ) → IsTrue (contains set (input_number program.model (input_kind shape) number))
  own_in_set (integer ty) path count value scalar holds symbol set named at number =
      in_set path (numbers_of program.model ty) holds.sym holds.ranges symbol set named at (input_number program.model (Integer ty) number)
      (in_range program.model ty number)
  own_in_set (pointer target) path count value scalar holds symbol set named at number =
      in_set path TRUTHS holds.sym holds.ranges symbol set named at (truth_number (is_true number)) (is_truth (is_true number))
  own_in_set void path count value scalar holds symbol set named at number = absurd scalar
  own_in_set (array element size) path count value scalar holds symbol set named at number = absurd scalar
  own_in_set (struct number') path count value scalar holds symbol set named at number = absurd scalar

module _ (code : Code) (program : TypedProgram) (entry : ℕ) (budgets : RunBudgets) (names : Naming) where
  -- each run fits the state at its beginning, whatever it reads later
  pub own_fits : (state : State) → IsStart code program entry names state → HasEachOnce names.syms
      → ((number : ℕ) (v : Variable) → slice_get (parameters_of (routine_of program entry)) number ≡ Some v → IsScalar v.ty)
      → (inputs : Path → ℤ) (guesses : List Guess) (steps : List Step) (log : Log)
      → Fits (own_valuation program entry names (setting_with program budgets inputs guesses) steps log) state.constraints
  own_fits state start once scalars inputs guesses steps log symbol set at =
      let parameters : List Variable = parameters_of (routine_of program entry) in
      let known = start.received.symbols symbol set at in
      let v : Variable = known.1 in
      let path : Path = parameter_path v in
      let found = first_at parameters log.read v known.0 known.2.there in
      let holds = start.received.each found.place found.v
      (record { early = slice_get_within parameters found.place found.v found.there; there = found.there }) in
      let named = known.3 ∙ ap (λ (p : Path). Some (Input p)) (sym found.same) in
      let fits = own_in_set program names state once found.v.ty (parameter_path found.v) found.v.block holds.value
      (scalars found.place found.v found.there) holds.holds symbol set named at (inputs path) in
      let number : own_valuation program entry names (setting_with program budgets inputs guesses) steps log symbol
      ≡ input_number program.model (input_kind found.v.ty) (inputs path) =
      ap (λ o. unwrap_or (option_map (number_of (setting_with program budgets inputs guesses) (received_by program entry ++ log.read) steps) o) (pos 0))
      known.3 ∙ ap (λ k. input_number program.model k (inputs path)) found.kind in
      subst (λ (x : ℤ). IsTrue (contains set x)) (sym number) fits
