-- The state in which the exploration of an integer entry begins is one of integer code: for `IsIntegerState`.
use Rattle.std.proofs.Common.{◌≡◌, ℕ, ℤ, pos, Bool, true, List, [], length, Option, None, Some, slice_get, All, refl, sym, ap, ◌∙◌, subst}
use Rattle.std.proofs.Common.{arith}
use Rattle.std.specs.Prelude.{is_some, map, Contains}
use Rattle.std.specs.FinMap as finite
use Rattle.std.proofs.lemmas.List.Elements.{All-nil}
use Rattle.std.proofs.lemmas.Option.{same_Some}
use Rattle.cs_types.specs.declared.int_type.IntType.{IntType}
use Rattle.cs_types.specs.Shape.{Shape, integer}
use Rattle.cs_inputs.specs.declared.path.Path.{Path}
use Rattle.cs_ast.specs.TypedProgram.{TypedProgram, Variable}
use Rattle.cs_terms.specs.declared.symbol.Sym.{Sym}
use Rattle.cs_terms.specs.declared.term.Lin.{Lin}
use Rattle.cs_terms.specs.Table.{HasEachOnce}
use Rattle.cs_terms.specs.Term.{Valuation, value_of}
use Rattle.cs_constraints.specs.Constraints.{set_of, Fits}
use Rattle.cs_events.specs.declared.input.InputKind.{InputKind}
use Rattle.cs_events.specs.declared.outcome.RunBudgets.{RunBudgets}
use Rattle.cs_events.specs.Acts.{Act, Goes, Stops, Reads, Asks, Allocates, Reaches, Touches}
use Rattle.cs_events.specs.Objects.{Cell}
use Rattle.cs_meaning.specs.Machine.{routine_of}
use Rattle.cs_meaning.specs.Steps.{parameters_of, parameter_path}
use Rattle.cs_cfg.specs.Graph.{Code}
use Rattle.cs_cfg.specs.Working.{CodeState}
use Rattle.cs_regions.specs.declared.base.Base.TheVariants.{Local}
use Rattle.cs_regions.specs.Numbering.{IsNumbered}
use Rattle.cs_store.specs.declared.value.Binding.TheVariants.{Direct}
use Rattle.cs_store.specs.declared.value.Value.{Value}
use Rattle.cs_store.specs.declared.value.Value.TheVariants as values
use Rattle.cs_store.specs.Held.{held}
use Rattle.cs_state.specs.declared.asked.Asked.{Asked}
use Rattle.cs_state.specs.declared.frame.Frame.{Frame}
use Rattle.cs_state.specs.declared.state.State.{State}
use Rattle.cs_state.specs.declared.temporary.Temporary.{Temporary}
use Rattle.cs_state.specs.Cells.{block_of}
use Rattle.cs_state.specs.Naming.{Naming, Extends}
use Rattle.cs_state.specs.Starting.{IsStart, IsParameter, HoldsNumber, HoldsValue, DifferInName}
use Rattle.cs_progress.specs.Acting.{UsesAll}
use Rattle.cs_cfg.specs.IntegerCode.{HasIntegerCode, count_of_locals}
use Rattle.cs_progress.specs.Locals.{HasLocalsAlone, IsOver, AreIn, IsIn}
use Rattle.cs_progress.specs.Stepping.{next_act}
use Rattle.cs_successors.specs.Coming.{is_declared, IsIntegerState}
use Rattle.cs_coverage.specs.IntegerEntries.{HasIntegerParameters, IsIntegerEntry}
use Rattle.cs_coverage.proofs.Beginnings.{own, fits_own}
use Rattle.cs_coverage.proofs.LiveMeaning.{none_there}

nothing_there : {A V : Type 0} (v : V) → None ≡ Some v → A
nothing_there v e = cc

-- without answers an act has used all of them
uses_none : (cells : Path → InputKind → Cell) (act : Act CodeState) → UsesAll cells [] act
unfolding UsesAll
uses_none cells (Goes next) = refl
uses_none cells (Stops outcome) = refl
uses_none cells (Reads path kind onward) = uses_none cells (onward (cells path kind))
uses_none cells (Touches touch act) = uses_none cells act
uses_none cells (Asks at operation onward) = tt
uses_none cells (Allocates at path onward) = tt
uses_none cells (Reaches at object offset act) = tt

module _ (code : Code) (program : TypedProgram) (entry : ℕ) (budgets : RunBudgets) (given names : Naming) (state : State)
    (start : IsStart code program entry given state) (more : Extends given names) (numbered : IsNumbered names.bases)
    (once : HasEachOnce given.syms) (works : IsIntegerEntry code program entry)
    (differ : DifferInName (parameters_of (routine_of program entry))) (nothing : (base : ℕ) → block_of state.blocks base ≡ None) where
  abbrev parameters : List Variable
  parameters = parameters_of (routine_of program entry)

  -- an integer parameter holds its symbol
  holds_over : (v : Variable) (value : Value) (shape : Shape) (ty : IntType) → shape ≡ integer ty
      → HoldsValue program given shape (parameter_path v) v.block value state → IsIn program names.bases (is_declared state.constraints) state.frame value
  holds_over v value shape ty is holds =
      let number : HoldsNumber given (parameter_path v) _ value state
      = subst (λ s. HoldsValue program given s (parameter_path v) v.block value state) is holds in
      subst (IsIn program names.bases (is_declared state.constraints) state.frame) (sym number.value_is)
      (λ symbol e.
      let same : number.sym ≡ symbol = same_Some number.sym symbol e in
      subst (λ (s : Sym). is_declared state.constraints s.0 ≡ true) same (ap is_some number.ranges.here))

  stored : (base offset : ℕ) (value : Value) → held state.store base offset ≡ Direct value
      → IsIn program names.bases (is_declared state.constraints) state.frame value
  stored base offset value here =
      let bound = start.received.bound base offset value here in
      let it = start.received.each bound.1 bound.2 bound.3 in
      let ty = works.parameters bound.1 bound.2 bound.3.there in
      let one : base ≡ it.base =
      numbered (Local 0 bound.1) base it.base (more.bases base (Local 0 bound.1) bound.4) (more.bases it.base (Local 0 bound.1) it.named) in
      let at : held state.store it.base 0 ≡ Direct value =
      subst (λ b. held state.store b 0 ≡ Direct value) one (subst (λ o. held state.store base o ≡ Direct value) bound.0 here) in
      let same : it.value ≡ value = direct_same it.value value (sym it.here ∙ at) in
      subst (IsIn program names.bases (is_declared state.constraints) state.frame) same
      (holds_over bound.2 it.value bound.2.ty ty.0 ty.1 it.holds)
    where
      direct_same : (one other : Value) → Direct one ≡ Direct other → one ≡ other
      direct_same one other e = cc

  begins_alone : HasLocalsAlone program names.bases (is_declared state.constraints) state
  begins_alone = record {
    callers = start.callers;
    answers = subst (All (IsOver (is_declared state.constraints))) (sym start.answers) (All-nil (IsOver (is_declared state.constraints)));
    temporaries =
        subst (All (AreIn program names.bases (is_declared state.constraints) state.frame)) (sym (ap (λ (f : Frame). f.temporaries) start.frame))
        (All-nil (AreIn program names.bases (is_declared state.constraints) state.frame));
    stored = stored;
    filled = start.received.unfilled;
    result = λ value is. nothing_there value (sym start.result ∙ is);
    read = λ base offset symbol is. nothing_there symbol (sym (start.received.read base offset) ∙ is);
  }

  pub begins_integer : IsIntegerState code program budgets names state
  begins_integer = record {
    model = start.model_is;
    integers = subst (HasIntegerCode code program) (sym (ap (λ (f : Frame). f.spot.function) start.frame)) works.integers;
    locals = begins_alone;
    blocks = nothing;
    uses = λ cells valuation fits.
        subst (λ (answers : List Lin). UsesAll cells (map (value_of valuation) answers) (next_act code names program budgets state valuation))
        (sym start.answers) (uses_none cells (next_act code names program budgets state valuation));
    possible = (
      own code program entry budgets given names state start more numbered once works.parameters differ nothing (λ path. pos 0),
      fits_own code program entry budgets given names state start more numbered once works.parameters differ nothing (λ path. pos 0),
    );
    guessed = λ asked is. absurd (nobody asked (subst (λ (l : List Asked). Contains l asked) none_asked is));
  }
    where
      none_asked : finite.values state.asked ≡ []
      none_asked = ap (λ m. finite.values m) start.asked ∙ ap (map (λ (e : (ℕ × ℕ) × Asked). e.1)) (none_there {V = Asked})

      nobody : (asked : Asked) → Contains [] asked → ⊥
      nobody asked (k, within, at) = omega (arith, within)
