-- The state in which the exploration of an integer entry begins represents, under each valuation that fits, the beginning of that valuation's run: for
-- `IsFirstState`.
use Rattle.std.proofs.Common.{◌≡◌, ℕ, ℤ, pos, Bool, true, List, Option, None, Some, slice_get, refl, sym, ap, ◌∙◌, subst}
use Rattle.std.specs.Prelude.{is_some, IsTrue, if◌then◌else◌}
use Rattle.cs_inputs.specs.declared.path.Path.{Path}
use Rattle.cs_types.specs.declared.int_type.IntType.{IntType}
use Rattle.cs_types.specs.Shape.{Shape, integer}
use Rattle.cs_ast.specs.TypedProgram.{TypedProgram, Variable}
use Rattle.cs_terms.specs.declared.symbol.SymName.TheVariants.{Input}
use Rattle.cs_terms.specs.Table.{HasEachOnce}
use Rattle.cs_terms.specs.Term.{Valuation}
use Rattle.cs_constraints.specs.Constraints.{set_of, Fits}
use Rattle.cs_events.specs.declared.outcome.RunBudgets.{RunBudgets}
use Rattle.cs_events.specs.InputCells.{input_kind, lies_in}
use Rattle.cs_events.specs.Operations.{numbers_of}
use Rattle.cs_meaning.specs.Machine.{routine_of}
use Rattle.cs_meaning.specs.Steps.{parameter_path, parameters_of}
use Rattle.cs_cfg.specs.Graph.{Code}
use Rattle.cs_cfg.specs.CodeSteps.{code_started}
use Rattle.cs_regions.specs.Numbering.{IsNumbered}
use Rattle.cs_store.specs.declared.value.Value.{Value}
use Rattle.cs_state.specs.declared.state.Counters.{Counters}
use Rattle.cs_state.specs.declared.state.State.{State}
use Rattle.cs_state.specs.Cells.{block_of}
use Rattle.cs_state.specs.Meaning.{meaning}
use Rattle.cs_state.specs.Naming.{Naming, Extends}
use Rattle.cs_state.specs.Starting.{IsStart, HoldsValue, HoldsNumber, DifferInName}
use Rattle.cs_state.specs.Valuations.{input_of}
use Rattle.cs_state.proofs.Numbers.{input_here}
use Rattle.cs_explored.specs.declared.watch.Rule.{Rule}
use Rattle.cs_successors.specs.Coming.{is_declared}
use Rattle.cs_successors.proofs.Agreeing.{means_alike}
use Rattle.cs_coverage.specs.IntegerEntries.{IsIntegerEntry}
use Rattle.cs_coverage.specs.OwnNumbers.{input_number}
use Rattle.cs_coverage.proofs.Beginnings.{own, own_is, meaning_is}
use Rattle.cs_coverage.proofs.BeginningStates.{begins_integer}
use Rattle.cs_coverage.proofs.OwnStarts.{is_beginning}
use Rattle.cs_exactness.specs.Sources.{IsFirstState}

-- an option that isn't empty has something
some_found : {A : Type 0} (o : Option A) → is_some o ≡ true → (a : A) × (o ≡ Some a)
some_found None there = cc
some_found (Some a) there = (a, refl)

module _ (code : Code) (program : TypedProgram) (entry : ℕ) (budgets : RunBudgets) (given names : Naming) (state : State)
    (start : IsStart code program entry given state) (more : Extends given names) (numbered : IsNumbered names.bases)
    (once : HasEachOnce given.syms) (once_more : HasEachOnce names.syms) (works : IsIntegerEntry code program entry)
    (differ : DifferInName (parameters_of (routine_of program entry))) (nothing : (base : ℕ) → block_of state.blocks base ≡ None) where
  abbrev parameters : List Variable
  parameters = parameters_of (routine_of program entry)

  -- a number that fits is one of the parameter's type
  module _ (v : Valuation) (fits : Fits v state.constraints) (symbol : ℕ) where
    lies : (path : Path) (range : ℤ × ℤ) (value : Value) → HoldsNumber given path range value state → slice_get given.syms symbol ≡ Some (Input path)
        → IsTrue (lies_in range (v symbol))
    lies path range value holds named =
        let one : holds.sym.0 ≡ symbol = once holds.sym.0 symbol (Input path) holds.ranges.named named in
        let there : set_of state.constraints symbol ≡ Some holds.ranges.set
        = subst (λ (s : ℕ). set_of state.constraints s ≡ Some holds.ranges.set) one holds.ranges.here in
        sym (holds.ranges.numbers (v symbol)) ∙ fits symbol holds.ranges.set there

    input_is : (shape : Shape) (ty : IntType) → shape ≡ integer ty → (path : Path) (count : Option ℕ) (value : Value)
        → HoldsValue program given shape path count value state → slice_get given.syms symbol ≡ Some (Input path)
        → input_number program.model (input_kind shape) (v symbol) ≡ v symbol
    input_is shape ty is path count value holds named =
        let number : HoldsNumber given path (numbers_of program.model ty) value state
        = subst (λ (s : Shape). HoldsValue program given s path count value state) is holds in
        ap (λ (s : Shape). input_number program.model (input_kind s) (v symbol)) is
        ∙ ap (λ (b : Bool). if b then v symbol else pos 0) (lies path (numbers_of program.model ty) value number named)

    -- the run's own number of a declared symbol is its number under the valuation
    same_number : is_declared state.constraints symbol ≡ true
        → v symbol ≡ own code program entry budgets given names state start more numbered once works.parameters differ nothing (input_of names.syms v)
        symbol
    same_number declared =
        let found = some_found (set_of state.constraints symbol) declared in
        let known = start.received.symbols symbol found.0 found.1 in
        let parameter : Variable = known.1 in
        let there = known.2.there in
        let ty = works.parameters known.0 parameter there in
        let it = start.received.each known.0 parameter known.2 in
        let input : input_of names.syms v (parameter_path parameter) ≡ v symbol
        = input_here names.syms v symbol (parameter_path parameter) once_more (more.syms symbol (Input (parameter_path parameter)) known.3) in
        sym (own_is code program entry budgets given names state start more numbered once works.parameters differ nothing (input_of names.syms v)
        known.0 parameter there symbol known.3
        ∙ ap (input_number program.model (input_kind parameter.ty)) input
        ∙ input_is parameter.ty ty.0 ty.1 (parameter_path parameter) parameter.block it.value it.holds known.3)

  means : (v : Valuation) → Fits v state.constraints
      → meaning code names program state v ≡ code_started code program (input_of names.syms v) entry (routine_of program entry)
  means v fits =
      let integer = begins_integer code program entry budgets given names state start more numbered once works differ nothing in
      means_alike (is_declared state.constraints)
      (own code program entry budgets given names state start more numbered once works.parameters differ nothing (input_of names.syms v)) v
      (λ symbol declared. same_number v fits symbol declared) code names program state integer.locals integer.blocks
      ∙ meaning_is code program entry budgets given names state start more numbered once works.parameters differ nothing (input_of names.syms v)

  pub first_state : (rules : List Rule) → state.phase ≡ 0 → IsFirstState code program entry budgets names rules state
  first_state rules phase =
      let begins = is_beginning code program entry budgets given names state start more numbered once works differ nothing in
      record {
        integer = begins_integer code program entry budgets given names state start more numbered once works differ nothing;
        starts = record {
          answers = start.answers;
          events = ap (λ (c : Counters). c.events) start.counters;
          guesses = start.asked;
          means = means;
          covers = begins.covers;
        };
        own = begins.own;
        phase = phase;
      }
