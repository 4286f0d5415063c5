-- The state in which the exploration of an integer entry begins represents the beginning of each run under the run's own numbers: for `IsBeginning`.
use Rattle.std.proofs.Common.{◌≡◌, ℕ, ℤ, Bool, true, List, [], Option, None, Some, refl, sym, ap, ◌∙◌, subst}
use Rattle.std.specs.Prelude.{is_some, IsTrue}
use Rattle.cs_inputs.specs.declared.path.Path.{Path}
use Rattle.cs_ast.specs.TypedProgram.{TypedProgram, Variable}
use Rattle.cs_ranges.specs.RangeSet.{contains}
use Rattle.cs_terms.specs.declared.symbol.SymName.TheVariants.{Input}
use Rattle.cs_terms.specs.Table.{HasEachOnce}
use Rattle.cs_terms.specs.Term.{Valuation}
use Rattle.cs_constraints.specs.Constraints.{set_of, Fits}
use Rattle.cs_events.specs.declared.guess.Guess.{Guess}
use Rattle.cs_events.specs.declared.outcome.RunBudgets.{RunBudgets}
use Rattle.cs_events.specs.Runs.{Log}
use Rattle.cs_event_runs.specs.First.{Step}
use Rattle.cs_meaning.specs.Machine.{routine_of}
use Rattle.cs_meaning.specs.Steps.{parameter_path, parameters_of}
use Rattle.cs_cfg.specs.Graph.{Code}
use Rattle.cs_cfg.specs.CodeSteps.{code_started}
use Rattle.cs_regions.specs.Numbering.{IsNumbered}
use Rattle.cs_state.specs.declared.state.Counters.{Counters}
use Rattle.cs_state.specs.declared.state.State.{State}
use Rattle.cs_state.specs.Cells.{block_of}
use Rattle.cs_state.specs.Meaning.{meaning}
use Rattle.cs_state.specs.Naming.{Naming, Extends}
use Rattle.cs_state.specs.Starting.{IsStart, DifferInName}
use Rattle.cs_successors.specs.EntryRuns.{setting_with}
use Rattle.cs_successors.specs.Coming.{is_declared}
use Rattle.cs_successors.proofs.Agreeing.{means_alike}
use Rattle.cs_coverage.specs.Closing.{IsBeginning}
use Rattle.cs_coverage.specs.IntegerEntries.{IsIntegerEntry}
use Rattle.cs_coverage.specs.OwnNumbers.{own_valuation}
use Rattle.cs_coverage.proofs.BeginningStates.{begins_integer}
use Rattle.cs_coverage.proofs.Beginnings.{own, own_is, meaning_is, fits_own}
use Rattle.cs_coverage.proofs.OwnBeginnings.{parameter_number}

-- an option that isn't empty has something
some_found : {A : Type 0} (o : Option A) → is_some o ≡ true → (a : A) × (o ≡ Some a)
some_found None there = cc
some_found (Some a) there = (a, refl)

module _ (code : Code) (program : TypedProgram) (entry : ℕ) (budgets : RunBudgets) (given names : Naming) (state : State)
    (start : IsStart code program entry given state) (more : Extends given names) (numbered : IsNumbered names.bases)
    (once : HasEachOnce given.syms) (works : IsIntegerEntry code program entry)
    (differ : DifferInName (parameters_of (routine_of program entry))) (nothing : (base : ℕ) → block_of state.blocks base ≡ None) where
  -- each run's own numbers of declared symbols are the numbers of its inputs
  module _ (limits : RunBudgets) (inputs : Path → ℤ) (guesses : List Guess) (steps : List Step) (log : Log) where
    abbrev numbers : Valuation
    numbers = own_valuation program entry names (setting_with program limits inputs guesses) steps log

    abbrev first_numbers : Valuation
    first_numbers = own code program entry budgets given names state start more numbered once works.parameters differ nothing inputs

    own_number : (symbol : ℕ) → is_declared state.constraints symbol ≡ true → numbers symbol ≡ first_numbers symbol
    own_number symbol declared =
        let found = some_found (set_of state.constraints symbol) declared in
        let known = start.received.symbols symbol found.0 found.1 in
        let parameter : Variable = known.1 in
        parameter_number program entry limits names differ known.0 parameter known.2.there symbol
        (more.syms symbol (Input (parameter_path parameter)) known.3) inputs guesses steps log
        ∙ sym (own_is code program entry budgets given names state start more numbered once works.parameters differ nothing inputs known.0 parameter
        known.2.there symbol known.3)

    own_numbers_fit : Fits numbers state.constraints
    own_numbers_fit symbol set there =
        let fits = fits_own code program entry budgets given names state start more numbered once works.parameters differ nothing inputs symbol set there in
        subst (λ (x : ℤ). IsTrue (contains set x)) (sym (own_number symbol (ap is_some there))) fits

    own_means : meaning code names program state numbers ≡ code_started code program inputs entry (routine_of program entry)
    own_means =
        let integer = begins_integer code program entry budgets given names state start more numbered once works differ nothing in
        means_alike (is_declared state.constraints) first_numbers numbers own_number code names program state integer.locals integer.blocks
        ∙ meaning_is code program entry budgets given names state start more numbered once works.parameters differ nothing inputs

  pub is_beginning : IsBeginning code program entry names state
  is_beginning = record {
    answers = start.answers;
    events = ap (λ (c : Counters). c.events) start.counters;
    phase = start.phase;
    own = λ limits inputs guesses steps log.
        (own_numbers_fit limits inputs guesses steps log, own_means limits inputs guesses steps log);
    covers = λ inputs. (
      own code program entry budgets given names state start more numbered once works.parameters differ nothing inputs,
      fits_own code program entry budgets given names state start more numbered once works.parameters differ nothing inputs,
      meaning_is code program entry budgets given names state start more numbered once works.parameters differ nothing inputs,
    );
  }
