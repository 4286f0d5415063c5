-- The runs that reach a guessed question, as runs of the program: for real guesses, and for corners.
use Rattle.std.proofs.Common.{◌≡◌, ◌≤◌, ℕ, List, Some, slice_get, refl, sym, ap, ◌∙◌, subst}
use Rattle.cs_inputs.specs.Inputs.{number_at}
use Rattle.cs_ast.specs.TypedProgram.{TypedProgram}
use Rattle.cs_terms.specs.Term.{Valuation}
use Rattle.cs_constraints.specs.Constraints.{Fits}
use Rattle.cs_events.specs.declared.event.Event.{Event}
use Rattle.cs_events.specs.declared.operation.Operation.{Operation}
use Rattle.cs_events.specs.declared.outcome.RunBudgets.{RunBudgets}
use Rattle.cs_events.specs.PendingEvents.{Operates}
use Rattle.cs_events.specs.Runs.{guess_at}
use Rattle.cs_meaning.specs.ProgramRuns.{ProgramRun, setting_of}
use Rattle.cs_cfg.specs.Graph.{Code}
use Rattle.cs_state.specs.declared.asked.Asked.{Asked}
use Rattle.cs_state.specs.declared.state.State.{State}
use Rattle.cs_state.specs.Naming.{Naming}
use Rattle.cs_state.specs.Valuations.{guesses_of}
use Rattle.cs_eval.specs.Questions.{operation_of}
use Rattle.cs_explored.specs.declared.explored.Row.{Row}
use Rattle.cs_explored.specs.declared.watch.Rule.{Rule}
use Rattle.cs_findings.specs.RealGuesses.{Comes}
use Rattle.cs_exactness.specs.Sources.{HasSource}
use Rattle.cs_guesses.specs.Real.{inputs_of, IsLoweredEntry}
use Rattle.cs_guesses.proofs.Origins.{IsMadeAt, comes_to_question}
use Rattle.cs_guesses.proofs.ProgramRuns.{runs_too, same_inputs}

module _ (code : Code) (program : TypedProgram) (entry : ℕ) (budgets : RunBudgets) (names : Naming) (rules : List Rule) (rows : List Row)
    (come : (number : ℕ) (row : Row) → slice_get rows number ≡ Some row → HasSource code program entry budgets names rules rows number row)
    (lowered : IsLoweredEntry code program entry) where
  -- runs that list what the row's state has guessed reach the question
  pub comes_too : (state : State) (chain : List Event) (asked : Asked) (made : IsMadeAt code program entry budgets names rules rows come state chain asked)
      (other : ProgramRun) (w : Valuation) → Fits w made.noted.sets → other.inputs ≡ inputs_of names.syms w
      → ((at : ℕ) → at ≤ made.row.state.value.counters.events
      → guess_at other.guesses at ≡ guess_at (guesses_of w made.row.state.value.asked) at)
      → Comes program entry budgets other made.before (Operates made.child.event.place (operation_of w made.noted.noted.meant))
  comes_too state chain asked made other w there inputs listed =
      subst (λ (operation : Operation). Comes program entry budgets other made.before (Operates made.child.event.place operation))
      (sym (made.noted.noted.same w there))
      (runs_too code program entry budgets lowered other made.before (Operates made.child.event.place (operation_of w made.noted.given))
      (comes_to_question code program entry budgets names rules rows come made (setting_of program other budgets) w there
      (record { goes = record { model = refl; limits = refl }; inputs = ap number_at inputs ∙ same_inputs names.syms w }) listed))
