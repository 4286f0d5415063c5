-- The run of a valuation of a state as plain data, and that its guesses are real.
use Rattle.std.specs.Prelude.{◌≡◌, ℕ, suc, ℤ, List, [], ◌∷◌, Some}
use Rattle.cs_inputs.specs.declared.path.Path.{Path}
use Rattle.cs_ast.specs.TypedTree.{Statement}
use Rattle.cs_ast.specs.TypedProgram.{TypedProgram}
use Rattle.cs_terms.specs.declared.symbol.SymName.{SymName}
use Rattle.cs_terms.specs.declared.symbol.SymName.TheVariants.{Input, Guess as GuessAt}
use Rattle.cs_terms.specs.Term.{Valuation}
use Rattle.cs_constraints.specs.Constraints.{Fits}
use Rattle.cs_events.specs.declared.outcome.RunBudgets.{RunBudgets}
use Rattle.cs_meaning.specs.Machine.{routine_of}
use Rattle.cs_meaning.specs.ProgramRuns.{ProgramRun}
use Rattle.cs_cfg.specs.Graph.{Code}
use Rattle.cs_cfg.specs.Lowered.{IsLowered}
use Rattle.cs_state.specs.declared.state.State.{State}
use Rattle.cs_state.specs.Naming.{Naming}
use Rattle.cs_state.specs.Valuations.{guesses_of}
use Rattle.cs_findings.specs.RealGuesses.{AreReal}

-- the inputs that symbols represent, with their numbers
abbrev pub inputs_of : List SymName → Valuation → List (Path × ℤ)
inputs_of [] v = []
inputs_of (Input path ∷ names) v = (path, v 0) ∷ inputs_of names (λ symbol. v (suc symbol))
inputs_of (GuessAt event ∷ names) v = inputs_of names (λ symbol. v (suc symbol))

-- the inputs and guesses of the run of a valuation
abbrev pub run_at : Naming → State → Valuation → ProgramRun
run_at names state v = record { inputs = inputs_of names.syms v; guesses = guesses_of v state.asked }

-- in the run of each valuation that fits a state, all guesses are real
abbrev pub HasRealGuesses : TypedProgram → ℕ → RunBudgets → Naming → State → Type 0
HasRealGuesses program entry budgets names state = (v : Valuation) → Fits v state.constraints → AreReal program entry budgets (run_at names state v)

-- the code is the lowering of a program in which the entry has a body
pub record IsLoweredEntry (code : Code) (program : TypedProgram) (entry : ℕ) : Type 0 where
  pub lowered : IsLowered code program
  pub body : Statement
  pub has_body : (routine_of program entry).body ≡ Some body
