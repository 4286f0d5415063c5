-- A graph whose states' notes about guesses are true, and whose guesses are real, as corners show.
use Rattle.std.specs.Prelude.{ℕ, List}
use Rattle.cs_ast.specs.TypedProgram.{TypedProgram}
use Rattle.cs_events.specs.declared.outcome.RunBudgets.{RunBudgets}
use Rattle.cs_cfg.specs.Graph.{Code}
use Rattle.cs_state.specs.Naming.{Naming}
use Rattle.cs_explored.specs.declared.explored.End.{End}
use Rattle.cs_explored.specs.declared.explored.Row.{Row}
use Rattle.cs_exactness.specs.Noted.{EachState}
use Rattle.cs_guesses.specs.Asking.{AreAskedAlong}
use Rattle.cs_guesses.specs.Cornered.{HasCorners}
use Rattle.cs_guesses.specs.Real.{HasRealGuesses, IsLoweredEntry}

-- what each state notes about its guesses is true; and if the code is the lowering of the program, the guesses of the runs that it represents are real, as
-- corners show
pub record IsGuessedGraph (code : Code) (program : TypedProgram) (entry : ℕ) (budgets : RunBudgets) (names : Naming) (rows : List Row) (ends : List End)
    : Type 0 where
  pub asked : EachState rows ends (λ number state chain. AreAskedAlong code program entry budgets names rows state chain)
  pub real : IsLoweredEntry code program entry → EachState rows ends (λ number state chain. HasRealGuesses program entry budgets names state)
  pub corners : IsLoweredEntry code program entry → EachState rows ends (λ number state chain. HasCorners program entry budgets names state)
