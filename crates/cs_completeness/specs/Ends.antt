-- What an exploration of an integer entry states about its ends.
use Rattle.std.specs.Prelude.{ℕ, []}
use Rattle.cs_ast.specs.TypedProgram.{TypedProgram}
use Rattle.cs_cfg.specs.Graph.{Code}
use Rattle.cs_results.specs.declared.budgets.Budgets.{Budgets}
use Rattle.cs_results.specs.RunBudgets.{run_budgets}
use Rattle.cs_state.specs.Naming.{naming}
use Rattle.cs_explored.specs.declared.explored.Explored.{Explored}
use Rattle.cs_coverage.specs.IntegerEntries.{IsIntegerEntry}
use Rattle.cs_exactness.specs.Exact.{IsExact}
use Rattle.cs_exactness.specs.Noted.{EachNotesEvents}
use Rattle.cs_guesses.specs.Graphs.{IsGuessedGraph}

-- they represent exactly the runs of their valuations, note the events that lead to them, and what they note about guesses is true
pub record HasExactEnds (code : Code) (program : TypedProgram) (entry : ℕ) (budgets : Budgets) (explored : Explored) : Type 0 where
  pub exact : IsExact code program entry (run_budgets budgets) (naming explored.tables) explored.rows.items explored.ends.items
  pub noted : EachNotesEvents [] explored.rows.items explored.ends.items
  pub guesses : IsGuessedGraph code program entry (run_budgets budgets) (naming explored.tables) explored.rows.items explored.ends.items

abbrev pub HasExactEndsOnIntegers : Code → TypedProgram → ℕ → Budgets → Explored → Type 0
HasExactEndsOnIntegers code program entry budgets explored =
    IsIntegerEntry code program entry → HasExactEnds code program entry budgets explored
