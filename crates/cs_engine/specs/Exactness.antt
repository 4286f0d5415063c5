-- What an exploration states about runs is true: its rows, its ends, and the cuts that it lists. The contract of `explore` states a part of this, for integer
-- entries (`IsExactOnIntegers`, `HasOwnOnIntegers`, `HasGuessesOnIntegers` and `HasReasonsOnIntegers` of `Exploring`), whose states have no heap blocks; no
-- contract states the whole.
use Rattle.std.specs.Prelude.{ℕ, List, All}
use Rattle.cs_ast.specs.TypedProgram.{TypedProgram}
use Rattle.cs_events.specs.declared.outcome.RunBudgets.{RunBudgets}
use Rattle.cs_cfg.specs.Graph.{Code}
use Rattle.cs_results.specs.declared.budgets.Budgets.{Budgets}
use Rattle.cs_results.specs.RunBudgets.{run_budgets}
use Rattle.cs_state.specs.Naming.{Naming, naming}
use Rattle.cs_explored.specs.declared.explored.End.{End}
use Rattle.cs_explored.specs.declared.explored.Explored.{Explored}
use Rattle.cs_explored.specs.declared.explored.Row.{Row}
use Rattle.cs_explored.specs.declared.watch.Rule.{Rule}
use Rattle.cs_guesses.specs.Cuts.{IsCutFor}
use Rattle.cs_engine.specs.Recorded.{RecordsAllocations}
use Rattle.cs_exactness.specs.Graphs.{IsExactGraph}
use Rattle.cs_exactness.specs.Noted.{EachState}
use Rattle.cs_guesses.specs.Graphs.{IsGuessedGraph}

-- each row and end records where the heap blocks of its state were made
abbrev pub EachRecordsAllocations : Code → TypedProgram → ℕ → RunBudgets → Naming → List Row → List End → Type 0
EachRecordsAllocations code program entry budgets names rows ends =
    EachState rows ends (λ number state chain. RecordsAllocations code program entry budgets names state chain)

-- rows and ends represent only runs, states record their guesses and allocations as the runs have them, and each cut has its reason
pub record IsExactExploration (code : Code) (program : TypedProgram) (entry : ℕ) (limits : Budgets) (rules : List Rule) (explored : Explored)
    : Type 0 where
  pub graph : IsExactGraph code program entry (run_budgets limits) (naming explored.tables) rules explored.rows.items explored.ends.items
  pub guesses : IsGuessedGraph code program entry (run_budgets limits) (naming explored.tables) explored.rows.items explored.ends.items
  pub allocations : EachRecordsAllocations code program entry (run_budgets limits) (naming explored.tables) explored.rows.items explored.ends.items
  pub cuts : All (IsCutFor code program entry (run_budgets limits) (naming explored.tables) rules explored.rows.items explored.ends.items limits)
      explored.cuts.items
