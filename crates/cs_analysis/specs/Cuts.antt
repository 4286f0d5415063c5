-- Why the exploration of an integer function was cut.
use Rattle.std.specs.Prelude.{ℕ, [], All}
use Rattle.cs_ast.specs.TypedProgram.{TypedProgram}
use Rattle.cs_cfg.specs.Graph.{Code}
use Rattle.cs_results.specs.declared.budgets.Budgets.{Budgets}
use Rattle.cs_results.specs.RunBudgets.{run_budgets}
use Rattle.cs_state.specs.Naming.{naming}
use Rattle.cs_explored.specs.declared.explored.Explored.{Explored}
use Rattle.cs_coverage.specs.IntegerEntries.{IsIntegerEntry}
use Rattle.cs_guesses.specs.Cuts.{IsCutForNodes}

-- each cut is one of the budget of nodes: one more row was refused, which is as exact as the others
abbrev pub AreCutForNodes : Code → TypedProgram → ℕ → Budgets → Explored → Type 0
AreCutForNodes code program entry budgets explored =
    IsIntegerEntry code program entry
    → All (IsCutForNodes code program entry (run_budgets budgets) (naming explored.tables) [] explored.rows.items explored.ends.items budgets.nodes)
    explored.cuts.items
