-- What the rows and ends of a graph state about runs is true.
use Rattle.std.specs.Prelude.{ℕ, List}
use Rattle.cs_ast.specs.TypedProgram.{TypedProgram}
use Rattle.cs_events.specs.declared.outcome.RunBudgets.{RunBudgets}
use Rattle.cs_cfg.specs.Graph.{Code}
use Rattle.cs_state.specs.Naming.{Naming}
use Rattle.cs_explored.specs.declared.explored.End.{End}
use Rattle.cs_explored.specs.declared.explored.Row.{Row}
use Rattle.cs_explored.specs.declared.watch.Rule.{Rule}
use Rattle.cs_exactness.specs.Distinct.{AreDistinct}
use Rattle.cs_exactness.specs.Exact.{IsExact}
use Rattle.cs_exactness.specs.Noted.{EachNotesEvents}
use Rattle.cs_exactness.specs.OwnRuns.{HasOwnRuns}

-- rows and ends represent the runs of their valuations, no two are alike, each state notes the events that lead to it, and the runs of these events fit it
pub record IsExactGraph (code : Code) (program : TypedProgram) (entry : ℕ) (budgets : RunBudgets) (names : Naming) (rules : List Rule) (rows : List Row)
    (ends : List End) : Type 0 where
  pub exact : IsExact code program entry budgets names rows ends
  pub distinct : AreDistinct rows ends
  pub noted : EachNotesEvents rules rows ends
  pub own : HasOwnRuns code program entry budgets names rows ends
