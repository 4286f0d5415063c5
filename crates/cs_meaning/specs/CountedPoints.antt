-- Counted points: the loop heads and the labels of a body, numbered in file order; a frame counts its visits of each.
use Rattle.std.specs.Prelude.{ℕ, ◌+◌, nat_lt, Option, Some, None, slice_get, slice_set, if◌then◌else◌}
use Rattle.cs_ast.specs.declared.place.Place.{Place}
use Rattle.cs_ast.specs.TypedTree.{Statement, Block, Declare, Run, If, IfElse, While, Do, For, Switch, Goto, Label, Break, Continue, Return, Statements, Empty}
use Rattle.cs_ast.specs.TypedTree.{Then}
use Rattle.cs_events.specs.declared.outcome.Outcome.TheVariants.{Over}
use Rattle.cs_events.specs.declared.outcome.Budget.TheVariants.{Visits}
use Rattle.cs_events.specs.declared.outcome.RunBudgets.{RunBudgets}
use Rattle.cs_events.specs.declared.point.PointKind.{PointKind}
use Rattle.cs_events.specs.Touches.{Meets}
use Rattle.cs_events.specs.Acts.{Act, Goes, Stops, Touches}
use Rattle.cs_meaning.specs.Machine.{Running}

abbrev mutual
  -- the number of loop heads and labels in a statement
  pub counted_points : Statement → ℕ
  counted_points (Block at statements) = counted_points_in statements
  counted_points (Declare at declaration initial) = 0
  counted_points (Run at e) = 0
  counted_points (If at test body) = counted_points body
  counted_points (IfElse at test body other) = counted_points body + counted_points other
  counted_points (While at test body) = 1 + counted_points body
  counted_points (Do at body test) = 1 + counted_points body
  counted_points (For at first test last body) = 1 + counted_points_in first + counted_points body
  counted_points (Switch at value cases statements) = counted_points_in statements
  counted_points (Goto at label) = 0
  counted_points (Label at label body) = 1 + counted_points body
  counted_points (Break at) = 0
  counted_points (Continue at) = 0
  counted_points (Return at value) = 0

  -- their number in consecutive statements
  pub counted_points_in : Statements → ℕ
  counted_points_in Empty = 0
  counted_points_in (Then first others) = counted_points first + counted_points_in others

-- the machine in whose frame the counted point with a number was visited `count` times
abbrev pub with_visits : {Rest : Type 0} → ℕ → ℕ → Running Rest → Running Rest
with_visits counted_point count m = record m { frame = record m.frame { visits = slice_set m.frame.visits counted_point count } }

-- a further visit exceeds the budget of visits if it is used up
abbrev pub within_visits : {S : Type 0} → RunBudgets → Place → ℕ → Act S → Act S
within_visits budgets at count act = if nat_lt count budgets.visits then act else Stops (Over Visits at)

-- a counted point with `count` visits is reached again, unless the budget of visits is used up; one without a count exceeds it
abbrev pub reached_again : {Rest : Type 0} → RunBudgets → Place → PointKind → ℕ → Option ℕ → Running Rest → Act (Running Rest)
reached_again budgets at kind counted_point None m = Stops (Over Visits at)
reached_again budgets at kind counted_point (Some count) m =
    within_visits budgets at count (Touches (Meets kind at) (Goes (with_visits counted_point (count + 1) m)))

-- a counted point is reached
abbrev pub reach_counted_point : {Rest : Type 0} → RunBudgets → Place → PointKind → ℕ → Running Rest → Act (Running Rest)
reach_counted_point budgets at kind counted_point m = reached_again budgets at kind counted_point (slice_get m.frame.visits counted_point) m
