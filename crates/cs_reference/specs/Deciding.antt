-- Tests and heads of loops, defined by the things to do after them.
use Rattle.std.specs.Prelude.{ℕ, List, if◌then◌else◌}
use Rattle.cs_ast.specs.declared.place.Place.{Place}
use Rattle.cs_events.specs.declared.outcome.RunBudgets.{RunBudgets}
use Rattle.cs_events.specs.declared.point.PointKind.TheVariants.{Head}
use Rattle.cs_events.specs.Acts.{Act, Goes}
use Rattle.cs_meaning.specs.Operators.{branch}
use Rattle.cs_meaning.specs.CountedPoints.{reach_counted_point}
use Rattle.cs_meaning.specs.Machine.{Item, State, to_do, pop, cell_at}

-- the newest value is a test's: some things are to do if it is true, and others if it is false
abbrev pub decides : Place → List Item → List Item → State → Act State
decides at some others m = branch at (cell_at m 0) (λ holds. Goes (to_do (if holds then some else others) (pop m)))

-- the head of a loop with a counted point is reached, and then these things are to do
abbrev pub turns : RunBudgets → Place → ℕ → List Item → State → Act State
turns budgets at counted_point todo m = reach_counted_point budgets at Head counted_point (to_do todo m)
