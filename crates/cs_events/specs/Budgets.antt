-- The table of budgets.
use Rattle.std.specs.Prelude.{ℕ, List, codes}
use Rattle.cs_events.specs.declared.outcome.Budget.{Budget}
use Rattle.cs_events.specs.declared.outcome.Budget.TheVariants.{Visits, Depth, Events}

-- the word for a budget
abbrev pub budget_name : Budget → List ℕ
budget_name Visits = codes "visits"
budget_name Depth = codes "depth"
budget_name Events = codes "events"

-- the number of a budget, used to order budgets
abbrev pub budget_number : Budget → ℕ
budget_number Visits = 1
budget_number Depth = 2
budget_number Events = 3
