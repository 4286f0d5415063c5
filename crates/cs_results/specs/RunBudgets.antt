-- The budgets of an analysis that end a run.
use Rattle.cs_events.specs.declared.outcome.RunBudgets.{RunBudgets}
use Rattle.cs_results.specs.declared.budgets.Budgets.{Budgets}

-- the budgets that end a run
abbrev pub run_budgets : Budgets → RunBudgets
run_budgets budgets = record { visits = budgets.visits; depth = budgets.depth; events = budgets.events }
