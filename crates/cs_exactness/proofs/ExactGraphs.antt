-- A graph whose rows and ends have sources is exact, and the faults after rows that have children are found: for `IsExactGraph` and `FindsFaults`.
use Rattle.std.proofs.Common.{◌≡◌, inl, inr, ℕ, List, [], Some, slice_get, refl, sym, ap, ◌∙◌, subst}
use Rattle.cs_ast.specs.TypedProgram.{TypedProgram}
use Rattle.cs_events.specs.declared.outcome.Outcome.TheVariants.{Fault}
use Rattle.cs_events.specs.declared.outcome.RunBudgets.{RunBudgets}
use Rattle.cs_events.specs.Runs.{Setting}
use Rattle.cs_cfg.specs.Graph.{Code}
use Rattle.cs_state.specs.Naming.{Naming}
use Rattle.cs_explored.specs.declared.explored.End.{End}
use Rattle.cs_explored.specs.declared.explored.Row.{Row}
use Rattle.cs_explored.specs.declared.watch.Rule.{Rule}
use Rattle.cs_explored.specs.Placing.{end_of_row}
use Rattle.cs_progress.specs.Stepping.{end_of}
use Rattle.cs_successors.specs.EntryRuns.{setting_with, step_of}
use Rattle.cs_successors.proofs.Passing.{ends_alone}
use Rattle.cs_exactness.specs.FoundFaults.{HasChild, FindsFaults}
use Rattle.cs_exactness.specs.Graphs.{IsExactGraph}
use Rattle.cs_exactness.specs.Sources.{HasEnds, AreSourced}
use Rattle.cs_exactness.proofs.DifferentRows.{are_distinct}
use Rattle.cs_exactness.proofs.ExactRows.{is_exact}
use Rattle.cs_exactness.proofs.NotedEvents.{each_notes}
use Rattle.cs_exactness.proofs.OwnRuns.{left_last, comes_to_end, has_own_runs}

module _ (code : Code) (program : TypedProgram) (entry : ℕ) (budgets : RunBudgets) (names : Naming) (rules : List Rule) (rows : List Row) (ends : List End)
    (Are : ℕ → Type 0) (sourced : AreSourced code program entry budgets names rules rows ends Are) where
  pub exact_graph : IsExactGraph code program entry budgets names rules rows ends
  exact_graph = record {
    exact = is_exact code program entry budgets names rules rows sourced.rows_come ends Are sourced;
    distinct = are_distinct code program entry budgets names rules rows ends Are sourced;
    noted = each_notes code program entry budgets names rules rows sourced.rows_come ends Are sourced;
    own = has_own_runs code program entry budgets names rules rows sourced.rows_come ends Are sourced;
  }

  -- all ends of a row with a child are listed
  has_ends : (number : ℕ) → HasChild rows number → HasEnds code program entry budgets names rules rows ends number
  has_ends number (other, row, there, differs, from) = elim (sourced.rows_come other row there) [
    | inl first_row ↦ absurd (differs (first_row.0 ∙ sym first_row.1.itself ∙ from))
    | inr of ↦
        subst (HasEnds code program entry budgets names rules rows ends) from
        (sourced.ends_listed other row of.child.event there (ap (λ (r : Row). r.event) of.same))
  ]

  pub finds_faults : FindsFaults code program entry budgets rows ends
  finds_faults number chain child leads inputs steps kind at log shown runs =
      let setting : Setting = setting_with program budgets inputs [] in
      let has = has_ends number child in
      let parts = left_last code program entry budgets setting steps (Fault kind at) log runs in
      let comes = comes_to_end code program entry budgets names rules rows sourced.rows_come number has.made has.endings has.from chain leads [] (inl refl) refl
      inputs steps (Fault kind at) log runs shown in
      let that = ends_alone (step_of code program entry budgets) setting comes.ending.proceeds comes.ending.ends parts.rest in
      let listed = has.listed comes.place comes.end comes.there in
      (listed.place, end_of_row number comes.end, listed.there, comes.ending.same ∙ ap end_of (sym that.outcome_is))
