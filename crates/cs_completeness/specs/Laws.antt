-- Laws of integer entries: what an exploration of such an entry states about its runs makes the entry's result complete.
use Rattle.std.specs.Prelude.{ℕ, [], All, Contains}
use Rattle.cs_ast.specs.TypedProgram.{TypedProgram}
use Rattle.cs_cfg.specs.Graph.{Code}
use Rattle.cs_cfg.specs.Lowered.{IsLowered}
use Rattle.cs_terms.specs.Table.{HasEachOnce}
use Rattle.cs_state.specs.Naming.{naming}
use Rattle.cs_results.specs.declared.budgets.Budgets.{Budgets}
use Rattle.cs_results.specs.declared.result.Cut.TheVariants.{Nodes}
use Rattle.cs_results.specs.declared.result.EntryResult.{EntryResult}
use Rattle.cs_explored.specs.declared.explored.End.{End}
use Rattle.cs_explored.specs.declared.explored.Explored.{Explored}
use Rattle.cs_coverage.specs.IntegerEntries.{IsIntegerEntry}
use Rattle.cs_coverage.specs.Positions.{CoversPositions}
use Rattle.cs_guesses.specs.Cuts.{IsCutForNodes}
use Rattle.cs_guesses.specs.Real.{IsLoweredEntry}
use Rattle.cs_integer_functions.specs.IntegerFunctions.{IsIntegerFunction}
use Rattle.cs_suspect_types.specs.declared.suspect.Suspect.{Suspect}
use Rattle.cs_suspects.specs.Suspected.{IsSuspectOf}
use Rattle.cs_findings.specs.EveryRun.{ReportsEveryRun}
use Rattle.cs_findings.specs.GoodFindings.{IsFinding}
use Rattle.cs_findings.specs.OutOfNodes.{IsOutOfNodes}
use Rattle.cs_findings.specs.Runs.{run_budgets}
use Rattle.cs_witness.specs.Evidence.{IsEvident}
use Rattle.cs_completeness.specs.Ends.{HasExactEnds}
use Rattle.cs_completeness.specs.Shown.{ShowsAllEnds}

-- if the ends are exact, each suspect of an end whose outcome is a fault or a budget is evident
abbrev pub SuspectsAreEvident : Type 0
SuspectsAreEvident = (code : Code) (program : TypedProgram) (entry : ℕ) (budgets : Budgets) (explored : Explored) (end : End) (suspect : Suspect)
    → IsLoweredEntry code program entry → IsIntegerEntry code program entry → HasEachOnce (naming explored.tables).syms
    → HasExactEnds code program entry budgets explored → Contains explored.ends.items end → IsSuspectOf (naming explored.tables) end suspect
    → IsFinding end.outcome → IsEvident program entry (run_budgets budgets) suspect

-- if the runs are covered and all ends are shown, each run's end is reported
abbrev pub NoRunIsMissed : Type 0
NoRunIsMissed = (code : Code) (program : TypedProgram) (budgets : Budgets) (explored : Explored) (given : EntryResult) → IsLowered code program
    → IsIntegerFunction program given.entry → CoversPositions code program given.entry (run_budgets budgets) explored → ShowsAllEnds explored given
    → ReportsEveryRun program budgets given

-- if all ends are shown, a cut caused by the budget of nodes has its reason
abbrev pub CutsHaveReasons : Type 0
CutsHaveReasons = (code : Code) (program : TypedProgram) (limits : Budgets) (explored : Explored) (given : EntryResult) → IsLowered code program
    → IsIntegerFunction program given.entry
    → All (IsCutForNodes code program given.entry (run_budgets limits) (naming explored.tables) [] explored.rows.items explored.ends.items limits.nodes)
    explored.cuts.items
    → ShowsAllEnds explored given → (nodes : ℕ) → Contains explored.cuts.items (Nodes nodes) → IsOutOfNodes program limits given nodes
