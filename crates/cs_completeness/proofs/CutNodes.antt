-- A cut caused by the budget of nodes has its reason: runs of the program pass the chains of the rows and of the refused one, and the faults directly
-- after rows that have children are reported. For the contract of `analyze`.
use Rattle.std.proofs.Common.{◌≡◌, ◌≤◌, ℕ, suc, ℤ, List, [], ◌∷◌, ◌++◌, length, Option, None, Some, slice_get}
use Rattle.std.proofs.Common.{refl, sym, ◌∙◌, subst, arith}
use Rattle.std.specs.Prelude.{All, Contains}
use Rattle.std.proofs.lemmas.List.{length-append}
use Rattle.std.proofs.lemmas.List.Elements.{All-contains, All-weaker}
use Rattle.cs_inputs.specs.declared.path.Path.{Path}
use Rattle.cs_inputs.specs.Inputs.{number_at}
use Rattle.cs_ast.specs.declared.place.Place.{Place}
use Rattle.cs_ast.specs.TypedProgram.{TypedProgram}
use Rattle.cs_ast.specs.TypedTree.{Statement}
use Rattle.cs_model.specs.declared.kind.Kind.{Kind}
use Rattle.cs_events.specs.declared.event.Event.{Event}
use Rattle.cs_events.specs.declared.outcome.Outcome.TheVariants.{Fault}
use Rattle.cs_events.specs.declared.outcome.RunBudgets.{RunBudgets}
use Rattle.cs_events.specs.Runs.{empty}
use Rattle.cs_event_runs.specs.ByEvents.{silently}
use Rattle.cs_event_runs.proofs.EventLaws.{events_by_end, events_shown}
use Rattle.cs_meaning.specs.Machine.{routine_of}
use Rattle.cs_meaning.specs.ProgramRuns.{ProgramRun, setting_of, RunEnds}
use Rattle.cs_cfg.specs.Graph.{Code}
use Rattle.cs_cfg.specs.CodeSteps.{code_step, code_started}
use Rattle.cs_cfg.specs.Lowered.{IsLowered}
use Rattle.cs_results.specs.declared.budgets.Budgets.{Budgets}
use Rattle.cs_results.specs.declared.result.Cut.{Cut}
use Rattle.cs_results.specs.declared.result.Cut.TheVariants.{Nodes, Splits}
use Rattle.cs_results.specs.declared.result.EntryResult.{EntryResult}
use Rattle.cs_state.specs.Naming.{Naming, naming}
use Rattle.cs_explored.specs.declared.explored.End.{End}
use Rattle.cs_explored.specs.declared.explored.Explored.{Explored}
use Rattle.cs_explored.specs.declared.explored.Row.{Row}
use Rattle.cs_explored.specs.declared.watch.Rule.{Rule}
use Rattle.cs_coverage.proofs.Coverage.{element}
use Rattle.cs_coverage.proofs.RowKeys.{some_there}
use Rattle.cs_exactness.specs.Chains.{IsChain}
use Rattle.cs_exactness.specs.FoundFaults.{FindsFaults}
use Rattle.cs_exactness.specs.Graphs.{IsExactGraph}
use Rattle.cs_guesses.specs.Cuts.{IsCutForNodes}
use Rattle.cs_guesses.specs.Graphs.{IsGuessedGraph}
use Rattle.cs_guesses.specs.Real.{run_at as valued_run, IsLoweredEntry}
use Rattle.cs_suspects.specs.Spots.{IsNodes}
use Rattle.cs_integer_functions.specs.IntegerFunctions.{IsIntegerFunction}
use Rattle.cs_integer_functions.proofs.Parameters.{has_body}
use Rattle.cs_findings.specs.Runs.{run_budgets}
use Rattle.cs_findings.specs.EveryRun.{HasFinding}
use Rattle.cs_findings.specs.OutOfNodes.{HasLonger, PassesAlong, IsOutOfNodes}
use Rattle.cs_findings.specs.RealGuesses.{AreReal}
use Rattle.cs_completeness.specs.Laws.{CutsHaveReasons}
use Rattle.cs_completeness.specs.Shown.{ShowsAllEnds}
use Rattle.cs_completeness.proofs.PrefixTrees.{has_child, prefix_tree}
use Rattle.cs_completeness.proofs.RunsOfRows.{passes_along}

-- the events and the run of each row
module _ (code : Code) (program : TypedProgram) (entry : ℕ) (budgets : RunBudgets) (names : Naming) (rules : List Rule) (rows : List Row) (ends : List End)
    (exact : IsExactGraph code program entry budgets names rules rows ends) where
  abbrev chain_at : (number : ℕ) (found : Option Row) → slice_get rows number ≡ found → List Event
  chain_at number None is = []
  chain_at number (Some row) is = (exact.exact.of_rows number row is).chain

  abbrev run_at : (number : ℕ) (found : Option Row) → slice_get rows number ≡ found → ProgramRun
  run_at number None is = record { inputs = []; guesses = [] }
  run_at number (Some row) is = valued_run names row.state.value (exact.exact.of_rows number row is).possible.0

  leads_at : (number : ℕ) (found : Option Row) (is : slice_get rows number ≡ found) (row : Row) → found ≡ Some row
      → IsChain rows number (chain_at number found is)
  leads_at number None is row some = cc
  leads_at number (Some other) is row some = (exact.exact.of_rows number other is).leads

  module _ (lowered : IsLowered code program) (body : Statement) (has : (routine_of program entry).body ≡ Some body) where
    lowered_entry : IsLoweredEntry code program entry
    lowered_entry = record { lowered = lowered; body = body; has_body = has }

    passes_at : (number : ℕ) (found : Option Row) (is : slice_get rows number ≡ found) (row : Row) → found ≡ Some row
        → PassesAlong program entry budgets (run_at number found is) (chain_at number found is)
    passes_at number None is row some = cc
    passes_at number (Some other) is row some =
        let one = exact.exact.of_rows number other is in
        passes_along code program entry budgets names rows lowered body has number other one (exact.noted.of_rows number other one.chain is one.leads).guesses

    module _ (guesses : IsGuessedGraph code program entry budgets names rows ends) where
      real_at : (number : ℕ) (found : Option Row) (is : slice_get rows number ≡ found) (row : Row) → found ≡ Some row
          → AreReal program entry budgets (run_at number found is)
      real_at number None is row some = cc
      real_at number (Some other) is row some =
          let one = exact.exact.of_rows number other is in
          (guesses.real lowered_entry).of_rows number other one.chain is one.leads one.possible.0 one.possible.1

-- the reason for a cut
module _ (code : Code) (program : TypedProgram) (limits : Budgets) (given : EntryResult) (names : Naming) (rules : List Rule) (rows : List Row)
    (ends : List End) (exact : IsExactGraph code program given.entry (run_budgets limits) names rules rows ends)
    (guesses : IsGuessedGraph code program given.entry (run_budgets limits) names rows ends)
    (finds : FindsFaults code program given.entry (run_budgets limits) rows ends) (lowered : IsLowered code program)
    (integer : IsIntegerFunction program given.entry) (all : All (λ (end : End). HasFinding given end.outcome) ends) (nodes : ℕ)
    (many : length rows ≡ suc nodes) where
  abbrev budgets : RunBudgets
  budgets = run_budgets limits

  abbrev body : (body : Statement) × ((routine_of program given.entry).body ≡ Some body)
  body = has_body program given.entry integer

  abbrev events : ℕ → List Event
  events number = chain_at code program given.entry budgets names rules rows ends exact number (slice_get rows number) refl

  there : (number : ℕ) → number ≤ nodes → (row : Row) × (slice_get rows number ≡ Some row)
  there number within = some_there rows number (omega (arith, within, many))

  leads : (number : ℕ) → number ≤ nodes → IsChain rows number (events number)
  leads number within =
      let row = there number within in
      leads_at code program given.entry budgets names rules rows ends exact number (slice_get rows number) refl row.0 row.1

  fault_found : (number : ℕ) (inputs : List (Path × ℤ)) (kind : Kind) (at : Place) → number ≤ nodes → HasLonger nodes events (events number)
      → RunEnds program given.entry (record { inputs = inputs; guesses = [] }) budgets (events number) (Fault kind at)
      → HasFinding given (Fault kind at)
  fault_found number inputs kind at within longer ended =
      let run : ProgramRun = record { inputs = inputs; guesses = [] } in
      let found = events_by_end (code_step code program budgets) (setting_of program run budgets)
      (lowered.runs.ends given.entry body.0 run budgets (Fault kind at) ended.0 body.1 ended.1) in
      let shown = events_shown (code_step code program budgets) (setting_of program run budgets)
      (code_started code program (number_at inputs) given.entry (routine_of program given.entry)) empty found.runs in
      let child = has_child rows exact.distinct.chains_differ (leads longer.0 longer.3) number (events number) (leads number within) longer.1 longer.2
      longer.4 in
      let end = finds number (events number) child (leads number within) (number_at inputs) found.steps kind at ended.0 (sym shown ∙ ended.2)
      (silently refl found.runs) in
      subst (HasFinding given) end.3 (element (λ (end : End). HasFinding given end.outcome) ends end.0 end.1 end.2 all)

  out_of_nodes : nodes ≡ limits.nodes → IsOutOfNodes program limits given nodes
  out_of_nodes budget = record {
    budget = budget;
    events = events;
    tree = prefix_tree rows nodes events leads exact.distinct.chains_differ;
    finds = fault_found;
    runs = λ number. run_at code program given.entry budgets names rules rows ends exact number (slice_get rows number) refl;
    passed = λ number within.
        let row = there number within in
        passes_at code program given.entry budgets names rules rows ends exact lowered body.0 body.1 number (slice_get rows number) refl row.0 row.1;
    real = λ number within.
        let row = there number within in
        real_at code program given.entry budgets names rules rows ends exact lowered body.0 body.1 guesses number (slice_get rows number) refl row.0 row.1;
  }

-- a cut of the nodes
pub nodes_of : (cut : Cut) → IsNodes cut → (nodes : ℕ) × (cut ≡ Nodes nodes)
nodes_of (Nodes nodes) is = (nodes, refl)
nodes_of (Splits at count) is = absurd is

pub all_nodes : (code : Code) (program : TypedProgram) (entry : ℕ) (budgets : RunBudgets) (names : Naming) (rules : List Rule) (rows : List Row)
    (ends : List End) (most : ℕ) (cuts : List Cut) → All (IsCutForNodes code program entry budgets names rules rows ends most) cuts → All IsNodes cuts
all_nodes code program entry budgets names rules rows ends most cuts =
    All-weaker (IsCutForNodes code program entry budgets names rules rows ends most) IsNodes (λ cut why. subst IsNodes (sym why.is) tt) cuts

pub has_reasons : (code : Code) (program : TypedProgram) (limits : Budgets) (explored : Explored) (given : EntryResult) (names : Naming) (rules : List Rule)
    → IsLowered code program → IsIntegerFunction program given.entry
    → All (IsCutForNodes code program given.entry (run_budgets limits) names rules explored.rows.items explored.ends.items limits.nodes) explored.cuts.items
    → ShowsAllEnds explored given → (nodes : ℕ) → Contains explored.cuts.items (Nodes nodes) → IsOutOfNodes program limits given nodes
has_reasons code program limits explored given names rules lowered integer reasons all nodes listed =
    let cut = All-contains (IsCutForNodes code program given.entry (run_budgets limits) names rules explored.rows.items explored.ends.items limits.nodes)
    explored.cuts.items (Nodes nodes) reasons listed in
    let is : Nodes nodes ≡ Nodes cut.nodes = cut.is in
    let same : cut.nodes ≡ nodes = cc in
    let why = cut.reason in
    let rows : List Row = explored.rows.items ++ why.refused ∷ [] in
    let longer = length-append explored.rows.items (why.refused ∷ []) in
    let many : length rows ≡ suc cut.nodes = let full = why.full in omega (arith, longer, full) in
    subst (IsOutOfNodes program limits given) same
    (out_of_nodes code program limits given names rules rows explored.ends.items why.exact why.guesses why.finds lowered integer all.ends cut.nodes many
    why.budget)

pub reasons_found : CutsHaveReasons
reasons_found code program limits explored given = has_reasons code program limits explored given (naming explored.tables) []
