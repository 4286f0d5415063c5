use Rattle.std.proofs.Common.{◌≡◌, ℕ, List, [], All, sym, subst, ◌∙◌}
use Rattle.std.specs.Prelude.{Contains}
use Rattle.std.proofs.lemmas.List.Elements.{All-contains}
use Rattle.cs_ast.specs.TypedProgram.{typed_program}
use Rattle.cs_cfg.specs.GraphView as view
use Rattle.cs_coverage.specs.Positions.{CoversPositions}
use Rattle.cs_findings.specs.Runs.{run_budgets}
use Rattle.cs_integer_functions.specs.IntegerFunctions.{IsIntegerFunction}
use Rattle.cs_results.specs.declared.result.Cut.{Cut}
use Rattle.cs_results.specs.declared.result.Cut.TheVariants.{Nodes}
use Rattle.cs_state.specs.Naming.{naming}
use Rattle.cs_suspect_types.specs.declared.suspect.Suspect.{Suspect}
use Rattle.cs_suspects.specs.Spots.{IsNodes}
use Rattle.cs_witness.specs.Witnesses.{ListsEvident}
use Rattle.cs_analysis.specs.Cuts.{AreCutForNodes}
use Rattle.cs_completeness.proofs.AllShown.{all_of}
use Rattle.cs_completeness.proofs.CutNodes.{all_nodes, nodes_of, has_reasons}
use Rattle.cs_completeness.proofs.EveryRun.{integer_entry, lowered_entry, misses_none}
use Rattle.cs_analysis.proofs.entry.analyze.Goals as goal

pub returns-clause-complete : goal.returns-clause-complete
returns-clause-complete g c = λ every integer.
    let entry = c.args.entry.now in let given = c.in_ok-witnessed.witnessed.result in let explored = c.in_ok-explored.explored in
    let program = typed_program entry.program.now in let code = view.code entry.code.now in
    let same : given.entry ≡ entry.function = c.in_ok-witnessed.ensures.entry in
    let is : IsIntegerFunction program entry.function = subst (IsIntegerFunction program) same integer in
    let works = integer_entry code program entry.function is (c.requires.integers entry.function is) in
    let covers = c.in_ok-explored.ensures.covers every works in
    let covered = subst (λ (number : ℕ). CoversPositions code program number (run_budgets entry.budgets) explored) (sym same) covers in
    let shown = subst (λ (suspects : List Suspect). ListsEvident entry suspects given) c.deref-2.ensures.value c.in_ok-witnessed.ensures.found in
    misses_none code program entry.budgets explored given c.requires.runs.lowered integer covered
    (all_of code program entry.function entry.budgets explored given (lowered_entry code program entry.function c.requires.runs.lowered is) works
    c.have_each_once.ensures.syms (c.in_ok-explored.ensures.ends every works) c.in_ok-found.found.items c.in_ok-found.ensures.each c.in_ok-found.ensures.all
    shown
    c.in_ok-cuts.cuts.items c.in_ok-witnessed.ensures.cuts (λ none. sym c.deref.ensures.value ∙ c.in_ok-cuts.ensures.some none))

pub returns-clause-reasons : goal.returns-clause-reasons
returns-clause-reasons g c = λ every integer cut listed.
    let entry = c.args.entry.now in let given = c.in_ok-witnessed.witnessed.result in let explored = c.in_ok-explored.explored in
    let program = typed_program entry.program.now in let code = view.code entry.code.now in
    let same : given.entry ≡ entry.function = c.in_ok-witnessed.ensures.entry in
    let is : IsIntegerFunction program entry.function = subst (IsIntegerFunction program) same integer in
    let works = integer_entry code program entry.function is (c.requires.integers entry.function is) in
    let reasons = c.in_ok-explored.ensures.cuts every works in
    let of_entry = subst (λ (number : ℕ). AreCutForNodes code program number entry.budgets explored) (sym same) (λ works. reasons) in
    let for_nodes = of_entry (integer_entry code program given.entry integer (c.requires.integers given.entry integer)) in
    let alone = c.in_ok-cuts.ensures.alone (subst (All IsNodes) (sym c.deref.ensures.value)
    (all_nodes code program entry.function (run_budgets entry.budgets) (naming explored.tables) [] explored.rows.items explored.ends.items entry.budgets.nodes
    explored.cuts.items reasons)) in
    let here : Contains c.in_ok-cuts.cuts.items cut = subst (λ (cuts : List Cut). Contains cuts cut) c.in_ok-witnessed.ensures.cuts listed in
    let one = nodes_of cut (All-contains IsNodes c.in_ok-cuts.cuts.items cut alone here) in
    let nodes : ℕ = one.0 in
    let among : Contains explored.cuts.items (Nodes nodes)
    = subst (λ (cuts : List Cut). Contains cuts (Nodes nodes)) c.deref.ensures.value
    (c.in_ok-cuts.ensures.nodes nodes (subst (Contains c.in_ok-cuts.cuts.items) one.1 here)) in
    let shown = subst (λ (suspects : List Suspect). ListsEvident entry suspects given) c.deref-2.ensures.value c.in_ok-witnessed.ensures.found in
    let all = all_of code program entry.function entry.budgets explored given (lowered_entry code program entry.function c.requires.runs.lowered is) works
    c.have_each_once.ensures.syms (c.in_ok-explored.ensures.ends every works) c.in_ok-found.found.items c.in_ok-found.ensures.each c.in_ok-found.ensures.all
    shown
    c.in_ok-cuts.cuts.items c.in_ok-witnessed.ensures.cuts (λ none. sym c.deref.ensures.value ∙ c.in_ok-cuts.ensures.some none) in
    record {
      nodes = nodes;
      is = one.1;
      reason = has_reasons code program entry.budgets explored given (naming explored.tables) [] c.requires.runs.lowered integer for_nodes all nodes among;
    }
