use Rattle.std.proofs.Common.{[], ap, sym, subst}
use Rattle.std.specs.Prelude.{All}
use Rattle.std.proofs.lemmas.Result.{IfOk-weaker}
use Rattle.cs_ast.specs.TypedProgram.{TypedProgram, typed_program}
use Rattle.cs_events.specs.declared.outcome.RunBudgets.{RunBudgets}
use Rattle.cs_cfg.specs.GraphView as view
use Rattle.cs_coverage.specs.IntegerEntries.{IsIntegerEntry}
use Rattle.cs_eval.proofs.TwoWays.{if_ok_both}
use Rattle.cs_exactness.specs.Exact.{IsExact}
use Rattle.cs_exactness.specs.Noted.{EachNotesEvents}
use Rattle.cs_guesses.specs.Graphs.{IsGuessedGraph}
use Rattle.cs_guesses.specs.Cuts.{IsCutForNodes}
use Rattle.cs_explored.specs.declared.explored.Explored.{Explored}
use Rattle.cs_findings.specs.Runs.{run_budgets}
use Rattle.cs_state.specs.Naming.{naming}
use Rattle.cs_analysis.proofs.entry.explored_in.Goals as goal

pub returns-clause-cuts : goal.returns-clause-cuts
returns-clause-cuts g c =
    let entry = c.args.entry.now in let setting = c.args.setting.now in let code = view.code entry.code.now in
    let AreReasons : TypedProgram → RunBudgets → Explored → Type 0 = λ program limits explored. IsIntegerEntry code program entry.function
    → All (IsCutForNodes code program entry.function limits (naming explored.tables) [] explored.rows.items explored.ends.items entry.budgets.nodes)
    explored.cuts.items in
    IfOk-weaker c.explore.result _ _ (λ explored reasons every.
    subst (λ (program : TypedProgram). AreReasons program (run_budgets entry.budgets) explored) (ap typed_program c.requires.program)
    (subst (λ (limits : RunBudgets). AreReasons (typed_program setting.program.now) limits explored) c.requires.budgets
    (λ works. reasons every (record { limit = sym (ap (λ (limits : RunBudgets). limits.events) c.requires.budgets); works = works })))) c.explore.ensures.cuts

pub returns-clause-ends : goal.returns-clause-ends
returns-clause-ends g c =
    let entry = c.args.entry.now in let setting = c.args.setting.now in let code = view.code entry.code.now in
    let AreExact : TypedProgram → RunBudgets → Explored → Type 0 = λ program limits explored. IsIntegerEntry code program entry.function
    → IsExact code program entry.function limits (naming explored.tables) explored.rows.items explored.ends.items
    × EachNotesEvents [] explored.rows.items explored.ends.items
    × IsGuessedGraph code program entry.function limits (naming explored.tables) explored.rows.items explored.ends.items in
    if_ok_both c.explore.result _ _ _ (λ explored exact guesses every works.
    let all : AreExact (typed_program entry.program.now) (run_budgets entry.budgets) explored =
    subst (λ (program : TypedProgram). AreExact program (run_budgets entry.budgets) explored) (ap typed_program c.requires.program)
    (subst (λ (limits : RunBudgets). AreExact (typed_program setting.program.now) limits explored) c.requires.budgets (λ integers.
    let limit = sym (ap (λ (limits : RunBudgets). limits.events) c.requires.budgets) in
    let are = exact every (record { limit = limit; works = integers }) in
    (are.0, are.2, guesses every (record { limit = limit; works = integers })))) in
    let are = all works in
    record { exact = are.0; noted = are.1; guesses = are.2 }) c.explore.ensures.exact c.explore.ensures.guesses
