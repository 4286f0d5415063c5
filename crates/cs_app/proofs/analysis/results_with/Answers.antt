use Rattle.std.proofs.Common.{◌≡◌, subst, sym, ◌∙◌, arith}
use Rattle.std.specs.List.{Any}
use Rattle.cs_ast.specs.TypedProgram.{typed_program}
use Rattle.cs_app.specs.Analyses.{AreGoodResults}
use Rattle.cs_app.proofs.AnalysisLemmas.{results_more}
use Rattle.cs_app.proofs.analysis.results_with.Goals as goal

pub loop-number-preserved : goal.loop-number-preserved
loop-number-preserved g c =
    let program = typed_program c.args.program.now in
    let entries = c.args.entries.now in
    let index = c.loop-number.number-index in
    let result = c.in_ok-analysis.analysis.witnessed.result in
    let kinds = c.loop-number.invariant.kinds in
    record {
      kinds = c.analyze.ensures.kinds ∙ kinds;
      good = subst (AreGoodResults _ program c.args.budgets _) (sym c.in_ok-push.ensures.items)
          (results_more _ program c.args.budgets entries c.loop-number.results.items index 0 result (omega arith) c.loop-number.invariant.good
          (c.in_ok-analysis.ensures.entry ∙ c.in_ok-number_of.ensures) c.in_ok-analysis.ensures.good
          (λ every. c.in_ok-analysis.ensures.complete (λ fault. subst (Any (λ one. one ≡ fault)) (sym kinds) (every fault)))
          (λ every. c.in_ok-analysis.ensures.reasons (λ fault. subst (Any (λ one. one ≡ fault)) (sym kinds) (every fault))));
    }
