use Rattle.std.proofs.Common.{length, map, ap, ◌∙◌, subst}
use Rattle.cs_ast.specs.TypedProgram.{typed_program}
use Rattle.cs_report.specs.SummaryLines.{summary_text}
use Rattle.cs_app.specs.Analyses.{AreGoodResults, DEFAULT_BUDGETS}
use Rattle.cs_commands.specs.Results.{results_status}
use Rattle.cs_app.proofs.analysis.summarized.Goals as goal

pub returns-clause-answer : goal.returns-clause-answer
returns-clause-answer g c =
    let program = typed_program c.args.program.now in
    let results = c.in_ok-results.results.items in
    let kinds = map (λ b. (goal.Checker-dyn g (b.vtable, b.value)).kind_of b.value) c.args.checkers.now.items in
    let bytes = ap length c.requires.file in
    record {
      results = results;
      good = subst (λ es. AreGoodResults kinds program DEFAULT_BUDGETS es results) (c.deref.ensures.value ∙ c.in_ok-entries.ensures)
          c.in_ok-results.ensures.good;
      says = c.in_ok-text.ensures ∙ (λ i. summary_text (bytes i) (c.deref-2.ensures.value i));
      yields = c.results_status.ensures ∙ (λ i. results_status (c.every_kind-kinds.ensures i) (c.deref-3.ensures.value i));
    }
