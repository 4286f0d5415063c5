use Rattle.std.proofs.Common.{◌≡◌, map, take}
use Rattle.cs_ast.specs.TypedProgram.{typed_program}
use Rattle.cs_app.specs.Analyses.{AreGoodResults}
use Rattle.cs_app.proofs.analysis.results_with.Given as goal

abbrev pub invariant-loop-number : goal.invariant-loop-number
invariant-loop-number g l = record {
  kinds : map (λ b. (goal.Checker-dyn g (b.vtable, b.value)).kind_of b.value) l.checkers.items
      ≡ map (λ b. (goal.Checker-dyn g (b.vtable, b.value)).kind_of b.value) l.fn.checkers.items;
  good : AreGoodResults (map (λ b. (goal.Checker-dyn g (b.vtable, b.value)).kind_of b.value) l.fn.checkers.items)
      (typed_program l.program) l.budgets (take l.number-index l.entries) l.results.items;
}
