use Rattle.std.proofs.Common.{◌≡◌, ℕ, map}
use Rattle.cs_explored.specs.Found.{Grows}
use Rattle.cs_operators.specs.Asking.{HasEveryKind}
use Rattle.cs_coverage.specs.Closing.{Waits}
use Rattle.cs_invariants.specs.Exploring.{ExploresIntegers, IsKept}
use Rattle.cs_engine.proofs.engine.expand_all.Given as goal

abbrev pub invariant-loop : goal.invariant-loop
invariant-loop g l = record {
  grows : Grows l.fn.findings l.findings;
  kinds : map (λ b. (goal.Checker-dyn g (b.vtable, b.value)).kind_of b.value) l.checkers.items
      ≡ map (λ b. (goal.Checker-dyn g (b.vtable, b.value)).kind_of b.value) l.fn.checkers.items;
  kept : HasEveryKind (λ b. (goal.Checker-dyn g (b.vtable, b.value)).kind_of b.value) l.fn.checkers.items
      → (entry : ℕ) → ExploresIntegers l.exploration entry → IsKept l.exploration entry Waits l.fn.findings
      → IsKept l.exploration entry Waits l.findings;
}
