use Rattle.cs_access.proofs.Asked.{AreAsked}
use Rattle.cs_access.proofs.checking.faulty_kinds.Given as goal

abbrev pub invariant-loop-checker : goal.invariant-loop-checker
invariant-loop-checker g l =
    AreAsked (λ b. (goal.Checker-dyn g (b.vtable, b.value)).kind_of b.value) (λ b. (goal.Checker-dyn g (b.vtable, b.value)).count_of b.value)
    l.subject l.fn.checkers.items l.checker-items l.checker-index l.complete l.found.items
