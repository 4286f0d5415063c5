use Rattle.std.proofs.Common.{◌∙◌, refl}
use Rattle.cs_checks.proofs.Conditions.{not_zero}
use Rattle.cs_checks.proofs.null.moved.Goals as goal

pub returns-then-null-clause-faults : goal.returns-then-null-clause-faults
returns-then-null-clause-faults c =
    rw c.if-null.true (λ numbers inside. c.of_term.ensures.faults numbers ∙ not_zero _ _ _ refl refl refl refl inside)
