use Rattle.std.proofs.Common.{◌∙◌, refl}
use Rattle.cs_checks.proofs.Conditions.{below_zero}
use Rattle.cs_checks.proofs.bounds.BoundsCheckerChecker.examine.Goals as goal

pub returns-in-Rest-clause-faults : goal.returns-in-Rest-clause-faults
returns-in-Rest-clause-faults c =
    rw c.in-Rest.is (λ numbers inside. c.of_sum.ensures.faults numbers ∙ below_zero _ _ _ refl refl refl refl inside)
