use Rattle.std.proofs.Common.{◌∙◌, refl}
use Rattle.cs_checks.proofs.Conditions.{only_zero}
use Rattle.cs_checks.proofs.divide.DivideCheckerChecker.examine.Goals as goal

pub returns-in-Divisor-clause-faults : goal.returns-in-Divisor-clause-faults
returns-in-Divisor-clause-faults c =
    rw c.in-Divisor.is (λ numbers inside. c.of_term.ensures.faults numbers ∙ only_zero _ _ _ refl refl refl refl)
