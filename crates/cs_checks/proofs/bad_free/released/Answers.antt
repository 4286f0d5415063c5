use Rattle.std.proofs.Common.{◌∙◌, refl}
use Rattle.cs_checks.proofs.Conditions.{not_zero}
use Rattle.cs_checks.proofs.bad_free.released.Goals as goal

pub returns-in-Live-clause-faults : goal.returns-in-Live-clause-faults
returns-in-Live-clause-faults c =
    rw c.in-Live.is (λ numbers inside. c.of_term.ensures.faults numbers ∙ not_zero _ _ _ refl refl refl refl inside)
