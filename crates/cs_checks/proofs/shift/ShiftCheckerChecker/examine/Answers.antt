use Rattle.std.proofs.Common.{◌∙◌, refl}
use Rattle.cs_checks.proofs.Conditions.{outside_width}
use Rattle.cs_checks.proofs.shift.ShiftCheckerChecker.examine.Goals as goal

pub returns-in-Shift-clause-faults : goal.returns-in-Shift-clause-faults
returns-in-Shift-clause-faults c =
    rw c.in-Shift.is (λ numbers inside.
    c.of_term.ensures.faults numbers ∙ outside_width _ _ _ c.in-Shift.width refl refl c.at_least.ensures.low c.at_least.ensures.high inside)
