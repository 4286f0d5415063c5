use Rattle.std.proofs.Common.{◌∙◌}
use Rattle.std.proofs.lemmas.Result.{IfOk-weaker}
use Rattle.cs_operators.proofs.Numerals.{back}
use Rattle.cs_operators.proofs.operators.directed.Goals as goal

pub returns-in-Back-clause-value : goal.returns-in-Back-clause-value
returns-in-Back-clause-value c =
    rw c.in-Back.is (IfOk-weaker c.scaled.result _ _ (λ made is valuation. is valuation ∙ back _) c.scaled.ensures.value)
