use Rattle.cs_lower.proofs.Executing as made
use Rattle.cs_lower.proofs.Forms.{if_made}
use Rattle.cs_lower.proofs.context.Lowering.lower_run.Goals as goal

pub returns : goal.returns
returns c = if_made c.lower_expression.result (λ strip h out again. made.run c.in_ok-dropped.ensures h) c.lower_expression.ensures
