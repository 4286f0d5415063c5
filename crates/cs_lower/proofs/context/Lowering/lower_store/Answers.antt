use Rattle.cs_lower.proofs.Declaring.{value_stored}
use Rattle.cs_lower.proofs.Forms.{if_made}
use Rattle.cs_lower.proofs.context.Lowering.lower_store.Goals as goal

pub returns : goal.returns
returns c = if_made c.lower_used.result (λ made h. value_stored c.in_ok-ty.ensures c.is_scalar_local-scalar.ensures c.in_ok-following.ensures h)
    c.lower_used.ensures
