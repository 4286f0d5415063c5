use Rattle.cs_app.proofs.AcceptedLemmas.{refused_is_not_accepted}
use Rattle.cs_app.proofs.laws.refused_is_not_accepted.Goals as goal

pub returns : goal.returns
returns c = refused_is_not_accepted
