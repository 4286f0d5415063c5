use Rattle.cs_completeness.proofs.AllShown.{suspects_evident}
use Rattle.cs_completeness.proofs.laws.suspects_are_evident.Goals as goal

pub returns : goal.returns
returns c = suspects_evident
