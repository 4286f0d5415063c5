use Rattle.cs_lower.proofs.Keeping.{keeps_jump, keeps_block}
use Rattle.cs_lower.proofs.building.GraphBuilder.keep.Goals as goal

pub returns-in-Some : goal.returns-in-Some
returns-in-Some c = keeps_jump {block = c.in-Some.field-0} (c.target.ensures c.in-Some.field-0 c.in-Some.is)

pub returns-in_ok-seal-in-None : goal.returns-in_ok-seal-in-None
returns-in_ok-seal-in-None c = keeps_block c.in_ok-seal-in-None.ensures
