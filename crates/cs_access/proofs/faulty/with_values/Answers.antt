use Rattle.cs_access.proofs.FaultyValues.{join_none}
use Rattle.cs_access.proofs.faulty.with_values.Goals as goal

pub returns-in-None : goal.returns-in-None
returns-in-None c = join_none c.args.set c.args.cond.now c.in-None.is
