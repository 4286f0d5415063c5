use Rattle.std.proofs.Common.{arith}
use Rattle.cs_engine.proofs.Parameters.{all_differ}
use Rattle.cs_engine.proofs.entry.differ_in_name.Goals as goal

pub returns : goal.returns
returns c given = all_differ c.args.parameters.now c.loop-number.number (omega arith) c.loop-number.invariant
