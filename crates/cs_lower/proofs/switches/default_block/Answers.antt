use Rattle.std.proofs.Common.{arith}
use Rattle.cs_lower.proofs.Switching.{no_default}
use Rattle.cs_lower.proofs.switches.default_block.Goals as goal

pub returns : goal.returns
returns c = no_default c.args.blocks.now c.args.end c.args.cases.now c.loop-case.case-index (omega arith) c.loop-case.invariant
