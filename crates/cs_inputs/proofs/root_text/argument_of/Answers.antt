use Rattle.std.proofs.Common.{arith}
use Rattle.cs_inputs.proofs.RootTexts.{no_few}
use Rattle.cs_inputs.proofs.root_text.argument_of.Goals as goal

pub returns-else-number-le-LAST_ARGUMENT : goal.returns-else-number-le-LAST_ARGUMENT
returns-else-number-le-LAST_ARGUMENT c = no_few c.args.text.now c.in_ok-number.number c.in_ok-number.ensures (omega arith)
