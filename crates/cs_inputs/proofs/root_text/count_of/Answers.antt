use Rattle.cs_inputs.proofs.RootTexts.{no_count}
use Rattle.cs_inputs.proofs.root_text.count_of.Goals as goal

pub returns-then-number-eq0 : goal.returns-then-number-eq0
returns-then-number-eq0 c = no_count c.args.text.now c.in_ok-number.number c.in_ok-number.ensures c.if-number-eq0.true
