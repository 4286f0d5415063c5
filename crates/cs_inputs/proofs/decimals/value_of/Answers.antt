use Rattle.cs_inputs.proofs.DecimalTexts.{value_read, digits_are_text}
use Rattle.cs_inputs.proofs.decimals.value_of.Goals as goal

pub returns-in-Ok : goal.returns-in-Ok
returns-in-Ok c = value_read c.args.digits.now c.parse.result c.ok.result c.requires.all c.requires.some (rw c.in-Ok.ensures.cases.0 at c.parse.ensures.value.0)
    c.ok.ensures.value

pub returns-in-Err : goal.returns-in-Err
returns-in-Err c = absurd (c.in-Err.ensures.cases.0 (digits_are_text c.args.digits.now c.requires.all))
