use Rattle.std.proofs.Common.{sym, ◌∙◌}
use Rattle.cs_inputs.proofs.DecimalTexts.{found, not_found}
use Rattle.cs_inputs.proofs.decimals.number_with_text.Goals as goal

pub returns-then-is_plain : goal.returns-then-is_plain
returns-then-is_plain c = found c.args.text.now c.value_of.result (sym c.is_plain.ensures ∙ c.if-is_plain.true) c.value_of.ensures

pub returns-else-is_plain : goal.returns-else-is_plain
returns-else-is_plain c = not_found c.args.text.now (sym c.is_plain.ensures ∙ c.if-is_plain.false)
