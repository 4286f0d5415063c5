use Rattle.std.proofs.Common.{sym, ◌∙◌}
use Rattle.cs_lower.proofs.Forms.{if_made}
use Rattle.cs_lower.proofs.Leaving.{goto_there, goto_nowhere}
use Rattle.cs_lower.proofs.context.Lowering.lower_goto.Goals as goal

pub returns-in-Some : goal.returns-in-Some
returns-in-Some c =
    if_made c.lower_jump.result (λ made h. λ place out again. goto_there (sym (c.requires.labels c.args.label) ∙ sym c.in-Some.ensures.value) h)
    c.lower_jump.ensures

pub returns-in-None : goal.returns-in-None
returns-in-None c = λ place out again. goto_nowhere (sym (c.requires.labels c.args.label) ∙ sym c.in-None.ensures.value)
