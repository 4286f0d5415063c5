use Rattle.std.proofs.Common.{ap, ◌∙◌}
use Rattle.cs_meaning.specs.Machine as machine
use Rattle.cs_progress.proofs.operands.value.Goals as goal

pub returns-clause-value : goal.returns-clause-value
returns-clause-value c = λ code names program v.
    ap machine.cell_of (c.in_ok-temporary.ensures.operand code names program v) ∙ c.value_of.ensures.scalar names.bases c.args.state.now.blocks v

pub returns-clause-named : goal.returns-clause-named
returns-clause-named c = λ bases have. c.value_of.ensures.named bases (c.in_ok-temporary.ensures.named bases have)

pub returns-clause-within : goal.returns-clause-within
returns-clause-within c = λ program bases known have.
    c.value_of.ensures.within bases known c.args.state.now.frame.number _ (c.in_ok-temporary.ensures.within program bases known have)
