use Rattle.std.proofs.Common.{◌≡◌, sym, ap, subst, ◌∙◌}
use Rattle.cs_meaning.specs.Expressions as expressions
use Rattle.cs_meaning.specs.Machine.{operand_at}
use Rattle.cs_state.specs.declared.temporary.Temporary.TheVariants.{Scalar}
use Rattle.cs_state.specs.Cells.{operand_of}
use Rattle.cs_state.specs.Meaning.{meaning}
use Rattle.cs_progress.specs.Locals.{MayAllBeIn}
use Rattle.cs_steps.proofs.updates.given.Goals as goal

pub returns-in_ok-clone-in-Old-clause-operand : goal.returns-in_ok-clone-in-Old-clause-operand
returns-in_ok-clone-in-Old-clause-operand c = λ code names program v.
    let state = c.args.state.now in
    let operand = operand_of names.bases state.blocks v in
    let before = operand_at (meaning code names program state v) c.args.age in
    ap operand c.in_ok-clone-in-Old.ensures.cases ∙ sym (c.in_ok-operand-in-Old.ensures.operand code names program v)
    ∙ sym (ap (λ g. expressions.given g before (operand (Scalar c.args.after))) c.in-Old.is)

pub returns-in_ok-clone-in-Old-clause-inside : goal.returns-in_ok-clone-in-Old-clause-inside
returns-in_ok-clone-in-Old-clause-inside c = λ over.
    subst (MayAllBeIn c.args.state.now) (sym c.in_ok-clone-in-Old.ensures.cases) c.in_ok-operand-in-Old.ensures.within
