use Rattle.std.proofs.Common.{◌≡◌, Some, sym, ap, ◌∙◌, subst}
use Rattle.cs_types.specs.Shape.{shape_of}
use Rattle.cs_progress.specs.Operands.{IsOperandAt}
use Rattle.cs_progress.specs.Locals.{MayAllBeIn}
use Rattle.cs_steps.proofs.Assigning.{initialize_works}
use Rattle.cs_steps.proofs.work.initialize.Goals as goal

pub returns-clause-work : goal.returns-clause-work
returns-clause-work c = λ at scalar progress code names program budgets known model extends once alone integer.
    let state = c.args.state.now in
    let stored = c.in_ok-stored.stored in
    let is : stored ≡ c.in_ok-operand.field-0.now = c.in_ok-stored.ensures.cases in
    let at_0 : IsOperandAt state 0 stored = subst (IsOperandAt state 0) (sym is) c.in_ok-operand.ensures.operand in
    let within : MayAllBeIn state stored = subst (MayAllBeIn state) (sym is) c.in_ok-operand.ensures.within in
    initialize_works code names program state known once budgets at progress c.args.decl c.in_ok-base.base
    (extends.bases _ _ (c.in_ok-base.ensures.named ∙ ap Some c.local.ensures)) scalar c.write.new.state c.args.offset (shape_of c.args.ty.now) stored at_0
    (c.in_ok-write.ensures.written program names known once alone (within program names.bases known alone)) c.drop_newest.new.state
    c.drop_newest.result c.drop_newest.ensures.left c.drop_newest.ensures.means c.drop_newest.ensures.memory
