use Rattle.std.proofs.Common.{subst}
use Rattle.cs_ast.specs.TypedView.{typed}
use Rattle.cs_scopes.specs.Verdicts.{Yields}
use Rattle.cs_expressions.specs.Stores.{weighed}
use Rattle.cs_consts.specs.Typing.{stored_by, stored}
use Rattle.cs_consts.proofs.typing.stored.Goals as goal

pub returns : goal.returns
unfolding stored
returns c =
    let both = stored_by c.args.context.now c.args.operator c.args.place (typed c.args.object) (typed c.args.value) in
    subst (λ fault. Yields (weighed c.args.place fault both) c.weighed.result) c.left_fault-fault.ensures
    (c.weighed.ensures both c.stored_by-made.ensures)
