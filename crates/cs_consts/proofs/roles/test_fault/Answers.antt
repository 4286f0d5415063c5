use Rattle.std.proofs.Common.{◌∙◌}
use Rattle.cs_ast.specs.TypedView.{typed}
use Rattle.cs_consts.proofs.TestedTypes.{test_said}
use Rattle.cs_consts.proofs.roles.test_fault.Goals as goal

pub returns-in-Ok : goal.returns-in-Ok
returns-in-Ok c = λ at.
    c.scalar_fault.ensures
    ∙ test_said c.args.context.now c.new-literals.result.items c.args.tree.now at (typed c.in-Ok.value) c.new-literals.ensures.items c.in-Ok.ensures.reported
