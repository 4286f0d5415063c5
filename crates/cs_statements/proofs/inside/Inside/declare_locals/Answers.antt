use Rattle.std.proofs.Common.{rules, ◌≡◌, Err, ap, ◌∙◌}
use Rattle.cs_types.specs.Shape.{shape_of}
use Rattle.cs_scopes.specs.Verdicts.{Fine}
use Rattle.cs_scopes.proofs.Lifting.{lift-refused}
use Rattle.cs_consts.proofs.SingleParts.{lift_is}
use Rattle.cs_declarations.proofs.FoldedSoFar.{part_taken, part_stops}
use Rattle.cs_declarations.proofs.Refusing.{refused_with}
use Rattle.cs_statements.specs.Locals.{local_added, after_local, locals_added}
use Rattle.cs_statements.specs.View.{local_of, typed_statements_of}
use Rattle.cs_statements.proofs.LocalsInTurn.{local_after, locals_over}
use Rattle.cs_statements.proofs.StatementsInTurn.{reported_push}
use Rattle.cs_statements.proofs.inside.Inside.declare_locals.Goals as goal

pub returns-in_err-declare_local : goal.returns-in_err-declare_local
returns-in_err-declare_local c =
    let e : c.from_residual.result ≡ Err c.in_err-declare_local.field-0.0 = search rules in
    let base = shape_of c.args.base.now in
    let whole = locals_added base c.args.objects.now (typed_statements_of c.args.before.items c.args.self.now) in
    let so_far = typed_statements_of c.loop-declared.statements.items c.loop-declared.self in
    refused_with (λ list following. typed_statements_of list.items following) whole c.from_residual.result c.declare_local.new.self
    c.in_err-declare_local.field-0.0 e
    (part_stops (locals_added base) (local_after base) (locals_over base) c.args.objects.now c.loop-declared.declared-index c.declared-item.result whole so_far
    c.in_err-declare_local.field-0.0 c.loop-declared-test.true c.declared-item.is c.loop-declared.invariant
    (lift-refused (after_local so_far.statements) (local_added base c.declared-item.result so_far.inside) c.in_err-declare_local.field-0.0
    c.in_err-declare_local.ensures))

pub loop-declared-preserved : goal.loop-declared-preserved
loop-declared-preserved c =
    let base = shape_of c.args.base.now in
    let whole = locals_added base c.args.objects.now (typed_statements_of c.args.before.items c.args.self.now) in
    let so_far = typed_statements_of c.loop-declared.statements.items c.loop-declared.self in
    let one = c.in_ok-declare_local.field-0 in
    let following = c.declare_local.new.self in
    part_taken (locals_added base) (local_after base) (locals_over base) c.args.objects.now c.loop-declared.declared-index c.declared-item.result whole so_far
    (typed_statements_of c.push.new.self.items following) c.loop-declared-test.true c.declared-item.is c.loop-declared.invariant
    (lift_is (after_local so_far.statements) (local_added base c.declared-item.result so_far.inside) (local_of one following) c.in_ok-declare_local.ensures
    ∙ ap Fine (reported_push c.loop-declared.statements.items c.push.new.self.items one following c.in_ok-push.ensures.items))
