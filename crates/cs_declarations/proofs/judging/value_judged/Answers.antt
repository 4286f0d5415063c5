use Rattle.std.proofs.Common.{◌≡◌, Err, rules, sym, ◌∙◌}
use Rattle.cs_types.specs.Shape.{shape_of}
use Rattle.cs_ast.specs.TypedView.{typed, initial}
use Rattle.cs_declarations.specs.Initializers.{value_judged}
use Rattle.cs_declarations.specs.View as view
use Rattle.cs_declarations.proofs.Refusing.{refused}
use Rattle.cs_declarations.proofs.JudgedSoFar.{value_refused, value_admitted, value_not_admitted}
use Rattle.cs_declarations.proofs.judging.value_judged.Goals as goal

pub returns-in_err-converted : goal.returns-in_err-converted
returns-in_err-converted c =
    let e : c.from_residual.result ≡ Err c.in_err-converted.field-0.0 = search rules in
    refused initial (value_judged c.args.context.now.model (view.storage c.args.storage) c.args.place (shape_of c.args.ty.now) (typed c.args.value))
    c.from_residual.result c.in_err-converted.field-0.0 e
    (value_refused c.args.context.now.model (view.storage c.args.storage) c.args.place (shape_of c.args.ty.now) (typed c.args.value)
    c.in_err-converted.field-0.0 c.in_err-converted.ensures)

pub returns-then-is_admitted : goal.returns-then-is_admitted
returns-then-is_admitted c =
    value_admitted c.args.context.now.model (view.storage c.args.storage) c.args.place (shape_of c.args.ty.now) (typed c.args.value)
    (typed c.in_ok-converted.converted) c.in_ok-converted.ensures (sym c.is_admitted.ensures ∙ c.if-is_admitted.true)

pub returns-else-is_admitted : goal.returns-else-is_admitted
returns-else-is_admitted c =
    value_not_admitted c.args.context.now.model (view.storage c.args.storage) c.args.place (shape_of c.args.ty.now) (typed c.args.value)
    (typed c.in_ok-converted.converted) c.in_ok-converted.ensures (sym c.is_admitted.ensures ∙ c.if-is_admitted.false)
