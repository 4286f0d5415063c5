use Rattle.std.proofs.Common.{◌≡◌, true, false, None, Some, sym, ◌∙◌}
use Rattle.cs_types.specs.Shape.{shape_of}
use Rattle.cs_ast.specs.TypedView.{typed}
use Rattle.cs_expressions.specs.Conversions.{conversion_fault}
use Rattle.cs_declarations.specs.View as view
use Rattle.cs_declarations.proofs.KeptConstants.{conversion_said, holding_said}
use Rattle.cs_declarations.proofs.judging.value_fault.Goals as goal

pub returns-in-Some : goal.returns-in-Some
returns-in-Some c = λ at.
    let said : conversion_fault c.args.context.now.model at (shape_of c.args.ty.now) (typed c.args.value.now) ≡ Some c.in-Some.code =
    sym (c.conversion_fault.ensures at) ∙ c.in-Some.is in
    sym (conversion_said c.args.context.now.model (view.storage c.args.storage) at (shape_of c.args.ty.now) (typed c.args.value.now) c.in-Some.code said)

pub returns-in-None : goal.returns-in-None
returns-in-None c = λ at.
    let said : conversion_fault c.args.context.now.model at (shape_of c.args.ty.now) (typed c.args.value.now) ≡ None =
    sym (c.conversion_fault.ensures at) ∙ c.in-None.is in
    sym (holding_said c.args.context.now.model (view.storage c.args.storage) at (shape_of c.args.ty.now) (typed c.args.value.now) true said
    (sym c.is_admitted.ensures ∙ c.if-is_admitted.true))

pub returns-in-None-2 : goal.returns-in-None-2
returns-in-None-2 c = λ at.
    let said : conversion_fault c.args.context.now.model at (shape_of c.args.ty.now) (typed c.args.value.now) ≡ None =
    sym (c.conversion_fault.ensures at) ∙ c.in-None.is in
    sym (holding_said c.args.context.now.model (view.storage c.args.storage) at (shape_of c.args.ty.now) (typed c.args.value.now) false said
    (sym c.is_admitted.ensures ∙ c.if-is_admitted.false))
