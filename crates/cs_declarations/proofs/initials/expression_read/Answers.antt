use Rattle.std.proofs.Common.{◌≡◌, Err, Some, rules}
use Rattle.cs_types.specs.Shape.{shape_of}
use Rattle.cs_consts.specs.Roles.{operand_of}
use Rattle.cs_scopes.specs.Verdicts.{lift}
use Rattle.cs_declarations.specs.Initializers.{expression_read, value_read}
use Rattle.cs_declarations.specs.View.{reading}
use Rattle.cs_declarations.proofs.Refusing.{refused_with}
use Rattle.cs_declarations.proofs.ValuesSoFar.{operand_refused, operand_read}
use Rattle.cs_declarations.proofs.initials.expression_read.Goals as goal

pub returns-in_err-value : goal.returns-in_err-value
returns-in_err-value c =
    let e : c.from_residual-in_err-value.result ≡ Err c.in_err-value.field-0.0 = search rules in
    let plain : expression_read c.args.context.now c.args.literals.now.items (shape_of c.args.ty.now) c.args.tree.now
    ≡ lift (value_read c.args.literals.now.items c.args.tree.now.kind.value)
    (operand_of c.args.context.now c.args.literals.now.items (Some (shape_of c.args.ty.now)) c.args.tree.now) = search rules in
    refused_with reading (expression_read c.args.context.now c.args.literals.now.items (shape_of c.args.ty.now) c.args.tree.now)
    c.from_residual-in_err-value.result c.operand.new.literals.items c.in_err-value.field-0.0 e
    (operand_refused c.args.context.now c.args.literals.now.items (shape_of c.args.ty.now) c.args.tree.now plain c.in_err-value.field-0.0
    c.in_err-value.ensures.reported)

pub returns : goal.returns
returns c =
    let plain : expression_read c.args.context.now c.args.literals.now.items (shape_of c.args.ty.now) c.args.tree.now
    ≡ lift (value_read c.args.literals.now.items c.args.tree.now.kind.value)
    (operand_of c.args.context.now c.args.literals.now.items (Some (shape_of c.args.ty.now)) c.args.tree.now) = search rules in
    operand_read c.args.context.now c.args.literals.now.items (shape_of c.args.ty.now) c.args.tree.now plain c.in_ok-value.value c.operand.new.literals.items
    c.in_ok-value.ensures.reported c.in_ok-value.ensures.texts
