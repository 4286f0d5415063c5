use Rattle.std.proofs.Common.{rules, ◌≡◌, Err, ap, ◌∙◌}
use Rattle.cs_scopes.proofs.Lifting.{lift-refused}
use Rattle.cs_scopes.proofs.Lifting.{refused_as}
use Rattle.cs_consts.proofs.SingleParts.{lift_is}
use Rattle.cs_declarations.proofs.Refusing.{refused_with}
use Rattle.cs_statements.specs.Statements.{returned, value_returned, some_found}
use Rattle.cs_statements.specs.View.{inside_of, where_of, typed_part, optional_part}
use Rattle.cs_statements.proofs.statements.returned.Goals as goal

pub returns-in_err-value_returned-in-Some : goal.returns-in_err-value_returned-in-Some
returns-in_err-value_returned-in-Some c =
    let e : c.from_residual.result ≡ Err c.in_err-value_returned-in-Some.field-0.0 = search rules in
    let i = inside_of c.args.inside.now in
    let w = where_of c.args.at in
    refused_with optional_part (returned w c.args.place i c.args.value.now) c.from_residual.result c.value_returned.new.inside
    c.in_err-value_returned-in-Some.field-0.0 e
    (refused_as c.in_err-value_returned-in-Some.field-0.0 (ap (returned w c.args.place i) c.in-Some.is)
    (lift-refused some_found (value_returned w c.args.place i c.in-Some.tree) c.in_err-value_returned-in-Some.field-0.0
    c.in_err-value_returned-in-Some.ensures))

pub returns-in_ok-value_returned-in-Some : goal.returns-in_ok-value_returned-in-Some
returns-in_ok-value_returned-in-Some c =
    let i = inside_of c.args.inside.now in
    let w = where_of c.args.at in
    ap (returned w c.args.place i) c.in-Some.is
    ∙ lift_is some_found (value_returned w c.args.place i c.in-Some.tree) (typed_part c.in_ok-value_returned-in-Some.field-0 c.value_returned.new.inside)
    c.in_ok-value_returned-in-Some.ensures
