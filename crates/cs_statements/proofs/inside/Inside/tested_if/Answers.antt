use Rattle.std.proofs.Common.{rules, ◌≡◌, Err, ap, ◌∙◌}
use Rattle.cs_scopes.proofs.Lifting.{lift-refused}
use Rattle.cs_scopes.proofs.Lifting.{refused_as}
use Rattle.cs_consts.proofs.SingleParts.{lift_is}
use Rattle.cs_declarations.proofs.Refusing.{refused_with}
use Rattle.cs_statements.specs.Statements.{tested_if, tested_in, some_found}
use Rattle.cs_statements.specs.View.{inside_of, typed_part, optional_part}
use Rattle.cs_statements.proofs.inside.Inside.tested_if.Goals as goal

pub returns-in_err-tested-in-Some : goal.returns-in_err-tested-in-Some
returns-in_err-tested-in-Some c =
    let e : c.from_residual.result ≡ Err c.in_err-tested-in-Some.field-0.0 = search rules in
    let i = inside_of c.args.self.now in
    refused_with optional_part (tested_if c.args.place i c.args.tree.now) c.from_residual.result c.tested.new.self c.in_err-tested-in-Some.field-0.0 e
    (refused_as c.in_err-tested-in-Some.field-0.0 (ap (tested_if c.args.place i) c.in-Some.is)
    (lift-refused some_found (tested_in c.args.place i c.in-Some.tree) c.in_err-tested-in-Some.field-0.0 c.in_err-tested-in-Some.ensures))

pub returns-in_ok-tested-in-Some : goal.returns-in_ok-tested-in-Some
returns-in_ok-tested-in-Some c =
    let i = inside_of c.args.self.now in
    ap (tested_if c.args.place i) c.in-Some.is
    ∙ lift_is some_found (tested_in c.args.place i c.in-Some.tree) (typed_part c.in_ok-tested-in-Some.field-0 c.tested.new.self)
    c.in_ok-tested-in-Some.ensures
