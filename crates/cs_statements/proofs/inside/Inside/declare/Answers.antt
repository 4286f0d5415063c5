use Rattle.std.proofs.Common.{rules, ◌≡◌, Err, subst}
use Rattle.cs_types.specs.Shape.{shape_of}
use Rattle.cs_scopes.specs.Verdicts.{Fine, IsRefused}
use Rattle.cs_scopes.proofs.Lifting.{lift-refused}
use Rattle.cs_consts.proofs.SingleParts.{lift_is}
use Rattle.cs_declarations.specs.Bodies.{specs_type}
use Rattle.cs_declarations.specs.View.{environment_of, typing}
use Rattle.cs_declarations.proofs.Refusing.{refused_with}
use Rattle.cs_statements.specs.declared.inside.Inside.{Inside as HeldInside}
use Rattle.cs_statements.specs.Locals.{locals_added}
use Rattle.cs_statements.specs.Statements.{first_place, declared_in, declaration_typed}
use Rattle.cs_statements.specs.View.{typed_statements_of}
use Rattle.cs_statements.proofs.StatementsInTurn.{answers_as}
use Rattle.cs_statements.proofs.inside.Inside.declare.Goals as goal

pub returns-in_err-base : goal.returns-in_err-base
returns-in_err-base c =
    let e : c.from_residual.result ≡ Err c.in_err-base.field-0.0 = search rules in
    let now = c.args.self.now in
    let known = environment_of now.known in
    let specs = c.args.specs.now in
    let objects = c.args.objects.now in
    let so_far = typed_statements_of c.args.before.items now in
    let following : HeldInside = record { known = c.specs_type.new.known; locals = now.locals; met = now.met } in
    refused_with (λ list following. typed_statements_of list.items following) (declaration_typed specs objects so_far) c.from_residual.result following
    c.in_err-base.field-0.0 e
    (lift-refused (declared_in specs objects so_far) (specs_type known (first_place objects) specs) c.in_err-base.field-0.0
    (subst (λ at. IsRefused (specs_type known at specs) c.in_err-base.field-0.0) c.first_place.ensures c.in_err-base.ensures.reported))

pub returns : goal.returns
returns c =
    let now = c.args.self.now in
    let known = environment_of now.known in
    let specs = c.args.specs.now in
    let objects = c.args.objects.now in
    let so_far = typed_statements_of c.args.before.items now in
    let base = c.in_ok-base.base in
    let following : HeldInside = record { known = c.specs_type.new.known; locals = now.locals; met = now.met } in
    answers_as (λ list following. typed_statements_of list.items following) (declaration_typed specs objects so_far)
    (locals_added (shape_of base) objects (typed_statements_of c.args.before.items following)) c.declare_locals.result c.declare_locals.new.self
    (lift_is (declared_in specs objects so_far) (specs_type known (first_place objects) specs) (typing base c.specs_type.new.known)
    (subst (λ at. specs_type known at specs ≡ Fine (typing base c.specs_type.new.known)) c.first_place.ensures c.in_ok-base.ensures.reported))
    c.declare_locals.ensures
