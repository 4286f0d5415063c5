use Rattle.std.proofs.Common.{rules, ◌≡◌, false, Err, sym, ap, ◌∙◌}
use Rattle.cs_types.specs.Shape.{shape_of}
use Rattle.cs_declarations.specs.Environment.{is_declared_here}
use Rattle.cs_declarations.proofs.Refusing.{refused_with}
use Rattle.cs_statements.specs.Locals.{with_local, local_initialized, local_added}
use Rattle.cs_statements.specs.View.{inside_of, local_of}
use Rattle.cs_statements.proofs.LocalsInTurn.{local_type_stops, local_typed}
use Rattle.cs_statements.proofs.StatementsInTurn.{answers_as}
use Rattle.cs_statements.proofs.inside.Inside.declare_local.Goals as goal

pub returns-in_err-ty : goal.returns-in_err-ty
returns-in_err-ty c =
    let e : c.from_residual.result ≡ Err c.in_err-ty.field-0.0 = search rules in
    let now = c.args.self.now in
    let i = inside_of now in
    let d = c.args.declared.now in
    let base = shape_of c.args.base.now in
    let new : is_declared_here d.declarator.name i.known ≡ false = sym c.is_declared_here.ensures ∙ c.if-is_declared_here.false in
    refused_with local_of (local_added base d i) c.from_residual.result now c.in_err-ty.field-0.0 e
    (local_type_stops base d i new c.in_err-ty.field-0.0 c.in_err-ty.ensures)

pub returns : goal.returns
returns c =
    let i = inside_of c.args.self.now in
    let d = c.args.declared.now in
    let base = shape_of c.args.base.now in
    let ty = shape_of c.in_ok-ty.ty in
    let number = c.in_ok-number.number in
    let new : is_declared_here d.declarator.name i.known ≡ false = sym c.is_declared_here.ensures ∙ c.if-is_declared_here.false in
    answers_as local_of (local_added base d i) (local_initialized number ty d.declarator.place d.initial (inside_of c.add_local.new.self)) c.initialized.result
    c.initialized.new.self
    (local_typed base d i new ty c.in_ok-ty.ensures
    ∙ ap (λ n. local_initialized n ty d.declarator.place d.initial (with_local d.declarator.name ty i)) (sym c.in_ok-number.ensures.number)
    ∙ ap (λ x. local_initialized number ty d.declarator.place d.initial x) (sym c.in_ok-number.ensures.added))
    c.initialized.ensures
