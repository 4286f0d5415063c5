use Rattle.std.proofs.Common.{rules, ◌≡◌, Err, sym, ap, ◌∙◌}
use Rattle.cs_ast.specs.TypedView.{statement_at}
use Rattle.cs_types.specs.Shape.{shape_of}
use Rattle.cs_scopes.specs.Verdicts.{Fine}
use Rattle.cs_scopes.proofs.Lifting.{lift-refused, refused_as}
use Rattle.cs_consts.proofs.SingleParts.{lift_is}
use Rattle.cs_declarations.specs.Initializers.{InFunction, initial_typed}
use Rattle.cs_declarations.specs.View.{reading}
use Rattle.cs_declarations.proofs.Refusing.{refused_with}
use Rattle.cs_statements.specs.declared.inside.Inside.{Inside as HeldInside}
use Rattle.cs_statements.specs.Locals.{local_held, local_initialized}
use Rattle.cs_statements.specs.View.{inside_of, local_of}
use Rattle.cs_statements.proofs.inside.Inside.initialized.Goals as goal

pub returns-in_err-found : goal.returns-in_err-found
returns-in_err-found c =
    let e : c.from_residual-in_err-found.result ≡ Err c.in_err-found.field-0.0 = search rules in
    let now = c.args.self.now in
    let i = inside_of now in
    let ty = shape_of c.args.ty.now in
    let at = c.args.declared.now.declarator.place in
    let first = c.in-Some.first in
    let following : HeldInside =
    record {
      known = record { context = now.known.context; reading = now.known.reading; outer = now.known.outer; literals = c.initial_typed.new.literals };
      locals = now.locals;
      met = now.met;
    } in
    refused_with local_of (local_initialized c.args.number ty at c.args.declared.now.initial i) c.from_residual-in_err-found.result following
    c.in_err-found.field-0.0 e
    (refused_as c.in_err-found.field-0.0 (ap (λ x. local_initialized c.args.number ty at x i) c.in-Some.is)
    (lift-refused (local_held c.args.number first.place i) (initial_typed now.known.context now.known.literals.items InFunction first.place ty first.initial)
    c.in_err-found.field-0.0 c.in_err-found.ensures))

pub returns : goal.returns
returns c =
    let now = c.args.self.now in
    let i = inside_of now in
    let ty = shape_of c.args.ty.now in
    let at = c.args.declared.now.declarator.place in
    let first = c.in-Some.first in
    ap (λ x. local_initialized c.args.number ty at x i) c.in-Some.is
    ∙ lift_is (local_held c.args.number first.place i) (initial_typed now.known.context now.known.literals.items InFunction first.place ty first.initial)
    (reading c.in_ok-found.found c.initial_typed.new.literals.items) c.in_ok-found.ensures
    ∙ ap (λ k.
    Fine (record {
      statement = statement_at first.place k;
      inside =
          inside_of (record {
            known = record { context = now.known.context; reading = now.known.reading; outer = now.known.outer; literals = c.initial_typed.new.literals };
            locals = now.locals;
            met = now.met;
          });
    })) (sym c.in_ok-new-2.ensures.ok)
