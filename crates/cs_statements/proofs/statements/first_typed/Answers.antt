use Rattle.std.proofs.Common.{rules, ◌≡◌, [], ◌∷◌, ◌++◌, Err, sym, ap, ◌∙◌}
use Rattle.cs_ast.specs.TypedView.{statement_at}
use Rattle.cs_ast.specs.declared.typed.statement.Stmt.{Stmt, roll-Stmt}
use Rattle.cs_scopes.specs.Verdicts.{Fine}
use Rattle.cs_scopes.proofs.Lifting.{lift-refused}
use Rattle.cs_scopes.proofs.Lifting.{refused_as}
use Rattle.cs_consts.proofs.SingleParts.{lift_is}
use Rattle.cs_declarations.proofs.Refusing.{refused_with}
use Rattle.cs_statements.specs.Statements.{dropped_in, ran_first, first_typed}
use Rattle.cs_statements.specs.View.{inside_of, typed_statements_of, typed_part}
use Rattle.cs_statements.proofs.StatementsInTurn.{reported_push}
use Rattle.cs_statements.proofs.statements.first_typed.Goals as goal

pub returns-in_err-dropped-in-Run : goal.returns-in_err-dropped-in-Run
returns-in_err-dropped-in-Run c =
    let e : c.from_residual.result ≡ Err c.in_err-dropped-in-Run.field-0.0 = search rules in
    let i = inside_of c.args.inside.now in
    refused_with (λ list following. typed_statements_of list.items following) (first_typed i c.args.first.now) c.from_residual.result c.dropped.new.self
    c.in_err-dropped-in-Run.field-0.0 e
    (refused_as c.in_err-dropped-in-Run.field-0.0 (ap (first_typed i) c.in-Run.is)
    (lift-refused (ran_first c.in-Run.value.place) (dropped_in i c.in-Run.value) c.in_err-dropped-in-Run.field-0.0 c.in_err-dropped-in-Run.ensures))

pub returns-in_ok-push-in-Run : goal.returns-in_ok-push-in-Run
returns-in_ok-push-in-Run c =
    let i = inside_of c.args.inside.now in
    let e = c.in_ok-dropped-in-Run.dropped in
    let one : Stmt = roll-Stmt (record { place = c.in-Run.value.place; kind = c.in_ok-kind-in-Run.kind }) in
    let following = inside_of c.dropped.new.self in
    ap (first_typed i) c.in-Run.is
    ∙ lift_is (ran_first c.in-Run.value.place) (dropped_in i c.in-Run.value) (typed_part e c.dropped.new.self) c.in_ok-dropped-in-Run.ensures
    ∙ ap (λ f. Fine (record { statements = statement_at c.in-Run.value.place f ∷ []; inside = following })) (sym c.in_ok-kind-in-Run.ensures.ok)
    ∙ ap Fine (reported_push [] c.push.new.self.items one c.dropped.new.self (c.in_ok-push-in-Run.ensures.items
    ∙ ap (λ l. l ++ one ∷ []) c.new-statements.ensures.items))
