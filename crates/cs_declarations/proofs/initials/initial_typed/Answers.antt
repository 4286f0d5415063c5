use Rattle.std.proofs.Common.{◌≡◌, true, false, Err, rules, sym, subst, ◌∙◌}
use Rattle.cs_types.specs.Shape.{shape_of}
use Rattle.cs_ast.specs.TypedView.{initial}
use Rattle.cs_declarations.specs.Answered.{AnswersWith}
use Rattle.cs_declarations.specs.Initializers.{has_form, initial_typed}
use Rattle.cs_declarations.specs.View as view
use Rattle.cs_declarations.specs.View.{reading}
use Rattle.cs_declarations.proofs.Refusing.{refused_with}
use Rattle.cs_declarations.proofs.InitialsInTurn.{form_is_wrong, reading_refused, judging_answers}
use Rattle.cs_declarations.proofs.initials.initial_typed.Goals as goal

pub returns-then-not-has_form : goal.returns-then-not-has_form
returns-then-not-has_form c =
    let form : has_form c.args.context.now.table.list (view.storage c.args.storage) (shape_of c.args.ty.now) c.args.written.now ≡ false =
    sym c.has_form.ensures ∙ c.if-not-has_form.true in
    subst (λ v. AnswersWith reading v c.form_refused.result c.form_refused.new.literals.items)
    (sym (form_is_wrong c.args.context.now c.args.literals.now.items (view.storage c.args.storage) c.args.place (shape_of c.args.ty.now)
    c.args.written.now form)) c.form_refused.ensures

pub returns-in_err-read : goal.returns-in_err-read
returns-in_err-read c =
    let e : c.from_residual.result ≡ Err c.in_err-read.field-0.0 = search rules in
    let form : has_form c.args.context.now.table.list (view.storage c.args.storage) (shape_of c.args.ty.now) c.args.written.now ≡ true =
    sym c.has_form.ensures ∙ c.if-not-has_form.false in
    refused_with reading (initial_typed c.args.context.now c.args.literals.now.items (view.storage c.args.storage) c.args.place (shape_of c.args.ty.now)
    c.args.written.now) c.from_residual.result c.whole_read.new.literals.items c.in_err-read.field-0.0 e
    (reading_refused c.args.context.now c.args.literals.now.items (view.storage c.args.storage) c.args.place (shape_of c.args.ty.now) c.args.written.now form
    c.in_err-read.field-0.0 c.in_err-read.ensures)

pub returns : goal.returns
returns c =
    let form : has_form c.args.context.now.table.list (view.storage c.args.storage) (shape_of c.args.ty.now) c.args.written.now ≡ true =
    sym c.has_form.ensures ∙ c.if-not-has_form.false in
    judging_answers c.args.context.now c.args.literals.now.items (view.storage c.args.storage) c.args.place (shape_of c.args.ty.now) c.args.written.now form
    (initial c.in_ok-read.read) c.whole_read.new.literals.items c.in_ok-read.ensures c.judged.result c.judged.ensures
