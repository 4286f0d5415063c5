use Rattle.std.proofs.Common.{◌≡◌, None, Err, rules, refl, sym, ap, ◌∙◌}
use Rattle.cs_types.specs.Shape.{shape_of}
use Rattle.cs_ast.specs.TypedTree.{Value}
use Rattle.cs_ast.specs.TypedView.{typed}
use Rattle.cs_scopes.specs.Faults.{least_code}
use Rattle.cs_scopes.specs.Verdicts.{Fine}
use Rattle.cs_scopes.proofs.LesserCodes.{least_code-none}
use Rattle.cs_declarations.specs.Initializers.{expression_read, reading_fault, part_judged}
use Rattle.cs_declarations.specs.View as view
use Rattle.cs_declarations.specs.View.{reading}
use Rattle.cs_declarations.proofs.FaultsSoFar.{nothing_said, text_said}
use Rattle.cs_declarations.proofs.initials.value_read.Goals as goal
use Rattle.cs_declarations.proofs.initials.value_read.Goals.{in-Value, in_default}

pub returns-in_err-read-clause-codes : goal.returns-in_err-read-clause-codes
returns-in_err-read-clause-codes c = λ at.
    let e : c.from_residual.result ≡ Err c.in_err-read.field-0.0 = search rules in
    nothing_said (part_judged c.args.context.now (view.storage c.args.storage) at (shape_of c.args.ty.now))
    (expression_read c.args.context.now c.args.literals.now.items (shape_of c.args.ty.now) c.args.tree.now) c.args.fault.now c.from_residual.result
    c.in_err-read.field-0.0 e c.in_err-read.ensures

pub returns-clause-codes : goal.returns-clause-codes
returns-clause-codes c = λ at.
    let context = c.args.context.now in
    let ls = c.args.literals.now.items in
    let ty = shape_of c.args.ty.now in
    let rule = part_judged context (view.storage c.args.storage) at ty in
    let following = c.expression_read.new.literals.items in
    elim c.match-read.branch [
      | in-Value w ↦
          let read : expression_read context ls ty c.args.tree.now ≡ Fine (Value (typed w.in-Value.value), following) =
          c.in_ok-read.ensures ∙ ap (λ r. Fine (reading r following)) w.in-Value.is in
          w.fault-is ∙ w.least_code.ensures
          ∙ ap (least_code c.args.fault.now) (w.item_fault.ensures at ∙ ap (reading_fault rule) (sym read))
      | in_default w ↦
          let none : reading_fault rule (expression_read context ls ty c.args.tree.now) ≡ None =
          text_said rule context ls following ty c.args.tree.now c.in_ok-read.read (λ bytes. refl) c.in_ok-read.ensures
          (λ v is. absurd (w.in_default.not-Value v is)) in
          w.fault-is ∙ sym (least_code-none c.args.fault.now) ∙ ap (least_code c.args.fault.now) (sym none)
    ]
