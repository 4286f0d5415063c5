-- The typing of an initializer, step by step: for `initial_typed`.
use Rattle.std.proofs.Common.{◌≡◌, Bool, true, false, ap, ◌∙◌, Result, Ok, Err}
use Rattle.std.specs.Prelude.{if◌then◌else◌}
use Rattle.cs_types.specs.Shape.{Shape}
use Rattle.cs_ast.specs.declared.place.Place.{Place}
use Rattle.cs_ast.specs.declared.raw.declaration.RawInitial.{RawInitial}
use Rattle.cs_ast.specs.TypedTree.{Initial}
use Rattle.cs_ast.specs.declared.typed.statement.Initial.{Initial as Held}
use Rattle.cs_ast.specs.TypedView.{initial}
use Rattle.cs_scopes.specs.declared.context.Context.{Context}
use Rattle.cs_scopes.specs.declared.refusal.TypeCode.TheVariants as code_of
use Rattle.cs_scopes.specs.declared.refusal.TypeRefusal.{TypeRefusal}
use Rattle.cs_expressions.specs.Primary.{Literals}
use Rattle.cs_scopes.specs.Faults.{least}
use Rattle.cs_scopes.specs.Verdicts.{Verdict, Fine, Fault, lift, IsRefused, Answers}
use Rattle.cs_scopes.proofs.Lifting.{lift-refused}
use Rattle.cs_consts.proofs.SingleParts.{lift_is}
use Rattle.cs_scopes.proofs.Lifting.{refused_as}
use Rattle.cs_declarations.specs.Initializers.{Storage, Reading, has_form, whole_read, initial_judged, kept_with}
use Rattle.cs_declarations.specs.Initializers.{initial_fault, initial_typed}
use Rattle.cs_declarations.specs.Answered.{AnswersWith}
use Rattle.cs_declarations.specs.View.{reading}

-- an initializer of the wrong form
pub form_is_wrong : (c : Context) (literals : Literals) (storage : Storage) (at : Place) (ty : Shape) (written : RawInitial)
    → has_form c.table.list storage ty written ≡ false
    → initial_typed c literals storage at ty written ≡ Fault (least code_of.Initializer (initial_fault c literals storage at ty written)) at
form_is_wrong c literals storage at ty written form =
    ap (λ (b : Bool).
    if b
    then lift (λ (r : Reading). lift (kept_with r.1) (initial_judged c storage at ty r.0))
    (whole_read c literals storage at ty written)
    else Fault (least code_of.Initializer (initial_fault c literals storage at ty written)) at) form

module _ (c : Context) (literals : Literals) (storage : Storage) (at : Place) (ty : Shape) (written : RawInitial)
    (form : has_form c.table.list storage ty written ≡ true) where
  abbrev asked : Reading → Verdict Reading
  asked r = lift (kept_with r.1) (initial_judged c storage at ty r.0)

  formed : initial_typed c literals storage at ty written ≡ lift asked (whole_read c literals storage at ty written)
  formed =
      ap (λ (b : Bool).
      if b
      then lift asked (whole_read c literals storage at ty written)
      else Fault (least code_of.Initializer (initial_fault c literals storage at ty written)) at) form

  pub reading_refused : (r : TypeRefusal) → IsRefused (whole_read c literals storage at ty written) r
      → IsRefused (initial_typed c literals storage at ty written) r
  reading_refused r h = refused_as r formed (lift-refused asked _ r h)

  module _ (read : Initial) (texts : Literals) (reads : whole_read c literals storage at ty written ≡ Fine (read, texts)) where
    was_read : initial_typed c literals storage at ty written ≡ asked (read, texts)
    was_read = formed ∙ lift_is asked _ (read, texts) reads

    pub judging_answers : (result : Result Held TypeRefusal) → Answers initial (initial_judged c storage at ty read) result
        → AnswersWith reading (initial_typed c literals storage at ty written) result texts
    judging_answers (Ok found) h = was_read ∙ lift_is (kept_with texts) (initial_judged c storage at ty read) (initial found) h
    judging_answers (Err refusal) h = refused_as refusal was_read (lift-refused (kept_with texts) _ refusal h)
