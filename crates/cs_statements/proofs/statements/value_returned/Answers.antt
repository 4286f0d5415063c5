use Rattle.std.proofs.Common.{◌≡◌, Bool, false, cond, refl, sym, ap, ◌∙◌}
use Rattle.cs_types.specs.Shape.{shape_of}
use Rattle.cs_scopes.specs.declared.refusal.TypeCode.TheVariants.{Return}
use Rattle.cs_consts.specs.Roles.{assigned_value}
use Rattle.cs_scopes.specs.Verdicts.{Fault, lift}
use Rattle.cs_statements.specs.declared.inside.Inside.{Inside as HeldInside}
use Rattle.cs_statements.specs.Statements.{part, past, is_void, value_returned}
use Rattle.cs_statements.specs.View.{inside_of, where_of, typed_part}
use Rattle.cs_statements.proofs.StatementsInTurn.{answers_as, typed_after}
use Rattle.cs_statements.proofs.statements.value_returned.Goals as goal

pub returns : goal.returns
returns c =
    let now = c.args.inside.now in
    let i = inside_of now in
    let w = where_of c.args.at in
    let tree = c.args.tree.now in
    let following : HeldInside =
    record {
      known = record { context = now.known.context; reading = now.known.reading; outer = now.known.outer; literals = c.assigned_value.new.literals };
      locals = now.locals;
      met = now.met;
    } in
    let value = assigned_value now.known.context now.known.literals.items c.args.place (shape_of c.args.at.returns.now) tree in
    let has_result : is_void (shape_of c.args.at.returns.now) ≡ false = sym c.is_void.ensures ∙ c.if-is_void.false in
    answers_as typed_part (value_returned w c.args.place i tree) (lift (part (past tree i)) value) c.assigned_value.result following
    (ap (λ (b : Bool). cond b (Fault Return c.args.place) (lift (part (past tree i)) value)) has_result)
    (typed_after i tree value c.assigned_value.result c.assigned_value.new.literals.items following c.assigned_value.ensures.reported
    c.assigned_value.ensures.texts refl)
