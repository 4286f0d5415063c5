use Rattle.std.proofs.Common.{◌≡◌, map, Err, rules, sym, subst}
use Rattle.cs_types.specs.declared.ctype.CType.{CType}
use Rattle.cs_types.specs.Shape.{shape_of}
use Rattle.cs_ast.specs.TypedView.{typed_list}
use Rattle.cs_scopes.specs.Verdicts.{IsRefused, Yields}
use Rattle.cs_scopes.specs.Meanings.{signature_of}
use Rattle.cs_expressions.specs.Calls.{shape_in, converted_list, call_of}
use Rattle.cs_consts.specs.Typing.{call_with}
use Rattle.cs_scopes.proofs.Lifting.{lift-refused}
use Rattle.cs_consts.proofs.typing.call_with.Goals as goal

pub returns-in_err-list : goal.returns-in_err-list
unfolding call_with
returns-in_err-list c =
    let e : c.from_residual.result ≡ Err c.in_err-list.field-0.0 = search rules in
    let refused : IsRefused (converted_list c.args.context.now.model c.args.place (map (λ (ty : CType). shape_of ty) c.args.function.now.parameters.items)
    (typed_list c.args.values.items)) c.in_err-list.field-0.0 =
    subst (λ l.
    IsRefused (converted_list c.args.context.now.model c.args.place (map (λ (ty : CType). shape_of ty) l) (typed_list c.args.values.items))
    c.in_err-list.field-0.0) c.deref.ensures.value c.in_err-list.ensures in
    subst (Yields (call_with c.args.context.now c.args.place (shape_in c.args.target) (signature_of c.args.function.now) (typed_list c.args.values.items)))
    (sym e)
    (lift-refused (call_of c.args.place (shape_in c.args.target) (signature_of c.args.function.now)) _ c.in_err-list.field-0.0 refused)
