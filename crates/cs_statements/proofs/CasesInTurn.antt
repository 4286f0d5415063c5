-- The results of the rules for the labels of a `switch`: for the cycle of statements.
use Rattle.std.proofs.Common.{◌≡◌, ℕ, ℤ, List, Option, Some, length, refl, sym, ap, ◌∙◌}
use Rattle.cs_types.specs.declared.int_type.IntType.{IntType}
use Rattle.cs_types.specs.Shape.{Shape}
use Rattle.cs_ast.specs.declared.place.Place.{Place}
use Rattle.cs_ast.specs.declared.raw.expression.RawExpr.{RawExpr}
use Rattle.cs_ast.specs.declared.typed.statement.Case.{Case}
use Rattle.cs_scopes.specs.declared.context.Context.{Context}
use Rattle.cs_scopes.specs.declared.refusal.TypeRefusal.{TypeRefusal}
use Rattle.cs_consts.specs.Roles.{value_of}
use Rattle.cs_scopes.specs.Verdicts.{Verdict, Fine, lift, IsRefused}
use Rattle.cs_scopes.proofs.Lifting.{lift-refused}
use Rattle.cs_scopes.proofs.Lifting.{refused_as}
use Rattle.cs_consts.proofs.SingleParts.{lift_is}
use Rattle.cs_declarations.specs.Environment.{model_of}
use Rattle.cs_declarations.proofs.FoldedSoFar.{GoesOver}
use Rattle.cs_statements.specs.Statements.{Where, Switching, case_put, case_added, constant_case, wrapped_in, switch_item_typed, switch_list_typed, item_typed}
use Rattle.cs_statements.specs.Statements.{body_typed}

-- a `switch` with other cases
abbrev with_cases : Switching → List Case → Verdict Switching
with_cases so_far cases = Fine (record { cases = cases; reported = so_far.reported })

module _ (at : Place) (so_far : Switching) (value : Option ℤ) (item : ℕ) (is : item ≡ length so_far.reported.statements) where
  case_numbered : case_added at so_far value ≡ lift (with_cases so_far) (case_put at value item so_far.cases)
  case_numbered = ap (λ n. lift (with_cases so_far) (case_put at value n so_far.cases)) (sym is)

  pub case_refused : (r : TypeRefusal) → IsRefused (case_put at value item so_far.cases) r → IsRefused (case_added at so_far value) r
  case_refused r h = refused_as r case_numbered (lift-refused (with_cases so_far) _ r h)

  pub case_taken : (cases : List Case) → case_put at value item so_far.cases ≡ Fine cases
      → case_added at so_far value ≡ Fine (record { cases = cases; reported = so_far.reported })
  case_taken cases e = case_numbered ∙ lift_is (with_cases so_far) _ cases e

abbrev constant_after : Place → Switching → Shape → IntType × ℤ → Verdict Switching
constant_after at so_far ty n = constant_case at so_far ty n.1

-- a `case` after its constant
module _ (at : Place) (so_far : Switching) (ty : Shape) (tree : RawExpr) (c : Context) where
  pub constant_refused : (r : TypeRefusal) → IsRefused (value_of c tree) r → IsRefused (lift (constant_after at so_far ty) (value_of c tree)) r
  constant_refused r h = lift-refused (constant_after at so_far ty) (value_of c tree) r h

  module _ (n : IntType × ℤ) (said : value_of c tree ≡ Fine n) (number : ℤ)
      (wraps : number ≡ wrapped_in (model_of so_far.reported.inside.known) ty n.1) where
    pub constant_is : lift (constant_after at so_far ty) (value_of c tree) ≡ case_added at so_far (Some number)
    constant_is = lift_is (constant_after at so_far ty) _ n said ∙ ap (λ m. case_added at so_far (Some m)) (sym wraps)

-- the rules that process the items of a list one by one
pub items_over : (w : Where) → GoesOver (body_typed w) (item_typed w)
items_over w = (λ is i so_far. refl, λ so_far. refl)

pub switch_over : (w : Where) (ty : Shape) → GoesOver (switch_list_typed w ty) (switch_item_typed w ty)
switch_over w ty = (λ is i so_far. refl, λ so_far. refl)
