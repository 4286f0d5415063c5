-- Conversions result in well-formed values of the required type, and two values that are converted to one type have it.
use Rattle.std.proofs.Common.{◌≡◌, ◌⊎◌, inl, inr, Bool, true, false, ◌||◌, ◌==◌, refl, sym, ap, ◌∙◌}
use Rattle.std.proofs.Common.{eqb-true}
use Rattle.cs_types.specs.declared.data_model.DataModel.{DataModel}
use Rattle.cs_types.specs.Shape.{Shape, void, integer, pointer, array, struct, same_shape}
use Rattle.cs_types.specs.ShapeEquality.{same_shape-true}
use Rattle.cs_ast.specs.declared.place.Place.{Place}
use Rattle.cs_ast.specs.TypedTree.{Typed, Of, Convert}
use Rattle.cs_folding.specs.TypedParts.{type_of}
use Rattle.cs_types.specs.Kinds.{is_void}
use Rattle.cs_folding.specs.Folding.{is_null}
use Rattle.cs_expressions.specs.Conversions.{null_at, pointed, pointed_from_integer, converted, pointer_cast, recast, Pair, pointers_met}
use Rattle.cs_expressions.specs.Operators.{met}
use Rattle.cs_well_formed.specs.Structs.{NamesStructs}
use Rattle.cs_well_formed.specs.Expressions.{Setting, IsWell, IsValueOf, IsScalarValue}
use Rattle.cs_well_formed.proofs.Verdicts.{IfFine, if_fine-weaker, cond-then}
use Rattle.cs_well_formed.proofs.Integers.{in_type-well, integer-value}

void-true : (ty : Shape) → is_void ty ≡ true → ty ≡ void
void-true void h = refl
void-true (integer ty) h = absurd cc
void-true (pointer target) h = absurd cc
void-true (array element count) h = absurd cc
void-true (struct number) h = absurd cc

either-true : (a b : Bool) → (a || b) ≡ true → (a ≡ true) ⊎ (b ≡ true)
either-true true b h = inl refl
either-true false b h = inr h

-- a well-formed value of a type
abbrev IsGiven : Setting → Shape → Typed → Type 0
IsGiven s ty e = IsWell s e × IsValueOf e ty

-- two well-formed values of one scalar type
pub record AreMet (s : Setting) (pair : Pair) : Type 0 where
  pub left : IsWell s pair.left
  pub right : IsWell s pair.right
  pub scalar : IsScalarValue pair.left
  pub same : IsValueOf pair.right (type_of pair.left)

module _ (s : Setting) (model : DataModel) (at : Place) where
  abbrev Names : Shape → Type 0
  Names ty = NamesStructs s.program.table ty

  null-given : (target : Shape) → Names target → IsGiven s (pointer target) (null_at at target)
  null-given target names = (((target, refl), names), (refl, refl))

  -- a pointer converted to `void *`
  to_void : (target source : Shape) (e : Typed) → IsWell s e → IsValueOf e (pointer source) → is_void target ≡ true
      → IsGiven s (pointer target) (Of at (pointer target) (Convert e))
  to_void target source e well v h = ((well, v.0, inr (void-true target h, (source, v.1))), (refl, refl))

  pointed-well : (e : Typed) (target source : Shape) → Names target → IsWell s e → IsValueOf e (pointer source)
      → IfFine (pointed model at e target source) (IsGiven s (pointer target))
  unfolding pointed
  pointed-well e target source names well v =
      cond-then (IsGiven s (pointer target)) (same_shape target source) _ _
      (λ h. (well, (v.0, v.1 ∙ ap pointer (sym (same_shape-true target source h)))))
      (λ _. cond-then (IsGiven s (pointer target)) (is_null model e) _ _
      (λ _. null-given target names)
      (λ _. cond-then (IsGiven s (pointer target)) (is_void target) _ _
      (λ h. let is = void-true target h in ((well, v.0, inr (refl, (source, v.1))), (refl, ap pointer (sym is))))
      (λ _. tt)))

  from_integer-well : (e : Typed) (target : Shape) → Names target → IfFine (pointed_from_integer model at e target) (IsGiven s (pointer target))
  from_integer-well e target names = cond-then (IsGiven s (pointer target)) (is_null model e) _ _ (λ _. null-given target names) (λ _. tt)

  -- a value converted as if by assignment
  pub converted-well : (e : Typed) (target source : Shape) → Names target → IsWell s e → IsValueOf e source
      → IfFine (converted model at e target source) (λ v. IsWell s v × IsValueOf v target)
  unfolding converted
  converted-well e (integer t) (integer u) names well v = in_type-well s at t e well (integer-value e u v)
  converted-well e (integer t) (pointer u) names well v = tt
  converted-well e (pointer t) (integer u) names well v = from_integer-well e t names
  converted-well e (pointer t) (pointer u) names well v = pointed-well e t u names well v
  converted-well e (struct n) (struct m) names well v =
      cond-then (λ r. IsWell s r × IsValueOf r (struct n)) (n == m) _ _
      (λ h. (well, (v.0, v.1 ∙ ap struct (sym (eqb-true n m h)))))
      (λ _. tt)
  converted-well e target source names well v = tt

  pointer_cast-well : (e : Typed) (target source : Shape) → Names target → IsWell s e → IsValueOf e (pointer source)
      → IfFine (pointer_cast model at e target source) (IsWell s)
  unfolding pointer_cast
  pointer_cast-well e target source names well v =
      cond-then (IsWell s) (same_shape target source || is_void target) _ _
      (λ h. by_way (either-true (same_shape target source) (is_void target) h))
      (λ _. cond-then (IsWell s) (is_null model e) _ _ (λ _. ((target, refl), names)) (λ _. tt))
    where
      by_way : (same_shape target source ≡ true) ⊎ (is_void target ≡ true) → IsWell s (Of at (pointer target) (Convert e))
      by_way (inl h) = (well, v.0, inl (v.1 ∙ ap pointer (sym (same_shape-true target source h))))
      by_way (inr h) = (to_void target source e well v h).0

  -- a cast
  pub recast-well : (e : Typed) (target source : Shape) → Names target → IsWell s e → IsValueOf e source
      → IfFine (recast model at e target source) (IsWell s)
  unfolding recast
  recast-well e void source names well v = (well, v.0, tt)
  recast-well e (integer t) (integer u) names well v = (well, v.0, (u, v.1))
  recast-well e (integer t) (pointer u) names well v = tt
  recast-well e (pointer t) (integer u) names well v =
      if_fine-weaker (IsGiven s (pointer t)) (IsWell s) (pointed_from_integer model at e t) (from_integer-well e t names) (λ _ given. given.0)
  recast-well e (pointer t) (pointer u) names well v = pointer_cast-well e t u names well v
  recast-well e target source names well v = tt

  pair-met : (left right : Typed) (ty : Shape) → IsWell s left → IsValueOf left (pointer ty) → IsWell s right → IsValueOf right (pointer ty)
      → AreMet s (record { left = left; right = right })
  pair-met left right ty w v w' v' = record { left = w; right = w'; scalar = (v.0, inr (ty, v.1)); same = (v'.0, v'.1 ∙ sym v.1) }

  pointers_met-well : (left right : Typed) (t u : Shape) → Names t → Names u → IsWell s left → IsValueOf left (pointer t) → IsWell s right
      → IsValueOf right (pointer u) → IfFine (pointers_met model at left right t u) (AreMet s)
  unfolding pointers_met
  pointers_met-well left right t u names names' w v w' v' =
      cond-then (AreMet s) (same_shape t u) _ _
      (λ h. pair-met left right t w v w' (v'.0, v'.1 ∙ ap pointer (sym (same_shape-true t u h))))
      (λ _. cond-then (AreMet s) (is_null model right) _ _
      (λ _. let null = null-given t names in pair-met left (null_at at t) t w v null.0 null.1)
      (λ _. cond-then (AreMet s) (is_null model left) _ _
      (λ _. let null = null-given u names' in pair-met (null_at at u) right u null.0 null.1 w' v')
      (λ _. cond-then (AreMet s) (is_void t) _ _
      (λ h. pair-met left (Of at (pointer void) (Convert right)) t w v (w', v'.0, inr (refl, (u, v'.1))) (refl, ap pointer (sym (void-true t h))))
      (λ _. cond-then (AreMet s) (is_void u) _ _
      (λ h. pair-met (Of at (pointer void) (Convert left)) right u (w, v.0, inr (refl, (t, v.1))) (refl, ap pointer (sym (void-true u h))) w' v')
      (λ _. tt)))))

  -- two values converted to their common type
  pub met-well : (left right : Typed) (t u : Shape) → Names t → Names u → IsWell s left → IsValueOf left t → IsWell s right → IsValueOf right u
      → IfFine (met model at left right t u) (AreMet s)
  unfolding met
  met-well left right (integer t) (integer u) names names' w v w' v' =
      let one = in_type-well s at _ left w (integer-value left t v) in
      let other = in_type-well s at _ right w' (integer-value right u v') in
      record { left = one.0; right = other.0; scalar = (one.1.0, inl (_, one.1.1)); same = (other.1.0, other.1.1 ∙ sym one.1.1) }
  met-well left right (pointer t) (pointer u) names names' w v w' v' = pointers_met-well left right t u names names' w v w' v'
  met-well left right (pointer t) (integer u) names names' w v w' v' =
      cond-then (AreMet s) (is_null model right) _ _ (λ _. let null = null-given t names in pair-met left (null_at at t) t w v null.0 null.1) (λ _. tt)
  met-well left right (integer t) (pointer u) names names' w v w' v' =
      cond-then (AreMet s) (is_null model left) _ _ (λ _. let null = null-given u names' in pair-met (null_at at u) right u null.0 null.1 w' v') (λ _. tt)
  met-well left right t u names names' w v w' v' = tt
