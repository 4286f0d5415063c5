-- The results of operators between values are well formed: the rules of operators.
use Rattle.std.proofs.Common.{◌≡◌, inl, inr, true, ◌&&◌, refl, sym, ap, ◌∙◌, eqb-true}
use Rattle.cs_types.specs.declared.data_model.DataModel.{DataModel}
use Rattle.cs_types.specs.declared.int_type.IntType.{IntType}
use Rattle.cs_types.specs.Conversions.{common_type}
use Rattle.cs_types.specs.DataModel.{difference_type_of}
use Rattle.cs_types.specs.Shape.{Shape, void, integer, pointer, array, struct, same_shape}
use Rattle.cs_types.specs.ShapeEquality.{same_shape-true}
use Rattle.cs_ast.specs.declared.place.Place.{Place}
use Rattle.cs_ast.specs.declared.raw.operator.InfixOp.{InfixOp}
use Rattle.cs_ast.specs.declared.raw.operator.InfixOp.TheVariants as infix_op
use Rattle.cs_ast.specs.declared.typed.operator.BinOp.TheVariants as bin
use Rattle.cs_ast.specs.declared.typed.operator.CmpOp.{CmpOp}
use Rattle.cs_ast.specs.declared.typed.operator.CmpOp.TheVariants as cmp
use Rattle.cs_ast.specs.declared.typed.operator.Direction.{Direction}
use Rattle.cs_ast.specs.declared.typed.operator.Direction.TheVariants.{Forward, Back}
use Rattle.cs_ast.specs.declared.typed.operator.Order.{Order}
use Rattle.cs_ast.specs.declared.typed.operator.Order.TheVariants.{PointerFirst, AmountFirst}
use Rattle.cs_ast.specs.TypedTree.{Typed, Form, And, Or}
use Rattle.cs_scopes.specs.declared.context.Context.{Context}
use Rattle.cs_folding.specs.TypedParts.{type_of}
use Rattle.cs_types.specs.Kinds.{is_scalar, is_complete}
use Rattle.cs_expressions.specs.Operators.{int_at, compared_pair, equated, ordered, moved, added, apart, subtracted, tested, denied, both_tested, combined}
use Rattle.cs_expressions.specs.Operators.{chosen_pair, alike, chosen, followed}
use Rattle.cs_well_formed.specs.Structs.{NamesStructs}
use Rattle.cs_well_formed.specs.Expressions.{Setting, TypesAroundAreNamed, IsWell, IsValue, IsValueOf, IsScalar, IsScalarValue}
use Rattle.cs_well_formed.specs.Agreement.{Agrees}
use Rattle.cs_well_formed.proofs.Verdicts.{IfFine, lift-then, cond-then, both_true}
use Rattle.cs_well_formed.proofs.Integers.{in_type-well, integer-value, joined-well, shifted-well}
use Rattle.cs_well_formed.proofs.Objects.{complete-IsWhole}
use Rattle.cs_well_formed.proofs.Naming.{type_of-named}
use Rattle.cs_well_formed.proofs.Conversions.{AreMet, met-well}

scalar-true : (ty : Shape) → is_scalar ty ≡ true → IsScalar ty
scalar-true (integer ty) h = inl (ty, refl)
scalar-true (pointer target) h = inr (target, refl)
scalar-true void h = absurd cc
scalar-true (array element count) h = absurd cc
scalar-true (struct number) h = absurd cc

alike-true : (t u : Shape) → alike t u ≡ true → t ≡ u
alike-true void void h = refl
alike-true (struct n) (struct m) h = ap struct (eqb-true n m h)
alike-true void (integer u) h = absurd cc
alike-true void (pointer u) h = absurd cc
alike-true void (array u n) h = absurd cc
alike-true void (struct m) h = absurd cc
alike-true (struct n) void h = absurd cc
alike-true (struct n) (integer u) h = absurd cc
alike-true (struct n) (pointer u) h = absurd cc
alike-true (struct n) (array u m) h = absurd cc
alike-true (integer t) u h = absurd cc
alike-true (pointer t) u h = absurd cc
alike-true (array t n) u h = absurd cc

module _ (s : Setting) where
  -- a value that is tested is an integer or a pointer
  pub tested-well : (at : Place) (e : Typed) → IsWell s e → IsValue e → IfFine (tested at e) (λ v. IsWell s v × IsScalarValue v)
  unfolding tested
  tested-well at e well v = cond-then (λ r. IsWell s r × IsScalarValue r) (is_scalar (type_of e)) _ _ (λ h. (well, (v, scalar-true (type_of e) h)))
      (λ _. tt)

  pub denied-well : (at : Place) (e : Typed) → IsWell s e → IsValue e → IfFine (denied at e) (IsWell s)
  unfolding denied
  denied-well at e well v = cond-then (IsWell s) (is_scalar (type_of e)) _ _ (λ h. (well, refl, (v, scalar-true (type_of e) h))) (λ _. tt)

  both_tested-well : (at : Place) (left right : Typed) (form : Form) → IsValue left → IsValue right
      → (IsScalarValue left → IsScalarValue right → IsWell s (int_at at form)) → IfFine (both_tested at left right form) (IsWell s)
  unfolding both_tested
  both_tested-well at left right form v v' well =
      cond-then (IsWell s) (is_scalar (type_of left) && is_scalar (type_of right)) _ _
      (λ h. let both = both_true (is_scalar (type_of left)) (is_scalar (type_of right)) h in
      well (v, scalar-true (type_of left) both.0) (v', scalar-true (type_of right) both.1))
      (λ _. tt)

  equated-well : (model : DataModel) (op : CmpOp) (at : Place) (left right : Typed) → TypesAroundAreNamed s → IsWell s left → IsValue left
      → IsWell s right → IsValue right → IfFine (equated model op at left right) (IsWell s)
  unfolding equated
  equated-well model op at left right types w v w' v' =
      lift-then (AreMet s) (IsWell s) (compared_pair op at) _
      (met-well s model at left right (type_of left) (type_of right) (type_of-named s types left w) (type_of-named s types right w') w (v, refl) w'
      (v', refl))
      (λ pair both. (both.left, both.right, refl, both.scalar, both.same))

  ordered-well : (model : DataModel) (op : CmpOp) (at : Place) (left right : Typed) (t u : Shape) → IsWell s left → IsValueOf left t → IsWell s right
      → IsValueOf right u → IfFine (ordered model op at left right t u) (IsWell s)
  unfolding ordered
  ordered-well model op at left right (integer t) (integer u) w v w' v' =
      let one = in_type-well s at (common_type model t u) left w (integer-value left t v) in
      let other = in_type-well s at (common_type model t u) right w' (integer-value right u v') in
      (one.0, other.0, refl, (one.1.0, inl (common_type model t u, one.1.1)), (other.1.0, other.1.1 ∙ sym one.1.1))
  ordered-well model op at left right (pointer t) (pointer u) w v w' v' =
      cond-then (IsWell s) (same_shape t u) _ _
      (λ h. (w, w', refl, (v.0, inr (t, v.1)), (v'.0, v'.1 ∙ ap pointer (sym (same_shape-true t u h)) ∙ sym v.1)))
      (λ _. tt)
  ordered-well model op at left right t u w v w' v' = tt

  -- a conditional expression
  pub chosen-well : (model : DataModel) (at : Place) (test one other : Typed) (t u : Shape) → NamesStructs s.program.table t
      → NamesStructs s.program.table u → IsWell s test → IsScalarValue test → IsWell s one → IsValueOf one t →
      IsWell s other → IsValueOf other u → IfFine (chosen model at test one other t u) (IsWell s)
  unfolding chosen
  chosen-well model at test one other t u names names' yields scalar w v w' v' =
      cond-then (IsWell s) (alike t u) _ _
      (λ h. (yields, w, w', scalar, v, (v'.0, v'.1 ∙ sym (alike-true t u h))))
      (λ _. lift-then (AreMet s) (IsWell s) (chosen_pair at test) _ (met-well s model at one other t u names names' w v w' v')
      (λ pair both. (yields, both.left, both.right, scalar, (both.scalar.0, refl), both.same)))

  pub followed-well : (at : Place) (first second : Typed) → IsWell s first → IsValue first → IsWell s second → IsValue second
      → IfFine (followed at first second) (IsWell s)
  followed-well at first second w v w' v' = (w, w', v, (v', refl))

module _ (s : Setting) (c : Context) (agrees : Agrees s c) where
  -- a pointer that moves by elements
  moved-well : (at : Place) (e amount : Typed) (target : Shape) (ty : IntType) (direction : Direction) (order : Order) → IsWell s e
      → IsValueOf e (pointer target) → IsWell s amount → IsValueOf amount (integer ty)
      → IfFine (moved c.table.list at e amount target direction order) (IsWell s)
  unfolding moved
  moved-well at e amount target ty direction order w v w' v' =
      cond-then (IsWell s) (is_complete c.table.list target) _ _
      (λ h. (w, w', (target, refl, complete-IsWhole s c agrees target h), v, (v'.0, (ty, v'.1))))
      (λ _. tt)

  added-well : (at : Place) (left right : Typed) (t u : Shape) → IsWell s left → IsValueOf left t → IsWell s right → IsValueOf right u
      → IfFine (added c.model c.table.list at left right t u) (IsWell s)
  unfolding added
  added-well at left right (integer t) (integer u) w v w' v' = joined-well s c.model at bin.Add left right (integer t) (integer u) w v w' v'
  added-well at left right (pointer t) (integer u) w v w' v' = moved-well at left right t u Forward PointerFirst w v w' v'
  added-well at left right (integer t) (pointer u) w v w' v' = moved-well at right left u t Forward AmountFirst w' v' w v
  added-well at left right t u w v w' v' = tt

  apart-well : (at : Place) (left right : Typed) (t u : Shape) → IsWell s left → IsValueOf left (pointer t) → IsWell s right
      → IsValueOf right (pointer u) → IfFine (apart c.model c.table.list at left right t u) (IsWell s)
  unfolding apart
  apart-well at left right t u w v w' v' =
      cond-then (IsWell s) (same_shape t u) _ _
      (λ h. cond-then (IsWell s) (is_complete c.table.list t) _ _
      (λ h'. (
        w,
        w',
        ap (λ m. integer (difference_type_of m)) agrees.model,
        (t, v.1, complete-IsWhole s c agrees t h'),
        v.0,
        (v'.0, v'.1 ∙ ap pointer (sym (same_shape-true t u h)) ∙ sym v.1),
      ))
      (λ _. tt))
      (λ _. tt)

  subtracted-well : (at : Place) (left right : Typed) (t u : Shape) → IsWell s left → IsValueOf left t → IsWell s right → IsValueOf right u
      → IfFine (subtracted c.model c.table.list at left right t u) (IsWell s)
  unfolding subtracted
  subtracted-well at left right (integer t) (integer u) w v w' v' = joined-well s c.model at bin.Sub left right (integer t) (integer u) w v w' v'
  subtracted-well at left right (pointer t) (integer u) w v w' v' = moved-well at left right t u Back PointerFirst w v w' v'
  subtracted-well at left right (pointer t) (pointer u) w v w' v' = apart-well at left right t u w v w' v'
  subtracted-well at left right t u w v w' v' = tt

  -- an operator on two values
  pub combined-well : (op : InfixOp) (at : Place) (left right : Typed) → IsWell s left → IsValue left → IsWell s right → IsValue right
      → IfFine (combined c.model c.table.list op at left right) (IsWell s)
  unfolding combined
  combined-well infix_op.Or at left right w v w' v' = both_tested-well s at left right (Or left right) v v' (λ one other. (w, w', refl, one, other))
  combined-well infix_op.And at left right w v w' v' = both_tested-well s at left right (And left right) v v' (λ one other. (w, w', refl, one, other))
  combined-well infix_op.BitOr at left right w v w' v' = joined-well s c.model at bin.Or left right (type_of left) (type_of right) w (v, refl) w' (v', refl)
  combined-well infix_op.BitXor at left right w v w' v' = joined-well s c.model at bin.Xor left right (type_of left) (type_of right) w (v, refl) w' (v', refl)
  combined-well infix_op.BitAnd at left right w v w' v' = joined-well s c.model at bin.And left right (type_of left) (type_of right) w (v, refl) w' (v', refl)
  combined-well infix_op.Equal at left right w v w' v' = equated-well s c.model cmp.Equal at left right agrees.types w v w' v'
  combined-well infix_op.Differs at left right w v w' v' = equated-well s c.model cmp.Differs at left right agrees.types w v w' v'
  combined-well infix_op.Less at left right w v w' v' = ordered-well s c.model cmp.Less at left right (type_of left) (type_of right) w (v, refl) w' (v', refl)
  combined-well infix_op.AtMost at left right w v w' v' =
      ordered-well s c.model cmp.AtMost at left right (type_of left) (type_of right) w (v, refl) w' (v', refl)
  combined-well infix_op.More at left right w v w' v' = ordered-well s c.model cmp.More at left right (type_of left) (type_of right) w (v, refl) w' (v', refl)
  combined-well infix_op.AtLeast at left right w v w' v' =
      ordered-well s c.model cmp.AtLeast at left right (type_of left) (type_of right) w (v, refl) w' (v', refl)
  combined-well infix_op.ShiftLeft at left right w v w' v' =
      shifted-well s c.model at bin.Shl left right (type_of left) (type_of right) (λ _ _ h. h) w (v, refl) w' (v', refl)
  combined-well infix_op.ShiftRight at left right w v w' v' =
      shifted-well s c.model at bin.Shr left right (type_of left) (type_of right) (λ _ _ h. h) w (v, refl) w' (v', refl)
  combined-well infix_op.Add at left right w v w' v' = added-well at left right (type_of left) (type_of right) w (v, refl) w' (v', refl)
  combined-well infix_op.Subtract at left right w v w' v' = subtracted-well at left right (type_of left) (type_of right) w (v, refl) w' (v', refl)
  combined-well infix_op.Multiply at left right w v w' v' = joined-well s c.model at bin.Mul left right (type_of left) (type_of right) w (v, refl) w' (v', refl)
  combined-well infix_op.Divide at left right w v w' v' = joined-well s c.model at bin.Div left right (type_of left) (type_of right) w (v, refl) w' (v', refl)
  combined-well infix_op.Remainder at left right w v w' v' =
      joined-well s c.model at bin.Rem left right (type_of left) (type_of right) w (v, refl) w' (v', refl)
