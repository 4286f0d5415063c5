-- The results of operators on integers are well formed: the rules of the types of integers.
use Rattle.std.proofs.Common.{◌≡◌, Bool, true, false, cond, refl, sym, ◌∙◌}
use Rattle.cs_types.specs.declared.data_model.DataModel.{DataModel}
use Rattle.cs_types.specs.declared.int_type.IntType.{IntType}
use Rattle.cs_types.specs.Shape.{Shape, void, integer, pointer, array, struct, same_shape}
use Rattle.cs_types.specs.ShapeEquality.{same_shape-true}
use Rattle.cs_ast.specs.declared.place.Place.{Place}
use Rattle.cs_ast.specs.declared.typed.operator.BinOp.{BinOp}
use Rattle.cs_ast.specs.declared.typed.operator.BinOp.TheVariants.{Shl, Shr}
use Rattle.cs_ast.specs.declared.typed.operator.UnOp.{UnOp}
use Rattle.cs_ast.specs.TypedTree.{Typed, Of, Convert}
use Rattle.cs_folding.specs.TypedParts.{type_of}
use Rattle.cs_expressions.specs.Integers.{is_integer, in_type, joined, shifted, raised, turned}
use Rattle.cs_well_formed.specs.Expressions.{Setting, IsWell, IsValueOf, IsIntegerValue, IsRight}
use Rattle.cs_well_formed.proofs.Verdicts.{IfFine}

is_integer-same : (ty : IntType) (other : Shape) → is_integer ty other ≡ same_shape (integer ty) other
is_integer-same ty void = refl
is_integer-same ty (integer kind) = refl
is_integer-same ty (pointer target) = refl
is_integer-same ty (array element count) = refl
is_integer-same ty (struct number) = refl

-- a value of its operator's type can be the right operand
pub value-IsRight : (op : BinOp) (ty : IntType) (e : Typed) → IsValueOf e (integer ty) → IsRight op (integer ty) e
value-IsRight Shl ty e v = (v.0, (ty, v.1))
value-IsRight Shr ty e v = (v.0, (ty, v.1))
value-IsRight other ty e v = v

-- a value of an integer type is an integer value
pub integer-value : (e : Typed) (ty : IntType) → IsValueOf e (integer ty) → IsIntegerValue e
integer-value e ty v = (v.0, (ty, v.1))

module _ (s : Setting) where
  -- an integer converted to a type
  pub in_type-well : (at : Place) (ty : IntType) (e : Typed) → IsWell s e → IsIntegerValue e
      → IsWell s (in_type at ty e) × IsValueOf (in_type at ty e) (integer ty)
  in_type-well at ty e well v = by_test (is_integer ty (type_of e)) refl
    where
      by_test : (t : Bool) → is_integer ty (type_of e) ≡ t
          → IsWell s (cond t e (Of at (integer ty) (Convert e))) × IsValueOf (cond t e (Of at (integer ty) (Convert e))) (integer ty)
      by_test true is = (well, (v.0, sym (same_shape-true (integer ty) (type_of e) (sym (is_integer-same ty (type_of e)) ∙ is))))
      by_test false is = ((well, v.0, v.1), (refl, refl))

  module _ (model : DataModel) (at : Place) where
    pub joined-well : (op : BinOp) (left right : Typed) (t u : Shape) → IsWell s left → IsValueOf left t → IsWell s right → IsValueOf right u
        → IfFine (joined model op at left right t u) (IsWell s)
    unfolding joined
    joined-well op left right (integer t) (integer u) w v w' v' =
        let one = in_type-well at _ left w (integer-value left t v) in
        let other = in_type-well at _ right w' (integer-value right u v') in
        (one.0, other.0, (_, refl), one.1, value-IsRight op _ _ other.1)
    joined-well op left right t u w v w' v' = tt

    pub shifted-well : (op : BinOp) (left right : Typed) (t u : Shape) → ((ty : IntType) (e : Typed) → IsIntegerValue e → IsRight op (integer ty) e)
        → IsWell s left → IsValueOf left t → IsWell s right → IsValueOf right u → IfFine (shifted model op at left right t u) (IsWell s)
    unfolding shifted
    shifted-well op left right (integer t) (integer u) shifts w v w' v' =
        let one = in_type-well at _ left w (integer-value left t v) in
        let other = in_type-well at _ right w' (integer-value right u v') in
        (one.0, other.0, (_, refl), one.1, shifts _ _ (other.1.0, (_, other.1.1)))
    shifted-well op left right t u shifts w v w' v' = tt

    pub raised-well : (e : Typed) (t : Shape) → IsWell s e → IsValueOf e t → IfFine (raised model at e t) (λ r. IsWell s r × IsIntegerValue r)
    unfolding raised
    raised-well e (integer t) w v = let one = in_type-well at _ e w (integer-value e t v) in (one.0, (one.1.0, (_, one.1.1)))
    raised-well e t w v = tt

    pub turned-well : (op : UnOp) (e : Typed) (t : Shape) → IsWell s e → IsValueOf e t → IfFine (turned model op at e t) (IsWell s)
    unfolding turned
    turned-well op e (integer t) w v = let one = in_type-well at _ e w (integer-value e t v) in (one.0, (_, refl), one.1)
    turned-well op e t w v = tt
