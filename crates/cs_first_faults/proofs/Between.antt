-- If the left operand of an operator has an error, the operator's error comes no later, whatever the right operand is.
use Rattle.std.proofs.Common.{◌≡◌, refl, Bool, true, false, if◌then◌else◌, ◌&&◌, List, Some, None}
use Rattle.cs_types.specs.declared.data_model.DataModel.{DataModel}
use Rattle.cs_types.specs.declared.structs.StructType.{StructType}
use Rattle.cs_types.specs.Kinds.{is_scalar, is_complete}
use Rattle.cs_types.specs.Shape.{Shape, void, integer, pointer, array, struct, same_shape}
use Rattle.cs_ast.specs.declared.place.Place.{Place}
use Rattle.cs_ast.specs.declared.raw.operator.InfixOp.{InfixOp}
use Rattle.cs_ast.specs.declared.raw.operator.InfixOp.TheVariants as infix_op
use Rattle.cs_ast.specs.declared.typed.operator.BinOp.{BinOp}
use Rattle.cs_ast.specs.declared.typed.operator.BinOp.TheVariants as bin
use Rattle.cs_ast.specs.declared.typed.operator.CmpOp.{CmpOp}
use Rattle.cs_ast.specs.declared.typed.operator.CmpOp.TheVariants as cmp
use Rattle.cs_ast.specs.TypedTree.{Typed, Form, And, Or}
use Rattle.cs_scopes.specs.declared.context.Context.{Context}
use Rattle.cs_scopes.specs.declared.refusal.TypeCode.TheVariants as codes
use Rattle.cs_scopes.specs.Verdicts.{Verdict, Fine, Fault, lift}
use Rattle.cs_folding.specs.TypedParts.{type_of}
use Rattle.cs_expressions.specs.Integers.{joined, shifted}
use Rattle.cs_expressions.specs.Operators.{met, compared_pair, equated, ordered, moved, added, apart, subtracted, both_tested, combined}
use Rattle.cs_expressions.specs.Places.{indexed, element}
use Rattle.cs_consts.specs.Operands.{scalar_fault, moved_fault, integer_fault, left_operand_fault}
use Rattle.cs_consts.specs.Typing.{indexed_values}
use Rattle.cs_first_faults.proofs.Firsts.{IsAt, IsLed, if_at, lift_at}
use Rattle.cs_first_faults.proofs.Operators.{IsMismatch, met-mismatch}

joined-led : (model : DataModel) (op : BinOp) (at : Place) (l r : Typed) (t s : Shape) → IsLed (integer_fault t) at (joined model op at l r t s)
unfolding joined
joined-led model op at l r (integer t) (integer s) = tt
joined-led model op at l r (integer t) void = refl
joined-led model op at l r (integer t) (pointer s) = refl
joined-led model op at l r (integer t) (array s n) = refl
joined-led model op at l r (integer t) (struct n) = refl
joined-led model op at l r void s = (refl, refl)
joined-led model op at l r (pointer t) s = (refl, refl)
joined-led model op at l r (array t n) s = (refl, refl)
joined-led model op at l r (struct n) s = (refl, refl)

shifted-led : (model : DataModel) (op : BinOp) (at : Place) (l r : Typed) (t s : Shape) → IsLed (integer_fault t) at (shifted model op at l r t s)
unfolding shifted
shifted-led model op at l r (integer t) (integer s) = tt
shifted-led model op at l r (integer t) void = refl
shifted-led model op at l r (integer t) (pointer s) = refl
shifted-led model op at l r (integer t) (array s n) = refl
shifted-led model op at l r (integer t) (struct n) = refl
shifted-led model op at l r void s = (refl, refl)
shifted-led model op at l r (pointer t) s = (refl, refl)
shifted-led model op at l r (array t n) s = (refl, refl)
shifted-led model op at l r (struct n) s = (refl, refl)

both_tested-led : (at : Place) (l r : Typed) (form : Form) → IsLed (scalar_fault (type_of l)) at (both_tested at l r form)
unfolding both_tested
both_tested-led at l r form = by_test (is_scalar (type_of l)) (is_scalar (type_of r)) _ where
  by_test : (one other : Bool) (v : Typed)
      → IsLed (if one then None else Some codes.OperandTypes) at (if one && other then Fine v else Fault codes.OperandTypes at)
  by_test true true v = tt
  by_test true false v = refl
  by_test false other v = (refl, refl)

-- a mismatch is at its position
at_mismatch : {A : Type 0} (at : Place) (v : Verdict A) → IsMismatch at v → IsAt at v
at_mismatch at (Fine value) h = tt
at_mismatch at (Fault code place) h = h.1

compared-at : (model : DataModel) (op : CmpOp) (at : Place) (l r : Typed) (t s : Shape) → IsAt at (lift (compared_pair op at) (met model at l r t s))
compared-at model op at l r t s =
    lift_at at (compared_pair op at) (met model at l r t s) (at_mismatch at (met model at l r t s) (met-mismatch model at l r t s)) (λ pair. tt)

equated-led : (model : DataModel) (op : CmpOp) (at : Place) (l r : Typed) (t s : Shape)
    → IsLed (scalar_fault t) at (lift (compared_pair op at) (met model at l r t s))
unfolding met lift
equated-led model op at l r (integer t) s = compared-at model op at l r (integer t) s
equated-led model op at l r (pointer t) s = compared-at model op at l r (pointer t) s
equated-led model op at l r void s = (refl, refl)
equated-led model op at l r (array t n) s = (refl, refl)
equated-led model op at l r (struct n) s = (refl, refl)

ordered-led : (model : DataModel) (op : CmpOp) (at : Place) (l r : Typed) (t s : Shape) → IsLed (scalar_fault t) at (ordered model op at l r t s)
unfolding ordered
ordered-led model op at l r (integer t) (integer s) = tt
ordered-led model op at l r (integer t) void = refl
ordered-led model op at l r (integer t) (pointer s) = refl
ordered-led model op at l r (integer t) (array s n) = refl
ordered-led model op at l r (integer t) (struct n) = refl
ordered-led model op at l r (pointer t) (pointer s) = if_at at (same_shape t s) _ _ tt refl
ordered-led model op at l r (pointer t) void = refl
ordered-led model op at l r (pointer t) (integer s) = refl
ordered-led model op at l r (pointer t) (array s n) = refl
ordered-led model op at l r (pointer t) (struct n) = refl
ordered-led model op at l r void s = (refl, refl)
ordered-led model op at l r (array t n) s = (refl, refl)
ordered-led model op at l r (struct n) s = (refl, refl)

-- a pointer that is moved, by whether it points to a complete type
complete-led : (at : Place) (complete : Bool) (a : Typed)
    → IsLed (if complete then None else Some codes.IncompleteType) at (if complete then Fine a else Fault codes.IncompleteType at)
complete-led at true a = tt
complete-led at false a = (refl, refl)

mismatch-led : (at : Place) (complete : Bool)
    → IsLed {A = Typed} (if complete then None else Some codes.IncompleteType) at (Fault codes.OperandTypes at)
mismatch-led at true = refl
mismatch-led at false = (refl, refl)

same-led : (at : Place) (complete same : Bool) (a : Typed)
    → IsLed (if complete then None else Some codes.IncompleteType) at
    (if same then (if complete then Fine a else Fault codes.IncompleteType at) else Fault codes.OperandTypes at)
same-led at complete true a = complete-led at complete a
same-led at complete false a = mismatch-led at complete

added-led : (model : DataModel) (table : List StructType) (at : Place) (l r : Typed) (t s : Shape)
    → IsLed (moved_fault table t) at (added model table at l r t s)
unfolding added moved joined
added-led model table at l r (integer t) (integer s) = tt
added-led model table at l r (integer t) (pointer s) = if_at at (is_complete table s) _ _ tt refl
added-led model table at l r (integer t) void = refl
added-led model table at l r (integer t) (array s n) = refl
added-led model table at l r (integer t) (struct n) = refl
added-led model table at l r (pointer t) (integer s) = complete-led at (is_complete table t) _
added-led model table at l r (pointer t) (pointer s) = mismatch-led at (is_complete table t)
added-led model table at l r (pointer t) void = mismatch-led at (is_complete table t)
added-led model table at l r (pointer t) (array s n) = mismatch-led at (is_complete table t)
added-led model table at l r (pointer t) (struct n) = mismatch-led at (is_complete table t)
added-led model table at l r void s = (refl, refl)
added-led model table at l r (array t n) s = (refl, refl)
added-led model table at l r (struct n) s = (refl, refl)

subtracted-led : (model : DataModel) (table : List StructType) (at : Place) (l r : Typed) (t s : Shape)
    → IsLed (moved_fault table t) at (subtracted model table at l r t s)
unfolding subtracted moved apart joined
subtracted-led model table at l r (integer t) (integer s) = tt
subtracted-led model table at l r (integer t) (pointer s) = refl
subtracted-led model table at l r (integer t) void = refl
subtracted-led model table at l r (integer t) (array s n) = refl
subtracted-led model table at l r (integer t) (struct n) = refl
subtracted-led model table at l r (pointer t) (integer s) = complete-led at (is_complete table t) _
subtracted-led model table at l r (pointer t) (pointer s) = same-led at (is_complete table t) (same_shape t s) _
subtracted-led model table at l r (pointer t) void = mismatch-led at (is_complete table t)
subtracted-led model table at l r (pointer t) (array s n) = mismatch-led at (is_complete table t)
subtracted-led model table at l r (pointer t) (struct n) = mismatch-led at (is_complete table t)
subtracted-led model table at l r void s = (refl, refl)
subtracted-led model table at l r (array t n) s = (refl, refl)
subtracted-led model table at l r (struct n) s = (refl, refl)

subscript-led : (table : List StructType) (at : Place) (l r : Typed) (t s : Shape) → IsLed (moved_fault table t) at (indexed table at l r t s)
unfolding indexed element
subscript-led table at l r (pointer t) (integer s) = complete-led at (is_complete table t) _
subscript-led table at l r (pointer t) (pointer s) = mismatch-led at (is_complete table t)
subscript-led table at l r (pointer t) void = mismatch-led at (is_complete table t)
subscript-led table at l r (pointer t) (array s n) = mismatch-led at (is_complete table t)
subscript-led table at l r (pointer t) (struct n) = mismatch-led at (is_complete table t)
subscript-led table at l r (integer t) (pointer s) = if_at at (is_complete table s) _ _ tt refl
subscript-led table at l r (integer t) (integer s) = refl
subscript-led table at l r (integer t) void = refl
subscript-led table at l r (integer t) (array s n) = refl
subscript-led table at l r (integer t) (struct n) = refl
subscript-led table at l r void s = (refl, refl)
subscript-led table at l r (array t n) s = (refl, refl)
subscript-led table at l r (struct n) s = (refl, refl)

pub indexed-led : (c : Context) (at : Place) (l r : Typed)
    → IsLed (left_operand_fault c.table.list infix_op.Add (type_of l)) at (indexed_values c at l r)
unfolding left_operand_fault
indexed-led c at l r = subscript-led c.table.list at l r (type_of l) (type_of r)

pub combined-led : (c : Context) (op : InfixOp) (at : Place) (l r : Typed)
    → IsLed (left_operand_fault c.table.list op (type_of l)) at (combined c.model c.table.list op at l r)
unfolding left_operand_fault combined equated
combined-led c infix_op.Or at l r = both_tested-led at l r (Or l r)
combined-led c infix_op.And at l r = both_tested-led at l r (And l r)
combined-led c infix_op.BitOr at l r = joined-led c.model bin.Or at l r (type_of l) (type_of r)
combined-led c infix_op.BitXor at l r = joined-led c.model bin.Xor at l r (type_of l) (type_of r)
combined-led c infix_op.BitAnd at l r = joined-led c.model bin.And at l r (type_of l) (type_of r)
combined-led c infix_op.Equal at l r = equated-led c.model cmp.Equal at l r (type_of l) (type_of r)
combined-led c infix_op.Differs at l r = equated-led c.model cmp.Differs at l r (type_of l) (type_of r)
combined-led c infix_op.Less at l r = ordered-led c.model cmp.Less at l r (type_of l) (type_of r)
combined-led c infix_op.AtMost at l r = ordered-led c.model cmp.AtMost at l r (type_of l) (type_of r)
combined-led c infix_op.More at l r = ordered-led c.model cmp.More at l r (type_of l) (type_of r)
combined-led c infix_op.AtLeast at l r = ordered-led c.model cmp.AtLeast at l r (type_of l) (type_of r)
combined-led c infix_op.ShiftLeft at l r = shifted-led c.model bin.Shl at l r (type_of l) (type_of r)
combined-led c infix_op.ShiftRight at l r = shifted-led c.model bin.Shr at l r (type_of l) (type_of r)
combined-led c infix_op.Add at l r = added-led c.model c.table.list at l r (type_of l) (type_of r)
combined-led c infix_op.Subtract at l r = subtracted-led c.model c.table.list at l r (type_of l) (type_of r)
combined-led c infix_op.Multiply at l r = joined-led c.model bin.Mul at l r (type_of l) (type_of r)
combined-led c infix_op.Divide at l r = joined-led c.model bin.Div at l r (type_of l) (type_of r)
combined-led c infix_op.Remainder at l r = joined-led c.model bin.Rem at l r (type_of l) (type_of r)
