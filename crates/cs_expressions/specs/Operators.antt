-- Operators on values (C11 6.5.3.3, 6.5.6, 6.5.8, 6.5.9, 6.5.13 to 6.5.15).
use Rattle.std.specs.Prelude.{Bool, true, false, ◌&&◌, ◌==◌, if◌then◌else◌, List}
use Rattle.cs_types.specs.declared.data_model.DataModel.{DataModel}
use Rattle.cs_types.specs.declared.int_type.IntType.TheVariants.{Int}
use Rattle.cs_types.specs.declared.structs.StructType.{StructType}
use Rattle.cs_types.specs.Conversions.{common_type}
use Rattle.cs_types.specs.DataModel.{difference_type_of}
use Rattle.cs_types.specs.Shape.{Shape, void, integer, pointer, struct, same_shape}
use Rattle.cs_ast.specs.declared.place.Place.{Place}
use Rattle.cs_ast.specs.declared.raw.operator.InfixOp.{InfixOp}
use Rattle.cs_ast.specs.declared.raw.operator.InfixOp.TheVariants as infix_op
use Rattle.cs_ast.specs.declared.typed.operator.BinOp.TheVariants as bin
use Rattle.cs_ast.specs.declared.typed.operator.CmpOp.{CmpOp}
use Rattle.cs_ast.specs.declared.typed.operator.CmpOp.TheVariants as cmp
use Rattle.cs_ast.specs.declared.typed.operator.Direction.{Direction}
use Rattle.cs_ast.specs.declared.typed.operator.Direction.TheVariants.{Forward, Back}
use Rattle.cs_ast.specs.declared.typed.operator.Order.{Order}
use Rattle.cs_ast.specs.declared.typed.operator.Order.TheVariants.{PointerFirst, AmountFirst}
use Rattle.cs_ast.specs.TypedTree.{Typed, Of, Form, Not, Compare, Sum, Difference, And, Or, Choice, Comma}
use Rattle.cs_scopes.specs.declared.refusal.TypeCode.TheVariants as code
use Rattle.cs_scopes.specs.Verdicts.{Verdict, Fine, Fault, lift}
use Rattle.cs_folding.specs.TypedParts.{type_of}
use Rattle.cs_expressions.specs.Integers.{in_type, joined, shifted}
use Rattle.cs_types.specs.Kinds.{is_scalar, is_complete}
use Rattle.cs_expressions.specs.Conversions.{Pair, null_at, pointers_met}
use Rattle.cs_folding.specs.Folding.{is_null}

-- a node of type `int`, as truth values have
abbrev pub int_at : Place → Form → Typed
int_at at form = Of at (integer Int) form

-- two values, converted to one type: integers to their common type, pointers as for a comparison
unfoldable pub met : DataModel → Place → Typed → Typed → Shape → Shape → Verdict Pair
met model at left right (integer s) (integer t) =
    let ty = common_type model s t in
    Fine (record { left = in_type at ty left; right = in_type at ty right })
met model at left right (pointer t) (pointer s) = pointers_met model at left right t s
met model at left right (pointer t) (integer s) =
    if is_null model right then Fine (record { left = left; right = null_at at t }) else Fault code.OperandTypes at
met model at left right (integer t) (pointer s) =
    if is_null model left then Fine (record { left = null_at at s; right = right }) else Fault code.OperandTypes at
met model at left right t s = Fault code.OperandTypes at

-- a comparison of two values of one type
abbrev pub compared_pair : CmpOp → Place → Pair → Verdict Typed
compared_pair op at pair = Fine (int_at at (Compare op pair.left pair.right))

-- `==` and `!=` (C11 6.5.9)
unfoldable pub equated : DataModel → CmpOp → Place → Typed → Typed → Verdict Typed
equated model op at left right = lift (compared_pair op at) (met model at left right (type_of left) (type_of right))

-- `<`, `<=`, `>` and `>=` (C11 6.5.8)
unfoldable pub ordered : DataModel → CmpOp → Place → Typed → Typed → Shape → Shape → Verdict Typed
ordered model op at left right (integer s) (integer t) =
    let ty = common_type model s t in
    Fine (int_at at (Compare op (in_type at ty left) (in_type at ty right)))
ordered model op at left right (pointer t) (pointer s) =
    if same_shape t s then Fine (int_at at (Compare op left right)) else Fault code.OperandTypes at
ordered model op at left right t s = Fault code.OperandTypes at

-- a pointer to elements of a type, moved by a number of them (C11 6.5.6, paragraph 8)
unfoldable pub moved : List StructType → Place → Typed → Typed → Shape → Direction → Order → Verdict Typed
moved table at e amount target direction order =
    if is_complete table target then Fine (Of at (pointer target) (Sum e amount direction order)) else Fault code.IncompleteType at

-- `+` (C11 6.5.6)
unfoldable pub added : DataModel → List StructType → Place → Typed → Typed → Shape → Shape → Verdict Typed
added model table at left right (integer s) (integer t) = joined model bin.Add at left right (integer s) (integer t)
added model table at left right (pointer t) (integer s) = moved table at left right t Forward PointerFirst
added model table at left right (integer s) (pointer t) = moved table at right left t Forward AmountFirst
added model table at left right t s = Fault code.OperandTypes at

-- the number of elements between two pointers (C11 6.5.6, paragraph 9)
unfoldable pub apart : DataModel → List StructType → Place → Typed → Typed → Shape → Shape → Verdict Typed
apart model table at left right t s =
    if same_shape t s then
    (if is_complete table t then Fine (Of at (integer (difference_type_of model)) (Difference left right)) else Fault code.IncompleteType at)
    else Fault code.OperandTypes at

-- `-` between two operands (C11 6.5.6)
unfoldable pub subtracted : DataModel → List StructType → Place → Typed → Typed → Shape → Shape → Verdict Typed
subtracted model table at left right (integer s) (integer t) = joined model bin.Sub at left right (integer s) (integer t)
subtracted model table at left right (pointer t) (integer s) = moved table at left right t Back PointerFirst
subtracted model table at left right (pointer t) (pointer s) = apart model table at left right t s
subtracted model table at left right t s = Fault code.OperandTypes at

-- a value that is tested: an integer or a pointer
unfoldable pub tested : Place → Typed → Verdict Typed
tested at e = if is_scalar (type_of e) then Fine e else Fault code.OperandTypes at

-- `!` (C11 6.5.3.3, paragraph 5)
unfoldable pub denied : Place → Typed → Verdict Typed
denied at e = if is_scalar (type_of e) then Fine (int_at at (Not e)) else Fault code.OperandTypes at

-- `&&` and `||` (C11 6.5.13, 6.5.14)
unfoldable pub both_tested : Place → Typed → Typed → Form → Verdict Typed
both_tested at left right form = if is_scalar (type_of left) && is_scalar (type_of right) then Fine (int_at at form) else Fault code.OperandTypes at

-- an operator between two values
unfoldable pub combined : DataModel → List StructType → InfixOp → Place → Typed → Typed → Verdict Typed
combined model table infix_op.Or at left right = both_tested at left right (Or left right)
combined model table infix_op.And at left right = both_tested at left right (And left right)
combined model table infix_op.BitOr at left right = joined model bin.Or at left right (type_of left) (type_of right)
combined model table infix_op.BitXor at left right = joined model bin.Xor at left right (type_of left) (type_of right)
combined model table infix_op.BitAnd at left right = joined model bin.And at left right (type_of left) (type_of right)
combined model table infix_op.Equal at left right = equated model cmp.Equal at left right
combined model table infix_op.Differs at left right = equated model cmp.Differs at left right
combined model table infix_op.Less at left right = ordered model cmp.Less at left right (type_of left) (type_of right)
combined model table infix_op.AtMost at left right = ordered model cmp.AtMost at left right (type_of left) (type_of right)
combined model table infix_op.More at left right = ordered model cmp.More at left right (type_of left) (type_of right)
combined model table infix_op.AtLeast at left right = ordered model cmp.AtLeast at left right (type_of left) (type_of right)
combined model table infix_op.ShiftLeft at left right = shifted model bin.Shl at left right (type_of left) (type_of right)
combined model table infix_op.ShiftRight at left right = shifted model bin.Shr at left right (type_of left) (type_of right)
combined model table infix_op.Add at left right = added model table at left right (type_of left) (type_of right)
combined model table infix_op.Subtract at left right = subtracted model table at left right (type_of left) (type_of right)
combined model table infix_op.Multiply at left right = joined model bin.Mul at left right (type_of left) (type_of right)
combined model table infix_op.Divide at left right = joined model bin.Div at left right (type_of left) (type_of right)
combined model table infix_op.Remainder at left right = joined model bin.Rem at left right (type_of left) (type_of right)

-- a choice between two values of one type
abbrev pub chosen_pair : Place → Typed → Pair → Verdict Typed
chosen_pair at test pair = Fine (Of at (type_of pair.left) (Choice test pair.left pair.right))

-- `?:` takes values of these types without conversion: both are `void`, or the same struct
abbrev pub alike : Shape → Shape → Bool
alike void void = true
alike (struct n) (struct m) = n == m
alike t s = false

-- `?:` of two values (C11 6.5.15)
unfoldable pub chosen : DataModel → Place → Typed → Typed → Typed → Shape → Shape → Verdict Typed
chosen model at test one other t s =
    if alike t s then Fine (Of at t (Choice test one other)) else lift (chosen_pair at test) (met model at one other t s)

-- `,` of two values (C11 6.5.17)
abbrev pub followed : Place → Typed → Typed → Verdict Typed
followed at first second = Fine (Of at (type_of second) (Comma first second))
