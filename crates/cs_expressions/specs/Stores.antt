-- Operators that store (C11 6.5.2.4, 6.5.3.1, 6.5.16).
use Rattle.std.specs.Prelude.{pos, Bool, true, false, not, ◌&&◌, if◌then◌else◌, List, Option, Some, None}
use Rattle.cs_types.specs.declared.data_model.DataModel.{DataModel}
use Rattle.cs_types.specs.declared.int_type.IntType.{IntType}
use Rattle.cs_types.specs.declared.int_type.IntType.TheVariants.{Int}
use Rattle.cs_types.specs.declared.structs.StructType.{StructType}
use Rattle.cs_types.specs.Conversions.{common_type, promoted}
use Rattle.cs_types.specs.Shape.{Shape, integer, pointer}
use Rattle.cs_ast.specs.declared.place.Place.{Place}
use Rattle.cs_ast.specs.declared.raw.operator.Step.{Step}
use Rattle.cs_ast.specs.declared.raw.operator.Step.TheVariants.{Up, Down}
use Rattle.cs_ast.specs.declared.typed.operator.BinOp.{BinOp}
use Rattle.cs_ast.specs.declared.typed.operator.BinOp.TheVariants.{Add, Sub, Shl, Shr}
use Rattle.cs_ast.specs.declared.typed.operator.Gives.{Gives}
use Rattle.cs_ast.specs.declared.typed.operator.Gives.TheVariants.{New}
use Rattle.cs_ast.specs.TypedTree.{Typed, Of, Number, Assign, Update, Move}
use Rattle.cs_scopes.specs.declared.refusal.TypeCode.{TypeCode}
use Rattle.cs_scopes.specs.declared.refusal.TypeCode.TheVariants as code
use Rattle.cs_scopes.specs.Verdicts.{Verdict, Fine, Fault, lift}
use Rattle.cs_folding.specs.TypedParts.{type_of, form_of}
use Rattle.cs_expressions.specs.Integers.{in_type}
use Rattle.cs_expressions.specs.Objects.{is_object, unless_void}
use Rattle.cs_types.specs.Kinds.{is_array, is_complete}
use Rattle.cs_scopes.specs.Scalars.{has_few_scalars}
use Rattle.cs_scopes.specs.Faults.{lesser}
use Rattle.cs_scopes.specs.Moves.{direction_of}

-- an lvalue that can be stored to (C11 6.3.2.1, paragraph 1)
abbrev pub is_stored_to : Typed → Bool
is_stored_to e = is_object (form_of e) && not (is_array (type_of e))

-- the left side of `=`
unfoldable pub assignable : Place → Typed → Verdict Typed
assignable at e = unless_void e (if is_stored_to e then Fine e else Fault code.NotLvalue at)

-- what else `=` refuses in the type of its left side: it has to be complete, with so few scalars that one store writes them
unfoldable pub assigned_fault : List StructType → Shape → Option TypeCode
assigned_fault table ty =
    if not (is_complete table ty) then Some code.IncompleteType else (if has_few_scalars table ty then None else Some code.TooManyScalars)

-- `=` (C11 6.5.16.1)
abbrev pub assigned : Place → Typed → Typed → Verdict Typed
assigned at object value = Fine (Of at (type_of object) (Assign object value))

-- the operator adds or subtracts
abbrev pub is_additive : BinOp → Bool
is_additive Add = true
is_additive Sub = true
is_additive other = false

-- the operator shifts
abbrev pub is_shift : BinOp → Bool
is_shift Shl = true
is_shift Shr = true
is_shift other = false

-- an object of a type that an operator can update (C11 6.5.16.2)
unfoldable pub updatable_as : BinOp → Place → Typed → Shape → Verdict Typed
updatable_as op at e (integer ty) = Fine e
updatable_as op at e (pointer target) = if is_additive op then Fine e else Fault code.OperandTypes at
updatable_as op at e ty = Fault code.OperandTypes at

-- the object of a compound assignment, or of a step, as far as both have the same rules
unfoldable pub updatable : BinOp → Place → Typed → Verdict Typed
updatable op at e = unless_void e (if is_stored_to e then updatable_as op at e (type_of e) else Fault code.NotLvalue at)

-- what else a compound assignment or a step refuses in the type of its object: a pointer can only be moved by complete elements
unfoldable pub updated_fault : List StructType → Shape → Option TypeCode
updated_fault table (pointer target) = if is_complete table target then None else Some code.IncompleteType
updated_fault table ty = None

-- a verdict at a position that may have another fault: the least code at the position is reported
abbrev pub weighed : Place → Option TypeCode → Verdict Typed → Verdict Typed
weighed at None v = v
weighed at (Some code) (Fine e) = Fault code at
weighed at (Some code) (Fault other place) = Fault (lesser code other) at

-- a verdict on what follows a position that may have a fault: if both fail, the earlier position is reported
abbrev pub led : Place → Option TypeCode → Verdict Typed → Verdict Typed
led at None v = v
led at (Some first) (Fine e) = Fine e
led at (Some first) (Fault code place) = Fault first at

-- an object that a step can move, if the step has no other fault
abbrev pub moved_by_step : List StructType → Place → Typed → Verdict Typed
moved_by_step table at e = weighed at (updated_fault table (type_of e)) (Fine e)

-- the object of a step
unfoldable pub steppable : List StructType → BinOp → Place → Typed → Verdict Typed
steppable table op at e = lift (moved_by_step table at) (updatable op at e)

-- the type in which a compound assignment computes
abbrev pub works_in : DataModel → BinOp → IntType → IntType → IntType
works_in model op s t = if is_shift op then promoted model s else common_type model s t

-- the type to which its right operand is converted
abbrev pub taken_in : DataModel → BinOp → IntType → IntType → IntType
taken_in model op s t = if is_shift op then promoted model t else common_type model s t

-- a compound assignment (C11 6.5.16.2)
unfoldable pub updated : DataModel → BinOp → Place → Typed → Typed → Shape → Shape → Verdict Typed
updated model op at object value (integer s) (integer t) =
    Fine (Of at (integer s) (Update op object (in_type at (taken_in model op s t) value) (works_in model op s t) New))
updated model op at object value (pointer target) (integer t) = Fine (Of at (pointer target) (Move object value (direction_of op) New))
updated model op at object value s t = Fault code.OperandTypes at

-- the operator of a step
abbrev pub step_operator : Step → BinOp
step_operator Up = Add
step_operator Down = Sub

-- the number 1 in a type
abbrev pub one_in : Place → IntType → Typed
one_in at ty = Of at (integer ty) (Number (pos 1))

-- a step of an object (C11 6.5.2.4, 6.5.3.1): the 1 has the promoted type of the object
unfoldable pub stepped : DataModel → BinOp → Gives → Place → Typed → Shape → Verdict Typed
stepped model op gives at object (integer s) =
    Fine (Of at (integer s) (Update op object (one_in at (promoted model s)) (promoted model s) gives))
stepped model op gives at object (pointer target) = Fine (Of at (pointer target) (Move object (one_in at Int) (direction_of op) gives))
stepped model op gives at object ty = Fault code.OperandTypes at
