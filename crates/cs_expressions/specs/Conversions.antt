-- Conversions that an operator, a call or a cast requires (C11 6.3, 6.5.4, 6.5.16.1).
use Rattle.std.specs.Prelude.{◌||◌, ◌==◌, if◌then◌else◌, Option}
use Rattle.cs_types.specs.declared.data_model.DataModel.{DataModel}
use Rattle.cs_types.specs.Shape.{Shape, void, integer, pointer, struct, same_shape}
use Rattle.cs_ast.specs.declared.place.Place.{Place}
use Rattle.cs_ast.specs.TypedTree.{Typed, Of, Null, Convert}
use Rattle.cs_scopes.specs.declared.refusal.TypeCode.TheVariants as code
use Rattle.cs_scopes.specs.declared.refusal.TypeCode.{TypeCode}
use Rattle.cs_scopes.specs.Verdicts.{Verdict, Fine, Fault}
use Rattle.cs_scopes.specs.Faults.{code_in}
use Rattle.cs_folding.specs.TypedParts.{type_of}
use Rattle.cs_expressions.specs.Integers.{in_type}
use Rattle.cs_types.specs.Kinds.{is_void}
use Rattle.cs_folding.specs.Folding.{is_null}

-- the null pointer of a type
abbrev pub null_at : Place → Shape → Typed
null_at at target = Of at (pointer target) Null

-- a pointer as a pointer to another type: an equal type stays, a null pointer constant becomes the null pointer, and each converts to `void *`
unfoldable pub pointed : DataModel → Place → Typed → Shape → Shape → Verdict Typed
pointed model at e target source =
    if same_shape target source then Fine e
    else (if is_null model e then Fine (null_at at target)
    else (if is_void target then Fine (Of at (pointer void) (Convert e))
    else Fault code.PointerConversion at))

-- an integer as a pointer: only a null pointer constant can be converted
abbrev pub pointed_from_integer : DataModel → Place → Typed → Shape → Verdict Typed
pointed_from_integer model at e target = if is_null model e then Fine (null_at at target) else Fault code.PointerConversion at

-- a value converted to a type as if by assignment, at the position of what requires it (C11 6.5.16.1)
unfoldable pub converted : DataModel → Place → Typed → Shape → Shape → Verdict Typed
converted model at e (integer t) (integer s) = Fine (in_type at t e)
converted model at e (integer t) (pointer s) = Fault code.PointerConversion at
converted model at e (pointer t) (integer s) = pointed_from_integer model at e t
converted model at e (pointer t) (pointer s) = pointed model at e t s
converted model at e (struct n) (struct m) = if n == m then Fine e else Fault code.OperandTypes at
converted model at e target source = Fault code.OperandTypes at

-- the code of a value that can't be converted to a type, at the position of what requires it
abbrev pub conversion_fault : DataModel → Place → Shape → Typed → Option TypeCode
conversion_fault model at ty e = code_in (converted model at e ty (type_of e))

-- a pointer cast to a pointer type: a null pointer constant that is cast to `void *` again no longer is one (C11 6.3.2.3, paragraph 3)
unfoldable pub pointer_cast : DataModel → Place → Typed → Shape → Shape → Verdict Typed
pointer_cast model at e target source =
    if same_shape target source || is_void target then Fine (Of at (pointer target) (Convert e))
    else (if is_null model e then Fine (null_at at target)
    else Fault code.PointerConversion at)

-- a value that is cast to a type (C11 6.5.4)
unfoldable pub recast : DataModel → Place → Typed → Shape → Shape → Verdict Typed
recast model at e void source = Fine (Of at void (Convert e))
recast model at e (integer t) (integer s) = Fine (Of at (integer t) (Convert e))
recast model at e (integer t) (pointer s) = Fault code.PointerConversion at
recast model at e (pointer t) (integer s) = pointed_from_integer model at e t
recast model at e (pointer t) (pointer s) = pointer_cast model at e t s
recast model at e target source = Fault code.OperandTypes at

-- two values that an operator converts to one type
pub record Pair : Type 0 where
  pub left : Typed
  pub right : Typed

-- two pointers, converted to one type (C11 6.5.9, paragraph 5; 6.5.15, paragraph 6)
unfoldable pub pointers_met : DataModel → Place → Typed → Typed → Shape → Shape → Verdict Pair
pointers_met model at left right t s =
    if same_shape t s then Fine (record { left = left; right = right })
    else (if is_null model right then Fine (record { left = left; right = null_at at t })
    else (if is_null model left then Fine (record { left = null_at at s; right = right })
    else (if is_void t then Fine (record { left = left; right = Of at (pointer void) (Convert right) })
    else (if is_void s then Fine (record { left = Of at (pointer void) (Convert left); right = right })
    else Fault code.OperandTypes at))))
