-- Integer types of expressions, and operators on two integers (C11 6.3.1, 6.5.5 to 6.5.7, 6.5.10 to 6.5.12).
use Rattle.std.specs.Prelude.{Bool, false, if◌then◌else◌, ◌==◌}
use Rattle.cs_types.specs.declared.data_model.DataModel.{DataModel}
use Rattle.cs_types.specs.declared.int_type.IntType.{IntType}
use Rattle.cs_types.specs.Conversions.{common_type, promoted}
use Rattle.cs_types.specs.Shape.{Shape, integer, place_of}
use Rattle.cs_ast.specs.declared.place.Place.{Place}
use Rattle.cs_ast.specs.declared.typed.operator.BinOp.{BinOp}
use Rattle.cs_ast.specs.declared.typed.operator.UnOp.{UnOp}
use Rattle.cs_ast.specs.TypedTree.{Typed, Of, Convert, Binary, Unary}
use Rattle.cs_scopes.specs.declared.refusal.TypeCode.TheVariants as code
use Rattle.cs_scopes.specs.Verdicts.{Verdict, Fine, Fault}
use Rattle.cs_folding.specs.TypedParts.{type_of}

-- the type is this integer type
abbrev pub is_integer : IntType → Shape → Bool
is_integer ty (integer other) = place_of ty == place_of other
is_integer ty other = false

-- an integer converted to a type at a position; an integer of that type isn't changed
abbrev pub in_type : Place → IntType → Typed → Typed
in_type at ty e = if is_integer ty (type_of e) then e else Of at (integer ty) (Convert e)

-- an operator between two integers, which are converted to their common type (C11 6.3.1.8)
unfoldable pub joined : DataModel → BinOp → Place → Typed → Typed → Shape → Shape → Verdict Typed
joined model op at left right (integer s) (integer t) =
    let ty = common_type model s t in
    Fine (Of at (integer ty) (Binary op (in_type at ty left) (in_type at ty right)))
joined model op at left right s t = Fault code.OperandTypes at

-- an integer shifted by another, each in its own promoted type (C11 6.5.7)
unfoldable pub shifted : DataModel → BinOp → Place → Typed → Typed → Shape → Shape → Verdict Typed
shifted model op at left right (integer s) (integer t) =
    let ty = promoted model s in
    Fine (Of at (integer ty) (Binary op (in_type at ty left) (in_type at (promoted model t) right)))
shifted model op at left right s t = Fault code.OperandTypes at

-- an integer in its promoted type (C11 6.5.3.3, paragraph 2)
unfoldable pub raised : DataModel → Place → Typed → Shape → Verdict Typed
raised model at e (integer s) = Fine (in_type at (promoted model s) e)
raised model at e s = Fault code.OperandTypes at

-- an operator on one integer in its promoted type (C11 6.5.3.3, paragraphs 3 and 4)
unfoldable pub turned : DataModel → UnOp → Place → Typed → Shape → Verdict Typed
turned model op at e (integer s) =
    let ty = promoted model s in
    Fine (Of at (integer ty) (Unary op (in_type at ty e)))
turned model op at e s = Fault code.OperandTypes at
