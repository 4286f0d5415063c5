-- Integer constant expressions, replaced by their numbers (C11 6.6).
use Rattle.std.specs.Prelude.{ℤ, true, false, Option, Some, None}
use Rattle.cs_types.specs.declared.data_model.DataModel.{DataModel}
use Rattle.cs_types.specs.declared.int_type.IntType.{IntType}
use Rattle.cs_types.specs.Shape.{Shape, integer}
use Rattle.cs_ast.specs.declared.place.Place.{Place}
use Rattle.cs_ast.specs.TypedTree.{Typed, Of, Number}
use Rattle.cs_consts.specs.declared.purpose.Purpose.{Purpose}
use Rattle.cs_consts.specs.declared.purpose.Purpose.TheVariants.{Run, Constant, Unneeded}
use Rattle.cs_scopes.specs.declared.refusal.TypeCode.TheVariants as code
use Rattle.cs_scopes.specs.Verdicts.{Verdict, Fine, Fault}
use Rattle.cs_folding.specs.Folding.{number_in}

-- the type as an integer type, if it is one
abbrev pub integer_in : Shape → Option IntType
integer_in (integer ty) = Some ty
integer_in other = None

-- an integer constant expression, replaced by its number
abbrev pub constant_at : Place → Shape → Option ℤ → Verdict Typed
constant_at at ty (Some n) = Fine (Of at ty (Number n))
constant_at at ty None = Fault code.NotConstant at

-- an expression for its purpose: in a constant it is replaced by its number
unfoldable pub finished : DataModel → Purpose → Typed → Verdict Typed
finished model Run e = Fine e
finished model Constant (Of at ty form) = constant_at at ty (number_in model true (Of at ty form))
finished model Unneeded (Of at ty form) = constant_at at ty (number_in model false (Of at ty form))
