-- What the typing of declarations and statements requires of expressions.
use Rattle.std.specs.Prelude.{ℤ, Option, Some, None, []}
use Rattle.cs_types.specs.declared.int_type.IntType.{IntType}
use Rattle.cs_types.specs.Shape.{Shape, integer}
use Rattle.cs_ast.specs.declared.place.Place.{Place}
use Rattle.cs_ast.specs.declared.raw.expression.RawExpr.{RawExpr}
use Rattle.cs_ast.specs.TypedTree.{Typed, Of, Number}
use Rattle.cs_scopes.specs.declared.context.Context.{Context}
use Rattle.cs_consts.specs.declared.purpose.Purpose.TheVariants.{Run, Constant}
use Rattle.cs_scopes.specs.declared.refusal.TypeCode.{TypeCode}
use Rattle.cs_scopes.specs.declared.refusal.TypeCode.TheVariants as code
use Rattle.cs_scopes.specs.Faults.{code_in}
use Rattle.cs_scopes.specs.Verdicts.{Verdict, Fine, Fault, lift}
use Rattle.cs_folding.specs.TypedParts.{type_of}
use Rattle.cs_expressions.specs.Integers.{raised}
use Rattle.cs_expressions.specs.Conversions.{converted}
use Rattle.cs_expressions.specs.Operators.{tested}
use Rattle.cs_expressions.specs.Primary.{Literals}
use Rattle.cs_consts.specs.Typing.{formed, judged, operand_in, value_in}

-- the number of a constant, and its type
abbrev pub number_of_constant : Typed → Verdict (IntType × ℤ)
number_of_constant (Of at (integer ty) (Number n)) = Fine (ty, n)
number_of_constant (Of at ty form) = Fault code.NotConstant at

-- the type and the number of a constant expression (C11 6.6)
unfoldable pub value_of : Context → RawExpr → Verdict (IntType × ℤ)
value_of c e = lift number_of_constant (judged c Constant [] None e)

-- an expression that must have a value, which may be assigned or converted to a type
unfoldable pub operand_of : Context → Literals → Option Shape → RawExpr → Verdict Typed
operand_of c literals target e = operand_in c Run (formed c Run literals target e.place e.kind.value)

-- an expression whose value is converted to a type as if by assignment (C11 6.7.9, paragraph 11; 6.8.6.4, paragraph 3)
unfoldable pub assigned_value : Context → Literals → Place → Shape → RawExpr → Verdict Typed
assigned_value c literals at target e =
    lift (λ v. converted c.model at v target (type_of v)) (operand_in c Run (formed c Run literals (Some target) e.place e.kind.value))

-- an expression that a statement tests (C11 6.8.4.1, paragraph 1; 6.8.5, paragraph 2)
unfoldable pub test_of : Context → Literals → Place → RawExpr → Verdict Typed
test_of c literals at e = lift (tested at) (operand_in c Run (formed c Run literals None e.place e.kind.value))

-- the code with which a keyword refuses its test, if that has a type
abbrev pub testing_fault : Place → Verdict Typed → Option TypeCode
testing_fault at (Fine v) = code_in (tested at v)
testing_fault at (Fault code place) = None

-- the same for a test that comes after another part: it is decided before that part, without string literals, as its type doesn't need them
unfoldable pub test_fault : Context → Place → RawExpr → Option TypeCode
test_fault c at e = testing_fault at (operand_of c [] None e)

-- the integer that controls a `switch` (C11 6.8.4.2, paragraphs 1 and 5)
unfoldable pub selector_of : Context → Literals → Place → RawExpr → Verdict Typed
selector_of c literals at e = lift (λ v. raised c.model at v (type_of v)) (operand_in c Run (formed c Run literals None e.place e.kind.value))

-- an expression whose value, if it has one, is discarded (C11 6.8.3, paragraph 2)
unfoldable pub discarded_value : Context → Literals → RawExpr → Verdict Typed
discarded_value c literals e = value_in c Run (formed c Run literals None e.place e.kind.value)
