-- The failing positions of expressions in declarations and statements: constants, tests, values that are converted to a type.
use Rattle.std.specs.Prelude.{[], ◌++◌, List, Option, Some, None}
use Rattle.cs_types.specs.Shape.{Shape}
use Rattle.cs_ast.specs.declared.place.Place.{Place}
use Rattle.cs_ast.specs.declared.raw.expression.RawExpr.{RawExpr}
use Rattle.cs_scopes.specs.declared.context.Context.{Context}
use Rattle.cs_folding.specs.TypedParts.{type_of}
use Rattle.cs_expressions.specs.Conversions.{converted}
use Rattle.cs_expressions.specs.Integers.{raised}
use Rattle.cs_expressions.specs.Operators.{tested}
use Rattle.cs_expressions.specs.Primary.{Literals}
use Rattle.cs_consts.specs.declared.purpose.Purpose.TheVariants.{Run, Constant}
use Rattle.cs_consts.specs.Roles.{number_of_constant, operand_of}
use Rattle.cs_consts.specs.Typing.{formed, judged}
use Rattle.cs_first_faults.specs.Failures.{FailingPlace, fails}
use Rattle.cs_first_faults.specs.Expressions.{done_failures, value_failures, operand_failures, failures}

-- a constant expression (15 at the expression)
abbrev pub constant_failures : Context → RawExpr → List FailingPlace
constant_failures c e =
    done_failures c Constant (formed c Constant [] None e.place e.kind.value) (failures c Constant [] None e.place e.kind.value)
    ++ fails number_of_constant (judged c Constant [] None e)

-- an expression that must have a value, which may be assigned or converted to a type
abbrev pub value_asked_failures : Context → Literals → Option Shape → RawExpr → List FailingPlace
value_asked_failures c literals target e =
    operand_failures c Run (formed c Run literals target e.place e.kind.value) (failures c Run literals target e.place e.kind.value)

-- a value that is converted to a type: at the position of what requires it, it converts to the type (4, 9)
abbrev pub assigned_failures : Context → Literals → Place → Shape → RawExpr → List FailingPlace
assigned_failures c literals at target e =
    fails (λ v. converted c.model at v target (type_of v)) (operand_of c literals (Some target) e) ++ value_asked_failures c literals (Some target) e

-- an expression that is tested: at the keyword that tests it, an integer or a pointer (4)
abbrev pub test_failures : Context → Literals → Place → RawExpr → List FailingPlace
test_failures c literals at e = fails (tested at) (operand_of c literals None e) ++ value_asked_failures c literals None e

-- the value that controls a `switch`: at the keyword, an integer (4)
abbrev pub selector_failures : Context → Literals → Place → RawExpr → List FailingPlace
selector_failures c literals at e = fails (λ v. raised c.model at v (type_of v)) (operand_of c literals None e) ++ value_asked_failures c literals None e

-- an expression whose value is discarded
abbrev pub dropped_failures : Context → Literals → RawExpr → List FailingPlace
dropped_failures c literals e =
    value_failures c Run (formed c Run literals None e.place e.kind.value) (failures c Run literals None e.place e.kind.value)
