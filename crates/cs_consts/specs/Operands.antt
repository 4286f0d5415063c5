-- What an operator with two operands requires of the type of its left operand, whatever the right one is (C11 6.5.5 to 6.5.14).
use Rattle.std.specs.Prelude.{if◌then◌else◌, List, Option, Some, None}
use Rattle.cs_types.specs.declared.structs.StructType.{StructType}
use Rattle.cs_types.specs.Kinds.{is_scalar, is_complete}
use Rattle.cs_types.specs.Shape.{Shape, integer, pointer}
use Rattle.cs_ast.specs.declared.raw.operator.InfixOp.{InfixOp}
use Rattle.cs_ast.specs.declared.raw.operator.InfixOp.TheVariants as infix_op
use Rattle.cs_scopes.specs.declared.refusal.TypeCode.{TypeCode}
use Rattle.cs_scopes.specs.declared.refusal.TypeCode.TheVariants as code

-- an operator that tests or compares requires integers or pointers
abbrev pub scalar_fault : Shape → Option TypeCode
scalar_fault ty = if is_scalar ty then None else Some code.OperandTypes

-- `+` and `-` require integers or pointers to complete types
abbrev pub moved_fault : List StructType → Shape → Option TypeCode
moved_fault table (integer ty) = None
moved_fault table (pointer target) = if is_complete table target then None else Some code.IncompleteType
moved_fault table ty = Some code.OperandTypes

-- the others require integers
abbrev pub integer_fault : Shape → Option TypeCode
integer_fault (integer ty) = None
integer_fault ty = Some code.OperandTypes

unfoldable pub left_operand_fault : List StructType → InfixOp → Shape → Option TypeCode
left_operand_fault table infix_op.Or ty = scalar_fault ty
left_operand_fault table infix_op.And ty = scalar_fault ty
left_operand_fault table infix_op.Equal ty = scalar_fault ty
left_operand_fault table infix_op.Differs ty = scalar_fault ty
left_operand_fault table infix_op.Less ty = scalar_fault ty
left_operand_fault table infix_op.AtMost ty = scalar_fault ty
left_operand_fault table infix_op.More ty = scalar_fault ty
left_operand_fault table infix_op.AtLeast ty = scalar_fault ty
left_operand_fault table infix_op.Add ty = moved_fault table ty
left_operand_fault table infix_op.Subtract ty = moved_fault table ty
left_operand_fault table other ty = integer_fault ty
