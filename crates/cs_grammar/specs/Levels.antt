-- How tightly expressions bind (C11 6.5.1 to 6.5.17): an expression of a level is allowed where one of that level or of a looser
-- one is required.
use Rattle.std.specs.Prelude.{ℕ}
use Rattle.cs_ast.specs.declared.raw.operator.InfixOp.{InfixOp}
use Rattle.cs_ast.specs.declared.raw.operator.InfixOp.TheVariants as between
use Rattle.cs_ast.specs.RawTree.{Written, Named, Numeral, Character, Literal, Enclosed, Index, Call, Member, Arrow, StepAfter, StepBefore, Prefix, SizeOf}
use Rattle.cs_ast.specs.RawTree.{SizeOfType, Cast, Infix, Choice, Assign, Comma}

-- expressions with commas
abbrev pub COMMA : ℕ
COMMA = 0

-- assignments
abbrev pub ASSIGN : ℕ
ASSIGN = 1

-- conditional expressions
abbrev pub CHOICE : ℕ
CHOICE = 2

-- the loosest infix operators
abbrev pub INFIX : ℕ
INFIX = 3

abbrev pub CAST : ℕ
CAST = 13

-- prefix operators
abbrev pub UNARY : ℕ
UNARY = 14

-- postfix operators
abbrev pub POSTFIX : ℕ
POSTFIX = 15

abbrev pub PRIMARY : ℕ
PRIMARY = 16

-- the level of an infix operator
abbrev pub infix_level : InfixOp → ℕ
infix_level between.Or = 3
infix_level between.And = 4
infix_level between.BitOr = 5
infix_level between.BitXor = 6
infix_level between.BitAnd = 7
infix_level between.Equal = 8
infix_level between.Differs = 8
infix_level between.Less = 9
infix_level between.AtMost = 9
infix_level between.More = 9
infix_level between.AtLeast = 9
infix_level between.ShiftLeft = 10
infix_level between.ShiftRight = 10
infix_level between.Add = 11
infix_level between.Subtract = 11
infix_level between.Multiply = 12
infix_level between.Divide = 12
infix_level between.Remainder = 12

-- the level of an expression
abbrev pub level_of : Written → ℕ
level_of (Named name) = PRIMARY
level_of (Numeral constant) = PRIMARY
level_of (Character value) = PRIMARY
level_of (Literal bytes) = PRIMARY
level_of (Enclosed inner) = PRIMARY
level_of (Index array number) = POSTFIX
level_of (Call function arguments) = POSTFIX
level_of (Member object name) = POSTFIX
level_of (Arrow pointer name) = POSTFIX
level_of (StepAfter step object) = POSTFIX
level_of (StepBefore step object) = UNARY
level_of (Prefix operator operand) = UNARY
level_of (SizeOf operand) = UNARY
level_of (SizeOfType words pointers bounds) = UNARY
level_of (Cast words pointers bounds operand) = CAST
level_of (Infix operator left right) = infix_level operator
level_of (Choice test one other) = CHOICE
level_of (Assign operator object value) = ASSIGN
level_of (Comma first second) = COMMA
