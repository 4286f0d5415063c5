-- The punctuators of operators, of increments and decrements, and of pointers.
use Rattle.std.specs.Prelude.{◌≡◌, Option, Some, None}
use Rattle.cs_ast.specs.declared.token.Punctuator.{Punctuator}
use Rattle.cs_ast.specs.declared.token.Punctuator.TheVariants as punctuator
use Rattle.cs_ast.specs.declared.raw.operator.Step.{Step}
use Rattle.cs_ast.specs.declared.raw.operator.Step.TheVariants.{Up, Down}
use Rattle.cs_ast.specs.declared.raw.operator.PrefixOp.{PrefixOp}
use Rattle.cs_ast.specs.declared.raw.operator.PrefixOp.TheVariants as prefix
use Rattle.cs_ast.specs.declared.raw.operator.InfixOp.{InfixOp}
use Rattle.cs_ast.specs.declared.raw.operator.InfixOp.TheVariants as between
use Rattle.cs_ast.specs.declared.raw.operator.AssignOp.{AssignOp}
use Rattle.cs_ast.specs.declared.raw.operator.AssignOp.TheVariants as assign

abbrev pub step_punctuator : Step → Punctuator
step_punctuator Up = punctuator.Increment
step_punctuator Down = punctuator.Decrement

abbrev pub prefix_punctuator : PrefixOp → Punctuator
prefix_punctuator prefix.Address = punctuator.Ampersand
prefix_punctuator prefix.Through = punctuator.Star
prefix_punctuator prefix.Plus = punctuator.Plus
prefix_punctuator prefix.Minus = punctuator.Minus
prefix_punctuator prefix.Complement = punctuator.Tilde
prefix_punctuator prefix.Not = punctuator.Exclamation

abbrev pub infix_punctuator : InfixOp → Punctuator
infix_punctuator between.Or = punctuator.BarBar
infix_punctuator between.And = punctuator.AndAnd
infix_punctuator between.BitOr = punctuator.Bar
infix_punctuator between.BitXor = punctuator.Caret
infix_punctuator between.BitAnd = punctuator.Ampersand
infix_punctuator between.Equal = punctuator.EqualEqual
infix_punctuator between.Differs = punctuator.Differs
infix_punctuator between.Less = punctuator.Less
infix_punctuator between.AtMost = punctuator.AtMost
infix_punctuator between.More = punctuator.More
infix_punctuator between.AtLeast = punctuator.AtLeast
infix_punctuator between.ShiftLeft = punctuator.ShiftLeft
infix_punctuator between.ShiftRight = punctuator.ShiftRight
infix_punctuator between.Add = punctuator.Plus
infix_punctuator between.Subtract = punctuator.Minus
infix_punctuator between.Multiply = punctuator.Star
infix_punctuator between.Divide = punctuator.Slash
infix_punctuator between.Remainder = punctuator.Percent

abbrev pub assign_punctuator : AssignOp → Punctuator
assign_punctuator assign.Plain = punctuator.Equal
assign_punctuator assign.Multiply = punctuator.StarEqual
assign_punctuator assign.Divide = punctuator.SlashEqual
assign_punctuator assign.Remainder = punctuator.PercentEqual
assign_punctuator assign.Add = punctuator.PlusEqual
assign_punctuator assign.Subtract = punctuator.MinusEqual
assign_punctuator assign.ShiftLeft = punctuator.ShiftLeftEqual
assign_punctuator assign.ShiftRight = punctuator.ShiftRightEqual
assign_punctuator assign.BitAnd = punctuator.AmpersandEqual
assign_punctuator assign.BitXor = punctuator.CaretEqual
assign_punctuator assign.BitOr = punctuator.BarEqual

-- the result for a punctuator: the operator that is written with it, or none if there is none
abbrev pub IsWhatStandsFor : {Operator : Type 0} → (Operator → Punctuator) → Punctuator → Option Operator → Type 0
IsWhatStandsFor marked punctuator (Some operator) = marked operator ≡ punctuator
IsWhatStandsFor {Operator} marked punctuator None = (operator : Operator) → marked operator ≡ punctuator → ⊥
