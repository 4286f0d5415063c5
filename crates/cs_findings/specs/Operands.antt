-- The operands of operations, and operations that differ only in their operands.
use Rattle.std.specs.Prelude.{ℤ, pos}
use Rattle.cs_events.specs.declared.operation.Operation.{Operation}
use Rattle.cs_events.specs.declared.operation.Operation.TheVariants.{Binary, Unary, Convert, Compare, Order, Product, Sum, Difference, Show}

-- the two operands of an operation; the second is 0 if it has only one
abbrev pub operands : Operation → ℤ × ℤ
operands (Binary operator ty left right) = (left, right)
operands (Unary operator ty operand) = (operand, pos 0)
operands (Convert ty number) = (number, pos 0)
operands (Compare operator left right) = (left, right)
operands (Order first second) = (first, second)
operands (Product count size) = (count, size)
operands (Sum offset amount size) = (offset, amount)
operands (Difference left right size) = (left, right)
operands (Show what) = (pos 0, pos 0)

-- the same operation with other operands
abbrev pub with_operands : Operation → ℤ × ℤ → Operation
with_operands (Binary operator ty left right) pair = Binary operator ty pair.0 pair.1
with_operands (Unary operator ty operand) pair = Unary operator ty pair.0
with_operands (Convert ty number) pair = Convert ty pair.0
with_operands (Compare operator left right) pair = Compare operator pair.0 pair.1
with_operands (Order first second) pair = Order pair.0 pair.1
with_operands (Product count size) pair = Product pair.0 pair.1
with_operands (Sum offset amount size) pair = Sum pair.0 pair.1 size
with_operands (Difference left right size) pair = Difference pair.0 pair.1 size
with_operands (Show what) pair = Show what
