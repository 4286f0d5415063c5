-- Operations for which it can be computed whether their results are far outside of the ranges of their types.
use Rattle.std.specs.Prelude.{ℤ, pos, ◌≤ℤ◌, ◌<ℤ◌}
use Rattle.cs_types.specs.IntType.{IsIntegerOfC}
use Rattle.cs_ast.specs.declared.typed.operator.BinOp.{BinOp}
use Rattle.cs_ast.specs.declared.typed.operator.BinOp.TheVariants.{Shl}
use Rattle.cs_events.specs.declared.operation.Operation.{Operation}
use Rattle.cs_events.specs.declared.operation.Operation.TheVariants.{Binary, Convert}

-- a left shift is by at least 0 and fewer than 64 bits
abbrev pub IsShiftedBy : BinOp → ℤ → Type 0
IsShiftedBy Shl right = (pos 0 ≤ℤ right) × (right <ℤ pos 64)
IsShiftedBy operator right = Unit {0}

-- the operands of operators and of conversions are integers of C
abbrev pub IsComputable : Operation → Type 0
IsComputable (Binary operator ty left right) = IsIntegerOfC left × IsIntegerOfC right × IsShiftedBy operator right
IsComputable (Convert ty number) = IsIntegerOfC number
IsComputable operation = Unit {0}
