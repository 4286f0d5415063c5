-- The directions in which operators move pointers (C11 6.5.6).
use Rattle.cs_ast.specs.declared.typed.operator.BinOp.{BinOp}
use Rattle.cs_ast.specs.declared.typed.operator.BinOp.TheVariants.{Sub}
use Rattle.cs_ast.specs.declared.typed.operator.Direction.{Direction}
use Rattle.cs_ast.specs.declared.typed.operator.Direction.TheVariants.{Forward, Back}

-- the direction in which an operator moves a pointer to which it adds a number or from which it subtracts one
abbrev pub direction_of : BinOp → Direction
direction_of Sub = Back
direction_of other = Forward
