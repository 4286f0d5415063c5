-- Two expressions that were converted to one type, without boxes.
use Rattle.cs_ast.specs.TypedView.{typed}
use Rattle.cs_expressions.specs.declared.operators.Pair.{Pair as Expressions}
use Rattle.cs_expressions.specs.Conversions.{Pair}

-- the two expressions
abbrev pub pair_of : Expressions → Pair
pair_of pair = record { left = typed pair.left; right = typed pair.right }
