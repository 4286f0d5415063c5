-- The height of a written expression: a leaf has height 1, any other node one more than its highest child. An argument list is a
-- node of its own. A type between parentheses is no node, but its words are a part of height 1.
use Rattle.std.specs.Prelude.{ℕ, ◌+◌, max}
use Rattle.cs_ast.specs.RawTree.{Written, WrittenList, Named, Numeral, Character, Literal, Enclosed, Index, Call, Member, Arrow, StepAfter, StepBefore, Prefix}
use Rattle.cs_ast.specs.RawTree.{SizeOf, SizeOfType, Cast, Infix, Choice, Assign, Comma, End, More}

abbrev mutual
  -- the height of a written expression
  pub height : Written → ℕ
  height (Named name) = 1
  height (Numeral constant) = 1
  height (Character value) = 1
  height (Literal bytes) = 1
  height (Enclosed inner) = 1 + height inner
  height (Index array number) = 1 + max (height array) (height number)
  height (Call function arguments) = 1 + max (height function) (1 + highest arguments)
  height (Member object name) = 1 + height object
  height (Arrow pointer name) = 1 + height pointer
  height (StepAfter step object) = 1 + height object
  height (StepBefore step object) = 1 + height object
  height (Prefix operator operand) = 1 + height operand
  height (SizeOf operand) = 1 + height operand
  height (SizeOfType words pointers bounds) = 1 + max 1 (highest bounds)
  height (Cast words pointers bounds operand) = 1 + max (highest bounds) (height operand)
  height (Infix operator left right) = 1 + max (height left) (height right)
  height (Choice test one other) = 1 + max (height test) (max (height one) (height other))
  height (Assign operator object value) = 1 + max (height object) (height value)
  height (Comma first second) = 1 + max (height first) (height second)

  -- the height of the highest expression of a list, 0 if there is none
  pub highest : WrittenList → ℕ
  highest End = 0
  highest (More first others) = max (height first) (highest others)
