-- The program's trees of written expressions as plain data.
use Rattle.std.specs.Prelude.{List, [], ◌∷◌}
use Rattle.cs_ast.specs.declared.raw.expression.RawExpr.{RawExpr}
use Rattle.cs_ast.specs.declared.raw.expression.RawExprKind.{RawExprKind, Row_of-RawExpr, end_of-RawExpr, more_of-RawExpr}
use Rattle.cs_ast.specs.declared.raw.expression.RawExprKind.TheVariants as kind
use Rattle.cs_ast.specs.RawTree.{Written, WrittenList, Named, Numeral, Character, Literal, Enclosed, Index, Call, Member, Arrow, StepAfter, StepBefore, Prefix}
use Rattle.cs_ast.specs.RawTree.{SizeOf, SizeOfType, Cast, Infix, Choice, Assign, Comma, End, More}

abbrev mutual
  -- a written expression
  pub written_kind : RawExprKind → Written
  written_kind (kind.Name name) = Named name
  written_kind (kind.Number constant) = Numeral constant
  written_kind (kind.Character value) = Character value
  written_kind (kind.Text bytes) = Literal bytes
  written_kind (kind.Parenthesis' place p inner) = Enclosed (written_kind inner)
  written_kind (kind.Index' place p array place' q number) = Index (written_kind array) (written_kind number)
  written_kind (kind.Call' place p function shape row) = Call (written_kind function) (written_row row)
  written_kind (kind.Member' place p object name) = Member (written_kind object) name.name
  written_kind (kind.Arrow' place p pointer name) = Arrow (written_kind pointer) name.name
  written_kind (kind.StepAfter' step place p object) = StepAfter step (written_kind object)
  written_kind (kind.StepBefore' step place p object) = StepBefore step (written_kind object)
  written_kind (kind.Prefix' operator place p operand) = Prefix operator (written_kind operand)
  written_kind (kind.SizeOf' place p operand) = SizeOf (written_kind operand)
  written_kind (kind.SizeOfType' ty shape row) = SizeOfType ty.words.items ty.pointers.items (written_row row)
  written_kind (kind.Cast' ty shape row place p operand) = Cast ty.words.items ty.pointers.items (written_row row) (written_kind operand)
  written_kind (kind.Infix' operator place p left place' q right) = Infix operator (written_kind left) (written_kind right)
  written_kind (kind.Choice' place p test place' q one place'' r other) = Choice (written_kind test) (written_kind one) (written_kind other)
  written_kind (kind.Assign' operator place p object place' q value) = Assign operator (written_kind object) (written_kind value)
  written_kind (kind.Comma' place p first place' q second) = Comma (written_kind first) (written_kind second)

  -- the expressions of a `Vec` inside a tree
  pub written_row : {n : _} → Row_of-RawExpr n → WrittenList
  written_row end_of-RawExpr = End
  written_row (more_of-RawExpr place p kind rest) = More (written_kind kind) (written_row rest)

abbrev pub written : RawExpr → Written
written e = written_kind e.kind.value

-- the expressions of a list
abbrev pub written_list : List RawExpr → WrittenList
written_list [] = End
written_list (e ∷ rest) = More (written e) (written_list rest)
