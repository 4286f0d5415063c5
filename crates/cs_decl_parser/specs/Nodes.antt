-- The statement that a part of the parser builds from its parts.
use Rattle.std.specs.Prelude.{◌≡◌, ℕ}
use Rattle.cs_ast.specs.declared.raw.statement.RawStmt.{RawStmt}
use Rattle.cs_ast.specs.RawStatements.{Sentence}
use Rattle.cs_ast.specs.RawStatementView.{statement_of}
use Rattle.cs_declarator_parser.specs.declared.stop.Taken.{Taken}

-- what was taken is this statement, with this height, up to this token
pub record IsNode (tree : Sentence) (tall next : ℕ) (taken : Taken RawStmt) : Type 0 where
  pub tree_is : statement_of taken.tree ≡ tree
  pub height_is : taken.height ≡ tall
  pub next_is : taken.next ≡ next
