-- Statements that contain lists of statements: for `is_integer_statement`.
use Rattle.std.proofs.Common.{◌≡◌, Bool, true, false, Option, Vec, Global, refl, sym, ap, ◌∙◌, ◌&&◌}
use Rattle.cs_ast.specs.declared.typed.expression.Expr.{Expr}
use Rattle.cs_ast.specs.declared.typed.statement.Case.{Case}
use Rattle.cs_ast.specs.declared.typed.statement.Stmt.{Stmt}
use Rattle.cs_ast.specs.declared.typed.statement.StmtKind.TheVariants as kind
use Rattle.cs_ast.specs.TypedView.{typed, some_typed, statement_at, statement, statement_list}
use Rattle.cs_ast.proofs.TypedRows.{statement_at-Block, statement_at-For, statement_at-Switch}
use Rattle.cs_integer_functions.specs.IntegerFunctions.{is_integer, is_integer_if_any, is_integer_statement, are_integer_statements}

and_true : (b : Bool) → (b && true) ≡ b
and_true true = refl
and_true false = refl

-- three equations hold together
pub three_hold : (one one' other other' third third' : Bool) → one ≡ one' → other ≡ other' → third ≡ third'
    → (one && (other && third)) ≡ (one' && (other' && third'))
three_hold one one' other other' third third' first second last = λ i. first i && (second i && last i)

module _ (s : Stmt) where
  pub of_block : (items : Vec Stmt Global) → s.kind.value ≡ kind.Block items
      → is_integer_statement (statement s) ≡ are_integer_statements (statement_list items.items)
  of_block items is = ap is_integer_statement (ap (statement_at s.place) is ∙ statement_at-Block s.place items)

  pub of_for : (first : Vec Stmt Global) (test last : Option Expr) (body : Stmt) → s.kind.value ≡ kind.For first test last body
      → is_integer_statement (statement s)
      ≡ (are_integer_statements (statement_list first.items) && (is_integer_statement (statement body)
      && (is_integer_if_any (some_typed test) && is_integer_if_any (some_typed last))))
  of_for first test last body is = ap is_integer_statement (ap (statement_at s.place) is ∙ statement_at-For s.place first test last body)

  pub of_switch : (value : Expr) (cases : Vec Case Global) (items : Vec Stmt Global) → s.kind.value ≡ kind.Switch value cases items
      → is_integer_statement (statement s) ≡ (is_integer (typed value) && (are_integer_statements (statement_list items.items) && true))
  of_switch value cases items is =
      ap is_integer_statement (ap (statement_at s.place) is ∙ statement_at-Switch s.place value cases items)
      ∙ ap (λ rest. is_integer (typed value) && rest) (sym (and_true (are_integer_statements (statement_list items.items))))
