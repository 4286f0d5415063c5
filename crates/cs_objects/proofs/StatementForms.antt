-- Statements with lists of statements, and arguments: for all functions that process statements, or count arguments.
use Rattle.std.proofs.Common.{◌≡◌, ℕ, ◌+◌, Option, List, [], ◌∷◌, length, Vec, Global, refl, ap, ◌∙◌, arith}
use Rattle.cs_ast.specs.declared.typed.expression.Expr.{Expr}
use Rattle.cs_ast.specs.declared.typed.statement.Case.{Case}
use Rattle.cs_ast.specs.declared.typed.statement.Stmt.{Stmt}
use Rattle.cs_ast.specs.declared.typed.statement.StmtKind.TheVariants as kind
use Rattle.cs_ast.specs.TypedTree.{Block, For, Switch}
use Rattle.cs_ast.specs.TypedView.{typed, typed_list, some_typed, statement_at, statement, statement_list}
use Rattle.cs_meaning.specs.Expressions.{count_all}
use Rattle.cs_ast.proofs.TypedRows.{statement_at-Block, statement_at-For, statement_at-Switch}

module _ (s : Stmt) where
  pub block_is : (items : Vec Stmt Global) → s.kind.value ≡ kind.Block items → statement s ≡ Block s.place (statement_list items.items)
  block_is items is = ap (statement_at s.place) is ∙ statement_at-Block s.place items

  pub for_is : (first : Vec Stmt Global) (test last : Option Expr) (body : Stmt) → s.kind.value ≡ kind.For first test last body
      → statement s ≡ For s.place (statement_list first.items) (some_typed test) (some_typed last) (statement body)
  for_is first test last body is = ap (statement_at s.place) is ∙ statement_at-For s.place first test last body

  pub switch_is : (value : Expr) (cases : Vec Case Global) (items : Vec Stmt Global) → s.kind.value ≡ kind.Switch value cases items
      → statement s ≡ Switch s.place (typed value) cases.items (statement_list items.items)
  switch_is value cases items is = ap (statement_at s.place) is ∙ statement_at-Switch s.place value cases items

-- the count of a list is its length
pub count_all-list : (es : List Expr) → count_all (typed_list es) ≡ length es
count_all-list [] = refl
count_all-list (e ∷ es) = ap (λ (n : ℕ). n + 1) (count_all-list es) ∙ omega arith

pub ruleset counted = (count_all-list)
