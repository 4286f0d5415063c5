-- The result for each kind of statement, for the type in the code: for the cycle of statements.
use Rattle.std.proofs.Common.{◌≡◌, List, [], Option, map, sym, ap, subst, ◌∙◌, Result, Vec, Global}
use Rattle.cs_ast.specs.declared.place.Place.{Place}
use Rattle.cs_ast.specs.declared.raw.expression.RawExpr.{RawExpr}
use Rattle.cs_ast.specs.declared.raw.statement.RawItem.{RawItem}
use Rattle.cs_ast.specs.declared.raw.statement.RawStmt.{RawStmt}
use Rattle.cs_ast.specs.declared.raw.statement.RawStmtKind.{RawStmtKind}
use Rattle.cs_ast.specs.declared.raw.statement.RawStmtKind.TheVariants as raw
use Rattle.cs_ast.specs.declared.typed.expression.Expr.{Expr}
use Rattle.cs_ast.specs.declared.typed.statement.Case.{Case}
use Rattle.cs_ast.specs.declared.typed.statement.Stmt.{Stmt}
use Rattle.cs_ast.specs.declared.typed.statement.StmtKind.{StmtKind}
use Rattle.cs_ast.specs.declared.typed.statement.StmtKind.TheVariants as held
use Rattle.cs_ast.specs.TypedTree.{Block, If, IfElse, Switch, For}
use Rattle.cs_ast.specs.TypedView.{typed, some_typed, statement_at, statement, statement_list}
use Rattle.cs_ast.proofs.TypedRows.{statement_at-Block, statement_at-For, statement_at-Switch}
use Rattle.cs_scopes.specs.declared.refusal.TypeRefusal.{TypeRefusal}
use Rattle.cs_scopes.specs.Verdicts.{Fine, lift, IsRefused}
use Rattle.cs_scopes.proofs.Lifting.{lift-refused}
use Rattle.cs_scopes.proofs.Lifting.{refused_as}
use Rattle.cs_consts.proofs.SingleParts.{lift_is}
use Rattle.cs_declarations.specs.Answered.{AnswersWith}
use Rattle.cs_statements.specs.declared.inside.Inside.{Inside as HeldInside}
use Rattle.cs_statements.specs.Locals.{Inside}
use Rattle.cs_statements.specs.Statements.{Where, in_a_row, part, tested_in, dropped_in, returned, run_made, if_made, if_else_made, return_made, block_typed}
use Rattle.cs_statements.specs.Statements.{statement_typed}
use Rattle.cs_statements.specs.View.{inside_of, typed_statements_of, typed_part, optional_part, statement_part, kind_part}
use Rattle.cs_statements.proofs.StatementRows.{statement_typed-Block, row-statements}
use Rattle.cs_statements.proofs.StatementsInTurn.{block_after, block-closed, if_after, else_after, if_else_after}

module _ (w : Where) (i : Inside) (at : Place) (tree : RawStmtKind) where
  -- what holds of a kind of statement holds of a tree of that kind
  pub reported_as : (k : RawStmtKind) (result : Result StmtKind TypeRefusal) (now : HeldInside) → tree ≡ k
      → AnswersWith (kind_part at) (statement_typed w i at k) result now → AnswersWith (kind_part at) (statement_typed w i at tree) result now
  reported_as k result now is h = subst (λ x. AnswersWith (kind_part at) (statement_typed w i at x) result now) (sym is) h

  module _ (items : Vec RawItem Global) (is : tree ≡ raw.Block items) where
    block_is : statement_typed w i at tree ≡ lift (block_after at) (block_typed w i items.items)
    block_is = ap (statement_typed w i at) is ∙ statement_typed-Block w i at items ∙ block-closed i at _

    pub block_refused : (r : TypeRefusal) → IsRefused (block_typed w i items.items) r → IsRefused (statement_typed w i at tree) r
    block_refused r h = refused_as r block_is (lift-refused (block_after at) (block_typed w i items.items) r h)

    pub block_reported : (list : Vec Stmt Global) (now : HeldInside) → block_typed w i items.items ≡ Fine (typed_statements_of list.items now)
        → statement_typed w i at tree ≡ Fine (kind_part at (held.Block list) now)
    block_reported list now e =
        block_is ∙ lift_is (block_after at) _ (typed_statements_of list.items now) e
        ∙ ap (λ s. part (inside_of now) s) (ap (Block at) (row-statements list.items) ∙ sym (statement_at-Block at list))

  -- an empty statement
  pub empty_reported : (list : Vec Stmt Global) → tree ≡ raw.Empty → list.items ≡ []
      → statement_typed w i at tree ≡ part i (statement_at at (held.Block list))
  empty_reported list is none = ap (statement_typed w i at) is ∙ ap (λ l. part i (Block at (statement_list l))) (sym none)
      ∙ ap (part i) (sym (statement_at-Block at list))

  module _ (value : RawExpr) (is : tree ≡ raw.Run value) where
    pub run_refused : (r : TypeRefusal) → IsRefused (dropped_in i value) r → IsRefused (statement_typed w i at tree) r
    run_refused r h = refused_as r (ap (statement_typed w i at) is) (lift-refused (run_made at) (dropped_in i value) r h)

    pub run_reported : (e : Expr) (now : HeldInside) → dropped_in i value ≡ Fine (typed_part e now)
        → statement_typed w i at tree ≡ Fine (kind_part at (held.Run e) now)
    run_reported e now h = ap (statement_typed w i at) is ∙ lift_is (run_made at) _ (typed_part e now) h

  module _ (value : Option RawExpr) (is : tree ≡ raw.Return value) where
    pub return_refused : (r : TypeRefusal) → IsRefused (returned w at i value) r → IsRefused (statement_typed w i at tree) r
    return_refused r h = refused_as r (ap (statement_typed w i at) is) (lift-refused (return_made at) (returned w at i value) r h)

    pub return_reported : (e : Option Expr) (now : HeldInside) → returned w at i value ≡ Fine (optional_part e now)
        → statement_typed w i at tree ≡ Fine (kind_part at (held.Return e) now)
    return_reported e now h = ap (statement_typed w i at) is ∙ lift_is (return_made at) _ (optional_part e now) h

  -- `if`
  module _ (test : RawExpr) (body : RawStmt) (is : tree ≡ raw.If test body) where
    pub if_test_refused : (r : TypeRefusal) → IsRefused (tested_in at i test) r → IsRefused (statement_typed w i at tree) r
    if_test_refused r h = refused_as r (ap (statement_typed w i at) is) (lift-refused (if_after w at body.place body.kind.value) (tested_in at i test) r h)

    module _ (t : Expr) (between : HeldInside) (tests : tested_in at i test ≡ Fine (typed_part t between)) where
      if_tested : statement_typed w i at tree ≡ lift (if_made at (typed t)) (statement_typed w (inside_of between) body.place body.kind.value)
      if_tested = ap (statement_typed w i at) is ∙ lift_is (if_after w at body.place body.kind.value) _ (typed_part t between) tests

      pub if_body_refused : (r : TypeRefusal) → IsRefused (statement_typed w (inside_of between) body.place body.kind.value) r
          → IsRefused (statement_typed w i at tree) r
      if_body_refused r h = refused_as r if_tested (lift-refused (if_made at (typed t)) _ r h)

      pub if_reported : (one : Stmt) (now : HeldInside) → statement_typed w (inside_of between) body.place body.kind.value ≡ Fine (statement_part one now)
          → statement_typed w i at tree ≡ Fine (kind_part at (held.If t one) now)
      if_reported one now runs = if_tested ∙ lift_is (if_made at (typed t)) _ (statement_part one now) runs

  -- `if` with `else`
  module _ (test : RawExpr) (body other : RawStmt) (is : tree ≡ raw.IfElse test body other) where
    pub else_test_refused : (r : TypeRefusal) → IsRefused (tested_in at i test) r → IsRefused (statement_typed w i at tree) r
    else_test_refused r h = refused_as r (ap (statement_typed w i at) is)
        (lift-refused (if_else_after w at body.place body.kind.value other) (tested_in at i test) r h)

    module _ (t : Expr) (between : HeldInside) (tests : tested_in at i test ≡ Fine (typed_part t between)) where
      else_tested : statement_typed w i at tree ≡ lift (else_after w at other (typed t)) (statement_typed w (inside_of between) body.place body.kind.value)
      else_tested = ap (statement_typed w i at) is ∙ lift_is (if_else_after w at body.place body.kind.value other) _ (typed_part t between) tests

      pub else_body_refused : (r : TypeRefusal) → IsRefused (statement_typed w (inside_of between) body.place body.kind.value) r
          → IsRefused (statement_typed w i at tree) r
      else_body_refused r h = refused_as r else_tested (lift-refused (else_after w at other (typed t)) _ r h)

      module _ (one : Stmt) (middle : HeldInside) (runs : statement_typed w (inside_of between) body.place body.kind.value ≡ Fine (statement_part one middle))
        where
          else_ran : statement_typed w i at tree ≡ lift (if_else_made at (typed t) (statement one))
              (statement_typed w (inside_of middle) other.place other.kind.value)
          else_ran = else_tested ∙ lift_is (else_after w at other (typed t)) _ (statement_part one middle) runs

          pub else_refused : (r : TypeRefusal) → IsRefused (statement_typed w (inside_of middle) other.place other.kind.value) r
              → IsRefused (statement_typed w i at tree) r
          else_refused r h = refused_as r else_ran (lift-refused (if_else_made at (typed t) (statement one)) _ r h)

          pub else_reported : (two : Stmt) (now : HeldInside)
              → statement_typed w (inside_of middle) other.place other.kind.value ≡ Fine (statement_part two now)
              → statement_typed w i at tree ≡ Fine (kind_part at (held.IfElse t one two) now)
          else_reported two now runs_last = else_ran ∙ lift_is (if_else_made at (typed t) (statement one)) _ (statement_part two now) runs_last

-- the parts of `for` and `switch` as they are represented
pub for_held : (at : Place) (first : Vec Stmt Global) (test last : Option Expr) (one : Stmt) (inside following : Inside) → inside ≡ following
    → part following (For at (in_a_row (map statement first.items)) (some_typed test) (some_typed last) (statement one))
    ≡ part inside (statement_at at (held.For first test last one))
for_held at first test last one inside following is =
    ap (λ x. part x (For at (in_a_row (map statement first.items)) (some_typed test) (some_typed last) (statement one))) (sym is)
    ∙ ap (part inside)
    (ap (λ ss. For at ss (some_typed test) (some_typed last) (statement one)) (row-statements first.items)
    ∙ sym (statement_at-For at first test last one))

pub switch_held : (at : Place) (value : Expr) (found : List Case) (cases : Vec Case Global) (list : Vec Stmt Global) (inside following : Inside)
    → inside ≡ following → cases.items ≡ found
    → part following (Switch at (typed value) found (in_a_row (map statement list.items))) ≡ part inside (statement_at at (held.Switch value cases list))
switch_held at value found cases list inside following is listed =
    ap (λ x. part x (Switch at (typed value) found (in_a_row (map statement list.items)))) (sym is)
    ∙ ap (part inside)
    (ap (λ ss. Switch at (typed value) found ss) (row-statements list.items)
    ∙ ap (λ (c : List Case). Switch at (typed value) c (statement_list list.items)) (sym listed)
    ∙ sym (statement_at-Switch at value cases list))
