-- The arguments, initializers and statements within typed trees as lists: for every crate that walks typed trees.
use Rattle.std.proofs.Common.{◌≡◌, Option, refl, sym, ap, ◌∙◌, Vec, Global}
use mathlib.Core.Former.{Count}
use Rattle.cs_types.specs.declared.ctype.CType.{CType}
use Rattle.cs_types.specs.Shape.{shape_of}
use Rattle.cs_ast.specs.declared.place.Place.{Place}
use Rattle.cs_ast.specs.declared.typed.operator.Allocator.{Allocator}
use Rattle.cs_ast.specs.declared.typed.expression.Expr.{Expr}
use Rattle.cs_ast.specs.declared.typed.expression.ExprKind as exprs
use Rattle.cs_ast.specs.declared.typed.expression.ExprKind.{ExprKind}
use Rattle.cs_ast.specs.declared.typed.expression.ExprKind.TheVariants as kind
use Rattle.cs_ast.specs.declared.typed.statement.Case.{Case}
use Rattle.cs_ast.specs.declared.typed.statement.Stmt.{Stmt}
use Rattle.cs_ast.specs.declared.typed.statement.StmtKind as stmts
use Rattle.cs_ast.specs.declared.typed.statement.StmtKind.{StmtKind}
use Rattle.cs_ast.specs.declared.typed.statement.StmtKind.TheVariants as statement_kind
use Rattle.cs_ast.specs.declared.typed.statement.Initial as initials
use Rattle.cs_ast.specs.TypedTree.{Of, Call, Allocate, Further, Parts, Part, Block, For, Switch, Then}
use Rattle.cs_ast.specs.TypedView.{form, typed, typed_row, typed_list, some_typed, initial, initial_row, initial_list, statement_at, statement, statements_row}
use Rattle.cs_ast.specs.TypedView.{statement_list}

pub typed-row : (n : _) (row : exprs.Row_of-Expr n) → typed_list (exprs.items-the_row-Expr n row) ≡ typed_row row
typed-row n exprs.end_of-Expr = refl
typed-row n (exprs.more_of-Expr at ty p k others) = ap (Further (Of at (shape_of ty) (form k))) (typed-row _ others)

pub initial-row : (n : _) (row : initials.Row_of-Initial n) → initial_list (initials.items-the_row-Initial n row) ≡ initial_row row
initial-row n initials.end_of-Initial = refl
initial-row n (initials.more_of-Initial first others) = ap (Part (initial first)) (initial-row _ others)

pub statements-row : (n : _) (row : stmts.Row_of-Stmt n) → statement_list (stmts.items-the_row-Stmt n row) ≡ statements_row row
statements-row n stmts.end_of-Stmt = refl
statements-row n (stmts.more_of-Stmt place p k others) = ap (Then (statement_at place k)) (statements-row _ others)

-- the arguments of a call, as a row
abbrev arguments_of : ExprKind → (n : Count) × exprs.Row_of-Expr n
arguments_of (kind.Call' function shape row) = (_, row)
arguments_of (kind.Allocate' allocator shape row element) = (_, row)
arguments_of _ = (_, exprs.end_of-Expr)

-- the initializers of a list, as a row
abbrev parts_of : initials.Initial → (n : Count) × initials.Row_of-Initial n
parts_of (initials.TheVariants.List' shape row) = (_, row)
parts_of _ = (_, initials.end_of-Initial)

-- the statements of a block, of a `switch`, or of the first part of a `for`, as a row
abbrev statements_of : StmtKind → (n : Count) × stmts.Row_of-Stmt n
statements_of (statement_kind.Block' shape row) = (_, row)
statements_of (statement_kind.For' shape row test last place p body) = (_, row)
statements_of (statement_kind.Switch' value cases shape row) = (_, row)
statements_of _ = (_, stmts.end_of-Stmt)

pub form-Call : (function : _) (arguments : Vec Expr Global) → form (kind.Call function arguments) ≡ Call function (typed_list arguments.items)
form-Call function arguments =
    let row = arguments_of (kind.Call function arguments) in
    ap (Call function) (sym (typed-row row.0 row.1) ∙ ap typed_list (exprs.items_hidden-the_row-Expr-0 arguments))

pub form-Allocate : (allocator : Allocator) (arguments : Vec Expr Global) (element : CType)
    → form (kind.Allocate allocator arguments element) ≡ Allocate allocator (typed_list arguments.items) (shape_of element)
form-Allocate allocator arguments element =
    let row = arguments_of (kind.Allocate allocator arguments element) in
    ap (λ all. Allocate allocator all (shape_of element)) (sym (typed-row row.0 row.1) ∙ ap typed_list (exprs.items_hidden-the_row-Expr-0 arguments))

pub initial-List : (parts : Vec initials.Initial Global) → initial (initials.TheVariants.List parts) ≡ Parts (initial_list parts.items)
initial-List parts =
    let row = parts_of (initials.TheVariants.List parts) in
    ap Parts (sym (initial-row row.0 row.1) ∙ ap initial_list (initials.items_hidden-the_row-Initial-0 parts))

pub statement_at-Block : (at : Place) (body : Vec Stmt Global) → statement_at at (statement_kind.Block body) ≡ Block at (statement_list body.items)
statement_at-Block at body =
    let row = statements_of (statement_kind.Block body) in
    ap (Block at) (sym (statements-row row.0 row.1) ∙ ap statement_list (stmts.items_hidden-the_row-Stmt-0 body))

pub statement_at-For : (at : Place) (first : Vec Stmt Global) (test last : Option Expr) (body : Stmt)
    → statement_at at (statement_kind.For first test last body) ≡ For at (statement_list first.items) (some_typed test) (some_typed last) (statement body)
statement_at-For at first test last body =
    let row = statements_of (statement_kind.For first test last body) in
    ap (λ all. For at all (some_typed test) (some_typed last) (statement body)) (sym (statements-row row.0 row.1)
    ∙ ap statement_list (stmts.items_hidden-the_row-Stmt-0 first))

pub statement_at-Switch : (at : Place) (value : Expr) (cases : Vec Case Global) (body : Vec Stmt Global)
    → statement_at at (statement_kind.Switch value cases body) ≡ Switch at (typed value) cases.items (statement_list body.items)
statement_at-Switch at value cases body =
    let row = statements_of (statement_kind.Switch value cases body) in
    ap (Switch at (typed value) cases.items) (sym (statements-row row.0 row.1) ∙ ap statement_list (stmts.items_hidden-the_row-Stmt-0 body))
