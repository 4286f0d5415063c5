-- The program's typed expressions and statements as plain data.
use Rattle.std.specs.Prelude.{List, [], ◌∷◌, Option}
use Rattle.std.specs.Option.{option_map}
use Rattle.cs_types.specs.Shape.{shape_of}
use Rattle.cs_ast.specs.declared.place.Place.{Place}
use Rattle.cs_ast.specs.declared.typed.expression.Expr.{Expr}
use Rattle.cs_ast.specs.declared.typed.expression.ExprKind.{ExprKind, Row_of-Expr, end_of-Expr, more_of-Expr}
use Rattle.cs_ast.specs.declared.typed.expression.ExprKind.TheVariants as kind
use Rattle.cs_ast.specs.declared.typed.statement.Stmt.{Stmt}
use Rattle.cs_ast.specs.declared.typed.statement.StmtKind.{StmtKind, Row_of-Stmt, end_of-Stmt, more_of-Stmt}
use Rattle.cs_ast.specs.declared.typed.statement.StmtKind.TheVariants as statement_kind
use Rattle.cs_ast.specs.declared.typed.statement.Initial as initials
use Rattle.cs_ast.specs.TypedTree.{Typed, Of, Form, Number, Null, Text, Local, Global, Through, Index, Member, Arrow, Load, Address, Decay, Convert, Unary, Not}
use Rattle.cs_ast.specs.TypedTree.{Binary, Compare, Sum, Difference, And, Or, Choice, Comma, Assign, Update, Move, Call, Allocate, Free, TypedList, NoMore}
use Rattle.cs_ast.specs.TypedTree.{Further, Initial, Value, Parts, Bytes, Initials, NoPart, Part, Statement, Block, Declare, Run, If, IfElse, While, Do, For}
use Rattle.cs_ast.specs.TypedTree.{Switch, Goto, Label, Break, Continue, Return, Statements, Empty, Then}

abbrev mutual
  -- the form of an expression
  pub form : ExprKind → Form
  form (kind.Number n) = Number n
  form kind.Null = Null
  form (kind.Text n) = Text n
  form (kind.Local n) = Local n
  form (kind.Global n) = Global n
  form (kind.Through' at ty p e) = Through (Of at (shape_of ty) (form e))
  form (kind.Index' at ty p a at' ty' q n order) = Index (Of at (shape_of ty) (form a)) (Of at' (shape_of ty') (form n)) order
  form (kind.Member' at ty p e offset) = Member (Of at (shape_of ty) (form e)) offset
  form (kind.Arrow' at ty p e offset) = Arrow (Of at (shape_of ty) (form e)) offset
  form (kind.Load' at ty p e) = Load (Of at (shape_of ty) (form e))
  form (kind.Address' at ty p e) = Address (Of at (shape_of ty) (form e))
  form (kind.Decay' at ty p e) = Decay (Of at (shape_of ty) (form e))
  form (kind.Convert' at ty p e) = Convert (Of at (shape_of ty) (form e))
  form (kind.Unary' op at ty p e) = Unary op (Of at (shape_of ty) (form e))
  form (kind.Not' at ty p e) = Not (Of at (shape_of ty) (form e))
  form (kind.Binary' op at ty p a at' ty' q b) = Binary op (Of at (shape_of ty) (form a)) (Of at' (shape_of ty') (form b))
  form (kind.Compare' op at ty p a at' ty' q b) = Compare op (Of at (shape_of ty) (form a)) (Of at' (shape_of ty') (form b))
  form (kind.Sum' at ty p a at' ty' q b direction order) = Sum (Of at (shape_of ty) (form a)) (Of at' (shape_of ty') (form b)) direction order
  form (kind.Difference' at ty p a at' ty' q b) = Difference (Of at (shape_of ty) (form a)) (Of at' (shape_of ty') (form b))
  form (kind.And' at ty p a at' ty' q b) = And (Of at (shape_of ty) (form a)) (Of at' (shape_of ty') (form b))
  form (kind.Or' at ty p a at' ty' q b) = Or (Of at (shape_of ty) (form a)) (Of at' (shape_of ty') (form b))
  form (kind.Choice' at ty p a at' ty' q b at'' ty'' r c) =
      Choice (Of at (shape_of ty) (form a)) (Of at' (shape_of ty') (form b)) (Of at'' (shape_of ty'') (form c))
  form (kind.Comma' at ty p a at' ty' q b) = Comma (Of at (shape_of ty) (form a)) (Of at' (shape_of ty') (form b))
  form (kind.Assign' at ty p a at' ty' q b) = Assign (Of at (shape_of ty) (form a)) (Of at' (shape_of ty') (form b))
  form (kind.Update' op at ty p a at' ty' q b works_in gives) = Update op (Of at (shape_of ty) (form a)) (Of at' (shape_of ty') (form b)) works_in gives
  form (kind.Move' at ty p a at' ty' q b direction gives) = Move (Of at (shape_of ty) (form a)) (Of at' (shape_of ty') (form b)) direction gives
  form (kind.Call' function shape row) = Call function (typed_row row)
  form (kind.Allocate' allocator shape row element) = Allocate allocator (typed_row row) (shape_of element)
  form (kind.Free' at ty p e) = Free (Of at (shape_of ty) (form e))

  -- the expressions of a `Vec` inside a tree
  pub typed_row : {n : _} → Row_of-Expr n → TypedList
  typed_row end_of-Expr = NoMore
  typed_row (more_of-Expr at ty p k others) = Further (Of at (shape_of ty) (form k)) (typed_row others)

abbrev pub typed : Expr → Typed
typed e = Of e.place (shape_of e.ty) (form e.kind.value)

abbrev pub some_typed : Option Expr → Option Typed
some_typed e = option_map typed e

abbrev mutual
  -- an initializer
  pub initial : initials.Initial → Initial
  initial (initials.TheVariants.Value e) = Value (typed e)
  initial (initials.TheVariants.List' shape row) = Parts (initial_row row)
  initial (initials.TheVariants.Text bytes) = Bytes bytes

  -- the initializers of a `Vec` inside a tree
  pub initial_row : {n : _} → initials.Row_of-Initial n → Initials
  initial_row initials.end_of-Initial = NoPart
  initial_row (initials.more_of-Initial first others) = Part (initial first) (initial_row others)

abbrev mutual
  -- the statement of a kind at a position
  pub statement_at : Place → StmtKind → Statement
  statement_at at (statement_kind.Block' shape row) = Block at (statements_row row)
  statement_at at (statement_kind.Declare declaration first) = Declare at declaration (option_map initial first)
  statement_at at (statement_kind.Run e) = Run at (typed e)
  statement_at at (statement_kind.If' test place p body) = If at (typed test) (statement_at place body)
  statement_at at (statement_kind.IfElse' test place p body place' q other) = IfElse at (typed test) (statement_at place body) (statement_at place' other)
  statement_at at (statement_kind.While' test place p body) = While at (typed test) (statement_at place body)
  statement_at at (statement_kind.Do' place p body test) = Do at (statement_at place body) (typed test)
  statement_at at (statement_kind.For' shape row test last place p body) =
      For at (statements_row row) (some_typed test) (some_typed last) (statement_at place body)
  statement_at at (statement_kind.Switch' value cases shape row) = Switch at (typed value) cases.items (statements_row row)
  statement_at at (statement_kind.Goto label) = Goto at label
  statement_at at (statement_kind.Label' label place p body) = Label at label (statement_at place body)
  statement_at at statement_kind.Break = Break at
  statement_at at statement_kind.Continue = Continue at
  statement_at at (statement_kind.Return value) = Return at (some_typed value)

  -- the statements of a `Vec` inside a tree
  pub statements_row : {n : _} → Row_of-Stmt n → Statements
  statements_row end_of-Stmt = Empty
  statements_row (more_of-Stmt place p k others) = Then (statement_at place k) (statements_row others)

abbrev pub statement : Stmt → Statement
statement s = statement_at s.place s.kind.value

-- the expressions, initializers and statements of a list
abbrev pub typed_list : List Expr → TypedList
typed_list [] = NoMore
typed_list (e ∷ others) = Further (typed e) (typed_list others)

abbrev pub initial_list : List initials.Initial → Initials
initial_list [] = NoPart
initial_list (first ∷ others) = Part (initial first) (initial_list others)

abbrev pub statement_list : List Stmt → Statements
statement_list [] = Empty
statement_list (first ∷ others) = Then (statement first) (statement_list others)
