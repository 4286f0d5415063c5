-- Written trees all of whose positions are in a set, as far as typed trees take their positions from them: those of expressions,
-- statements, declared names, braces and `=`.
use Rattle.std.specs.Prelude.{IfSome}
use Rattle.std.specs.List.{All}
use Rattle.cs_ast.specs.declared.place.Place.{Place}
use Rattle.cs_ast.specs.declared.raw.expression.RawExpr.{RawExpr}
use Rattle.cs_ast.specs.declared.raw.expression.RawExprKind.{RawExprKind, Row_of-RawExpr, end_of-RawExpr, more_of-RawExpr}
use Rattle.cs_ast.specs.declared.raw.expression.RawExprKind.TheVariants as kind
use Rattle.cs_ast.specs.declared.raw.declaration.RawInitial as first_value
use Rattle.cs_ast.specs.declared.raw.declaration.RawInitial.{RawInitial}
use Rattle.cs_ast.specs.declared.raw.declaration.RawFirstValue.{RawFirstValue}
use Rattle.cs_ast.specs.declared.raw.declaration.RawInit.{RawInit}
use Rattle.cs_ast.specs.declared.raw.statement.RawStmtKind as statements
use Rattle.cs_ast.specs.declared.raw.statement.RawStmtKind.{RawStmtKind}
use Rattle.cs_ast.specs.declared.raw.statement.RawStmtKind.TheVariants as statement
use Rattle.cs_ast.specs.declared.raw.statement.RawItem.{RawItem}
use Rattle.cs_ast.specs.declared.raw.statement.RawItem as items
use Rattle.cs_ast.specs.declared.raw.statement.RawSwitchItem as switches
use Rattle.cs_ast.specs.declared.raw.statement.RawFirst.{RawFirst}
use Rattle.cs_ast.specs.declared.raw.statement.RawFirst.TheVariants as first_part
use Rattle.cs_ast.specs.declared.raw.external.RawBody.{RawBody}
use Rattle.cs_ast.specs.declared.raw.external.RawExternalKind.{RawExternalKind}
use Rattle.cs_ast.specs.declared.raw.external.RawExternalKind.TheVariants as external
use Rattle.cs_ast.specs.declared.raw.external.RawExternal.{RawExternal}

abbrev mutual
  -- the positions of an expression at a position, and of all in it, are in this set
  pub WrittenAmong : (Place → Type 0) → Place → RawExprKind → Type 0
  WrittenAmong Is at (kind.Name name) = Is at
  WrittenAmong Is at (kind.Number constant) = Is at
  WrittenAmong Is at (kind.Character value) = Is at
  WrittenAmong Is at (kind.Text bytes) = Is at
  WrittenAmong Is at (kind.Parenthesis' place p inner) = Is at × WrittenAmong Is place inner
  WrittenAmong Is at (kind.Index' place p array place' q number) = Is at × WrittenAmong Is place array × WrittenAmong Is place' number
  WrittenAmong Is at (kind.Call' place p function shape row) = Is at × WrittenAmong Is place function × RowAmong Is row
  WrittenAmong Is at (kind.Member' place p object name) = Is at × WrittenAmong Is place object
  WrittenAmong Is at (kind.Arrow' place p pointer name) = Is at × WrittenAmong Is place pointer
  WrittenAmong Is at (kind.StepAfter' step place p object) = Is at × WrittenAmong Is place object
  WrittenAmong Is at (kind.StepBefore' step place p object) = Is at × WrittenAmong Is place object
  WrittenAmong Is at (kind.Prefix' operator place p operand) = Is at × WrittenAmong Is place operand
  WrittenAmong Is at (kind.SizeOf' place p operand) = Is at × WrittenAmong Is place operand
  WrittenAmong Is at (kind.SizeOfType' ty shape row) = Is at
  WrittenAmong Is at (kind.Cast' ty shape row place p operand) = Is at × WrittenAmong Is place operand
  WrittenAmong Is at (kind.Infix' operator place p left place' q right) = Is at × WrittenAmong Is place left × WrittenAmong Is place' right
  WrittenAmong Is at (kind.Choice' place p test place' q one place'' r other) =
      Is at × WrittenAmong Is place test × WrittenAmong Is place' one × WrittenAmong Is place'' other
  WrittenAmong Is at (kind.Assign' operator place p object place' q value) = Is at × WrittenAmong Is place object × WrittenAmong Is place' value
  WrittenAmong Is at (kind.Comma' place p first place' q second) = Is at × WrittenAmong Is place first × WrittenAmong Is place' second

  -- the same for a list of expressions
  pub RowAmong : {n : _} → (Place → Type 0) → Row_of-RawExpr n → Type 0
  RowAmong Is end_of-RawExpr = Unit {0}
  RowAmong Is (more_of-RawExpr place p first others) = WrittenAmong Is place first × RowAmong Is others

abbrev pub ExpressionAmong : (Place → Type 0) → RawExpr → Type 0
ExpressionAmong Is e = WrittenAmong Is e.place e.kind.value

abbrev mutual
  -- the values of an initializer
  pub ValuesAmong : (Place → Type 0) → RawInitial → Type 0
  ValuesAmong Is (first_value.TheVariants.Value e) = ExpressionAmong Is e
  ValuesAmong Is (first_value.TheVariants.List' shape row comma) = AllValuesAmong Is row

  pub AllValuesAmong : {n : _} → (Place → Type 0) → first_value.Row_of-RawInitial n → Type 0
  AllValuesAmong Is first_value.end_of-RawInitial = Unit {0}
  AllValuesAmong Is (first_value.more_of-RawInitial first others) = ValuesAmong Is first × AllValuesAmong Is others

-- the initializer of an object, with its `=`
pub record FirstValueAmong (Is : Place → Type 0) (v : RawFirstValue) : Type 0 where
  pub equals : Is v.place
  pub values : ValuesAmong Is v.initial

-- a declared object
pub record DeclaredAmong (Is : Place → Type 0) (d : RawInit) : Type 0 where
  pub name : Is d.declarator.place
  pub initial : IfSome d.initial (FirstValueAmong Is)

-- the first part of a `for`
abbrev pub FirstAmong : (Place → Type 0) → RawFirst → Type 0
FirstAmong Is first_part.Empty = Unit {0}
FirstAmong Is (first_part.Run e) = ExpressionAmong Is e
FirstAmong Is (first_part.Declare s objects) = All (DeclaredAmong Is) objects.items

abbrev mutual
  -- the positions of a statement at a position, and of all in it, are in this set
  pub SentenceAmong : (Place → Type 0) → Place → RawStmtKind → Type 0
  SentenceAmong Is at (statement.Block' shape row) = Is at × ItemsAmong Is row
  SentenceAmong Is at statement.Empty = Is at
  SentenceAmong Is at (statement.Run e) = Is at × ExpressionAmong Is e
  SentenceAmong Is at (statement.If' test place p body) = Is at × ExpressionAmong Is test × SentenceAmong Is place body
  SentenceAmong Is at (statement.IfElse' test place p body place' q other) =
      Is at × ExpressionAmong Is test × SentenceAmong Is place body × SentenceAmong Is place' other
  SentenceAmong Is at (statement.While' test place p body) = Is at × ExpressionAmong Is test × SentenceAmong Is place body
  SentenceAmong Is at (statement.Do' place p body test) = Is at × SentenceAmong Is place body × ExpressionAmong Is test
  SentenceAmong Is at (statement.For' first test last place p body) =
      Is at × FirstAmong Is first × IfSome test (ExpressionAmong Is) × IfSome last (ExpressionAmong Is) × SentenceAmong Is place body
  SentenceAmong Is at (statement.Switch' value shape row) = Is at × ExpressionAmong Is value × SwitchItemsAmong Is row
  SentenceAmong Is at (statement.Goto label) = Is at
  SentenceAmong Is at statement.Continue = Is at
  SentenceAmong Is at statement.Break = Is at
  SentenceAmong Is at (statement.Return value) = Is at × IfSome value (ExpressionAmong Is)
  SentenceAmong Is at (statement.Label' name place p body) = Is at × SentenceAmong Is place body

  -- an item of a block
  pub ItemAmong : (Place → Type 0) → RawItem → Type 0
  ItemAmong Is (items.TheVariants.Declare s objects) = All (DeclaredAmong Is) objects.items
  ItemAmong Is (items.TheVariants.Run' place p body) = SentenceAmong Is place body

  pub ItemsAmong : {n : _} → (Place → Type 0) → statements.Row_of-RawItem n → Type 0
  ItemsAmong Is statements.end_of-RawItem = Unit {0}
  ItemsAmong Is (statements.more_of-RawItem first others) = ItemAmong Is first × ItemsAmong Is others

  -- the items of a `switch`
  pub SwitchItemsAmong : {n : _} → (Place → Type 0) → statements.Row_of-RawSwitchItem n → Type 0
  SwitchItemsAmong Is statements.end_of-RawSwitchItem = Unit {0}
  SwitchItemsAmong Is (statements.more_of-RawSwitchItem first others) = SwitchItemAmong Is first × SwitchItemsAmong Is others

  pub SwitchItemAmong : (Place → Type 0) → switches.RawSwitchItem → Type 0
  SwitchItemAmong Is (switches.TheVariants.Case at value) = Unit {0}
  SwitchItemAmong Is (switches.TheVariants.Default at) = Unit {0}
  SwitchItemAmong Is (switches.TheVariants.Item i) = ItemAmong Is i

-- the body of a function, with its braces
pub record BodyAmong (Is : Place → Type 0) (body : RawBody) : Type 0 where
  pub opening : Is body.opening
  pub inside : All (ItemAmong Is) body.items.items
  pub closing : Is body.closing

-- a part of a file
abbrev pub ExternalKindAmong : (Place → Type 0) → RawExternalKind → Type 0
ExternalKindAmong Is (external.Type s) = Unit {0}
ExternalKindAmong Is (external.Typedef s names) = Unit {0}
ExternalKindAmong Is (external.Objects s objects) = All (DeclaredAmong Is) objects.items
ExternalKindAmong Is (external.Function s f) = Is f.place
ExternalKindAmong Is (external.Definition s f body) = Is f.place × BodyAmong Is body

abbrev pub ExternalAmong : (Place → Type 0) → RawExternal → Type 0
ExternalAmong Is e = ExternalKindAmong Is e.kind
