-- Written statements, and files, that have the same parts at the same positions.
use Rattle.std.specs.Prelude.{◌≡◌, List, Option, Vec}
use Rattle.std.specs.declared.alloc.Global.{Global}
use mathlib.Core.Former.{Count}
use Rattle.cs_ast.specs.declared.place.Place.{Place}
use Rattle.cs_ast.specs.declared.raw.expression.RawExpr.{RawExpr}
use Rattle.cs_ast.specs.declared.raw.declaration.RawSpecs.{RawSpecs}
use Rattle.cs_ast.specs.declared.raw.declaration.RawInit.{RawInit}
use Rattle.cs_ast.specs.declared.raw.declaration.RawDeclarator.{RawDeclarator}
use Rattle.cs_ast.specs.declared.raw.declaration.RawFunction.{RawFunction}
use Rattle.cs_ast.specs.declared.raw.statement.RawStmtKind as kinds
use Rattle.cs_ast.specs.declared.raw.statement.RawStmtKind.{RawStmtKind}
use Rattle.cs_ast.specs.declared.raw.statement.RawStmtKind.TheVariants as kind
use Rattle.cs_ast.specs.declared.raw.statement.RawItem.{RawItem}
use Rattle.cs_ast.specs.declared.raw.statement.RawItem as items
use Rattle.cs_ast.specs.declared.raw.statement.RawSwitchItem as switches
use Rattle.cs_ast.specs.declared.raw.statement.RawFirst.{RawFirst}
use Rattle.cs_ast.specs.declared.raw.statement.RawFirst.TheVariants as first_part
use Rattle.cs_ast.specs.declared.raw.external.RawBody.{RawBody}
use Rattle.cs_ast.specs.declared.raw.external.RawExternalKind.{RawExternalKind}
use Rattle.cs_ast.specs.declared.raw.external.RawExternalKind.TheVariants as external
use Rattle.cs_ast.specs.declared.raw.external.RawExternal.{RawExternal}
use Rattle.cs_one_program.specs.SameExpressions.{Pairwise, IfBoth, SameExpr}
use Rattle.cs_one_program.specs.SameDeclarations.{SameBefore, SameInit, SameDeclarator, SameFunction}

-- first parts of a `for`
pub data SameFirst : RawFirst → RawFirst → Type 0 where
  Nothing : SameFirst first_part.Empty first_part.Empty
  Ran : {e e' : RawExpr} → SameExpr e e' → SameFirst (first_part.Run e) (first_part.Run e')
  Declared : {s s' : RawSpecs} {objects objects' : Vec RawInit Global} → SameBefore s s' → Pairwise SameInit objects.items objects'.items
      → SameFirst (first_part.Declare s objects) (first_part.Declare s' objects')

mutual
  -- the kinds of two statements at one position
  pub data SameStatement : RawStmtKind → RawStmtKind → Type 0 where
    Block : {shape shape' : _} {row : _} {row' : _} → SameItems _ _ row row' → SameStatement (kind.Block' shape row) (kind.Block' shape' row')
    Empty : SameStatement kind.Empty kind.Empty
    Run : {e e' : RawExpr} → SameExpr e e' → SameStatement (kind.Run e) (kind.Run e')
    If : {test test' : RawExpr} (place : Place) {p p' : _} {body body' : RawStmtKind} → SameExpr test test' → SameStatement body body'
        → SameStatement (kind.If' test place p body) (kind.If' test' place p' body')
    IfElse : {test test' : RawExpr} (place place' : Place) {p p' q q' : _} {body body' other other' : RawStmtKind} → SameExpr test test'
        → SameStatement body body' → SameStatement other other'
        → SameStatement (kind.IfElse' test place p body place' q other) (kind.IfElse' test' place p' body' place' q' other')
    While : {test test' : RawExpr} (place : Place) {p p' : _} {body body' : RawStmtKind} → SameExpr test test' → SameStatement body body'
        → SameStatement (kind.While' test place p body) (kind.While' test' place p' body')
    Do : {test test' : RawExpr} (place : Place) {p p' : _} {body body' : RawStmtKind} → SameExpr test test' → SameStatement body body'
        → SameStatement (kind.Do' place p body test) (kind.Do' place p' body' test')
    For : {first first' : RawFirst} {test test' last last' : Option RawExpr} (place : Place) {p p' : _} {body body' : RawStmtKind}
        → SameFirst first first' → IfBoth SameExpr test test' → IfBoth SameExpr last last' → SameStatement body body'
        → SameStatement (kind.For' first test last place p body) (kind.For' first' test' last' place p' body')
    Switch : {value value' : RawExpr} {shape shape' : _} {row : _} {row' : _} → SameExpr value value' → SameSwitchItems _ _ row row'
        → SameStatement (kind.Switch' value shape row) (kind.Switch' value' shape' row')
    Goto : {label : _} → SameStatement (kind.Goto label) (kind.Goto label)
    Continue : SameStatement kind.Continue kind.Continue
    Break : SameStatement kind.Break kind.Break
    Return : {value value' : Option RawExpr} → IfBoth SameExpr value value' → SameStatement (kind.Return value) (kind.Return value')
    Label : (name : _) (place : Place) {p p' : _} {body body' : RawStmtKind} → SameStatement body body'
        → SameStatement (kind.Label' name place p body) (kind.Label' name place p' body')

  -- items of blocks
  pub data SameItem : RawItem → RawItem → Type 0 where
    Declare : {s s' : RawSpecs} {objects objects' : Vec RawInit Global} → SameBefore s s' → Pairwise SameInit objects.items objects'.items
        → SameItem (items.TheVariants.Declare s objects) (items.TheVariants.Declare s' objects')
    Does : (place : Place) {p p' : _} {body body' : RawStmtKind} → SameStatement body body'
        → SameItem (items.TheVariants.Run' place p body) (items.TheVariants.Run' place p' body')

  pub data SameItems : (n m : Count) → kinds.Row_of-RawItem n → kinds.Row_of-RawItem m → Type 0 where
    NoItem : SameItems _ _ kinds.end_of-RawItem kinds.end_of-RawItem
    MoreItems : {first first' : RawItem} {n m : Count} {others : kinds.Row_of-RawItem n} {others' : kinds.Row_of-RawItem m}
        → SameItem first first' → SameItems _ _ others others'
        → SameItems _ _ (kinds.more_of-RawItem first others) (kinds.more_of-RawItem first' others')

  -- items of a `switch`
  pub data SameSwitchItem : switches.RawSwitchItem → switches.RawSwitchItem → Type 0 where
    Case : (at : Place) {value value' : RawExpr} → SameExpr value value'
        → SameSwitchItem (switches.TheVariants.Case at value) (switches.TheVariants.Case at value')
    Default : (at : Place) → SameSwitchItem (switches.TheVariants.Default at) (switches.TheVariants.Default at)
    Inside : {i i' : RawItem} → SameItem i i' → SameSwitchItem (switches.TheVariants.Item i) (switches.TheVariants.Item i')

  pub data SameSwitchItems : (n m : Count) → kinds.Row_of-RawSwitchItem n → kinds.Row_of-RawSwitchItem m → Type 0 where
    NoSwitchItem : SameSwitchItems _ _ kinds.end_of-RawSwitchItem kinds.end_of-RawSwitchItem
    MoreSwitchItems : {first first' : switches.RawSwitchItem} {n m : Count} {others : kinds.Row_of-RawSwitchItem n}
        {others' : kinds.Row_of-RawSwitchItem m} → SameSwitchItem first first' → SameSwitchItems _ _ others others'
        → SameSwitchItems _ _ (kinds.more_of-RawSwitchItem first others) (kinds.more_of-RawSwitchItem first' others')

pub record SameBody (body other : RawBody) : Type 0 where
  pub opening : body.opening ≡ other.opening
  pub inside : Pairwise SameItem body.items.items other.items.items
  pub closing : body.closing ≡ other.closing

-- the kinds of two parts of a file at one position
pub data SameExternalKind : RawExternalKind → RawExternalKind → Type 0 where
  TypeAlone : {s s' : RawSpecs} → SameBefore s s' → SameExternalKind (external.Type s) (external.Type s')
  Typedef : {s s' : RawSpecs} {names names' : Vec RawDeclarator Global} → SameBefore s s' → Pairwise SameDeclarator names.items names'.items
      → SameExternalKind (external.Typedef s names) (external.Typedef s' names')
  Objects : {s s' : RawSpecs} {objects objects' : Vec RawInit Global} → SameBefore s s' → Pairwise SameInit objects.items objects'.items
      → SameExternalKind (external.Objects s objects) (external.Objects s' objects')
  Function : {s s' : RawSpecs} {f f' : RawFunction} → SameBefore s s' → SameFunction f f'
      → SameExternalKind (external.Function s f) (external.Function s' f')
  Definition : {s s' : RawSpecs} {f f' : RawFunction} {body body' : RawBody} → SameBefore s s' → SameFunction f f' → SameBody body body'
      → SameExternalKind (external.Definition s f body) (external.Definition s' f' body')

pub record SameExternal (e other : RawExternal) : Type 0 where
  pub at : e.place ≡ other.place
  pub is : SameExternalKind e.kind other.kind

-- files
abbrev pub SameTree : List RawExternal → List RawExternal → Type 0
SameTree = Pairwise SameExternal
