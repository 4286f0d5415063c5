-- The program's trees of written statements and files as plain data.
use Rattle.std.specs.Prelude.{List, [], ◌∷◌, map}
use Rattle.std.specs.Option.{option_map}
use Rattle.cs_ast.specs.declared.raw.statement.RawStmt.{RawStmt}
use Rattle.cs_ast.specs.declared.raw.statement.RawStmtKind as kinds
use Rattle.cs_ast.specs.declared.raw.statement.RawStmtKind.{RawStmtKind}
use Rattle.cs_ast.specs.declared.raw.statement.RawStmtKind.TheVariants as kind
use Rattle.cs_ast.specs.declared.raw.statement.RawItem.{RawItem}
use Rattle.cs_ast.specs.declared.raw.statement.RawItem as items
use Rattle.cs_ast.specs.declared.raw.statement.RawSwitchItem as switches
use Rattle.cs_ast.specs.declared.raw.statement.RawFirst.{RawFirst}
use Rattle.cs_ast.specs.declared.raw.statement.RawFirst.TheVariants as first_part
use Rattle.cs_ast.specs.declared.raw.external.RawExternalKind.{RawExternalKind}
use Rattle.cs_ast.specs.declared.raw.external.RawExternalKind.TheVariants as external_kind
use Rattle.cs_ast.specs.declared.raw.external.RawExternal.{RawExternal}
use Rattle.cs_ast.specs.RawView.{written}
use Rattle.cs_ast.specs.RawDeclarationView.{specs, declared, declarator, head}
use Rattle.cs_ast.specs.RawStatements.{First, NoFirst, FirstRuns, FirstDeclares, Sentence, Block, Nothing, Runs, If, IfElse, While, Do, For, Switch, Goto}
use Rattle.cs_ast.specs.RawStatements.{Continue, Break, Return, Label, Item, Declares, Does, Items, NoItem, MoreItems, SwitchItem, Case, Default, Inside}
use Rattle.cs_ast.specs.RawStatements.{SwitchItems, NoSwitchItem, MoreSwitchItems, External, TypeAlone, Typedef, Objects, Function, Definition}

abbrev pub first_of : RawFirst → First
first_of first_part.Empty = NoFirst
first_of (first_part.Run e) = FirstRuns (written e)
first_of (first_part.Declare s objects) = FirstDeclares (specs s) (map declared objects.items)

abbrev mutual
  -- a written statement
  pub sentence : RawStmtKind → Sentence
  sentence (kind.Block' shape row) = Block (items_row row)
  sentence kind.Empty = Nothing
  sentence (kind.Run e) = Runs (written e)
  sentence (kind.If' test place p body) = If (written test) (sentence body)
  sentence (kind.IfElse' test place p body place' q other) = IfElse (written test) (sentence body) (sentence other)
  sentence (kind.While' test place p body) = While (written test) (sentence body)
  sentence (kind.Do' place p body test) = Do (sentence body) (written test)
  sentence (kind.For' first test last place p body) = For (first_of first) (option_map written test) (option_map written last) (sentence body)
  sentence (kind.Switch' value shape row) = Switch (written value) (switch_row row)
  sentence (kind.Goto label) = Goto label
  sentence kind.Continue = Continue
  sentence kind.Break = Break
  sentence (kind.Return value) = Return (option_map written value)
  sentence (kind.Label' name place p body) = Label name (sentence body)

  -- an item of a block
  pub item : RawItem → Item
  item (items.TheVariants.Declare s objects) = Declares (specs s) (map declared objects.items)
  item (items.TheVariants.Run' place p body) = Does (sentence body)

  -- the items of a `Vec` inside a tree
  pub items_row : {n : _} → kinds.Row_of-RawItem n → Items
  items_row kinds.end_of-RawItem = NoItem
  items_row (kinds.more_of-RawItem first others) = MoreItems (item first) (items_row others)

  -- the items of a `switch`, in a `Vec` inside a tree
  pub switch_row : {n : _} → kinds.Row_of-RawSwitchItem n → SwitchItems
  switch_row kinds.end_of-RawSwitchItem = NoSwitchItem
  switch_row (kinds.more_of-RawSwitchItem first others) = MoreSwitchItems (switch_item first) (switch_row others)

  -- an item of a `switch`
  pub switch_item : switches.RawSwitchItem → SwitchItem
  switch_item (switches.TheVariants.Case at value) = Case (written value)
  switch_item (switches.TheVariants.Default at) = Default
  switch_item (switches.TheVariants.Item i) = Inside (item i)

abbrev pub statement_of : RawStmt → Sentence
statement_of s = sentence s.kind.value

-- the items of a list
abbrev pub items_list : List RawItem → Items
items_list [] = NoItem
items_list (first ∷ others) = MoreItems (item first) (items_list others)

-- the items of a `switch`, as a list
abbrev pub switch_list : List switches.RawSwitchItem → SwitchItems
switch_list [] = NoSwitchItem
switch_list (first ∷ others) = MoreSwitchItems (switch_item first) (switch_list others)

-- an external declaration
abbrev pub external_of : RawExternalKind → External
external_of (external_kind.Type s) = TypeAlone (specs s)
external_of (external_kind.Typedef s names) = Typedef (specs s) (map declarator names.items)
external_of (external_kind.Objects s objects) = Objects (specs s) (map declared objects.items)
external_of (external_kind.Function s f) = Function (specs s) (head f)
external_of (external_kind.Definition s f body) = Definition (specs s) (head f) (items_list body.items.items)

abbrev pub external : RawExternal → External
external e = external_of e.kind
