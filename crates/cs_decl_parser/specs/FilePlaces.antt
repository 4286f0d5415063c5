-- Statements and external declarations are placed: their nodes have the positions of their tokens. The tokens of each definition
-- begin with those of the tree.
use Rattle.std.specs.Prelude.{List, drop, Option}
use Rattle.std.specs.Option.{option_map}
use Rattle.cs_ast.specs.declared.place.Place.{Place}
use Rattle.cs_ast.specs.declared.token.Token.{Token}
use Rattle.cs_ast.specs.declared.raw.expression.RawExpr.{RawExpr}
use Rattle.cs_ast.specs.declared.raw.declaration.RawFunction.{RawFunction}
use Rattle.cs_ast.specs.declared.raw.statement.RawStmtKind as kinds
use Rattle.cs_ast.specs.declared.raw.statement.RawStmtKind.{RawStmtKind}
use Rattle.cs_ast.specs.declared.raw.statement.RawStmtKind.TheVariants as kind
use Rattle.cs_ast.specs.declared.raw.statement.RawItem.{RawItem}
use Rattle.cs_ast.specs.declared.raw.statement.RawItem as items
use Rattle.cs_ast.specs.declared.raw.statement.RawSwitchItem as switches
use Rattle.cs_ast.specs.declared.raw.statement.RawFirst.{RawFirst}
use Rattle.cs_ast.specs.declared.raw.statement.RawFirst.TheVariants as first_part
use Rattle.cs_ast.specs.declared.raw.external.RawBody.{RawBody}
use Rattle.cs_ast.specs.declared.raw.external.RawExternalKind.{RawExternalKind}
use Rattle.cs_ast.specs.declared.raw.external.RawExternalKind.TheVariants as external_kind
use Rattle.cs_ast.specs.declared.raw.external.RawExternal.{RawExternal}
use Rattle.cs_ast.specs.RawView.{written}
use Rattle.cs_ast.specs.RawDeclarationView.{specs, head}
use Rattle.cs_ast.specs.RawStatementView.{first_of, sentence, item, switch_item, items_list, external}
use Rattle.cs_grammar.specs.Text.{pointers_text}
use Rattle.cs_grammar.specs.FileText.{specs_text, head_text}
use Rattle.cs_grammar.specs.FileText.{some_text, first_text, test_text, sentence_text, item_text, items_text, switch_item_text, external_text}
use Rattle.cs_grammar.specs.Places.{HasPlaces, StandsAt}
use Rattle.cs_declarator_parser.specs.DeclarationPlaces.{past, AreSideBySide, IsSomePlaced, AreDeclaratorsPlaced, HasSpecPlaces, IsDeclarationPlaced}
use Rattle.cs_declarator_parser.specs.DeclarationPlaces.{AreParametersPlaced}

-- a function's declarator has the position of its name
abbrev pub IsHeadPlaced : RawFunction → List Token → Type 0
IsHeadPlaced f tokens =
    StandsAt f.place (past (pointers_text f.pointers.items) tokens) × AreParametersPlaced f.parameters (drop 2 (past (pointers_text f.pointers.items) tokens))

-- the first part of a `for`
abbrev pub IsFirstPlaced : RawFirst → List Token → Type 0
IsFirstPlaced first_part.Empty tokens = Unit {0}
IsFirstPlaced (first_part.Run e) tokens = HasPlaces e tokens
IsFirstPlaced (first_part.Declare s objects) tokens = IsDeclarationPlaced s objects.items tokens

-- the tokens after the first part of a `for`, its test and its semicolon
abbrev pub past_first : RawFirst → List Token → List Token
past_first first tokens = past (first_text (first_of first)) tokens

abbrev pub past_test : Option RawExpr → List Token → List Token
past_test test tokens = drop 1 (past (some_text (option_map written test)) tokens)

abbrev mutual
  -- the parts of a statement
  pub ArePartsPlaced : RawStmtKind → List Token → Type 0
  ArePartsPlaced (kind.Block' shape row) tokens = AreItemsPlaced row (drop 1 tokens)
  ArePartsPlaced kind.Empty tokens = Unit {0}
  ArePartsPlaced (kind.Run e) tokens = HasPlaces e tokens
  ArePartsPlaced (kind.If' test place p body) tokens =
      HasPlaces test (drop 2 tokens)
      × (StandsAt place (past (test_text (written test)) (drop 1 tokens)) × ArePartsPlaced body (past (test_text (written test)) (drop 1 tokens)))
  ArePartsPlaced (kind.IfElse' test place p body place' q other) tokens =
      HasPlaces test (drop 2 tokens)
      × (StandsAt place (past (test_text (written test)) (drop 1 tokens)) × ArePartsPlaced body (past (test_text (written test)) (drop 1 tokens)))
      × (StandsAt place' (drop 1 (past (sentence_text (sentence body)) (past (test_text (written test)) (drop 1 tokens))))
      × ArePartsPlaced other (drop 1 (past (sentence_text (sentence body)) (past (test_text (written test)) (drop 1 tokens)))))
  ArePartsPlaced (kind.While' test place p body) tokens =
      HasPlaces test (drop 2 tokens)
      × (StandsAt place (past (test_text (written test)) (drop 1 tokens)) × ArePartsPlaced body (past (test_text (written test)) (drop 1 tokens)))
  ArePartsPlaced (kind.Do' place p body test) tokens =
      (StandsAt place (drop 1 tokens) × ArePartsPlaced body (drop 1 tokens)) × HasPlaces test (drop 2 (past (sentence_text (sentence body)) (drop 1 tokens)))
  ArePartsPlaced (kind.For' first test last place p body) tokens =
      IsFirstPlaced first (drop 2 tokens) × IsSomePlaced test (past_first first (drop 2 tokens))
      × IsSomePlaced last (past_test test (past_first first (drop 2 tokens)))
      × (StandsAt place (past_test last (past_test test (past_first first (drop 2 tokens))))
      × ArePartsPlaced body (past_test last (past_test test (past_first first (drop 2 tokens)))))
  ArePartsPlaced (kind.Switch' value shape row) tokens =
      HasPlaces value (drop 2 tokens) × AreSwitchItemsPlaced row (drop 1 (past (test_text (written value)) (drop 1 tokens)))
  ArePartsPlaced (kind.Goto label) tokens = Unit {0}
  ArePartsPlaced kind.Continue tokens = Unit {0}
  ArePartsPlaced kind.Break tokens = Unit {0}
  ArePartsPlaced (kind.Return value) tokens = IsSomePlaced value (drop 1 tokens)
  ArePartsPlaced (kind.Label' name place p body) tokens = (StandsAt place (drop 2 tokens) × ArePartsPlaced body (drop 2 tokens))

  -- an item of a block
  pub IsItemPlaced : RawItem → List Token → Type 0
  IsItemPlaced (items.TheVariants.Declare s objects) tokens = IsDeclarationPlaced s objects.items tokens
  IsItemPlaced (items.TheVariants.Run' place p body) tokens = (StandsAt place tokens × ArePartsPlaced body tokens)

  pub AreItemsPlaced : {n : _} → kinds.Row_of-RawItem n → List Token → Type 0
  AreItemsPlaced kinds.end_of-RawItem tokens = Unit {0}
  AreItemsPlaced (kinds.more_of-RawItem first others) tokens = IsItemPlaced first tokens × AreItemsPlaced others (past (item_text (item first)) tokens)

  -- an item of a `switch`
  pub IsSwitchItemPlaced : switches.RawSwitchItem → List Token → Type 0
  IsSwitchItemPlaced (switches.TheVariants.Case at value) tokens = StandsAt at tokens × HasPlaces value (drop 1 tokens)
  IsSwitchItemPlaced (switches.TheVariants.Default at) tokens = StandsAt at tokens
  IsSwitchItemPlaced (switches.TheVariants.Item i) tokens = IsItemPlaced i tokens

  pub AreSwitchItemsPlaced : {n : _} → kinds.Row_of-RawSwitchItem n → List Token → Type 0
  AreSwitchItemsPlaced kinds.end_of-RawSwitchItem tokens = Unit {0}
  AreSwitchItemsPlaced (kinds.more_of-RawSwitchItem first others) tokens =
      IsSwitchItemPlaced first tokens × AreSwitchItemsPlaced others (past (switch_item_text (switch_item first)) tokens)

-- a statement has the position of its first token
abbrev pub IsStatementPlaced : Place → RawStmtKind → List Token → Type 0
IsStatementPlaced at statement tokens = StandsAt at tokens × ArePartsPlaced statement tokens

-- the body of a function has the positions of both braces
pub record IsBodyPlaced (body : RawBody) (tokens : List Token) : Type 0 where
  pub opening : StandsAt body.opening tokens
  pub inside : AreSideBySide IsItemPlaced (λ i. item_text (item i)) body.items.items (drop 1 tokens)
  pub closing : StandsAt body.closing (past (items_text (items_list body.items.items)) (drop 1 tokens))

-- an external declaration, except for its own position
abbrev pub IsExternalInside : RawExternalKind → List Token → Type 0
IsExternalInside (external_kind.Type s) tokens = HasSpecPlaces s tokens
IsExternalInside (external_kind.Typedef s names) tokens =
    HasSpecPlaces s (drop 1 tokens) × AreDeclaratorsPlaced names.items (past (specs_text (specs s)) (drop 1 tokens))
IsExternalInside (external_kind.Objects s objects) tokens = IsDeclarationPlaced s objects.items tokens
IsExternalInside (external_kind.Function s f) tokens = HasSpecPlaces s tokens × IsHeadPlaced f (past (specs_text (specs s)) tokens)
IsExternalInside (external_kind.Definition s f body) tokens =
    HasSpecPlaces s tokens × IsHeadPlaced f (past (specs_text (specs s)) tokens)
    × IsBodyPlaced body (past (head_text (head f)) (past (specs_text (specs s)) tokens))

-- an external declaration has the position of its first token
abbrev pub IsExternalPlaced : RawExternal → List Token → Type 0
IsExternalPlaced e tokens = StandsAt e.place tokens × IsExternalInside e.kind tokens

-- the external declarations of a file are placed
abbrev pub AreFilePlaced : List RawExternal → List Token → Type 0
AreFilePlaced = AreSideBySide IsExternalPlaced (λ e. external_text (external e))
