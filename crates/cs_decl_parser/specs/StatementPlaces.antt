-- Statements are placed if their parts are: for the contracts of the nodes. Each list of tokens begins with the statement.
use Rattle.std.specs.Prelude.{List, drop}
use Rattle.cs_ast.specs.declared.place.Place.{Place}
use Rattle.cs_ast.specs.declared.token.Token.{Token}
use Rattle.cs_ast.specs.declared.raw.expression.RawExpr.{RawExpr}
use Rattle.cs_ast.specs.declared.raw.statement.RawStmt.{RawStmt}
use Rattle.cs_ast.specs.declared.raw.statement.RawStmtKind.{RawStmtKind}
use Rattle.cs_ast.specs.declared.raw.statement.RawItem.{RawItem}
use Rattle.cs_ast.specs.declared.raw.statement.RawSwitchItem.{RawSwitchItem}
use Rattle.cs_ast.specs.RawView.{written}
use Rattle.cs_ast.specs.RawStatementView.{statement_of, item, switch_item}
use Rattle.cs_grammar.specs.FileText.{test_text, sentence_text, item_text, switch_item_text}
use Rattle.cs_grammar.specs.Places.{HasPlaces, StandsAt}
use Rattle.cs_decl_parser.specs.declared.loops.ForParts.{ForParts}
use Rattle.cs_declarator_parser.specs.DeclarationPlaces.{past, AreSideBySide, IsSomePlaced}
use Rattle.cs_decl_parser.specs.FilePlaces.{past_first, past_test, IsFirstPlaced, IsStatementPlaced, ArePartsPlaced}
use Rattle.cs_decl_parser.specs.FilePlaces.{IsItemPlaced, IsSwitchItemPlaced}

-- a statement is placed
abbrev pub HasStatementPlaces : RawStmt → List Token → Type 0
HasStatementPlaces s tokens = IsStatementPlaced s.place s.kind.value tokens

-- the items of a block, and of a `switch`
abbrev pub AreItemsBeside : List RawItem → List Token → Type 0
AreItemsBeside = AreSideBySide IsItemPlaced (λ i. item_text (item i))

abbrev pub AreSwitchItemsBeside : List RawSwitchItem → List Token → Type 0
AreSwitchItemsBeside = AreSideBySide IsSwitchItemPlaced (λ i. switch_item_text (switch_item i))

-- the parts between the parentheses of a `for`, at the first of them
abbrev pub AreForPartsPlaced : ForParts → List Token → Type 0
AreForPartsPlaced parts tokens =
    IsFirstPlaced parts.first tokens × IsSomePlaced parts.test (past_first parts.first tokens)
    × IsSomePlaced parts.last (past_test parts.test (past_first parts.first tokens))

-- a statement of a kind
abbrev pub IsMadeOf : Place → RawStmtKind → RawStmt → Type 0
IsMadeOf at kind whole = (list : List Token) → StandsAt at list → ArePartsPlaced kind list → HasStatementPlaces whole list

-- a statement with a label
abbrev pub IsLabelOf : Place → RawStmt → RawStmt → Type 0
IsLabelOf at body whole = (list : List Token) → StandsAt at list → HasStatementPlaces body (drop 2 list) → HasStatementPlaces whole list

-- a test and a body after a keyword
abbrev pub IsTestedOf : Place → RawExpr → RawStmt → RawStmt → Type 0
IsTestedOf at test body whole =
    (list : List Token) → StandsAt at list → HasPlaces test (drop 2 list) → HasStatementPlaces body (past (test_text (written test)) (drop 1 list))
    → HasStatementPlaces whole list

-- `if` with its `else`
abbrev pub IsChoiceOf : Place → RawExpr → RawStmt → RawStmt → RawStmt → Type 0
IsChoiceOf at test body other whole =
    (list : List Token) → StandsAt at list → HasPlaces test (drop 2 list) → HasStatementPlaces body (past (test_text (written test)) (drop 1 list))
    → HasStatementPlaces other (drop 1 (past (sentence_text (statement_of body)) (past (test_text (written test)) (drop 1 list))))
    → HasStatementPlaces whole list

-- `do`
abbrev pub IsDoneOf : Place → RawStmt → RawExpr → RawStmt → Type 0
IsDoneOf at body test whole =
    (list : List Token) → StandsAt at list → HasStatementPlaces body (drop 1 list)
    → HasPlaces test (drop 2 (past (sentence_text (statement_of body)) (drop 1 list))) → HasStatementPlaces whole list

-- `for`
abbrev pub IsLoopOf : Place → ForParts → RawStmt → RawStmt → Type 0
IsLoopOf at parts body whole =
    (list : List Token) → StandsAt at list → AreForPartsPlaced parts (drop 2 list)
    → HasStatementPlaces body (past_test parts.last (past_test parts.test (past_first parts.first (drop 2 list)))) → HasStatementPlaces whole list
