-- If the positions of all tokens of a file are in a set, so are those of its tree: for `lexed_files_have_trees`.
use Rattle.std.proofs.Common.{ℕ, List, [], ◌∷◌, Option, Some, None, length, drop, sym, subst}
use Rattle.std.specs.Prelude.{IfSome}
use Rattle.std.specs.List.{All, AllByRecursion}
use Rattle.std.specs.Option.{option_map}
use Rattle.std.proofs.lemmas.List.Elements.{All-head, All-drop, All-from_recursion}
use Rattle.cs_ast.specs.declared.place.Place.{Place}
use Rattle.cs_ast.specs.declared.token.Token.{Token}
use Rattle.cs_ast.specs.declared.raw.expression.RawExpr.{RawExpr}
use Rattle.cs_ast.specs.declared.raw.expression.RawExprKind.{RawExprKind, Row_of-RawExpr, end_of-RawExpr, more_of-RawExpr}
use Rattle.cs_ast.specs.declared.raw.expression.RawExprKind.TheVariants as kind
use Rattle.cs_ast.specs.declared.raw.written_type.WrittenType.{WrittenType}
use Rattle.cs_ast.specs.declared.raw.declaration.RawSpecs.{RawSpecs}
use Rattle.cs_ast.specs.declared.raw.declaration.RawInitial as first_value
use Rattle.cs_ast.specs.declared.raw.declaration.RawInitial.{RawInitial}
use Rattle.cs_ast.specs.declared.raw.declaration.RawFirstValue.{RawFirstValue}
use Rattle.cs_ast.specs.declared.raw.declaration.RawInit.{RawInit}
use Rattle.cs_ast.specs.declared.raw.statement.RawStmtKind as statements
use Rattle.cs_ast.specs.declared.raw.statement.RawStmtKind.{RawStmtKind}
use Rattle.cs_ast.specs.declared.raw.statement.RawStmtKind.TheVariants as statement
use Rattle.cs_ast.specs.declared.raw.statement.RawItem.{RawItem}
use Rattle.cs_ast.specs.declared.raw.statement.RawItem as items
use Rattle.cs_ast.specs.declared.raw.statement.RawSwitchItem as switches
use Rattle.cs_ast.specs.declared.raw.statement.RawFirst.{RawFirst}
use Rattle.cs_ast.specs.declared.raw.statement.RawFirst.TheVariants as first_part
use Rattle.cs_ast.specs.declared.raw.external.RawBody.{RawBody}
use Rattle.cs_ast.specs.declared.raw.external.RawExternalKind.{RawExternalKind}
use Rattle.cs_ast.specs.declared.raw.external.RawExternalKind.TheVariants as external_kind
use Rattle.cs_ast.specs.declared.raw.external.RawExternal.{RawExternal}
use Rattle.cs_ast.specs.RawDeclarationView.{specs, declarator, initial, declared, head}
use Rattle.cs_ast.specs.RawStatementView.{first_of, sentence, item, switch_item, items_list, external}
use Rattle.cs_ast.specs.RawView.{written, written_kind}
use Rattle.cs_grammar.specs.Text.{Kinds, size, words_text, pointers_text}
use Rattle.cs_grammar.specs.FileText.{declarator_text, specs_text, initial_text, declared_text, head_text, some_text, first_text, test_text, sentence_text}
use Rattle.cs_grammar.specs.FileText.{item_text, items_text, switch_item_text, external_text}
use Rattle.cs_grammar.specs.Places.{StandsAt, following, after_words, after_bounds, IsPlaced, ArePlaced, HasPlaces}
use Rattle.cs_declarator_parser.specs.DeclarationPlaces.{past, AreInRow, AreSideBySide, IsSomePlaced, IsInitialPlaced, AreInitialsPlaced, IsFirstValuePlaced}
use Rattle.cs_declarator_parser.specs.DeclarationPlaces.{IsDeclaredPlaced, AreObjectsPlaced, IsDeclarationPlaced}
use Rattle.cs_decl_parser.specs.FilePlaces.{IsFirstPlaced, ArePartsPlaced, IsItemPlaced}
use Rattle.cs_decl_parser.specs.FilePlaces.{AreItemsPlaced, IsSwitchItemPlaced, AreSwitchItemsPlaced, IsBodyPlaced, IsExternalInside, IsExternalPlaced}
use Rattle.cs_decl_parser.specs.FilePlaces.{AreFilePlaced}
use Rattle.cs_well_formed.specs.WrittenPlaces.{WrittenAmong, RowAmong, ExpressionAmong, ValuesAmong, AllValuesAmong, FirstValueAmong, DeclaredAmong, FirstAmong}
use Rattle.cs_well_formed.specs.WrittenPlaces.{SentenceAmong, ItemAmong, ItemsAmong, SwitchItemAmong, SwitchItemsAmong, BodyAmong, ExternalKindAmong}
use Rattle.cs_well_formed.specs.WrittenPlaces.{ExternalAmong}

-- all of these tokens have positions of the set
pub record TokensAmong (Is : Place → Type 0) (tokens : List Token) : Type 0 where
  pub each : All (λ (t : Token). Is t.place) tokens

module _ (Is : Place → Type 0) where
  among : (at : Place) (tokens : List Token) → TokensAmong Is tokens → StandsAt at tokens → Is at
  among at [] all h = absurd h
  among at (t ∷ ts) all h = subst Is (sym h) (All-head (λ (t : Token). Is t.place) t ts all.each)

  -- the tokens after the first n, after an expression, after a text
  later : {tokens : List Token} (n : ℕ) → TokensAmong Is tokens → TokensAmong Is (drop n tokens)
  later {tokens = tokens} n all = record { each = All-drop (λ (t : Token). Is t.place) n tokens all.each }

  past_expression : {tokens : List Token} (e : RawExprKind) → TokensAmong Is tokens → TokensAmong Is (following e tokens)
  past_expression e all = later (size (written_kind e)) all

  past_text : {tokens : List Token} (spell : Kinds → Kinds) → TokensAmong Is tokens → TokensAmong Is (past spell tokens)
  past_text spell all = later (length (spell [])) all

  -- what has the positions of such tokens has this property
  abbrev Carries : {A : Type 0} → (A → List Token → Type 0) → (A → Type 0) → Type 0
  Carries {A = A} Has P = (a : A) (tokens : List Token) → TokensAmong Is tokens → Has a tokens → P a

  -- each element of a list, with a token after each
  in_row : {A : Type 0} (Has : A → List Token → Type 0) (spell : A → Kinds → Kinds) (P : A → Type 0) → Carries Has P
      → (list : List A) (tokens : List Token) → TokensAmong Is tokens → AreInRow Has spell list tokens → AllByRecursion P list
  in_row Has spell P each [] tokens all h = tt
  in_row Has spell P each (a ∷ others) tokens all h =
      (each a tokens all h.0, in_row Has spell P each others (drop 1 (past (spell a) tokens)) (later 1 (past_text (spell a) all)) h.1)

  -- each element of a list
  side_by_side : {A : Type 0} (Has : A → List Token → Type 0) (spell : A → Kinds → Kinds) (P : A → Type 0) → Carries Has P
      → (list : List A) (tokens : List Token) → TokensAmong Is tokens → AreSideBySide Has spell list tokens → AllByRecursion P list
  side_by_side Has spell P each [] tokens all h = tt
  side_by_side Has spell P each (a ∷ others) tokens all h =
      (each a tokens all h.0, side_by_side Has spell P each others (past (spell a) tokens) (past_text (spell a) all) h.1)

  -- ---- expressions

  -- the tokens after the specifiers and pointers of a type, and after its bounds
  past_words : {tokens : List Token} (ty : WrittenType) → TokensAmong Is tokens → TokensAmong Is (after_words ty tokens)
  past_words ty all = later (length (words_text ty.words.items (pointers_text ty.pointers.items []))) all

  after_all : {n : _} (row : Row_of-RawExpr n) (tokens : List Token) → TokensAmong Is tokens → TokensAmong Is (after_bounds row tokens)
  after_all end_of-RawExpr tokens all = all
  after_all (more_of-RawExpr at p first others) tokens all = after_all others _ (later 1 (past_expression first (later 1 all)))

  mutual
    written-among : (at : Place) (e : RawExprKind) (tokens : List Token) → TokensAmong Is tokens → IsPlaced at e tokens → WrittenAmong Is at e
    written-among at (kind.Name name) tokens all h = among at tokens all h
    written-among at (kind.Number constant) tokens all h = among at tokens all h
    written-among at (kind.Character value) tokens all h = among at tokens all h
    written-among at (kind.Text bytes) tokens all h = among at tokens all h
    written-among at (kind.Parenthesis' place p inner) tokens all h = (among at tokens all h.0, written-among place inner _ (later 1 all) h.1)
    written-among at (kind.Index' place p array place' q number) tokens all h = (
      among at _ (past_expression array all) h.1,
      written-among place array tokens all h.0,
      written-among place' number _ (later 1 (past_expression array all)) h.2,
    )
    written-among at (kind.Call' place p function shape row) tokens all h = (
      among at _ (past_expression function all) h.1,
      written-among place function tokens all h.0,
      row-among row _ (later 1 (past_expression function all)) h.2,
    )
    written-among at (kind.Member' place p object name) tokens all h = (among at _ (past_expression object all) h.1, written-among place object tokens all h.0)
    written-among at (kind.Arrow' place p pointer name) tokens all h =
        (among at _ (past_expression pointer all) h.1, written-among place pointer tokens all h.0)
    written-among at (kind.StepAfter' step place p object) tokens all h =
        (among at _ (past_expression object all) h.1, written-among place object tokens all h.0)
    written-among at (kind.StepBefore' step place p object) tokens all h = (among at tokens all h.0, written-among place object _ (later 1 all) h.1)
    written-among at (kind.Prefix' operator place p operand) tokens all h = (among at tokens all h.0, written-among place operand _ (later 1 all) h.1)
    written-among at (kind.SizeOf' place p operand) tokens all h = (among at tokens all h.0, written-among place operand _ (later 1 all) h.1)
    written-among at (kind.SizeOfType' ty shape row) tokens all h = among at tokens all h.0
    written-among at (kind.Cast' ty shape row place p operand) tokens all h =
        (among at tokens all h.0, written-among place operand _ (later 1 (after_all row (after_words ty (drop 1 tokens)) (past_words ty (later 1 all)))) h.3)
    written-among at (kind.Infix' operator place p left place' q right) tokens all h = (
      among at _ (past_expression left all) h.1,
      written-among place left tokens all h.0,
      written-among place' right _ (later 1 (past_expression left all)) h.2,
    )
    written-among at (kind.Choice' place p test place' q one place'' r other) tokens all h = (
      among at _ (past_expression test all) h.1,
      written-among place test tokens all h.0,
      written-among place' one _ (later 1 (past_expression test all)) h.2,
      written-among place'' other _ (later 1 (past_expression one (later 1 (past_expression test all)))) h.3,
    )
    written-among at (kind.Assign' operator place p object place' q value) tokens all h = (
      among at _ (past_expression object all) h.1,
      written-among place object tokens all h.0,
      written-among place' value _ (later 1 (past_expression object all)) h.2,
    )
    written-among at (kind.Comma' place p first place' q second) tokens all h = (
      among at _ (past_expression first all) h.1,
      written-among place first tokens all h.0,
      written-among place' second _ (later 1 (past_expression first all)) h.2,
    )

    row-among : {n : _} (row : Row_of-RawExpr n) (tokens : List Token) → TokensAmong Is tokens → ArePlaced row tokens → RowAmong Is row
    row-among end_of-RawExpr tokens all h = tt
    row-among (more_of-RawExpr at p first others) tokens all h =
        (written-among at first tokens all h.0, row-among others _ (later 1 (past_expression first all)) h.1)

  expression-among : (e : RawExpr) (tokens : List Token) → TokensAmong Is tokens → HasPlaces e tokens → ExpressionAmong Is e
  expression-among e tokens all h = written-among e.place e.kind.value tokens all h

  some-among : (e : Option RawExpr) (tokens : List Token) → TokensAmong Is tokens → IsSomePlaced e tokens → IfSome e (ExpressionAmong Is)
  some-among None tokens all h = tt
  some-among (Some e) tokens all h = expression-among e tokens all h

  -- ---- declared objects

  mutual
    values-among : (i : RawInitial) (tokens : List Token) → TokensAmong Is tokens → IsInitialPlaced i tokens → ValuesAmong Is i
    values-among (first_value.TheVariants.Value e) tokens all h = expression-among e tokens all h
    values-among (first_value.TheVariants.List' shape row comma) tokens all h = all_values-among row _ (later 1 all) h

    all_values-among : {n : _} (row : first_value.Row_of-RawInitial n) (tokens : List Token) → TokensAmong Is tokens → AreInitialsPlaced row tokens
        → AllValuesAmong Is row
    all_values-among first_value.end_of-RawInitial tokens all h = tt
    all_values-among (first_value.more_of-RawInitial first others) tokens all h =
        (values-among first tokens all h.0, all_values-among others _ (later 1 (past_text (initial_text (initial first)) all)) h.1)

  first_value-among : (v : Option RawFirstValue) (tokens : List Token) → TokensAmong Is tokens → IsFirstValuePlaced v tokens
      → IfSome v (FirstValueAmong Is)
  first_value-among None tokens all h = tt
  first_value-among (Some v) tokens all h = record { equals = among v.place tokens all h.0; values = values-among v.initial _ (later 1 all) h.1 }

  declared-among : (d : RawInit) (tokens : List Token) → TokensAmong Is tokens → IsDeclaredPlaced d tokens → DeclaredAmong Is d
  declared-among d tokens all h = record {
    name = among d.declarator.place _ (past_text (pointers_text d.declarator.pointers.items) all) h.0.0;
    initial = first_value-among d.initial _ (past_text (declarator_text (declarator d.declarator)) all) h.1;
  }

  objects-among : (objects : List RawInit) (tokens : List Token) → TokensAmong Is tokens → AreObjectsPlaced objects tokens
      → All (DeclaredAmong Is) objects
  objects-among objects tokens all h =
      All-from_recursion (DeclaredAmong Is) objects
      (in_row IsDeclaredPlaced (λ d. declared_text (declared d)) (DeclaredAmong Is) declared-among objects tokens all h)

  declaration-among : (s : RawSpecs) (objects : List RawInit) (tokens : List Token) → TokensAmong Is tokens → IsDeclarationPlaced s objects tokens
      → All (DeclaredAmong Is) objects
  declaration-among s objects tokens all h = objects-among objects _ (past_text (specs_text (specs s)) all) h.objects_are

  -- ---- statements

  past_test_text : {tokens : List Token} (test : RawExpr) → TokensAmong Is tokens → TokensAmong Is (past (test_text (written test)) tokens)
  past_test_text test all = past_text (test_text (written test)) all

  first-among : (first : RawFirst) (tokens : List Token) → TokensAmong Is tokens → IsFirstPlaced first tokens → FirstAmong Is first
  first-among first_part.Empty tokens all h = tt
  first-among (first_part.Run e) tokens all h = expression-among e tokens all h
  first-among (first_part.Declare s objects) tokens all h = declaration-among s objects.items tokens all h

  mutual
    sentence-among : (at : Place) (s : RawStmtKind) (tokens : List Token) → TokensAmong Is tokens → StandsAt at tokens × ArePartsPlaced s tokens
        → SentenceAmong Is at s
    sentence-among at (statement.Block' shape row) tokens all h = (among at tokens all h.0, items-among row _ (later 1 all) h.1)
    sentence-among at statement.Empty tokens all h = among at tokens all h.0
    sentence-among at (statement.Run e) tokens all h = (among at tokens all h.0, expression-among e tokens all h.1)
    sentence-among at (statement.If' test place p body) tokens all h =
        (among at tokens all h.0, expression-among test _ (later 2 all) h.1.0, sentence-among place body _ (past_test_text test (later 1 all)) h.1.1)
    sentence-among at (statement.IfElse' test place p body place' q other) tokens all h = (
      among at tokens all h.0,
      expression-among test _ (later 2 all) h.1.0,
      sentence-among place body _ (past_test_text test (later 1 all)) h.1.1,
      sentence-among place' other _ (later 1 (past_text (sentence_text (sentence body)) (past_test_text test (later 1 all)))) h.1.2,
    )
    sentence-among at (statement.While' test place p body) tokens all h =
        (among at tokens all h.0, expression-among test _ (later 2 all) h.1.0, sentence-among place body _ (past_test_text test (later 1 all)) h.1.1)
    sentence-among at (statement.Do' place p body test) tokens all h = (
      among at tokens all h.0,
      sentence-among place body _ (later 1 all) h.1.0,
      expression-among test _ (later 2 (past_text (sentence_text (sentence body)) (later 1 all))) h.1.1,
    )
    sentence-among at (statement.For' first test last place p body) tokens all h =
        let following_first = past_text (first_text (first_of first)) (later 2 all) in
        let following_test = later 1 (past_text (some_text (option_map written test)) following_first) in (
          among at tokens all h.0,
          first-among first _ (later 2 all) h.1.0,
          some-among test _ following_first h.1.1,
          some-among last _ following_test h.1.2,
          sentence-among place body _ (later 1 (past_text (some_text (option_map written last)) following_test)) h.1.3,
        )
    sentence-among at (statement.Switch' value shape row) tokens all h =
        (among at tokens all h.0, expression-among value _ (later 2 all) h.1.0, switch_items-among row _ (later 1 (past_test_text value (later 1 all))) h.1.1)
    sentence-among at (statement.Goto label) tokens all h = among at tokens all h.0
    sentence-among at statement.Continue tokens all h = among at tokens all h.0
    sentence-among at statement.Break tokens all h = among at tokens all h.0
    sentence-among at (statement.Return value) tokens all h = (among at tokens all h.0, some-among value _ (later 1 all) h.1)
    sentence-among at (statement.Label' name place p body) tokens all h = (among at tokens all h.0, sentence-among place body _ (later 2 all) h.1)

    item-among : (i : RawItem) (tokens : List Token) → TokensAmong Is tokens → IsItemPlaced i tokens → ItemAmong Is i
    item-among (items.TheVariants.Declare s objects) tokens all h = declaration-among s objects.items tokens all h
    item-among (items.TheVariants.Run' place p body) tokens all h = sentence-among place body tokens all h

    items-among : {n : _} (row : statements.Row_of-RawItem n) (tokens : List Token) → TokensAmong Is tokens → AreItemsPlaced row tokens
        → ItemsAmong Is row
    items-among statements.end_of-RawItem tokens all h = tt
    items-among (statements.more_of-RawItem first others) tokens all h =
        (item-among first tokens all h.0, items-among others _ (past_text (item_text (item first)) all) h.1)

    switch_item-among : (i : switches.RawSwitchItem) (tokens : List Token) → TokensAmong Is tokens → IsSwitchItemPlaced i tokens → SwitchItemAmong Is i
    switch_item-among (switches.TheVariants.Case at value) tokens all h = tt
    switch_item-among (switches.TheVariants.Default at) tokens all h = tt
    switch_item-among (switches.TheVariants.Item i) tokens all h = item-among i tokens all h

    switch_items-among : {n : _} (row : statements.Row_of-RawSwitchItem n) (tokens : List Token) → TokensAmong Is tokens → AreSwitchItemsPlaced row tokens
        → SwitchItemsAmong Is row
    switch_items-among statements.end_of-RawSwitchItem tokens all h = tt
    switch_items-among (statements.more_of-RawSwitchItem first others) tokens all h =
        (switch_item-among first tokens all h.0, switch_items-among others _ (past_text (switch_item_text (switch_item first)) all) h.1)

  -- ---- external declarations

  body-among : (body : RawBody) (tokens : List Token) → TokensAmong Is tokens → IsBodyPlaced body tokens → BodyAmong Is body
  body-among body tokens all h = record {
    opening = among body.opening tokens all h.opening;
    inside =
        All-from_recursion (ItemAmong Is) body.items.items
        (side_by_side IsItemPlaced (λ i. item_text (item i)) (ItemAmong Is) item-among body.items.items (drop 1 tokens) (later 1 all) h.inside);
    closing = among body.closing _ (past_text (items_text (items_list body.items.items)) (later 1 all)) h.closing;
  }

  inside-among : (e : RawExternalKind) (tokens : List Token) → TokensAmong Is tokens → IsExternalInside e tokens → ExternalKindAmong Is e
  inside-among (external_kind.Type s) tokens all h = tt
  inside-among (external_kind.Typedef s names) tokens all h = tt
  inside-among (external_kind.Objects s objects) tokens all h = declaration-among s objects.items tokens all h
  inside-among (external_kind.Function s f) tokens all h =
      among f.place _ (past_text (pointers_text f.pointers.items) (past_text (specs_text (specs s)) all)) h.1.0
  inside-among (external_kind.Definition s f body) tokens all h = (
    among f.place _ (past_text (pointers_text f.pointers.items) (past_text (specs_text (specs s)) all)) h.1.0,
    body-among body _ (past_text (head_text (head f)) (past_text (specs_text (specs s)) all)) h.2,
  )

  external-among : (e : RawExternal) (tokens : List Token) → TokensAmong Is tokens → IsExternalPlaced e tokens → ExternalAmong Is e
  external-among e tokens all h = inside-among e.kind tokens all h.1

  -- the external declarations of a file
  pub file-among : (file : List RawExternal) (tokens : List Token) → TokensAmong Is tokens → AreFilePlaced file tokens → All (ExternalAmong Is) file
  file-among file tokens all h =
      All-from_recursion (ExternalAmong Is) file
      (side_by_side IsExternalPlaced (λ e. external_text (external e)) (ExternalAmong Is) external-among file tokens all h)
