-- Statements and files with the same parts and with the positions of the same tokens are the same, except for memory addresses: for
-- `files_have_one_tree`.
use Rattle.std.proofs.Common.{◌≡◌, List, [], ◌∷◌, Option, drop, map, refl, ap, subst}
use mathlib.Core.Former.{Count}
use Rattle.cs_ast.specs.declared.token.Token.{Token}
use Rattle.cs_ast.specs.declared.raw.declaration.RawSpecs.{RawSpecs}
use Rattle.cs_ast.specs.declared.raw.declaration.RawInit.{RawInit}
use Rattle.cs_ast.specs.declared.raw.statement.RawStmtKind as kinds
use Rattle.cs_ast.specs.declared.raw.statement.RawStmtKind.{RawStmtKind}
use Rattle.cs_ast.specs.declared.raw.statement.RawStmtKind.TheVariants as kind
use Rattle.cs_ast.specs.declared.raw.statement.RawItem.{RawItem}
use Rattle.cs_ast.specs.declared.raw.statement.RawItem as items
use Rattle.cs_ast.specs.declared.raw.statement.RawSwitchItem as switches
use Rattle.cs_ast.specs.declared.raw.statement.RawFirst.{RawFirst}
use Rattle.cs_ast.specs.declared.raw.statement.RawFirst.TheVariants as first_part
use Rattle.cs_ast.specs.declared.raw.external.RawBody.{RawBody}
use Rattle.cs_ast.specs.declared.raw.external.RawExternalKind.{RawExternalKind}
use Rattle.cs_ast.specs.declared.raw.external.RawExternalKind.TheVariants as external_kind
use Rattle.cs_ast.specs.declared.raw.external.RawExternal.{RawExternal}
use Rattle.cs_ast.specs.RawView.{written}
use Rattle.cs_ast.specs.RawTree.{Written}
use Rattle.cs_ast.specs.RawDeclarationView.{specs, declared}
use Rattle.cs_ast.specs.RawStatements as tree
use Rattle.cs_ast.specs.RawStatements.{First, Sentence, Item, Items, SwitchItem, SwitchItems, External}
use Rattle.cs_ast.specs.RawStatementView.{first_of, sentence, item, items_row, switch_row, switch_item, items_list, external_of, external}
use Rattle.cs_grammar.specs.FileText.{specs_text, head_text, some_text, first_text, test_text, sentence_text, item_text, items_text, switch_item_text}
use Rattle.cs_grammar.specs.FileText.{external_text}
use Rattle.cs_declarator_parser.specs.DeclarationPlaces.{past, AreSideBySide, IsDeclarationPlaced}
use Rattle.cs_decl_parser.specs.FilePlaces.{IsFirstPlaced, ArePartsPlaced, IsItemPlaced, AreItemsPlaced, IsSwitchItemPlaced}
use Rattle.cs_decl_parser.specs.FilePlaces.{AreSwitchItemsPlaced, IsBodyPlaced, IsExternalInside, IsExternalPlaced, AreFilePlaced}
use Rattle.cs_decl_parser.specs.Files.{parts_of}
use Rattle.cs_one_program.specs.SameExpressions.{Pairwise, none, more}
use Rattle.cs_one_program.specs.SameDeclarations.{SameBefore, SameInit}
use Rattle.cs_one_program.specs.SameTrees as same
use Rattle.cs_one_program.specs.SameTrees.{SameFirst, SameStatement, SameItem, SameItems, SameSwitchItem, SameSwitchItems, SameBody, SameExternalKind}
use Rattle.cs_one_program.specs.SameTrees.{SameExternal, SameTree}
use Rattle.cs_one_program.proofs.PlacedExpressions.{stands_same, expression_same}
use Rattle.cs_one_program.proofs.PlacedDeclarations.{list_fits, Alike, side_by_side, some_alike, declarators_alike, objects_alike, specs_alike}
use Rattle.cs_one_program.proofs.PlacedDeclarations.{head_alike}

-- ---- equations between the parts of equal trees

abbrev FirstFits : First → First → Type 0
FirstFits tree.NoFirst tree.NoFirst = Unit {0}
FirstFits (tree.FirstRuns e) (tree.FirstRuns e') = e ≡ e'
FirstFits (tree.FirstDeclares s all) (tree.FirstDeclares s' all') = (s ≡ s') × (all ≡ all')
FirstFits _ _ = ⊥

first_fits_itself : (f : First) → FirstFits f f
first_fits_itself tree.NoFirst = tt
first_fits_itself (tree.FirstRuns e) = refl
first_fits_itself (tree.FirstDeclares s all) = (refl, refl)

first_fits : {f f' : First} → f ≡ f' → FirstFits f f'
first_fits {f = f} e = subst (FirstFits f) e (first_fits_itself f)

abbrev Fits : Sentence → Sentence → Type 0
Fits (tree.Block all) (tree.Block all') = all ≡ all'
Fits tree.Nothing tree.Nothing = Unit {0}
Fits (tree.Runs e) (tree.Runs e') = e ≡ e'
Fits (tree.If test s) (tree.If test' s') = (test ≡ test') × (s ≡ s')
Fits (tree.IfElse test s other) (tree.IfElse test' s' other') = (test ≡ test') × (s ≡ s') × (other ≡ other')
Fits (tree.While test s) (tree.While test' s') = (test ≡ test') × (s ≡ s')
Fits (tree.Do s test) (tree.Do s' test') = (s ≡ s') × (test ≡ test')
Fits (tree.For f test last s) (tree.For f' test' last' s') = (f ≡ f') × (test ≡ test') × (last ≡ last') × (s ≡ s')
Fits (tree.Switch e all) (tree.Switch e' all') = (e ≡ e') × (all ≡ all')
Fits (tree.Goto label) (tree.Goto label') = label ≡ label'
Fits tree.Continue tree.Continue = Unit {0}
Fits tree.Break tree.Break = Unit {0}
Fits (tree.Return e) (tree.Return e') = e ≡ e'
Fits (tree.Label name s) (tree.Label name' s') = (name ≡ name') × (s ≡ s')
Fits _ _ = ⊥

fits_itself : (s : Sentence) → Fits s s
fits_itself (tree.Block all) = refl
fits_itself tree.Nothing = tt
fits_itself (tree.Runs e) = refl
fits_itself (tree.If test s) = (refl, refl)
fits_itself (tree.IfElse test s other) = (refl, refl, refl)
fits_itself (tree.While test s) = (refl, refl)
fits_itself (tree.Do s test) = (refl, refl)
fits_itself (tree.For f test last s) = (refl, refl, refl, refl)
fits_itself (tree.Switch e all) = (refl, refl)
fits_itself (tree.Goto label) = refl
fits_itself tree.Continue = tt
fits_itself tree.Break = tt
fits_itself (tree.Return e) = refl
fits_itself (tree.Label name s) = (refl, refl)

fits : {s s' : Sentence} → s ≡ s' → Fits s s'
fits {s = s} e = subst (Fits s) e (fits_itself s)

abbrev ItemFits : Item → Item → Type 0
ItemFits (tree.Declares s all) (tree.Declares s' all') = (s ≡ s') × (all ≡ all')
ItemFits (tree.Does s) (tree.Does s') = s ≡ s'
ItemFits _ _ = ⊥

item_fits_itself : (i : Item) → ItemFits i i
item_fits_itself (tree.Declares s all) = (refl, refl)
item_fits_itself (tree.Does s) = refl

item_fits : {i i' : Item} → i ≡ i' → ItemFits i i'
item_fits {i = i} e = subst (ItemFits i) e (item_fits_itself i)

abbrev ItemsFit : Items → Items → Type 0
ItemsFit tree.NoItem tree.NoItem = Unit {0}
ItemsFit (tree.MoreItems i all) (tree.MoreItems i' all') = (i ≡ i') × (all ≡ all')
ItemsFit _ _ = ⊥

items_fit_itself : (i : Items) → ItemsFit i i
items_fit_itself tree.NoItem = tt
items_fit_itself (tree.MoreItems i all) = (refl, refl)

items_fit : {i i' : Items} → i ≡ i' → ItemsFit i i'
items_fit {i = i} e = subst (ItemsFit i) e (items_fit_itself i)

abbrev SwitchItemFits : SwitchItem → SwitchItem → Type 0
SwitchItemFits (tree.Case e) (tree.Case e') = e ≡ e'
SwitchItemFits tree.Default tree.Default = Unit {0}
SwitchItemFits (tree.Inside i) (tree.Inside i') = i ≡ i'
SwitchItemFits _ _ = ⊥

switch_item_fits_itself : (i : SwitchItem) → SwitchItemFits i i
switch_item_fits_itself (tree.Case e) = refl
switch_item_fits_itself tree.Default = tt
switch_item_fits_itself (tree.Inside i) = refl

switch_item_fits : {i i' : SwitchItem} → i ≡ i' → SwitchItemFits i i'
switch_item_fits {i = i} e = subst (SwitchItemFits i) e (switch_item_fits_itself i)

abbrev SwitchItemsFit : SwitchItems → SwitchItems → Type 0
SwitchItemsFit tree.NoSwitchItem tree.NoSwitchItem = Unit {0}
SwitchItemsFit (tree.MoreSwitchItems i all) (tree.MoreSwitchItems i' all') = (i ≡ i') × (all ≡ all')
SwitchItemsFit _ _ = ⊥

switch_items_fit_itself : (i : SwitchItems) → SwitchItemsFit i i
switch_items_fit_itself tree.NoSwitchItem = tt
switch_items_fit_itself (tree.MoreSwitchItems i all) = (refl, refl)

switch_items_fit : {i i' : SwitchItems} → i ≡ i' → SwitchItemsFit i i'
switch_items_fit {i = i} e = subst (SwitchItemsFit i) e (switch_items_fit_itself i)

-- ---- statements

-- a declaration of objects
declaration_alike : (s s' : RawSpecs) (ds ds' : List RawInit) (tokens tokens' : List Token) → tokens ≡ tokens' → IsDeclarationPlaced s ds tokens
    → IsDeclarationPlaced s' ds' tokens' → specs s ≡ specs s' → map declared ds ≡ map declared ds' → SameBefore s s' × Pairwise SameInit ds ds'
declaration_alike s s' ds ds' tokens tokens' t h h' w all = (
  specs_alike s s' _ _ t h.specs_are h'.specs_are w,
  objects_alike ds ds' _ _ (λ i. past (specs_text (w i)) (t i)) h.objects_are h'.objects_are all,
)

first_alike : (f f' : RawFirst) (tokens tokens' : List Token) → tokens ≡ tokens' → IsFirstPlaced f tokens → IsFirstPlaced f' tokens'
    → FirstFits (first_of f) (first_of f') → SameFirst f f'
first_alike first_part.Empty first_part.Empty tokens tokens' t h h' w = same.Nothing
first_alike (first_part.Run e) (first_part.Run e') tokens tokens' t h h' w = same.Ran (expression_same e e' t h h' w)
first_alike (first_part.Declare s ds) (first_part.Declare s' ds') tokens tokens' t h h' w =
    let all = declaration_alike s s' ds.items ds'.items _ _ t h h' w.0 w.1 in same.Declared all.0 all.1
first_alike _ _ tokens tokens' t h h' w = absurd w

-- the tokens after a test between parentheses, and after an expression and the token after it
tested : {e e' : Written} {tokens tokens' : List Token} → e ≡ e' → tokens ≡ tokens'
    → past (test_text e) (drop 1 tokens) ≡ past (test_text e') (drop 1 tokens')
tested w t = λ i. past (test_text (w i)) (drop 1 (t i))

ended : {e e' : Option Written} {tokens tokens' : List Token} → e ≡ e' → tokens ≡ tokens'
    → drop 1 (past (some_text e) tokens) ≡ drop 1 (past (some_text e') tokens')
ended w t = λ i. drop 1 (past (some_text (w i)) (t i))

mutual
  parts_alike : (k k' : RawStmtKind) (tokens tokens' : List Token) → tokens ≡ tokens' → ArePartsPlaced k tokens → ArePartsPlaced k' tokens'
      → Fits (sentence k) (sentence k') → SameStatement k k'
  parts_alike (kind.Block' shape row) (kind.Block' shape' row') tokens tokens' t h h' w =
      same.Block (items_alike row row' _ _ (ap (drop 1) t) h h' (items_fit w))
  parts_alike kind.Empty kind.Empty tokens tokens' t h h' w = same.Empty
  parts_alike (kind.Run e) (kind.Run e') tokens tokens' t h h' w = same.Run (expression_same e e' t h h' w)
  parts_alike (kind.If' test place p s) (kind.If' test' place' p' s') tokens tokens' t h h' w =
      let inside = tested w.0 t in
      let at = stands_same inside h.1.0 h'.1.0 in
      subst (λ k. SameStatement (kind.If' test place p s) k) (λ i. kind.If' test' (at i) p' s')
      (same.If place (expression_same test test' (ap (drop 2) t) h.0 h'.0 w.0) (parts_alike s s' _ _ inside h.1.1 h'.1.1 (fits w.1)))
  parts_alike (kind.IfElse' test place p s place2 q o) (kind.IfElse' test' place' p' s' place2' q' o') tokens tokens' t h h' w =
      let inside = tested w.0 t in
      let otherwise : drop 1 (past (sentence_text (sentence s)) (past (test_text (written test)) (drop 1 tokens)))
      ≡ drop 1 (past (sentence_text (sentence s')) (past (test_text (written test')) (drop 1 tokens'))) =
      λ i. drop 1 (past (sentence_text (w.1 i)) (inside i)) in
      let at = stands_same inside h.1.0 h'.1.0 in
      let at2 = stands_same otherwise h.2.0 h'.2.0 in
      subst (λ k. SameStatement (kind.IfElse' test place p s place2 q o) k) (λ i. kind.IfElse' test' (at i) p' s' (at2 i) q' o')
      (same.IfElse place place2 (expression_same test test' (ap (drop 2) t) h.0 h'.0 w.0) (parts_alike s s' _ _ inside h.1.1 h'.1.1 (fits w.1))
      (parts_alike o o' _ _ otherwise h.2.1 h'.2.1 (fits w.2)))
  parts_alike (kind.While' test place p s) (kind.While' test' place' p' s') tokens tokens' t h h' w =
      let inside = tested w.0 t in
      let at = stands_same inside h.1.0 h'.1.0 in
      subst (λ k. SameStatement (kind.While' test place p s) k) (λ i. kind.While' test' (at i) p' s')
      (same.While place (expression_same test test' (ap (drop 2) t) h.0 h'.0 w.0) (parts_alike s s' _ _ inside h.1.1 h'.1.1 (fits w.1)))
  parts_alike (kind.Do' place p s test) (kind.Do' place' p' s' test') tokens tokens' t h h' w =
      let inside = ap (drop 1) t in
      let at = stands_same inside h.0.0 h'.0.0 in
      subst (λ k. SameStatement (kind.Do' place p s test) k) (λ i. kind.Do' (at i) p' s' test')
      (same.Do place (expression_same test test' (λ i. drop 2 (past (sentence_text (w.0 i)) (inside i))) h.1 h'.1 w.1)
      (parts_alike s s' _ _ inside h.0.1 h'.0.1 (fits w.0)))
  parts_alike (kind.For' f test last place p s) (kind.For' f' test' last' place' p' s') tokens tokens' t h h' w =
      let begun : past (first_text (first_of f)) (drop 2 tokens) ≡ past (first_text (first_of f')) (drop 2 tokens') =
      λ i. past (first_text (w.0 i)) (drop 2 (t i)) in
      let stepping = ended w.1 begun in
      let inside = ended w.2 stepping in
      let at = stands_same inside h.3.0 h'.3.0 in
      subst (λ k. SameStatement (kind.For' f test last place p s) k) (λ i. kind.For' f' test' last' (at i) p' s')
      (same.For place (first_alike f f' _ _ (ap (drop 2) t) h.0 h'.0 (first_fits w.0)) (some_alike test test' _ _ begun h.1 h'.1 w.1)
      (some_alike last last' _ _ stepping h.2 h'.2 w.2) (parts_alike s s' _ _ inside h.3.1 h'.3.1 (fits w.3)))
  parts_alike (kind.Switch' e shape row) (kind.Switch' e' shape' row') tokens tokens' t h h' w =
      same.Switch (expression_same e e' (ap (drop 2) t) h.0 h'.0 w.0)
      (switch_items_alike row row' _ _ (ap (drop 1) (tested w.0 t)) h.1 h'.1 (switch_items_fit w.1))
  parts_alike (kind.Goto label) (kind.Goto label') tokens tokens' t h h' w =
      subst (λ k. SameStatement (kind.Goto label) k) (ap kind.Goto w) same.Goto
  parts_alike kind.Continue kind.Continue tokens tokens' t h h' w = same.Continue
  parts_alike kind.Break kind.Break tokens tokens' t h h' w = same.Break
  parts_alike (kind.Return e) (kind.Return e') tokens tokens' t h h' w = same.Return (some_alike e e' _ _ (ap (drop 1) t) h h' w)
  parts_alike (kind.Label' name place p s) (kind.Label' name' place' p' s') tokens tokens' t h h' w =
      let inside = ap (drop 2) t in
      let at = stands_same inside h.0 h'.0 in
      subst (λ k. SameStatement (kind.Label' name place p s) k) (λ i. kind.Label' (w.0 i) (at i) p' s')
      (same.Label name place (parts_alike s s' _ _ inside h.1 h'.1 (fits w.1)))
  parts_alike _ _ tokens tokens' t h h' w = absurd w

  item_alike : (i i' : RawItem) (tokens tokens' : List Token) → tokens ≡ tokens' → IsItemPlaced i tokens → IsItemPlaced i' tokens'
      → ItemFits (item i) (item i') → SameItem i i'
  item_alike (items.TheVariants.Declare s ds) (items.TheVariants.Declare s' ds') tokens tokens' t h h' w =
      let all = declaration_alike s s' ds.items ds'.items _ _ t h h' w.0 w.1 in same.Declare all.0 all.1
  item_alike (items.TheVariants.Run' place p s) (items.TheVariants.Run' place' p' s') tokens tokens' t h h' w =
      let at = stands_same t h.0 h'.0 in
      subst (λ k. SameItem (items.TheVariants.Run' place p s) k) (λ i. items.TheVariants.Run' (at i) p' s')
      (same.Does place (parts_alike s s' _ _ t h.1 h'.1 (fits w)))
  item_alike _ _ tokens tokens' t h h' w = absurd w

  items_alike : {n m : Count} (row : kinds.Row_of-RawItem n) (row' : kinds.Row_of-RawItem m) (tokens tokens' : List Token) → tokens ≡ tokens'
      → AreItemsPlaced row tokens → AreItemsPlaced row' tokens' → ItemsFit (items_row row) (items_row row') → SameItems n m row row'
  items_alike kinds.end_of-RawItem kinds.end_of-RawItem tokens tokens' t h h' w = same.NoItem
  items_alike (kinds.more_of-RawItem i row) (kinds.more_of-RawItem i' row') tokens tokens' t h h' w =
      same.MoreItems (item_alike i i' _ _ t h.0 h'.0 (item_fits w.0))
      (items_alike row row' _ _ (λ i. past (item_text (w.0 i)) (t i)) h.1 h'.1 (items_fit w.1))
  items_alike _ _ tokens tokens' t h h' w = absurd w

  switch_item_alike : (i i' : switches.RawSwitchItem) (tokens tokens' : List Token) → tokens ≡ tokens' → IsSwitchItemPlaced i tokens
      → IsSwitchItemPlaced i' tokens' → SwitchItemFits (switch_item i) (switch_item i') → SameSwitchItem i i'
  switch_item_alike (switches.TheVariants.Case place e) (switches.TheVariants.Case place' e') tokens tokens' t h h' w =
      let at = stands_same t h.0 h'.0 in
      subst (λ k. SameSwitchItem (switches.TheVariants.Case place e) k) (λ i. switches.TheVariants.Case (at i) e')
      (same.Case place (expression_same e e' (ap (drop 1) t) h.1 h'.1 w))
  switch_item_alike (switches.TheVariants.Default place) (switches.TheVariants.Default place') tokens tokens' t h h' w =
      subst (λ k. SameSwitchItem (switches.TheVariants.Default place) k) (ap switches.TheVariants.Default (stands_same t h h')) (same.Default place)
  switch_item_alike (switches.TheVariants.Item i) (switches.TheVariants.Item i') tokens tokens' t h h' w =
      same.Inside (item_alike i i' _ _ t h h' (item_fits w))
  switch_item_alike _ _ tokens tokens' t h h' w = absurd w

  switch_items_alike : {n m : Count} (row : kinds.Row_of-RawSwitchItem n) (row' : kinds.Row_of-RawSwitchItem m) (tokens tokens' : List Token)
      → tokens ≡ tokens' → AreSwitchItemsPlaced row tokens → AreSwitchItemsPlaced row' tokens' → SwitchItemsFit (switch_row row) (switch_row row')
      → SameSwitchItems n m row row'
  switch_items_alike kinds.end_of-RawSwitchItem kinds.end_of-RawSwitchItem tokens tokens' t h h' w = same.NoSwitchItem
  switch_items_alike (kinds.more_of-RawSwitchItem i row) (kinds.more_of-RawSwitchItem i' row') tokens tokens' t h h' w =
      same.MoreSwitchItems (switch_item_alike i i' _ _ t h.0 h'.0 (switch_item_fits w.0))
      (switch_items_alike row row' _ _ (λ i. past (switch_item_text (w.0 i)) (t i)) h.1 h'.1 (switch_items_fit w.1))
  switch_items_alike _ _ tokens tokens' t h h' w = absurd w

-- ---- external declarations

item_list_alike : (is is' : List RawItem) (tokens tokens' : List Token) → tokens ≡ tokens'
    → AreSideBySide IsItemPlaced (λ i. item_text (item i)) is tokens
    → AreSideBySide IsItemPlaced (λ i. item_text (item i)) is' tokens' → ItemsFit (items_list is) (items_list is') → Pairwise SameItem is is'
item_list_alike [] [] tokens tokens' t h h' w = none
item_list_alike (i ∷ all) (i' ∷ all') tokens tokens' t h h' w =
    more (item_alike i i' _ _ t h.0 h'.0 (item_fits w.0))
    (item_list_alike all all' _ _ (λ i. past (item_text (w.0 i)) (t i)) h.1 h'.1 (items_fit w.1))
item_list_alike _ _ tokens tokens' t h h' w = absurd w

body_alike : (b b' : RawBody) (tokens tokens' : List Token) → tokens ≡ tokens' → IsBodyPlaced b tokens → IsBodyPlaced b' tokens'
    → items_list b.items.items ≡ items_list b'.items.items → SameBody b b'
body_alike b b' tokens tokens' t h h' w = record {
  opening = stands_same t h.opening h'.opening;
  inside = item_list_alike b.items.items b'.items.items _ _ (ap (drop 1) t) h.inside h'.inside (items_fit w);
  closing = stands_same (λ i. past (items_text (w i)) (drop 1 (t i))) h.closing h'.closing;
}

abbrev ExternalFits : External → External → Type 0
ExternalFits (tree.TypeAlone s) (tree.TypeAlone s') = s ≡ s'
ExternalFits (tree.Typedef s all) (tree.Typedef s' all') = (s ≡ s') × (all ≡ all')
ExternalFits (tree.Objects s all) (tree.Objects s' all') = (s ≡ s') × (all ≡ all')
ExternalFits (tree.Function s f) (tree.Function s' f') = (s ≡ s') × (f ≡ f')
ExternalFits (tree.Definition s f body) (tree.Definition s' f' body') = (s ≡ s') × (f ≡ f') × (body ≡ body')
ExternalFits _ _ = ⊥

external_fits_itself : (e : External) → ExternalFits e e
external_fits_itself (tree.TypeAlone s) = refl
external_fits_itself (tree.Typedef s all) = (refl, refl)
external_fits_itself (tree.Objects s all) = (refl, refl)
external_fits_itself (tree.Function s f) = (refl, refl)
external_fits_itself (tree.Definition s f body) = (refl, refl, refl)

external_fits : {e e' : External} → e ≡ e' → ExternalFits e e'
external_fits {e = e} w = subst (ExternalFits e) w (external_fits_itself e)

inside_alike : (k k' : RawExternalKind) (tokens tokens' : List Token) → tokens ≡ tokens' → IsExternalInside k tokens → IsExternalInside k' tokens'
    → ExternalFits (external_of k) (external_of k') → SameExternalKind k k'
inside_alike (external_kind.Type s) (external_kind.Type s') tokens tokens' t h h' w = same.TypeAlone (specs_alike s s' _ _ t h h' w)
inside_alike (external_kind.Typedef s ds) (external_kind.Typedef s' ds') tokens tokens' t h h' w =
    same.Typedef (specs_alike s s' _ _ (ap (drop 1) t) h.0 h'.0 w.0)
    (declarators_alike ds.items ds'.items _ _ (λ i. past (specs_text (w.0 i)) (drop 1 (t i))) h.1 h'.1 w.1)
inside_alike (external_kind.Objects s ds) (external_kind.Objects s' ds') tokens tokens' t h h' w =
    let all = declaration_alike s s' ds.items ds'.items _ _ t h h' w.0 w.1 in same.Objects all.0 all.1
inside_alike (external_kind.Function s f) (external_kind.Function s' f') tokens tokens' t h h' w =
    same.Function (specs_alike s s' _ _ t h.0 h'.0 w.0) (head_alike f f' _ _ (λ i. past (specs_text (w.0 i)) (t i)) h.1 h'.1 w.1)
inside_alike (external_kind.Definition s f b) (external_kind.Definition s' f' b') tokens tokens' t h h' w =
    same.Definition (specs_alike s s' _ _ t h.0 h'.0 w.0) (head_alike f f' _ _ (λ i. past (specs_text (w.0 i)) (t i)) h.1 h'.1 w.1)
    (body_alike b b' _ _ (λ i. past (head_text (w.1 i)) (past (specs_text (w.0 i)) (t i))) h.2 h'.2 w.2)
inside_alike _ _ tokens tokens' t h h' w = absurd w

external_alike : Alike IsExternalPlaced external SameExternal
external_alike e e' tokens tokens' t h h' w =
    record { at = stands_same t h.0 h'.0; is = inside_alike e.kind e'.kind _ _ t h.1 h'.1 (external_fits w) }

-- two files with the same parts and the positions of the same tokens
pub file_alike : (file other : List RawExternal) (tokens : List Token) → AreFilePlaced file tokens → AreFilePlaced other tokens
    → parts_of file ≡ parts_of other → SameTree file other
file_alike file other tokens h h' w =
    side_by_side IsExternalPlaced external external_text SameExternal external_alike file other tokens tokens refl h h' (list_fits w)
