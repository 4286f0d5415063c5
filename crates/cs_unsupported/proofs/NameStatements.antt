-- The tokens of statements with their roles: where a declarator's name is, and where a new one might be. For the contract of
-- `token_for_name`.
use Rattle.std.proofs.Common.{ℕ, IsTrue, List, [], ◌∷◌, Option, Some, None, MatchOption, refl, arith}
use Rattle.std.proofs.lemmas.Bool.{false≢true}
use Rattle.cs_ast.specs.declared.token.TokenKind.{TokenKind}
use Rattle.cs_ast.specs.declared.token.TokenKind.TheVariants as token
use Rattle.cs_ast.specs.declared.token.Keyword.{Keyword}
use Rattle.cs_ast.specs.declared.token.Keyword.TheVariants as keyword
use Rattle.cs_ast.specs.declared.token.Punctuator.TheVariants as punctuator
use Rattle.cs_ast.specs.declared.raw.written_type.TypeWord.{TypeWord}
use Rattle.cs_ast.specs.RawTree.{Written, Literal, Enclosed}
use Rattle.cs_ast.specs.RawDeclarations.{Static, Plain, StructBody, EnumBody, Specs, NoSpec, MoreSpecs, Declared}
use Rattle.cs_ast.specs.RawStatements.{First, NoFirst, FirstRuns, FirstDeclares, Sentence, Block, Nothing, Runs, If, IfElse, While, Do, For, Switch, Goto}
use Rattle.cs_ast.specs.RawStatements.{Continue, Break, Return, Label, Item, Declares, Does, Items, NoItem, MoreItems, SwitchItem, Case, Default, Inside}
use Rattle.cs_ast.specs.RawStatements.{SwitchItems, NoSwitchItem, MoreSwitchItems}
use Rattle.cs_grammar.specs.TypeWords.{Names, is_type}
use Rattle.cs_grammar.specs.Text.{Kinds, type_word_text}
use Rattle.cs_grammar.specs.Phrases.{IsPhrase}
use Rattle.cs_grammar.specs.FileText.{some_text, with_commas, declared_text, specs_text, declaration_text, first_text, test_text, sentence_text, item_text}
use Rattle.cs_grammar.specs.FileText.{items_text, switch_item_text, switch_text}
use Rattle.cs_grammar.specs.FilePhrases.{words_of, plain_words, AreBlockSpecs, IsDeclared, AreDeclared, IsFirst, IsSentence, IsItem, AreItems, IsSwitchItem}
use Rattle.cs_grammar.specs.FilePhrases.{AreSwitchItems}
use Rattle.cs_grammar.specs.Roles.{another, Roles, each, some_roles, between, declared_roles, specs_roles, declaration_roles, first_roles, test_roles}
use Rattle.cs_grammar.specs.Roles.{sentence_roles, item_roles, items_roles, switch_item_roles, switch_roles}
use Rattle.cs_unsupported.specs.declared.declarators.Joint.{Joint}
use Rattle.cs_unsupported.specs.declared.declarators.Joint.TheVariants.{Barred, Open}
use Rattle.cs_unsupported.proofs.InsideBodies.{ArePlain, once_more, plain_specs}
use Rattle.cs_unsupported.proofs.NameTraces.{opening, World, Goes, Trace, NewName, by_opening, words_known, word_trace, expression_trace}
use Rattle.cs_unsupported.proofs.NameDeclarations.{IsClear, Anything, list_each, declared_trace, AreKnownSpecs, specs_known}

abbrev closing : TokenKind
closing = token.Punctuator punctuator.CloseParenthesis

abbrev semicolon : TokenKind
semicolon = token.Punctuator punctuator.Semicolon

abbrev colon : TokenKind
colon = token.Punctuator punctuator.Colon

abbrev opened : TokenKind
opened = token.Punctuator punctuator.OpenBrace

abbrev closed : TokenKind
closed = token.Punctuator punctuator.CloseBrace

abbrev word : Keyword → TokenKind
word k = token.Keyword k

-- an expression, if there is one
some_trace : (x : NewName) (W : World) (us : Kinds) (qs : Roles) (level : ℕ) (e : Option Written) (ts : Kinds) (rs : Roles)
    → MatchOption e (Unit {0}) (IsPhrase x.names level)
    → ((other : Option Written) → MatchOption other (Unit {0}) (IsPhrase x.names level) → W (some_text other us) (some_roles other qs))
    → Trace x.name (λ y q. W (some_text e y) (some_roles e q)) Open ts rs → Trace x.name W Open (some_text e ts) (some_roles e rs)
some_trace x W us qs level None ts rs is g h = h
some_trace x W us qs level (Some e) ts rs is g h = expression_trace x W us qs level Open e ts rs is.0 is.1 (λ e' b w. g (Some e') (b, w)) h

-- an expression between parentheses
test_trace : (x : NewName) (W : World) (us : Kinds) (qs : Roles) (e : Written) (ts : Kinds) (rs : Roles) → IsPhrase x.names 0 e
    → ((other : Written) → IsPhrase x.names 0 other → W (test_text other us) (test_roles other qs))
    → Trace x.name (λ y q. W (test_text e y) (test_roles e q)) Open ts rs → Trace x.name W Open (test_text e ts) (test_roles e rs)
test_trace x W us qs e ts rs is g h = (
  (tt, tt),
  expression_trace x (λ y q. W (opening ∷ y) (another ∷ q)) (closing ∷ us) (another ∷ qs) 0 Open e (closing ∷ ts) (another ∷ rs) is.0 is.1
      (λ e' b w. g e' (b, w)) ((tt, tt), h),
)

plain_type : (specs : Specs) (P : List TypeWord → Type 0) → MatchOption (plain_words specs) ⊥ P → P (words_of specs)
plain_type NoSpec P h = h
plain_type (MoreSpecs (Plain w) others) P h = plain_type others (λ ws. P (w ∷ ws)) (once_more (λ ws. w ∷ ws) (plain_words others) P h)
plain_type (MoreSpecs Static others) P h = absurd h
plain_type (MoreSpecs (StructBody tag members) others) P h = absurd h
plain_type (MoreSpecs (EnumBody tag constants b) others) P h = absurd h

-- more words of a type in a block
further_words : (x : NewName) (W : World) (specs : Specs) (ts : Kinds) (rs : Roles) → ArePlain specs → AreKnownSpecs x.names specs
    → Trace x.name (λ y q. W (specs_text specs y) (specs_roles specs q)) Open ts rs → Trace x.name W Open (specs_text specs ts) (specs_roles specs rs)
further_words x W NoSpec ts rs p k h = h
further_words x W (MoreSpecs (Plain w) others) ts rs p k h =
    word_trace x another refl W Open w (specs_text others ts) (specs_roles others rs) k.0
    (further_words x (λ y q. W (type_word_text w y) (each another (type_word_text w []) q)) others ts rs p k.1 h)
further_words x W (MoreSpecs Static others) ts rs p k h = absurd p
further_words x W (MoreSpecs (StructBody tag members) others) ts rs p k h = absurd p
further_words x W (MoreSpecs (EnumBody tag constants b) others) ts rs p k h = absurd p

-- the words of a type in a block, whatever precedes them
first_words : (x : NewName) (W : World) (j : Joint) (specs : Specs) (ts : Kinds) (rs : Roles) → IsTrue (is_type x.names (words_of specs)) → ArePlain specs
    → AreKnownSpecs x.names specs → Trace x.name (λ y q. W (specs_text specs y) (specs_roles specs q)) Open ts rs
    → Trace x.name W j (specs_text specs ts) (specs_roles specs rs)
first_words x W j NoSpec ts rs is p k h = absurd (false≢true is)
first_words x W j (MoreSpecs (Plain w) others) ts rs is p k h =
    word_trace x another refl W j w (specs_text others ts) (specs_roles others rs) k.0
    (further_words x (λ y q. W (type_word_text w y) (each another (type_word_text w []) q)) others ts rs p k.1 h)
first_words x W j (MoreSpecs Static others) ts rs is p k h = absurd p
first_words x W j (MoreSpecs (StructBody tag members) others) ts rs is p k h = absurd p
first_words x W j (MoreSpecs (EnumBody tag constants b) others) ts rs is p k h = absurd p

-- objects, and the semicolon after them
pub objects_trace : (x : NewName) (W : World) (us : Kinds) (qs : Roles) (objects : List Declared) (ts : Kinds) (rs : Roles) → AreDeclared x.names objects
    → ((others : List Declared) → AreDeclared x.names others
    → W (with_commas declared_text others (semicolon ∷ us)) (between another declared_roles others (another ∷ qs)))
    → Trace x.name (λ y q. W (with_commas declared_text objects (semicolon ∷ y)) (between another declared_roles objects (another ∷ q))) Open ts rs
    → Trace x.name W Open (with_commas declared_text objects (semicolon ∷ ts)) (between another declared_roles objects (another ∷ rs))
objects_trace x W us qs objects ts rs are g h =
    list_each x.name IsClear declared_text declared_roles (IsDeclared x.names) Anything (declared_trace x) refl another refl W (semicolon ∷ us)
    (another ∷ qs) Open objects (semicolon ∷ ts) (another ∷ rs) refl are.0 are.1 (λ ds some all other. g ds (some, all)) ((tt, tt), h)

-- a declaration in a block
local_trace : (x : NewName) (W : World) (us : Kinds) (qs : Roles) (j : Joint) (specs : Specs) (objects : List Declared) (ts : Kinds) (rs : Roles)
    → AreBlockSpecs x.names specs → AreDeclared x.names objects
    → ((others : List Declared) → AreDeclared x.names others → W (declaration_text specs others us) (declaration_roles specs others qs))
    → Trace x.name (λ y q. W (declaration_text specs objects y) (declaration_roles specs objects q)) Open ts rs
    → Trace x.name W j (declaration_text specs objects ts) (declaration_roles specs objects rs)
local_trace x W us qs j specs objects ts rs is are g h =
    let type = plain_type specs (λ words. IsTrue (is_type x.names words)) is in
    first_words x W j specs (with_commas declared_text objects (semicolon ∷ ts)) (between another declared_roles objects (another ∷ rs)) type
    (plain_specs specs (λ words. IsTrue (is_type x.names words)) is) (specs_known x.names specs (words_known x.names (words_of specs) type))
    (objects_trace x (λ y q. W (specs_text specs y) (specs_roles specs q)) us qs objects ts rs are g h)

-- the first part of a `for`
first_trace : (x : NewName) (W : World) (us : Kinds) (qs : Roles) (f : First) (ts : Kinds) (rs : Roles) → IsFirst x.names f
    → ((other : First) → IsFirst x.names other → W (first_text other us) (first_roles other qs))
    → Trace x.name (λ y q. W (first_text f y) (first_roles f q)) Open ts rs → Trace x.name W Open (first_text f ts) (first_roles f rs)
first_trace x W us qs NoFirst ts rs is g h = ((tt, tt), h)
first_trace x W us qs (FirstRuns e) ts rs is g h =
    expression_trace x W (semicolon ∷ us) (another ∷ qs) 0 Open e (semicolon ∷ ts) (another ∷ rs) is.0 is.1 (λ e' b w. g (FirstRuns e') (b, w))
    ((tt, tt), h)
first_trace x W us qs (FirstDeclares specs objects) ts rs is g h =
    local_trace x W us qs Open specs objects ts rs is.0 is.1 (λ ds all. g (FirstDeclares specs ds) (is.0, all)) h

-- each statement may come before these tokens
abbrev TakesSentences : World → Names → Kinds → Roles → Type 0
TakesSentences W names us qs = (i : Sentence) → IsSentence names i → W (sentence_text i us) (sentence_roles i qs)

-- and so may one that begins with a parenthesis
sentence_opens : (W : World) (names : Names) (us : Kinds) (qs : Roles) → TakesSentences W names us qs → Goes W opening
sentence_opens W names us qs g = (
  token.Text [] ∷ closing ∷ semicolon ∷ us,
  sentence_roles (Runs (Enclosed (Literal []))) qs,
  g (Runs (Enclosed (Literal []))) (omega arith, tt),
)

mutual
  sentence_trace : (x : NewName) (W : World) (us : Kinds) (qs : Roles) (j : Joint) (i : Sentence) (ts : Kinds) (rs : Roles) → IsSentence x.names i
      → TakesSentences W x.names us qs → Trace x.name (λ y q. W (sentence_text i y) (sentence_roles i q)) Open ts rs
      → Trace x.name W j (sentence_text i ts) (sentence_roles i rs)
  sentence_trace x W us qs j (Block items) ts rs is g h = (
    (tt, tt),
    items_trace x (λ y q. W (opened ∷ y) (another ∷ q)) (closed ∷ us) (another ∷ qs) Barred items (closed ∷ ts) (another ∷ rs) is
        (λ items' all. g (Block items') all) (λ i. ((tt, tt), h)),
  )
  sentence_trace x W us qs j Nothing ts rs is g h = ((tt, tt), h)
  sentence_trace x W us qs j (Runs e) ts rs is g h =
      expression_trace x W (semicolon ∷ us) (another ∷ qs) 0 j e (semicolon ∷ ts) (another ∷ rs) is.0 is.1 (λ e' b w. g (Runs e') (b, w)) ((tt, tt), h)
  sentence_trace x W us qs j (If test body) ts rs is g h = (
    (tt, tt),
    test_trace x (λ y q. W (word keyword.If ∷ y) (another ∷ q)) (sentence_text body us) (sentence_roles body qs) test (sentence_text body ts)
        (sentence_roles body rs) is.0 (λ e' w. g (If e' body) (w, is.1))
        (sentence_trace x (λ y q. W (word keyword.If ∷ test_text test y) (another ∷ test_roles test q)) us qs Open body ts rs is.1
        (λ i' w. g (If test i') (is.0, w)) h),
  )
  sentence_trace x W us qs j (IfElse test body other) ts rs is g h = (
    (tt, tt),
    test_trace x (λ y q. W (word keyword.If ∷ y) (another ∷ q)) (sentence_text body (word keyword.Else ∷ sentence_text other us))
        (sentence_roles body (another ∷ sentence_roles other qs)) test (sentence_text body (word keyword.Else ∷ sentence_text other ts))
        (sentence_roles body (another ∷ sentence_roles other rs)) is.0
        (λ e' w. g (IfElse e' body other) (w, is.1, is.2, is.3))
        (sentence_trace x (λ y q. W (word keyword.If ∷ test_text test y) (another ∷ test_roles test q)) us qs Open body
        (word keyword.Else ∷ sentence_text other ts) (another ∷ sentence_roles other rs) is.2 (λ i' w. g (If test i') (is.0, w)) (
          (tt, tt),
          sentence_trace x (λ y q.
              W (word keyword.If ∷ test_text test (sentence_text body (word keyword.Else ∷ y)))
              (another ∷ test_roles test (sentence_roles body (another ∷ q)))) us qs Open other ts rs is.3
              (λ i' w. g (IfElse test body i') (is.0, is.1, is.2, w)) h,
        )),
  )
  sentence_trace x W us qs j (While test body) ts rs is g h = (
    (tt, tt),
    test_trace x (λ y q. W (word keyword.While ∷ y) (another ∷ q)) (sentence_text body us) (sentence_roles body qs) test (sentence_text body ts)
        (sentence_roles body rs) is.0 (λ e' w. g (While e' body) (w, is.1))
        (sentence_trace x (λ y q. W (word keyword.While ∷ test_text test y) (another ∷ test_roles test q)) us qs Open body ts rs is.1
        (λ i' w. g (While test i') (is.0, w)) h),
  )
  sentence_trace x W us qs j (Do body test) ts rs is g h = (
    (tt, tt),
    sentence_trace x (λ y q. W (word keyword.Do ∷ y) (another ∷ q)) (word keyword.While ∷ test_text test (semicolon ∷ us))
        (another ∷ test_roles test (another ∷ qs)) Open body (word keyword.While ∷ test_text test (semicolon ∷ ts))
        (another ∷ test_roles test (another ∷ rs)) is.0
        (λ i' w. g (Do i' test) (w, is.1)) (
          (tt, tt),
          test_trace x (λ y q. W (word keyword.Do ∷ sentence_text body (word keyword.While ∷ y)) (another ∷ sentence_roles body (another ∷ q)))
              (semicolon ∷ us) (another ∷ qs) test (semicolon ∷ ts) (another ∷ rs) is.1 (λ e' w. g (Do body e') (is.0, w)) ((tt, tt), h),
        ),
  )
  sentence_trace x W us qs j (For first test last body) ts rs is g h = (
    (tt, tt),
    (
      (tt, tt),
      first_trace x (λ y q. W (word keyword.For ∷ opening ∷ y) (another ∷ another ∷ q))
          (some_text test (semicolon ∷ some_text last (closing ∷ sentence_text body us)))
          (some_roles test (another ∷ some_roles last (another ∷ sentence_roles body qs))) first
          (some_text test (semicolon ∷ some_text last (closing ∷ sentence_text body ts)))
          (some_roles test (another ∷ some_roles last (another ∷ sentence_roles body rs))) is.0 (λ f w. g (For f test last body) (w, is.1, is.2, is.3))
          (some_trace x (λ y q. W (word keyword.For ∷ opening ∷ first_text first y) (another ∷ another ∷ first_roles first q))
          (semicolon ∷ some_text last (closing ∷ sentence_text body us)) (another ∷ some_roles last (another ∷ sentence_roles body qs)) 0 test
          (semicolon ∷ some_text last (closing ∷ sentence_text body ts)) (another ∷ some_roles last (another ∷ sentence_roles body rs)) is.1
          (λ e' w. g (For first e' last body) (is.0, w, is.2, is.3)) (
            (tt, tt),
            some_trace x (λ y q.
                W (word keyword.For ∷ opening ∷ first_text first (some_text test (semicolon ∷ y)))
                (another ∷ another ∷ first_roles first (some_roles test (another ∷ q)))) (closing ∷ sentence_text body us)
                (another ∷ sentence_roles body qs) 0 last
                (closing ∷ sentence_text body ts) (another ∷ sentence_roles body rs) is.2 (λ e' w. g (For first test e' body) (is.0, is.1, w, is.3)) (
                  (tt, tt),
                  sentence_trace x (λ y q.
                      W (word keyword.For ∷ opening ∷ first_text first (some_text test (semicolon ∷ some_text last (closing ∷ y))))
                      (another ∷ another ∷ first_roles first (some_roles test (another ∷ some_roles last (another ∷ q))))) us qs Open body ts rs is.3
                      (λ i' w. g (For first test last i') (is.0, is.1, is.2, w)) h,
                ),
          )),
    ),
  )
  sentence_trace x W us qs j (Switch value items) ts rs is g h = (
    (tt, tt),
    test_trace x (λ y q. W (word keyword.Switch ∷ y) (another ∷ q)) (opened ∷ switch_text items (closed ∷ us))
        (another ∷ switch_roles items (another ∷ qs)) value (opened ∷ switch_text items (closed ∷ ts)) (another ∷ switch_roles items (another ∷ rs))
        is.0
        (λ e' w. g (Switch e' items) (w, is.1)) (
          (tt, tt),
          switch_trace x (λ y q. W (word keyword.Switch ∷ test_text value (opened ∷ y)) (another ∷ test_roles value (another ∷ q))) (closed ∷ us)
              (another ∷ qs) Barred items (closed ∷ ts) (another ∷ rs) is.1 (λ items' all. g (Switch value items') (is.0, all)) (λ i. ((tt, tt), h)),
        ),
  )
  sentence_trace x W us qs j (Goto label) ts rs is g h = ((tt, tt), ((tt, tt), ((tt, tt), h)))
  sentence_trace x W us qs j Continue ts rs is g h = ((tt, tt), ((tt, tt), h))
  sentence_trace x W us qs j Break ts rs is g h = ((tt, tt), ((tt, tt), h))
  sentence_trace x W us qs j (Return value) ts rs is g h = (
    (tt, tt),
    some_trace x (λ y q. W (word keyword.Return ∷ y) (another ∷ q)) (semicolon ∷ us) (another ∷ qs) 0 value (semicolon ∷ ts) (another ∷ rs) is
        (λ e' w. g (Return e') w) ((tt, tt), h),
  )
  sentence_trace x W us qs j (Label name body) ts rs is g h = (
    (tt, by_opening x.name W (token.Name name) j another (sentence_opens W x.names us qs g)),
    (
      (tt, tt),
      sentence_trace x (λ y q. W (token.Name name ∷ colon ∷ y) (another ∷ another ∷ q)) us qs Open body ts rs is (λ i' w. g (Label name i') w) h,
    ),
  )

  item_trace : (x : NewName) (W : World) (us : Kinds) (qs : Roles) (j : Joint) (i : Item) (ts : Kinds) (rs : Roles) → IsItem x.names i
      → ((other : Item) → IsItem x.names other → W (item_text other us) (item_roles other qs))
      → Trace x.name (λ y q. W (item_text i y) (item_roles i q)) Open ts rs → Trace x.name W j (item_text i ts) (item_roles i rs)
  item_trace x W us qs j (Declares specs objects) ts rs is g h =
      local_trace x W us qs j specs objects ts rs is.0 is.1 (λ ds all. g (Declares specs ds) (is.0, all)) h
  item_trace x W us qs j (Does statement) ts rs is g h = sentence_trace x W us qs j statement ts rs is (λ i' w. g (Does i') w) h

  -- items of a block, whatever precedes them
  pub items_trace : (x : NewName) (W : World) (us : Kinds) (qs : Roles) (j : Joint) (items : Items) (ts : Kinds) (rs : Roles) → AreItems x.names items
      → ((others : Items) → AreItems x.names others → W (items_text others us) (items_roles others qs))
      → ((i : Joint) → Trace x.name (λ y q. W (items_text items y) (items_roles items q)) i ts rs)
      → Trace x.name W j (items_text items ts) (items_roles items rs)
  items_trace x W us qs j NoItem ts rs is g h = h j
  items_trace x W us qs j (MoreItems first others) ts rs is g h =
      item_trace x W (items_text others us) (items_roles others qs) j first (items_text others ts) (items_roles others rs) is.0
      (λ i' w. g (MoreItems i' others) (w, is.1))
      (items_trace x (λ y q. W (item_text first y) (item_roles first q)) us qs Open others ts rs is.1 (λ items' all. g (MoreItems first items') (is.0, all))
      h)

  switch_item_trace : (x : NewName) (W : World) (us : Kinds) (qs : Roles) (j : Joint) (i : SwitchItem) (ts : Kinds) (rs : Roles) → IsSwitchItem x.names i
      → ((other : SwitchItem) → IsSwitchItem x.names other → W (switch_item_text other us) (switch_item_roles other qs))
      → Trace x.name (λ y q. W (switch_item_text i y) (switch_item_roles i q)) Open ts rs
      → Trace x.name W j (switch_item_text i ts) (switch_item_roles i rs)
  switch_item_trace x W us qs j (Case value) ts rs is g h = (
    (tt, tt),
    expression_trace x (λ y q. W (word keyword.Case ∷ y) (another ∷ q)) (colon ∷ us) (another ∷ qs) 2 Open value (colon ∷ ts) (another ∷ rs) is.0
        is.1 (λ e' b w. g (Case e') (b, w)) ((tt, tt), h),
  )
  switch_item_trace x W us qs j Default ts rs is g h = ((tt, tt), ((tt, tt), h))
  switch_item_trace x W us qs j (Inside item) ts rs is g h = item_trace x W us qs j item ts rs is (λ i' w. g (Inside i') w) h

  switch_trace : (x : NewName) (W : World) (us : Kinds) (qs : Roles) (j : Joint) (items : SwitchItems) (ts : Kinds) (rs : Roles)
      → AreSwitchItems x.names items → ((others : SwitchItems) → AreSwitchItems x.names others → W (switch_text others us) (switch_roles others qs))
      → ((i : Joint) → Trace x.name (λ y q. W (switch_text items y) (switch_roles items q)) i ts rs)
      → Trace x.name W j (switch_text items ts) (switch_roles items rs)
  switch_trace x W us qs j NoSwitchItem ts rs is g h = h j
  switch_trace x W us qs j (MoreSwitchItems first others) ts rs is g h =
      switch_item_trace x W (switch_text others us) (switch_roles others qs) j first (switch_text others ts) (switch_roles others rs) is.0
      (λ i' w. g (MoreSwitchItems i' others) (w, is.1))
      (switch_trace x (λ y q. W (switch_item_text first y) (switch_item_roles first q)) us qs Open others ts rs is.1
      (λ items' all. g (MoreSwitchItems first items') (is.0, all)) h)
