-- The tokens of a function's body with their roles: each is inside the body. For the contract of `is_inside`.
use Rattle.std.proofs.Common.{ℕ, inl, Bool, true, false, List, [], ◌∷◌, Option, Some, None, MatchOption, IsTrue, refl}
use Rattle.std.specs.Option.{option_map}
use Rattle.cs_ast.specs.declared.token.TokenKind.TheVariants as token
use Rattle.cs_ast.specs.declared.token.Keyword.{Keyword}
use Rattle.cs_ast.specs.declared.token.Keyword.TheVariants as keyword
use Rattle.cs_ast.specs.declared.token.Punctuator.TheVariants as punctuator
use Rattle.cs_ast.specs.declared.raw.written_type.TypeWord.{TypeWord}
use Rattle.cs_ast.specs.RawTree.{Written}
use Rattle.cs_ast.specs.RawDeclarations.{Static, Plain, StructBody, EnumBody, Specs, NoSpec, MoreSpecs, Declarator, Initial, Single, Listed, Initials}
use Rattle.cs_ast.specs.RawDeclarations.{NoItem as NoInitial, MoreItems as MoreInitials, Declared as DeclaredObject}
use Rattle.cs_ast.specs.RawStatements.{First, NoFirst, FirstRuns, FirstDeclares, Sentence, Block, Nothing, Runs, If, IfElse, While, Do, For, Switch, Goto}
use Rattle.cs_ast.specs.RawStatements.{Continue, Break, Return, Label, Item, Declares, Does, Items, NoItem, MoreItems, SwitchItem, Case, Default}
use Rattle.cs_ast.specs.RawStatements.{Inside as InnerItem, SwitchItems, NoSwitchItem, MoreSwitchItems}
use Rattle.cs_grammar.specs.TypeWords.{Names, is_type}
use Rattle.cs_grammar.specs.Text.{Kinds, text, pointers_text, type_word_text}
use Rattle.cs_grammar.specs.Phrases.{IsPhrase}
use Rattle.cs_grammar.specs.Levels.{COMMA}
use Rattle.cs_grammar.specs.FileText.{some_text, comma_text, each_after_comma, with_commas, brackets_text, declarator_text, initial_text, further_initials_text}
use Rattle.cs_grammar.specs.FileText.{first_value_text, declared_text, specs_text, declaration_text, first_text, test_text, sentence_text, item_text}
use Rattle.cs_grammar.specs.FileText.{items_text, switch_item_text, switch_text}
use Rattle.cs_grammar.specs.FilePhrases.{AreAll, IsBound, IsDeclarator, IsInitial, AreInitials, IsDeclared, AreDeclared, plain_words, AreBlockSpecs, IsFirst}
use Rattle.cs_grammar.specs.FilePhrases.{IsSentence, IsItem, AreItems, IsSwitchItem, AreSwitchItems}
use Rattle.cs_grammar.specs.Roles.{another, declared_name, Roles, some_roles, comma_roles, each_after, between, brackets_roles, declarator_roles, initial_roles}
use Rattle.cs_grammar.specs.Roles.{further_initials_roles, first_value_roles, declared_roles, specs_roles, declaration_roles, first_roles, test_roles}
use Rattle.cs_grammar.specs.Roles.{sentence_roles, item_roles, items_roles, switch_item_roles, switch_roles, roles}
use Rattle.cs_unsupported.specs.declared.inside.Part.TheVariants as part
use Rattle.cs_unsupported.specs.declared.inside.Where.{Where}
use Rattle.cs_unsupported.specs.declared.inside.Where.TheVariants.{Inside}
use Rattle.cs_unsupported.specs.declared.inside.Tagging.TheVariants as tagging
use Rattle.cs_unsupported.specs.Sites.{tag_after}
use Rattle.cs_unsupported.proofs.InsideTraces.{Telling, Calm, pointers_calm, word_calm, expression_calm}

-- no specifier is `static` or has a body
abbrev pub ArePlain : Specs → Type 0
ArePlain NoSpec = Unit {0}
ArePlain (MoreSpecs (Plain w) others) = ArePlain others
ArePlain (MoreSpecs other others) = ⊥

pub once_more : {A B : Type 0} (f : A → B) (x : Option A) (P : B → Type 0) → MatchOption (option_map f x) ⊥ P → MatchOption x ⊥ (λ a. P (f a))
once_more f None P h = h
once_more f (Some a) P h = h

pub plain_specs : (specs : Specs) (P : List TypeWord → Type 0) → MatchOption (plain_words specs) ⊥ P → ArePlain specs
plain_specs NoSpec P h = tt
plain_specs (MoreSpecs (Plain w) others) P h = plain_specs others (λ ws. P (w ∷ ws)) (once_more (λ ws. w ∷ ws) (plain_words others) P h)
plain_specs (MoreSpecs Static others) P h = h
plain_specs (MoreSpecs (StructBody tag members) others) P h = h
plain_specs (MoreSpecs (EnumBody tag constants comma) others) P h = h

-- tokens in a body, whatever the last ones are
abbrev pub Still : Telling → (Kinds → Type 0) → List Where → Kinds → Roles → Type 0
Still t W s ts rs = Calm t W (Inside part.Body) s ts rs

word_still : (t : Telling) → t.blk → (W : Kinds → Type 0) (s : List Where) (specs : Specs) (ts : Kinds) (rs : Roles) → ArePlain specs
    → Still t (λ y. W (specs_text specs y)) s ts rs → Still t W s (specs_text specs ts) (specs_roles specs rs)
word_still t k W s NoSpec ts rs p h = h
word_still t k W s (MoreSpecs (Plain w) others) ts rs p h =
    word_calm t (Inside part.Body) another (λ V n. k) W s w (specs_text others ts) (specs_roles others rs)
    (word_still t k (λ y. W (type_word_text w y)) s others ts rs p h)
word_still t k W s (MoreSpecs Static others) ts rs p h = absurd p
word_still t k W s (MoreSpecs (StructBody tag members) others) ts rs p h = absurd p
word_still t k W s (MoreSpecs (EnumBody tag constants comma) others) ts rs p h = absurd p

phrase_still : (t : Telling) → t.blk → (names : Names) (level : ℕ) (W : Kinds → Type 0) (s : List Where) (e : Written) (ts : Kinds) (rs : Roles)
    → IsPhrase names level e → Still t (λ y. W (text e y)) s ts rs → Still t W s (text e ts) (roles e rs)
phrase_still t k names level W s e ts rs is h = expression_calm t names part.Body k W s e ts rs is.1 (inl refl) h

some_still : (t : Telling) → t.blk → (names : Names) (level : ℕ) (W : Kinds → Type 0) (s : List Where) (e : Option Written) (ts : Kinds) (rs : Roles)
    → MatchOption e (Unit {0}) (IsPhrase names level) → Still t (λ y. W (some_text e y)) s ts rs → Still t W s (some_text e ts) (some_roles e rs)
some_still t k names level W s None ts rs is h = h
some_still t k names level W s (Some e) ts rs is h = phrase_still t k names level W s e ts rs is h

brackets_still : (t : Telling) → t.blk → (names : Names) (W : Kinds → Type 0) (s : List Where) (bs : List (Option Written)) (ts : Kinds) (rs : Roles)
    → AreAll (IsBound names) bs → Still t (λ y. W (brackets_text bs y)) s ts rs → Still t W s (brackets_text bs ts) (brackets_roles bs rs)
brackets_still t k names W s [] ts rs are h = h
brackets_still t k names W s (e ∷ bs) ts rs are h =
    λ b. (
      k,
      some_still t k names 2 (λ y. W (token.Punctuator punctuator.OpenBracket ∷ y)) (Inside part.Body ∷ s) e
          (token.Punctuator punctuator.CloseBracket ∷ brackets_text bs ts) (another ∷ brackets_roles bs rs) are.0
          (λ c. (
            k,
            brackets_still t k names (λ y. W (token.Punctuator punctuator.OpenBracket ∷ some_text e (token.Punctuator punctuator.CloseBracket ∷ y))) s bs
                ts rs are.1 h tagging.Nothing,
          )) tagging.Nothing,
    )

declarator_still : (t : Telling) → t.blk → (names : Names) (W : Kinds → Type 0) (s : List Where) (d : Declarator) (ts : Kinds) (rs : Roles)
    → IsDeclarator names d → Still t (λ y. W (declarator_text d y)) s ts rs → Still t W s (declarator_text d ts) (declarator_roles d rs)
declarator_still t k names W s d ts rs is h =
    pointers_calm t (Inside part.Body) another (λ V n. k) W s d.pointers (token.Name d.name ∷ brackets_text d.bounds ts)
    (declared_name ∷ brackets_roles d.bounds rs)
    (λ b. (k, brackets_still t k names (λ y. W (pointers_text d.pointers (token.Name d.name ∷ y))) s d.bounds ts rs is.bounds h (tag_after b)))

comma_still : (t : Telling) → t.blk → (W : Kinds → Type 0) (s : List Where) (comma : Bool) (ts : Kinds) (rs : Roles)
    → Still t (λ y. W (comma_text comma y)) s ts rs → Still t W s (comma_text comma ts) (comma_roles comma rs)
comma_still t k W s false ts rs h = h
comma_still t k W s true ts rs h = λ b. (k, h tagging.Nothing)

mutual
  initial_still : (t : Telling) → t.blk → (names : Names) (W : Kinds → Type 0) (s : List Where) (i : Initial) (ts : Kinds) (rs : Roles)
      → IsInitial names i → Still t (λ y. W (initial_text i y)) s ts rs → Still t W s (initial_text i ts) (initial_roles i rs)
  initial_still t k names W s (Single e) ts rs is h = phrase_still t k names 1 W s e ts rs is h
  initial_still t k names W s (Listed NoInitial comma) ts rs is h = absurd is
  initial_still t k names W s (Listed (MoreInitials first others) comma) ts rs is h =
      λ b. (
        k,
        initial_still t k names (λ y. W (token.Punctuator punctuator.OpenBrace ∷ y)) (Inside part.Body ∷ s) first
            (further_initials_text others (comma_text comma (token.Punctuator punctuator.CloseBrace ∷ ts)))
            (further_initials_roles others (comma_roles comma (another ∷ rs))) is.0
            (further_still t k names (λ y. W (token.Punctuator punctuator.OpenBrace ∷ initial_text first y)) (Inside part.Body ∷ s) others
            (comma_text comma (token.Punctuator punctuator.CloseBrace ∷ ts)) (comma_roles comma (another ∷ rs)) is.1
            (comma_still t k (λ y. W (token.Punctuator punctuator.OpenBrace ∷ initial_text first (further_initials_text others y))) (Inside part.Body ∷ s)
            comma (token.Punctuator punctuator.CloseBrace ∷ ts) (another ∷ rs) (λ c. (k, h tagging.Nothing)))) tagging.Nothing,
      )

  further_still : (t : Telling) → t.blk → (names : Names) (W : Kinds → Type 0) (s : List Where) (i : Initials) (ts : Kinds) (rs : Roles)
      → AreInitials names i → Still t (λ y. W (further_initials_text i y)) s ts rs
      → Still t W s (further_initials_text i ts) (further_initials_roles i rs)
  further_still t k names W s NoInitial ts rs are h = h
  further_still t k names W s (MoreInitials first others) ts rs are h =
      λ b. (
        k,
        initial_still t k names (λ y. W (token.Punctuator punctuator.Comma ∷ y)) s first (further_initials_text others ts) (further_initials_roles others rs)
            are.0 (further_still t k names (λ y. W (token.Punctuator punctuator.Comma ∷ initial_text first y)) s others ts rs are.1 h) tagging.Nothing,
      )

first_still : (t : Telling) → t.blk → (names : Names) (W : Kinds → Type 0) (s : List Where) (i : Option Initial) (ts : Kinds) (rs : Roles)
    → MatchOption i (Unit {0}) (IsInitial names) → Still t (λ y. W (first_value_text i y)) s ts rs
    → Still t W s (first_value_text i ts) (first_value_roles i rs)
first_still t k names W s None ts rs is h = h
first_still t k names W s (Some i) ts rs is h = λ b.
    (k, initial_still t k names (λ y. W (token.Punctuator punctuator.Equal ∷ y)) s i ts rs is h tagging.Nothing)

declared_still : (t : Telling) → t.blk → (names : Names) (W : Kinds → Type 0) (s : List Where) (d : DeclaredObject) (ts : Kinds) (rs : Roles)
    → IsDeclared names d → Still t (λ y. W (declared_text d y)) s ts rs → Still t W s (declared_text d ts) (declared_roles d rs)
declared_still t k names W s d ts rs is h =
    declarator_still t k names W s d.declarator (first_value_text d.initial ts) (first_value_roles d.initial rs) is.declarator
    (first_still t k names (λ y. W (declarator_text d.declarator y)) s d.initial ts rs is.initial h)

each_still : (t : Telling) → t.blk → (names : Names) (W : Kinds → Type 0) (s : List Where) (ds : List DeclaredObject) (ts : Kinds) (rs : Roles)
    → AreAll (IsDeclared names) ds → Still t (λ y. W (each_after_comma declared_text ds y)) s ts rs
    → Still t W s (each_after_comma declared_text ds ts) (each_after another declared_roles ds rs)
each_still t k names W s [] ts rs are h = h
each_still t k names W s (d ∷ ds) ts rs are h =
    λ b. (
      k,
      declared_still t k names (λ y. W (token.Punctuator punctuator.Comma ∷ y)) s d (each_after_comma declared_text ds ts)
          (each_after another declared_roles ds rs) are.0
          (each_still t k names (λ y. W (token.Punctuator punctuator.Comma ∷ declared_text d y)) s ds ts rs are.1 h) tagging.Nothing,
    )

objects_still : (t : Telling) → t.blk → (names : Names) (W : Kinds → Type 0) (s : List Where) (ds : List DeclaredObject) (ts : Kinds) (rs : Roles)
    → AreDeclared names ds → Still t (λ y. W (with_commas declared_text ds y)) s ts rs
    → Still t W s (with_commas declared_text ds ts) (between another declared_roles ds rs)
objects_still t k names W s [] ts rs are h = absurd are.0
objects_still t k names W s (d ∷ ds) ts rs are h =
    declared_still t k names W s d (each_after_comma declared_text ds ts) (each_after another declared_roles ds rs) are.1.0
    (each_still t k names (λ y. W (declared_text d y)) s ds ts rs are.1.1 h)

local_still : (t : Telling) → t.blk
    → (names : Names) (W : Kinds → Type 0) (s : List Where) (specs : Specs) (objects : List DeclaredObject) (ts : Kinds) (rs : Roles)
    → AreBlockSpecs names specs → AreDeclared names objects → Still t (λ y. W (declaration_text specs objects y)) s ts rs
    → Still t W s (declaration_text specs objects ts) (declaration_roles specs objects rs)
local_still t k names W s specs objects ts rs is are h =
    word_still t k W s specs (with_commas declared_text objects (token.Punctuator punctuator.Semicolon ∷ ts))
    (between another declared_roles objects (another ∷ rs)) (plain_specs specs (λ words. IsTrue (is_type names words)) is)
    (objects_still t k names (λ y. W (specs_text specs y)) s objects (token.Punctuator punctuator.Semicolon ∷ ts) (another ∷ rs) are
    (λ b. (k, h tagging.Nothing)))

first_part : (t : Telling) → t.blk → (names : Names) (W : Kinds → Type 0) (s : List Where) (f : First) (ts : Kinds) (rs : Roles) → IsFirst names f
    → Still t (λ y. W (first_text f y)) s ts rs → Still t W s (first_text f ts) (first_roles f rs)
first_part t k names W s NoFirst ts rs is h = λ b. (k, h tagging.Nothing)
first_part t k names W s (FirstRuns e) ts rs is h =
    phrase_still t k names COMMA W s e (token.Punctuator punctuator.Semicolon ∷ ts) (another ∷ rs) is (λ b. (k, h tagging.Nothing))
first_part t k names W s (FirstDeclares specs objects) ts rs is h = local_still t k names W s specs objects ts rs is.0 is.1 h

test_still : (t : Telling) → t.blk → (names : Names) (W : Kinds → Type 0) (s : List Where) (e : Written) (ts : Kinds) (rs : Roles)
    → IsPhrase names COMMA e → Still t (λ y. W (test_text e y)) s ts rs → Still t W s (test_text e ts) (test_roles e rs)
test_still t k names W s e ts rs is h =
    λ b. (
      k,
      phrase_still t k names COMMA (λ y. W (token.Punctuator punctuator.OpenParenthesis ∷ y)) (Inside part.Body ∷ s) e
          (token.Punctuator punctuator.CloseParenthesis ∷ ts) (another ∷ rs) is (λ c. (k, h tagging.Nothing)) tagging.Nothing,
    )

abbrev word : Keyword → Kinds → Kinds
word k x = token.Keyword k ∷ x

abbrev opening : Kinds → Kinds
opening x = token.Punctuator punctuator.OpenParenthesis ∷ x

abbrev closing : Kinds → Kinds
closing x = token.Punctuator punctuator.CloseParenthesis ∷ x

abbrev semicolon : Kinds → Kinds
semicolon x = token.Punctuator punctuator.Semicolon ∷ x

abbrev opened : Kinds → Kinds
opened x = token.Punctuator punctuator.OpenBrace ∷ x

abbrev closed : Kinds → Kinds
closed x = token.Punctuator punctuator.CloseBrace ∷ x

mutual
  sentence_still : (t : Telling) → t.blk → (names : Names) (W : Kinds → Type 0) (s : List Where) (x : Sentence) (ts : Kinds) (rs : Roles)
      → IsSentence names x → Still t (λ y. W (sentence_text x y)) s ts rs → Still t W s (sentence_text x ts) (sentence_roles x rs)
  sentence_still t k names W s (Block items) ts rs is h = λ b. (
    k,
    items_still t k names (λ y. W (opened y)) (Inside part.Body ∷ s) items (closed ts) (another ∷ rs) is (λ c. (k, h tagging.Nothing)) tagging.Nothing,
  )
  sentence_still t k names W s Nothing ts rs is h = λ b. (k, h tagging.Nothing)
  sentence_still t k names W s (Runs e) ts rs is h = phrase_still t k names COMMA W s e (semicolon ts) (another ∷ rs) is (λ b. (k, h tagging.Nothing))
  sentence_still t k names W s (If test body) ts rs is h =
      λ b. (
        k,
        test_still t k names (λ y. W (word keyword.If y)) s test (sentence_text body ts) (sentence_roles body rs) is.0
            (sentence_still t k names (λ y. W (word keyword.If (test_text test y))) s body ts rs is.1 h) tagging.Nothing,
      )
  sentence_still t k names W s (IfElse test body other) ts rs is h =
      λ b. (
        k,
        test_still t k names (λ y. W (word keyword.If y)) s test (sentence_text body (word keyword.Else (sentence_text other ts)))
            (sentence_roles body (another ∷ sentence_roles other rs)) is.0
            (sentence_still t k names (λ y. W (word keyword.If (test_text test y))) s body (word keyword.Else (sentence_text other ts))
            (another ∷ sentence_roles other rs) is.2
            (λ c. (
              k,
              sentence_still t k names (λ y. W (word keyword.If (test_text test (sentence_text body (word keyword.Else y))))) s other ts rs is.3 h
                  tagging.Nothing,
            ))) tagging.Nothing,
      )
  sentence_still t k names W s (While test body) ts rs is h =
      λ b. (
        k,
        test_still t k names (λ y. W (word keyword.While y)) s test (sentence_text body ts) (sentence_roles body rs) is.0
            (sentence_still t k names (λ y. W (word keyword.While (test_text test y))) s body ts rs is.1 h) tagging.Nothing,
      )
  sentence_still t k names W s (Do body test) ts rs is h =
      λ b. (
        k,
        sentence_still t k names (λ y. W (word keyword.Do y)) s body (word keyword.While (test_text test (semicolon ts)))
            (another ∷ test_roles test (another ∷ rs)) is.0
            (λ c. (
              k,
              test_still t k names (λ y. W (word keyword.Do (sentence_text body (word keyword.While y)))) s test (semicolon ts) (another ∷ rs) is.1
                  (λ d. (k, h tagging.Nothing)) tagging.Nothing,
            )) tagging.Nothing,
      )
  sentence_still t k names W s (For first test last' body) ts rs is h =
      λ b. (
        k,
        (
          k,
          first_part t k names (λ y. W (word keyword.For (opening y))) (Inside part.Body ∷ s) first
              (some_text test (semicolon (some_text last' (closing (sentence_text body ts)))))
              (some_roles test (another ∷ some_roles last' (another ∷ sentence_roles body rs))) is.0
              (some_still t k names COMMA (λ y. W (word keyword.For (opening (first_text first y)))) (Inside part.Body ∷ s) test
              (semicolon (some_text last' (closing (sentence_text body ts)))) (another ∷ some_roles last' (another ∷ sentence_roles body rs)) is.1
              (λ c. (
                k,
                some_still t k names COMMA (λ y. W (word keyword.For (opening (first_text first (some_text test (semicolon y)))))) (Inside part.Body ∷ s)
                    last' (closing (sentence_text body ts)) (another ∷ sentence_roles body rs) is.2
                    (λ d. (
                      k,
                      sentence_still t k names (λ y.
                          W (word keyword.For (opening (first_text first (some_text test (semicolon (some_text last' (closing y)))))))) s body ts rs is.3 h
                          tagging.Nothing,
                    )) tagging.Nothing,
              ))) tagging.Nothing,
        ),
      )
  sentence_still t k names W s (Switch value items) ts rs is h =
      λ b. (
        k,
        test_still t k names (λ y. W (word keyword.Switch y)) s value (opened (switch_text items (closed ts)))
            (another ∷ switch_roles items (another ∷ rs)) is.0
            (λ c. (
              k,
              switch_still t k names (λ y. W (word keyword.Switch (test_text value (opened y)))) (Inside part.Body ∷ s) items (closed ts) (another ∷ rs)
                  is.1 (λ d. (k, h tagging.Nothing)) tagging.Nothing,
            )) tagging.Nothing,
      )
  sentence_still t k names W s (Goto label) ts rs is h = λ b. (k, (k, (k, h tagging.Nothing)))
  sentence_still t k names W s Continue ts rs is h = λ b. (k, (k, h tagging.Nothing))
  sentence_still t k names W s Break ts rs is h = λ b. (k, (k, h tagging.Nothing))
  sentence_still t k names W s (Return value) ts rs is h = λ b. (
    k,
    some_still t k names COMMA (λ y. W (word keyword.Return y)) s value (semicolon ts) (another ∷ rs) is (λ c. (k, h tagging.Nothing)) tagging.Nothing,
  )
  sentence_still t k names W s (Label name body) ts rs is h = λ b.
      (k, (k, sentence_still t k names (λ y. W (token.Name name ∷ token.Punctuator punctuator.Colon ∷ y)) s body ts rs is h tagging.Nothing))

  item_still : (t : Telling) → t.blk → (names : Names) (W : Kinds → Type 0) (s : List Where) (i : Item) (ts : Kinds) (rs : Roles) → IsItem names i
      → Still t (λ y. W (item_text i y)) s ts rs → Still t W s (item_text i ts) (item_roles i rs)
  item_still t k names W s (Declares specs objects) ts rs is h = local_still t k names W s specs objects ts rs is.0 is.1 h
  item_still t k names W s (Does statement) ts rs is h = sentence_still t k names W s statement ts rs is h

  pub items_still : (t : Telling) → t.blk → (names : Names) (W : Kinds → Type 0) (s : List Where) (i : Items) (ts : Kinds) (rs : Roles)
      → AreItems names i → Still t (λ y. W (items_text i y)) s ts rs → Still t W s (items_text i ts) (items_roles i rs)
  items_still t k names W s NoItem ts rs is h = h
  items_still t k names W s (MoreItems first others) ts rs is h =
      item_still t k names W s first (items_text others ts) (items_roles others rs) is.0
      (items_still t k names (λ y. W (item_text first y)) s others ts rs is.1 h)

  switch_item_still : (t : Telling) → t.blk → (names : Names) (W : Kinds → Type 0) (s : List Where) (i : SwitchItem) (ts : Kinds) (rs : Roles)
      → IsSwitchItem names i → Still t (λ y. W (switch_item_text i y)) s ts rs → Still t W s (switch_item_text i ts) (switch_item_roles i rs)
  switch_item_still t k names W s (Case value) ts rs is h = λ b. (
    k,
    phrase_still t k names 2 (λ y. W (word keyword.Case y)) s value (token.Punctuator punctuator.Colon ∷ ts) (another ∷ rs) is
        (λ c. (k, h tagging.Nothing)) tagging.Nothing,
  )
  switch_item_still t k names W s Default ts rs is h = λ b. (k, (k, h tagging.Nothing))
  switch_item_still t k names W s (InnerItem item) ts rs is h = item_still t k names W s item ts rs is h

  switch_still : (t : Telling) → t.blk → (names : Names) (W : Kinds → Type 0) (s : List Where) (i : SwitchItems) (ts : Kinds) (rs : Roles)
      → AreSwitchItems names i → Still t (λ y. W (switch_text i y)) s ts rs → Still t W s (switch_text i ts) (switch_roles i rs)
  switch_still t k names W s NoSwitchItem ts rs is h = h
  switch_still t k names W s (MoreSwitchItems first others) ts rs is h =
      switch_item_still t k names W s first (switch_text others ts) (switch_roles others rs) is.0
      (switch_still t k names (λ y. W (switch_item_text first y)) s others ts rs is.1 h)
