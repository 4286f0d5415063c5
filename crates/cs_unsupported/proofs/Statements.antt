-- The tokens of statements with their roles: none follows a member's declarator. For the contract of `is_after_member`.
use Rattle.std.proofs.Common.{List, ◌∷◌, Option, Some, None, MatchOption, IsTrue, refl}
use Rattle.std.specs.Option.{option_map}
use Rattle.cs_ast.specs.declared.token.TokenKind.TheVariants as token
use Rattle.cs_ast.specs.declared.token.Keyword.{Keyword}
use Rattle.cs_ast.specs.declared.token.Keyword.TheVariants as keyword
use Rattle.cs_ast.specs.declared.token.Punctuator.TheVariants as punctuator
use Rattle.cs_ast.specs.declared.raw.written_type.TypeWord.{TypeWord}
use Rattle.cs_ast.specs.RawTree.{Written}
use Rattle.cs_ast.specs.RawDeclarations.{Static, Plain, StructBody, EnumBody, Specs, NoSpec, MoreSpecs, Declared as DeclaredObject}
use Rattle.cs_ast.specs.RawStatements.{First, NoFirst, FirstRuns, FirstDeclares, Sentence, Block, Nothing, Runs, If, IfElse, While, Do, For, Switch, Goto}
use Rattle.cs_ast.specs.RawStatements.{Continue, Break, Return, Label, Item, Declares, Does, Items, NoItem, MoreItems, SwitchItem, Case, Default, Inside}
use Rattle.cs_ast.specs.RawStatements.{SwitchItems, NoSwitchItem, MoreSwitchItems}
use Rattle.cs_grammar.specs.TypeWords.{Names, is_type}
use Rattle.cs_grammar.specs.Text.{Kinds, type_word_text}
use Rattle.cs_grammar.specs.FileText.{some_text, with_commas, declared_text, specs_text, declaration_text, first_text, test_text, sentence_text, item_text}
use Rattle.cs_grammar.specs.FileText.{items_text, switch_item_text, switch_text}
use Rattle.cs_grammar.specs.FilePhrases.{plain_words, AreBlockSpecs, IsFirst, IsSentence, IsItem, AreItems, IsSwitchItem, AreSwitchItems}
use Rattle.cs_grammar.specs.Roles.{another, Roles, some_roles, between, declared_roles, specs_roles, declaration_roles, first_roles, test_roles, sentence_roles}
use Rattle.cs_grammar.specs.Roles.{item_roles, items_roles, switch_item_roles, switch_roles}
use Rattle.cs_unsupported.specs.declared.members.Phase.{Phase}
use Rattle.cs_unsupported.specs.declared.members.Phase.TheVariants.{Outside}
use Rattle.cs_unsupported.specs.declared.members.Last.TheVariants as last
use Rattle.cs_unsupported.proofs.Traces.{Trace, spot, Calm, word_calm, expression_calm, some_calm, list_calm, declared_calm}

-- no specifier is `static` or has a body
abbrev pub ArePlain : Specs → Type 0
ArePlain NoSpec = Unit {0}
ArePlain (MoreSpecs (Plain w) others) = ArePlain others
ArePlain (MoreSpecs other others) = ⊥

once_more : {A B : Type 0} (f : A → B) (x : Option A) (P : B → Type 0) → MatchOption (option_map f x) ⊥ P → MatchOption x ⊥ (λ a. P (f a))
once_more f None P h = h
once_more f (Some a) P h = h

pub plain_specs : (specs : Specs) (P : List TypeWord → Type 0) → MatchOption (plain_words specs) ⊥ P → ArePlain specs
plain_specs NoSpec P h = tt
plain_specs (MoreSpecs (Plain w) others) P h = plain_specs others (λ ws. P (w ∷ ws)) (once_more (λ ws. w ∷ ws) (plain_words others) P h)
plain_specs (MoreSpecs Static others) P h = h
plain_specs (MoreSpecs (StructBody tag members) others) P h = h
plain_specs (MoreSpecs (EnumBody tag constants comma) others) P h = h

plain_calm : (W : Kinds → Type 0) (s : List Phase) (specs : Specs) (ts : Kinds) (rs : Roles) → ArePlain specs
    → Calm (λ y. W (specs_text specs y)) s ts rs → Calm W s (specs_text specs ts) (specs_roles specs rs)
plain_calm W s NoSpec ts rs p h = h
plain_calm W s (MoreSpecs (Plain w) others) ts rs p h =
    word_calm another refl W s w (specs_text others ts) (specs_roles others rs) (plain_calm (λ y. W (type_word_text w y)) s others ts rs p h)
plain_calm W s (MoreSpecs Static others) ts rs p h = absurd p
plain_calm W s (MoreSpecs (StructBody tag members) others) ts rs p h = absurd p
plain_calm W s (MoreSpecs (EnumBody tag constants comma) others) ts rs p h = absurd p

-- the same if the last token isn't a word of a tag
abbrev pub Quiet : (Kinds → Type 0) → List Phase → Kinds → Roles → Type 0
Quiet W s ts rs = Trace W (spot Outside last.Other s) ts rs

-- objects and their semicolon
pub objects_calm : (W : Kinds → Type 0) (s : List Phase) (objects : List DeclaredObject) (ts : Kinds) (rs : Roles)
    → Quiet (λ y. W (with_commas declared_text objects (token.Punctuator punctuator.Semicolon ∷ y))) s ts rs
    → Calm W s (with_commas declared_text objects (token.Punctuator punctuator.Semicolon ∷ ts)) (between another declared_roles objects (another ∷ rs))
objects_calm W s objects ts rs h =
    list_calm declared_text declared_roles declared_calm W s objects (token.Punctuator punctuator.Semicolon ∷ ts) (another ∷ rs) (λ b. (refl, h))

local_quiet : (names : Names) (W : Kinds → Type 0) (s : List Phase) (specs : Specs) (objects : List DeclaredObject) (ts : Kinds) (rs : Roles)
    → AreBlockSpecs names specs → Quiet (λ y. W (declaration_text specs objects y)) s ts rs
    → Quiet W s (declaration_text specs objects ts) (declaration_roles specs objects rs)
local_quiet names W s specs objects ts rs is h =
    plain_calm W s specs (with_commas declared_text objects (token.Punctuator punctuator.Semicolon ∷ ts))
    (between another declared_roles objects (another ∷ rs)) (plain_specs specs (λ words. IsTrue (is_type names words)) is)
    (objects_calm (λ y. W (specs_text specs y)) s objects ts rs h) last.Other

first_quiet : (names : Names) (W : Kinds → Type 0) (s : List Phase) (f : First) (ts : Kinds) (rs : Roles) → IsFirst names f
    → Quiet (λ y. W (first_text f y)) s ts rs → Quiet W s (first_text f ts) (first_roles f rs)
first_quiet names W s NoFirst ts rs is h = (refl, h)
first_quiet names W s (FirstRuns e) ts rs is h =
    expression_calm W s e (token.Punctuator punctuator.Semicolon ∷ ts) (another ∷ rs) (λ b. (refl, h)) last.Other
first_quiet names W s (FirstDeclares specs objects) ts rs is h = local_quiet names W s specs objects ts rs is.0 h

-- an expression between parentheses
test_quiet : (W : Kinds → Type 0) (s : List Phase) (e : Written) (ts : Kinds) (rs : Roles) → Quiet (λ y. W (test_text e y)) s ts rs
    → Quiet W s (test_text e ts) (test_roles e rs)
test_quiet W s e ts rs h = (
  refl,
  expression_calm (λ y. W (token.Punctuator punctuator.OpenParenthesis ∷ y)) (Outside ∷ s) e (token.Punctuator punctuator.CloseParenthesis ∷ ts)
      (another ∷ rs) (λ b. (refl, h)) last.Other,
)

abbrev word : Keyword → Kinds → Kinds
word k x = token.Keyword k ∷ x

abbrev opening : Kinds → Kinds
opening x = token.Punctuator punctuator.OpenParenthesis ∷ x

abbrev closing : Kinds → Kinds
closing x = token.Punctuator punctuator.CloseParenthesis ∷ x

abbrev semicolon : Kinds → Kinds
semicolon x = token.Punctuator punctuator.Semicolon ∷ x

abbrev opened : Kinds → Kinds
opened x = token.Punctuator punctuator.OpenBrace ∷ x

abbrev closed : Kinds → Kinds
closed x = token.Punctuator punctuator.CloseBrace ∷ x

mutual
  pub sentence_quiet : (names : Names) (W : Kinds → Type 0) (s : List Phase) (t : Sentence) (ts : Kinds) (rs : Roles) → IsSentence names t
      → Quiet (λ y. W (sentence_text t y)) s ts rs → Quiet W s (sentence_text t ts) (sentence_roles t rs)
  sentence_quiet names W s (Block items) ts rs is h =
      (refl, items_quiet names (λ y. W (opened y)) (Outside ∷ s) items (closed ts) (another ∷ rs) is (refl, h))
  sentence_quiet names W s Nothing ts rs is h = (refl, h)
  sentence_quiet names W s (Runs e) ts rs is h = expression_calm W s e (semicolon ts) (another ∷ rs) (λ b. (refl, h)) last.Other
  sentence_quiet names W s (If test body) ts rs is h = (
    refl,
    test_quiet (λ y. W (word keyword.If y)) s test (sentence_text body ts) (sentence_roles body rs)
        (sentence_quiet names (λ y. W (word keyword.If (test_text test y))) s body ts rs is.1 h),
  )
  sentence_quiet names W s (IfElse test body other) ts rs is h = (
    refl,
    test_quiet (λ y. W (word keyword.If y)) s test (sentence_text body (word keyword.Else (sentence_text other ts)))
        (sentence_roles body (another ∷ sentence_roles other rs))
        (sentence_quiet names (λ y. W (word keyword.If (test_text test y))) s body (word keyword.Else (sentence_text other ts))
        (another ∷ sentence_roles other rs) is.2
        (refl, sentence_quiet names (λ y. W (word keyword.If (test_text test (sentence_text body (word keyword.Else y))))) s other ts rs is.3 h)),
  )
  sentence_quiet names W s (While test body) ts rs is h = (
    refl,
    test_quiet (λ y. W (word keyword.While y)) s test (sentence_text body ts) (sentence_roles body rs)
        (sentence_quiet names (λ y. W (word keyword.While (test_text test y))) s body ts rs is.1 h),
  )
  sentence_quiet names W s (Do body test) ts rs is h = (
    refl,
    sentence_quiet names (λ y. W (word keyword.Do y)) s body (word keyword.While (test_text test (semicolon ts)))
        (another ∷ test_roles test (another ∷ rs)) is.0
        (refl, test_quiet (λ y. W (word keyword.Do (sentence_text body (word keyword.While y)))) s test (semicolon ts) (another ∷ rs) (refl, h)),
  )
  sentence_quiet names W s (For first test last' body) ts rs is h = (
    refl,
    (
      refl,
      first_quiet names (λ y. W (word keyword.For (opening y))) (Outside ∷ s) first
          (some_text test (semicolon (some_text last' (closing (sentence_text body ts)))))
          (some_roles test (another ∷ some_roles last' (another ∷ sentence_roles body rs))) is.0
          (some_calm (λ y. W (word keyword.For (opening (first_text first y)))) (Outside ∷ s) test
          (semicolon (some_text last' (closing (sentence_text body ts)))) (another ∷ some_roles last' (another ∷ sentence_roles body rs))
          (λ b. (
            refl,
            some_calm (λ y. W (word keyword.For (opening (first_text first (some_text test (semicolon y)))))) (Outside ∷ s) last'
                (closing (sentence_text body ts)) (another ∷ sentence_roles body rs)
                (λ c. (
                  refl,
                  sentence_quiet names (λ y. W (word keyword.For (opening (first_text first (some_text test (semicolon (some_text last' (closing y)))))))) s
                      body ts rs is.3 h,
                )) last.Other,
          )) last.Other),
    ),
  )
  sentence_quiet names W s (Switch value items) ts rs is h = (
    refl,
    test_quiet (λ y. W (word keyword.Switch y)) s value (opened (switch_text items (closed ts))) (another ∷ switch_roles items (another ∷ rs)) (
      refl,
      switch_quiet names (λ y. W (word keyword.Switch (test_text value (opened y)))) (Outside ∷ s) items (closed ts) (another ∷ rs) is.1 (refl, h),
    ),
  )
  sentence_quiet names W s (Goto label) ts rs is h = (refl, (refl, (refl, h)))
  sentence_quiet names W s Continue ts rs is h = (refl, (refl, h))
  sentence_quiet names W s Break ts rs is h = (refl, (refl, h))
  sentence_quiet names W s (Return value) ts rs is h =
      (refl, some_calm (λ y. W (word keyword.Return y)) s value (semicolon ts) (another ∷ rs) (λ b. (refl, h)) last.Other)
  sentence_quiet names W s (Label name body) ts rs is h =
      (refl, (refl, sentence_quiet names (λ y. W (token.Name name ∷ token.Punctuator punctuator.Colon ∷ y)) s body ts rs is h))

  item_quiet : (names : Names) (W : Kinds → Type 0) (s : List Phase) (i : Item) (ts : Kinds) (rs : Roles) → IsItem names i
      → Quiet (λ y. W (item_text i y)) s ts rs → Quiet W s (item_text i ts) (item_roles i rs)
  item_quiet names W s (Declares specs objects) ts rs is h = local_quiet names W s specs objects ts rs is.0 h
  item_quiet names W s (Does statement) ts rs is h = sentence_quiet names W s statement ts rs is h

  pub items_quiet : (names : Names) (W : Kinds → Type 0) (s : List Phase) (i : Items) (ts : Kinds) (rs : Roles) → AreItems names i
      → Quiet (λ y. W (items_text i y)) s ts rs → Quiet W s (items_text i ts) (items_roles i rs)
  items_quiet names W s NoItem ts rs is h = h
  items_quiet names W s (MoreItems first others) ts rs is h =
      item_quiet names W s first (items_text others ts) (items_roles others rs) is.0 (items_quiet names (λ y. W (item_text first y)) s others ts rs is.1 h)

  switch_item_quiet : (names : Names) (W : Kinds → Type 0) (s : List Phase) (i : SwitchItem) (ts : Kinds) (rs : Roles) → IsSwitchItem names i
      → Quiet (λ y. W (switch_item_text i y)) s ts rs → Quiet W s (switch_item_text i ts) (switch_item_roles i rs)
  switch_item_quiet names W s (Case value) ts rs is h =
      (refl, expression_calm (λ y. W (word keyword.Case y)) s value (token.Punctuator punctuator.Colon ∷ ts) (another ∷ rs) (λ b. (refl, h)) last.Other)
  switch_item_quiet names W s Default ts rs is h = (refl, (refl, h))
  switch_item_quiet names W s (Inside item) ts rs is h = item_quiet names W s item ts rs is h

  switch_quiet : (names : Names) (W : Kinds → Type 0) (s : List Phase) (i : SwitchItems) (ts : Kinds) (rs : Roles) → AreSwitchItems names i
      → Quiet (λ y. W (switch_text i y)) s ts rs → Quiet W s (switch_text i ts) (switch_roles i rs)
  switch_quiet names W s NoSwitchItem ts rs is h = h
  switch_quiet names W s (MoreSwitchItems first others) ts rs is h =
      switch_item_quiet names W s first (switch_text others ts) (switch_roles others rs) is.0
      (switch_quiet names (λ y. W (switch_item_text first y)) s others ts rs is.1 h)
