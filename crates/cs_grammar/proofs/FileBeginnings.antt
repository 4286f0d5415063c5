-- The first tokens of statements and of items of blocks: for the contracts of every parser of statements.
use Rattle.std.proofs.Common.{◌≡◌, Bool, true, List, [], ◌∷◌, Option, Some, None, MatchOption, option_map, IsTrue, refl, sym, ap, ◌∙◌, subst}
use Rattle.std.proofs.lemmas.Bool.{or_left, or_right}
use Rattle.cs_ast.specs.declared.token.TokenKind.{TokenKind}
use Rattle.cs_ast.specs.declared.token.TokenKind.TheVariants as token
use Rattle.cs_ast.specs.declared.token.Keyword.{Keyword}
use Rattle.cs_ast.specs.declared.token.Keyword.TheVariants as keyword
use Rattle.cs_ast.specs.declared.token.Punctuator.{Punctuator}
use Rattle.cs_ast.specs.declared.token.Punctuator.TheVariants as punctuator
use Rattle.cs_ast.specs.declared.raw.written_type.TypeWord.{TypeWord}
use Rattle.cs_ast.specs.RawDeclarations.{Static, Plain, StructBody, EnumBody, Specs, NoSpec, MoreSpecs}
use Rattle.cs_ast.specs.RawStatements.{Sentence, Block, Nothing, Runs, If, IfElse, While, Do, For, Switch, Goto, Continue, Break, Return, Label, Item, Declares}
use Rattle.cs_ast.specs.RawStatements.{Does, SwitchItem, Case, Default, Inside}
use Rattle.cs_grammar.specs.TypeWords.{Names, is_type}
use Rattle.cs_grammar.specs.Text.{Kinds, text, words_text, type_word_text}
use Rattle.cs_grammar.specs.FirstTokens.{begins_expression, begins_type, opens_expression, is_sizeof}
use Rattle.cs_grammar.specs.FileFirstTokens.{begins_sentence, punctuator_begins_sentence, keyword_begins_sentence, begins_item, is_case, begins_switch_part}
use Rattle.cs_grammar.specs.FileText.{punctuator_text, specs_text, declared_text, with_commas, some_text, test_text, first_text, sentence_text, item_text}
use Rattle.cs_grammar.specs.FileText.{items_text, switch_item_text, switch_text}
use Rattle.cs_grammar.specs.FilePhrases.{plain_words, AreBlockSpecs, IsSentence, IsItem, IsSwitchItem}
use Rattle.cs_grammar.proofs.Beginnings.{BeginsWith, expression_begins, type_begins}

-- specifiers that are only words of a type
abbrev pub specs_of : List TypeWord → Specs
specs_of [] = NoSpec
specs_of (w ∷ words) = MoreSpecs (Plain w) (specs_of words)

pub plain_text : (words : List TypeWord) (rest : Kinds) → specs_text (specs_of words) rest ≡ words_text words rest
plain_text [] rest = refl
plain_text (w ∷ words) rest = ap (type_word_text w) (plain_text words rest)

pub plain_again : (words : List TypeWord) → plain_words (specs_of words) ≡ Some words
plain_again [] = refl
plain_again (w ∷ words) = ap (λ (o : Option (List TypeWord)). option_map (λ ws. w ∷ ws) o) (plain_again words)

-- the words of the specifiers inside a block
pub record PlainWords (names : Names) (specs : Specs) : Type 0 where
  pub words : List TypeWord
  pub are : specs ≡ specs_of words
  pub type : is_type names words ≡ true

only_more : (w : TypeWord) (others : Specs) (o : Option (List TypeWord)) (words : List TypeWord)
    → ((ws : List TypeWord) → o ≡ Some ws → others ≡ specs_of ws) → option_map (λ ws. w ∷ ws) o ≡ Some words
    → MoreSpecs (Plain w) others ≡ specs_of words
only_more w others None words h e = absurd cc
only_more w others (Some ws) words h e =
    let k : w ∷ ws ≡ words = cc in
    ap (MoreSpecs (Plain w)) (h ws refl) ∙ ap specs_of k

only_plain : (specs : Specs) (words : List TypeWord) → plain_words specs ≡ Some words → specs ≡ specs_of words
only_plain NoSpec words e = let k : [] ≡ words = cc in ap specs_of k
only_plain (MoreSpecs (Plain w) others) words e = only_more w others (plain_words others) words (λ ws p. only_plain others ws p) e
only_plain (MoreSpecs Static others) words e = absurd cc
only_plain (MoreSpecs (StructBody tag members) others) words e = absurd cc
only_plain (MoreSpecs (EnumBody tag constants comma) others) words e = absurd cc

plain_from : (names : Names) (specs : Specs) (o : Option (List TypeWord)) → plain_words specs ≡ o
    → MatchOption o ⊥ (λ words. IsTrue (is_type names words)) → PlainWords names specs
plain_from names specs None p is = absurd is
plain_from names specs (Some words) p is = record { words = words; are = only_plain specs words p; type = is }

pub block_words : (names : Names) (specs : Specs) → AreBlockSpecs names specs → PlainWords names specs
block_words names specs is = plain_from names specs (plain_words specs) refl is

pub plain_are : (names : Names) (words : List TypeWord) → is_type names words ≡ true → AreBlockSpecs names (specs_of words)
plain_are names words type = subst (λ (o : Option (List TypeWord)). MatchOption o ⊥ (λ ws. IsTrue (is_type names ws))) (sym (plain_again words)) type

-- the first token passes a test, and so a wider one
pub passes_too : (test test' : TokenKind → Bool) (tokens : Kinds) → ((t : TokenKind) → test t ≡ true → test' t ≡ true) → BeginsWith test tokens
    → BeginsWith test' tokens
passes_too test test' tokens less b = record { first = b.first; others = b.others; are = b.are; passes = less b.first b.passes }

-- there is a first token, and it passes
pub some_first : (test : TokenKind → Bool) (tokens : Kinds) → BeginsWith test tokens → tokens ≡ [] → ⊥
some_first test tokens b none = let s : b.first ∷ b.others ≡ [] = sym b.are ∙ none in cc

pub first_passes : (test : TokenKind → Bool) (tokens : Kinds) (next : TokenKind) (more : Kinds) → BeginsWith test tokens → tokens ≡ next ∷ more
    → test next ≡ true
first_passes test tokens next more b same =
    let s : b.first ∷ b.others ≡ next ∷ more = sym b.are ∙ same in
    let k : b.first ≡ next = cc in
    ap test (sym k) ∙ b.passes

punctuator_too : (m : Punctuator) → opens_expression m ≡ true → punctuator_begins_sentence m ≡ true
punctuator_too punctuator.OpenBrace e = refl
punctuator_too punctuator.Semicolon e = refl
punctuator_too _ e = e

keyword_too : (k : Keyword) → is_sizeof k ≡ true → keyword_begins_sentence k ≡ true
keyword_too keyword.Sizeof e = refl
keyword_too _ e = cc

-- a token that begins an expression begins a statement
pub expression_sentence : (names : Names) (t : TokenKind) → begins_expression names t ≡ true → begins_sentence t ≡ true
expression_sentence names (token.Name name) e = refl
expression_sentence names (token.Number n) e = refl
expression_sentence names (token.Character v) e = refl
expression_sentence names (token.Text b) e = refl
expression_sentence names (token.Punctuator m) e = punctuator_too m e
expression_sentence names (token.Keyword k) e = keyword_too k e
expression_sentence names (token.Unsupported w) e = cc
expression_sentence names token.Attribute e = cc

begins_now : (test : TokenKind → Bool) (t : TokenKind) (others : Kinds) → test t ≡ true → BeginsWith test (t ∷ others)
begins_now test t others passes = record { first = t; others = others; are = refl; passes = passes }

-- the first token of a statement
pub sentence_begins : (names : Names) (s : Sentence) (after : Kinds) → IsSentence names s → BeginsWith begins_sentence (sentence_text s after)
sentence_begins names (Runs e) after is =
    passes_too (begins_expression names) begins_sentence (text e (token.Punctuator punctuator.Semicolon ∷ after)) (expression_sentence names)
    (expression_begins names e (token.Punctuator punctuator.Semicolon ∷ after) is.1)
sentence_begins names (Block items) after is =
    begins_now begins_sentence (token.Punctuator punctuator.OpenBrace) (items_text items (token.Punctuator punctuator.CloseBrace ∷ after)) refl
sentence_begins names Nothing after is = begins_now begins_sentence (token.Punctuator punctuator.Semicolon) after refl
sentence_begins names (If test body) after is = begins_now begins_sentence (token.Keyword keyword.If) (test_text test (sentence_text body after)) refl
sentence_begins names (IfElse test body other) after is =
    begins_now begins_sentence (token.Keyword keyword.If) (test_text test (sentence_text body (token.Keyword keyword.Else ∷ sentence_text other after))) refl
sentence_begins names (While test body) after is = begins_now begins_sentence (token.Keyword keyword.While) (test_text test (sentence_text body after)) refl
sentence_begins names (Do body test) after is =
    begins_now begins_sentence (token.Keyword keyword.Do)
    (sentence_text body (token.Keyword keyword.While ∷ test_text test (token.Punctuator punctuator.Semicolon ∷ after))) refl
sentence_begins names (For first test last body) after is =
    begins_now begins_sentence (token.Keyword keyword.For)
    (punctuator_text punctuator.OpenParenthesis
    (first_text first
    (some_text test (punctuator_text punctuator.Semicolon (some_text last (punctuator_text punctuator.CloseParenthesis (sentence_text body after))))))) refl
sentence_begins names (Switch value items) after is =
    begins_now begins_sentence (token.Keyword keyword.Switch)
    (test_text value (punctuator_text punctuator.OpenBrace (switch_text items (punctuator_text punctuator.CloseBrace after)))) refl
sentence_begins names (Goto label) after is =
    begins_now begins_sentence (token.Keyword keyword.Goto) (token.Name label ∷ token.Punctuator punctuator.Semicolon ∷ after) refl
sentence_begins names Continue after is = begins_now begins_sentence (token.Keyword keyword.Continue) (token.Punctuator punctuator.Semicolon ∷ after) refl
sentence_begins names Break after is = begins_now begins_sentence (token.Keyword keyword.Break) (token.Punctuator punctuator.Semicolon ∷ after) refl
sentence_begins names (Return value) after is =
    begins_now begins_sentence (token.Keyword keyword.Return) (some_text value (token.Punctuator punctuator.Semicolon ∷ after)) refl
sentence_begins names (Label name body) after is =
    begins_now begins_sentence (token.Name name) (token.Punctuator punctuator.Colon ∷ sentence_text body after) refl

-- the first token of the specifiers in a block
pub block_specs_begin : (names : Names) (specs : Specs) (rest : Kinds) → AreBlockSpecs names specs → BeginsWith (begins_type names) (specs_text specs rest)
block_specs_begin names specs rest is =
    let w = block_words names specs is in
    subst (BeginsWith (begins_type names)) (sym (ap (λ (s : Specs). specs_text s rest) w.are ∙ plain_text w.words rest))
    (type_begins names w.words rest w.type)

-- the first token of an item of a block
pub item_begins : (names : Names) (i : Item) (after : Kinds) → IsItem names i → BeginsWith (begins_item names) (item_text i after)
item_begins names (Declares specs objects) after is =
    passes_too (begins_type names) (begins_item names) (item_text (Declares specs objects) after) (λ t e. or_right (begins_sentence t) (begins_type names t) e)
    (block_specs_begin names specs (with_commas declared_text objects (punctuator_text punctuator.Semicolon after)) is.0)
item_begins names (Does s) after is =
    passes_too begins_sentence (begins_item names) (sentence_text s after) (λ t e. or_left (begins_sentence t) (begins_type names t) e)
    (sentence_begins names s after is)

-- the first token of an item of a `switch`
pub switch_part_begins : (names : Names) (i : SwitchItem) (after : Kinds) → IsSwitchItem names i
    → BeginsWith (begins_switch_part names) (switch_item_text i after)
switch_part_begins names (Case value) after is =
    begins_now (begins_switch_part names) (token.Keyword keyword.Case) (text value (token.Punctuator punctuator.Colon ∷ after)) refl
switch_part_begins names Default after is =
    begins_now (begins_switch_part names) (token.Keyword keyword.Default) (token.Punctuator punctuator.Colon ∷ after) refl
switch_part_begins names (Inside i) after is =
    passes_too (begins_item names) (begins_switch_part names) (item_text i after) (λ t e. or_right (is_case t) (begins_item names t) e)
    (item_begins names i after is)
