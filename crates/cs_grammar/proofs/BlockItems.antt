-- The items of blocks and of a `switch`: for the contracts of every parser of statements.
use Rattle.std.proofs.Common.{◌≡◌, ℕ, ◌≤◌, ◌⊎◌, inl, inr, true, false, IsTrue, List, [], ◌∷◌, refl, sym, ap, ◌∙◌, subst, arith}
use Rattle.std.proofs.lemmas.Bool.{false≢true, both_ways, not-true}
use Rattle.cs_ast.specs.declared.token.TokenKind.{TokenKind}
use Rattle.cs_ast.specs.declared.token.TokenKind.TheVariants as token
use Rattle.cs_ast.specs.declared.token.Keyword.{Keyword}
use Rattle.cs_ast.specs.declared.token.Keyword.TheVariants as keyword
use Rattle.cs_ast.specs.declared.token.Punctuator.TheVariants as punctuator
use Rattle.cs_ast.specs.declared.raw.written_type.TypeWord.{TypeWord}
use Rattle.cs_ast.specs.declared.raw.written_type.TypeWord.TheVariants as word_of
use Rattle.cs_ast.specs.declared.raw.written_type.IntegerWord.TheVariants.{Char, Short, Int, Long, Signed, Unsigned}
use Rattle.cs_ast.specs.declared.raw.written_type.PointerWord.{PointerWord}
use Rattle.cs_ast.specs.declared.raw.written_type.PointerWord.TheVariants as pointer
use Rattle.cs_ast.specs.RawTree.{Written}
use Rattle.cs_ast.specs.RawDeclarations.{Declared, Specs}
use Rattle.cs_ast.specs.RawStatements.{Sentence, Nothing, Runs, Label, Item, Declares, Does, Items, NoItem, MoreItems, SwitchItem, Case, Default, Inside}
use Rattle.cs_ast.specs.RawStatements.{SwitchItems, NoSwitchItem, MoreSwitchItems}
use Rattle.cs_ast.specs.RawFileHeight.{specs_height, item_height}
use Rattle.cs_grammar.specs.TypeWords.{Names, is_among, is_type, is_pointer}
use Rattle.cs_grammar.specs.Text.{Kinds, text, words_text, type_word_text, pointers_text}
use Rattle.cs_grammar.specs.Phrases.{IsPhrase}
use Rattle.cs_grammar.specs.FirstTokens.{begins_type, keyword_begins_type}
use Rattle.cs_grammar.specs.FileFirstTokens.{begins_sentence, keyword_begins_sentence, begins_item, is_case, begins_switch_part}
use Rattle.cs_grammar.specs.FileText.{brackets_text, first_value_text, declared_text, each_after_comma, with_commas, specs_text, declaration_text}
use Rattle.cs_grammar.specs.FileText.{sentence_text, item_text, items_text, switch_item_text, switch_text}
use Rattle.cs_grammar.specs.FilePhrases.{AreAll, IsSomeList, IsDeclared, AreBlockSpecs, IsSentence, IsItem, AreItems, IsSwitchItem, AreSwitchItems}
use Rattle.cs_grammar.specs.DeclarationClasses.{Follows, ends_specs, Objects, BlockSpecs}
use Rattle.cs_grammar.specs.FileClasses.{HasNoElse, Sentences, BlockItems, BlockRows, SwitchParts, SwitchRows}
use Rattle.cs_grammar.specs.Parsing.{Class, Expressions, Exactly}
use Rattle.cs_grammar.specs.Composed.{Sequence, Separated}
use Rattle.cs_grammar.proofs.Levels.{text_law}
use Rattle.cs_grammar.proofs.FileTexts.{specs_append, item_append, items_append, switch_item_append, switch_append}
use Rattle.cs_grammar.proofs.FileBeginnings.{specs_of, plain_text, block_words, block_specs_begin, sentence_begins, item_begins, switch_part_begins}
use Rattle.cs_grammar.proofs.FileBeginnings.{first_passes}
use Rattle.cs_grammar.proofs.Holes.{Lawful, ClosedBy, Ended, closed_law, ended_law}
use Rattle.cs_grammar.proofs.Tails.{Least}
use Rattle.cs_grammar.proofs.Sequences.{Joins, sequence_law, sequence_least, closed_least, ended_least}
use Rattle.cs_grammar.proofs.Rows.{separated_law, separated_least, Listing}
use Rattle.cs_grammar.proofs.GrowingRows.{Growing}
use Rattle.cs_grammar.proofs.Pairs.{Single}
use Rattle.cs_grammar.proofs.Statements.{close_brace, semicolon, colon, word, runs_first}
use Rattle.cs_grammar.proofs.StatementParts.{sentence_some, expression_least, sentences_law, sentences_least}
use Rattle.cs_grammar.proofs.DeclaredObjects.{objects_law, objects_least}

-- a declarator begins with a star or a name
pub data Starts : Kinds → Type 0 where
  with_star : {tokens : Kinds} (more : Kinds) → tokens ≡ token.Punctuator punctuator.Star ∷ more → Starts tokens
  with_name : {tokens : Kinds} (name : List ℕ) (more : Kinds) → tokens ≡ token.Name name ∷ more → Starts tokens

pub pointers_start : (ps : List PointerWord) (n : List ℕ) (rest : Kinds) → IsTrue (is_pointer ps) → Starts (pointers_text ps (token.Name n ∷ rest))
pointers_start [] n rest p = with_name n rest refl
pointers_start (pointer.Star ∷ ps) n rest p = with_star (pointers_text ps (token.Name n ∷ rest)) refl
pointers_start (pointer.Const ∷ ps) n rest p = absurd (false≢true p)

pub objects_start : (names : Names) (list : List Declared) (rest : Kinds) → IsSomeList list → AreAll (IsDeclared names) list
    → Starts (with_commas declared_text list rest)
objects_start names [] rest some are = absurd some
objects_start names (d ∷ ds) rest some are =
    let i = are.0 in
    pointers_start d.declarator.pointers d.declarator.name
    (brackets_text d.declarator.bounds (first_value_text d.initial (each_after_comma declared_text ds rest))) i.declarator.pointers

pub starts_end_specs : (tokens : Kinds) → Starts tokens → Follows ends_specs tokens
starts_end_specs tokens (with_star more e) = subst (Follows ends_specs) (sym e) refl
starts_end_specs tokens (with_name n more e) = subst (Follows ends_specs) (sym e) refl

pub starts_no_colon : (tokens more : Kinds) → Starts tokens → tokens ≡ colon ∷ more → ⊥
starts_no_colon tokens more (with_star m e) same = let z = sym e ∙ same in cc
starts_no_colon tokens more (with_name n m e) same = let z = sym e ∙ same in cc

-- objects may follow specifiers
pub block_joins : (names : Names) → Joins (BlockSpecs names) (Separated (Objects names) semicolon)
block_joins names = λ c d after is are shut.
    starts_end_specs (with_commas declared_text d (semicolon ∷ after)) (objects_start names d (semicolon ∷ after) are.0 are.1)

pub block_specs_law : (names : Names) → Lawful (BlockSpecs names)
block_specs_law names = specs_append

pub plain_height : (w : TypeWord) (ws : List TypeWord) → specs_height (specs_of (w ∷ ws)) ≡ 1
plain_height w [] = refl
plain_height w (v ∷ ws) = let h = plain_height v ws in omega (arith, h)

type_height : (names : Names) (ws : List TypeWord) → is_type names ws ≡ true → 1 ≤ specs_height (specs_of ws)
type_height names [] e = absurd (false≢true e)
type_height names (w ∷ ws) e = let h = plain_height w ws in omega (arith, h)

pub block_specs_height : (names : Names) (specs : Specs) → AreBlockSpecs names specs → 1 ≤ specs_height specs
block_specs_height names specs is =
    let w = block_words names specs is in
    subst (λ (s : Specs). 1 ≤ specs_height s) (sym w.are) (type_height names w.words w.type)

abbrev pub int_specs : Specs
int_specs = specs_of (word_of.Integer Int ∷ [])

abbrev pub block_specs_least : (names : Names) → Least (BlockSpecs names)
block_specs_least names = record { tree = int_specs; is_phrase = refl; below = λ other is. block_specs_height names other is }

-- a declaration inside a block
abbrev pub BlockDeclarations : Names → Class
BlockDeclarations names = Sequence (BlockSpecs names) (Separated (Objects names) semicolon)

pub object_list_law : (names : Names) → Lawful (Separated (Objects names) semicolon)
object_list_law names = separated_law (Objects names) semicolon (objects_law names)

abbrev pub object_list_least : (names : Names) → Least (Separated (Objects names) semicolon)
object_list_least names = separated_least (Objects names) semicolon (objects_least names)

-- the tokens begin a type and no label
pub record IsDeclaration (names : Names) (tokens : Kinds) : Type 0 where
  pub typed : (first : TokenKind) (more : Kinds) → tokens ≡ first ∷ more → begins_type names first ≡ true
  pub unlabelled : (n : List ℕ) (more : Kinds) → tokens ≡ token.Name n ∷ colon ∷ more → ⊥
  pub some : tokens ≡ [] → ⊥

keyword_both : (k : Keyword) → keyword_begins_sentence k ≡ true → keyword_begins_type k ≡ true → ⊥
keyword_both keyword.Break e t = cc
keyword_both keyword.Continue e t = cc
keyword_both keyword.Do e t = cc
keyword_both keyword.For e t = cc
keyword_both keyword.Goto e t = cc
keyword_both keyword.If e t = cc
keyword_both keyword.Return e t = cc
keyword_both keyword.Sizeof e t = cc
keyword_both keyword.Switch e t = cc
keyword_both keyword.While e t = cc
keyword_both _ e t = cc

-- a token that begins a statement and a type is a typedef name
pub both_begin : (names : Names) (t : TokenKind) → begins_sentence t ≡ true → begins_type names t ≡ true
    → (n : List ℕ) × (t ≡ token.Name n) × (is_among names n ≡ true)
both_begin names (token.Name n) e t = (n, refl, t)
both_begin names (token.Keyword k) e t = absurd (keyword_both k e t)
both_begin names (token.Number c) e t = absurd cc
both_begin names (token.Character v) e t = absurd cc
both_begin names (token.Text b) e t = absurd cc
both_begin names (token.Punctuator m) e t = absurd cc
both_begin names (token.Unsupported w) e t = absurd cc
both_begin names token.Attribute e t = absurd cc

-- a statement that begins with a typedef name is labelled
pub name_sentence : (names : Names) (s : Sentence) (after : Kinds) (n : List ℕ) (more : Kinds) → IsSentence names s → is_among names n ≡ true
    → sentence_text s after ≡ token.Name n ∷ more → (m : Kinds) × (more ≡ colon ∷ m)
name_sentence names (Label m b) after n more is among same = (sentence_text b after, cc)
name_sentence names (Runs e) after n more is among same =
    let f = runs_first names e (semicolon ∷ after) (token.Name n) more is same in
    absurd (both_ways (is_among names n) (not-true (is_among names n) f) among)
name_sentence names _ after n more is among same = absurd cc

no_statement : (names : Names) (s : Sentence) (after following : Kinds) → IsSentence names s → IsDeclaration names following
    → sentence_text s after ≡ following → ⊥
no_statement names s after following is d same =
    let b = sentence_begins names s after is in
    let t : following ≡ b.first ∷ b.others = sym same ∙ b.are in
    let n = both_begin names b.first b.passes (d.typed b.first b.others t) in
    let u : following ≡ token.Name n.0 ∷ b.others = t ∙ ap (λ (x : TokenKind). x ∷ b.others) n.1 in
    let m = name_sentence names s after n.0 b.others is n.2 (same ∙ u) in
    d.unlabelled n.0 m.0 (u ∙ ap (λ (x : Kinds). token.Name n.0 ∷ x) m.1)

abbrev pub Declaration : Type 0
Declaration = Specs × List Declared

pub declares_invert : (names : Names) (whole : Item) (after following : Kinds) → IsItem names whole → IsDeclaration names following
    → item_text whole after ≡ following → (part : Declaration) × (whole ≡ Declares part.0 part.1)
    × (AreBlockSpecs names part.0 × (IsSomeList part.1 × AreAll (IsDeclared names) part.1)) × (following ≡ declaration_text part.0 part.1 after)
declares_invert names (Declares specs objects) after following is d same = ((specs, objects), refl, is, sym same)
declares_invert names (Does s) after following is d same = absurd (no_statement names s after following is d same)

-- a declaration as an item of a block
abbrev pub declares_single : (names : Names)
    → Single (BlockItems names) (BlockDeclarations names) 1 [] (λ part. Declares part.0 part.1) (IsDeclaration names)
declares_single names = record {
  production = record {
    invert = λ whole after following is fit same. declares_invert names whole after following is fit same;
    shut = λ part after shut. tt;
    spelled = λ part after. refl;
    is_phrase = λ part is. is;
    taller = λ part. refl;
  };
  law = sequence_law (BlockSpecs names) (Separated (Objects names) semicolon) (block_specs_law names) (object_list_law names);
  least = sequence_least (BlockSpecs names) (Separated (Objects names) semicolon) (block_specs_least names) (object_list_least names);
}

word_no_colon : (w : TypeWord) (x more : Kinds) → type_word_text w x ≡ colon ∷ more → ⊥
word_no_colon word_of.Const x more same = cc
word_no_colon (word_of.Integer Char) x more same = cc
word_no_colon (word_of.Integer Short) x more same = cc
word_no_colon (word_of.Integer Int) x more same = cc
word_no_colon (word_of.Integer Long) x more same = cc
word_no_colon (word_of.Integer Signed) x more same = cc
word_no_colon (word_of.Integer Unsigned) x more same = cc
word_no_colon word_of.Void x more same = cc
word_no_colon (word_of.Typedef n) x more same = cc
word_no_colon (word_of.Struct t) x more same = cc
word_no_colon (word_of.Enum t) x more same = cc

words_no_colon : (ws : List TypeWord) (rest more : Kinds) → Starts rest → words_text ws rest ≡ colon ∷ more → ⊥
words_no_colon [] rest more s same = starts_no_colon rest more s same
words_no_colon (w ∷ ws) rest more s same = word_no_colon w (words_text ws rest) more same

second_no_colon : (w : TypeWord) (x : Kinds) (first : TokenKind) (more : Kinds) → ((m : Kinds) → x ≡ colon ∷ m → ⊥)
    → type_word_text w x ≡ first ∷ colon ∷ more → ⊥
second_no_colon word_of.Const x first more none same = none more cc
second_no_colon (word_of.Integer k) x first more none same = none more cc
second_no_colon word_of.Void x first more none same = none more cc
second_no_colon (word_of.Typedef n) x first more none same = none more cc
second_no_colon (word_of.Struct t) x first more none same = cc
second_no_colon (word_of.Enum t) x first more none same = cc

pub declared_no_colon : (names : Names) (ws : List TypeWord) (rest : Kinds) (first : TokenKind) (more : Kinds) → is_type names ws ≡ true → Starts rest
    → words_text ws rest ≡ first ∷ colon ∷ more → ⊥
declared_no_colon names [] rest first more type s same = false≢true type
declared_no_colon names (w ∷ ws) rest first more type s same = second_no_colon w (words_text ws rest) first more (λ m e. words_no_colon ws rest m s e) same

-- the first token begins no type, or a colon follows it
abbrev pub IsStatement : Names → Kinds → Type 0
IsStatement names tokens = (first : TokenKind) (more : Kinds) → tokens ≡ first ∷ more
    → (begins_type names first ≡ false) ⊎ ((m : Kinds) × (more ≡ colon ∷ m))

no_declaration : (names : Names) (specs : Specs) (objects : List Declared) (after following : Kinds) → AreBlockSpecs names specs → IsSomeList objects
    → AreAll (IsDeclared names) objects → IsStatement names following → declaration_text specs objects after ≡ following → ⊥
no_declaration names specs objects after following is some are st same =
    let rest = with_commas declared_text objects (semicolon ∷ after) in
    let b = block_specs_begin names specs rest is in
    let t : following ≡ b.first ∷ b.others = sym same ∙ b.are in
    let w = block_words names specs is in
    elim (st b.first b.others t) [
      | inl no_type ↦ false≢true (sym no_type ∙ b.passes)
      | inr c ↦
          let s : words_text w.words rest ≡ b.first ∷ colon ∷ c.0 = sym (plain_text w.words rest) ∙ ap (λ (x : Specs). specs_text x rest) (sym w.are)
          ∙ b.are ∙ ap (λ (x : Kinds). b.first ∷ x) c.1 in
          declared_no_colon names w.words rest b.first c.0 w.type (objects_start names objects (semicolon ∷ after) some are) s
    ]

pub does_invert : (names : Names) (whole : Item) (after following : Kinds) → IsItem names whole → IsStatement names following
    → item_text whole after ≡ following → (part : Sentence) × (whole ≡ Does part) × IsSentence names part × (following ≡ sentence_text part after)
does_invert names (Does s) after following is st same = (s, refl, is, sym same)
does_invert names (Declares specs objects) after following is st same = absurd (no_declaration names specs objects after following is.0 is.1.0 is.1.1 st same)

-- a statement as an item of a block
abbrev pub does_single : (names : Names) → Single (BlockItems names) (Sentences names) 0 [] Does (IsStatement names)
does_single names = record {
  production = record {
    invert = λ whole after following is fit same. does_invert names whole after following is fit same;
    shut = λ part after shut. shut;
    spelled = λ part after. refl;
    is_phrase = λ part is. is;
    taller = λ part. omega arith;
  };
  law = sentences_law names;
  least = sentences_least names;
}

no_else_first : (tokens : Kinds) → ((more : Kinds) → tokens ≡ word keyword.Else ∷ more → ⊥) → HasNoElse tokens
no_else_first [] none = tt
no_else_first (token.Keyword keyword.Else ∷ x) none = none x refl
no_else_first _ none = tt

-- no item of a block begins with `else`
pub items_no_else : (names : Names) (items : Items) (after : Kinds) → AreItems names items → HasNoElse (items_text items (close_brace ∷ after))
items_no_else names NoItem after are = tt
items_no_else names (MoreItems i is) after are =
    no_else_first (item_text i (items_text is (close_brace ∷ after)))
    (λ more same.
    false≢true (first_passes (begins_item names) (item_text i (items_text is (close_brace ∷ after))) (word keyword.Else) more
    (item_begins names i (items_text is (close_brace ∷ after)) are.0) same))

pub item_form : (names : Names) (list : Items) → AreItems names list
    → (list ≡ NoItem) ⊎ ((c : Item) × (rest : Items) × (list ≡ MoreItems c rest) × IsItem names c × AreItems names rest)
item_form names NoItem are = inl refl
item_form names (MoreItems i is) are = inr (i, is, refl, are.0, are.1)

pub item_no_brace : (names : Names) (i : Item) (x after : Kinds) → IsItem names i → item_text i x ≡ close_brace ∷ after → ⊥
item_no_brace names i x after is same = false≢true (first_passes (begins_item names) (item_text i x) close_brace after (item_begins names i x is) same)

-- the items of a block are a list
abbrev pub block_listing : (names : Names) → Listing (BlockRows names) (BlockItems names)
block_listing names = record {
  none = NoItem;
  more = MoreItems;
  form = item_form names;
  is_none = tt;
  is_more = λ c rest is are. (is, are);
  spell_more = λ c rest after. refl;
  tall_none = refl;
  tall_more = λ c rest. refl;
  shut_more = λ c rest after shut. tt;
  joins = λ c rest after is are shut reported. items_no_else names rest after are;
  apart = λ c x after is shut same. item_no_brace names c x after is same;
  law = item_append;
}

abbrev pub joined_items : Items → Items → Items
joined_items NoItem rest = rest
joined_items (MoreItems i is) rest = MoreItems i (joined_items is rest)

pub joined_more : (done : Items) (i : Item) (rest : Items)
    → joined_items (joined_items done (MoreItems i NoItem)) rest ≡ joined_items done (MoreItems i rest)
joined_more NoItem i rest = refl
joined_more (MoreItems d ds) i rest = ap (MoreItems d) (joined_more ds i rest)

pub joined_none : (done : Items) → joined_items done NoItem ≡ done
joined_none NoItem = refl
joined_none (MoreItems d ds) = ap (MoreItems d) (joined_none ds)

pub items_more_text : (done : Items) (i : Item) (x : Kinds) → items_text (joined_items done (MoreItems i NoItem)) x ≡ items_text done (item_text i x)
items_more_text NoItem i x = refl
items_more_text (MoreItems d ds) i x = ap (item_text d) (items_more_text ds i x)

abbrev pub block_growing : (names : Names) → Growing (BlockRows names) (BlockItems names) (block_listing names)
block_growing names = record {
  append = joined_items;
  row_text = items_text;
  append_more = joined_more;
  append_none = joined_none;
  none_append = λ rest. refl;
  none_text = λ x. refl;
  text_more = items_more_text;
  row_append = items_append;
  law = λ items x y. items_append items (close_brace ∷ x) y;
}

none_is : (names : Names) (other : Items) (after following : Kinds) → AreItems names other
    → items_text other (close_brace ∷ after) ≡ close_brace ∷ following → (other ≡ NoItem) × (after ≡ following)
none_is names NoItem after following are same = (refl, cc)
none_is names (MoreItems i is) after following are same = absurd (item_no_brace names i (items_text is (close_brace ∷ after)) following are.0 same)

-- the next token is the closing brace of a block
pub block_end : (names : Names) (limit : ℕ) → Exactly (BlockRows names) limit NoItem
block_end names limit = record { is_phrase = tt; low = omega arith; exact = λ other after following is same. none_is names other after following is same }

-- the items of a `switch`: none begins with `else`
pub switch_no_else : (names : Names) (items : SwitchItems) (after : Kinds) → AreSwitchItems names items
    → HasNoElse (switch_text items (close_brace ∷ after))
switch_no_else names NoSwitchItem after are = tt
switch_no_else names (MoreSwitchItems i is) after are =
    no_else_first (switch_item_text i (switch_text is (close_brace ∷ after)))
    (λ more same.
    false≢true (first_passes (begins_switch_part names) (switch_item_text i (switch_text is (close_brace ∷ after))) (word keyword.Else) more
    (switch_part_begins names i (switch_text is (close_brace ∷ after)) are.0) same))

pub switch_form : (names : Names) (list : SwitchItems) → AreSwitchItems names list
    → (list ≡ NoSwitchItem)
    ⊎ ((c : SwitchItem) × (rest : SwitchItems) × (list ≡ MoreSwitchItems c rest) × IsSwitchItem names c × AreSwitchItems names rest)
switch_form names NoSwitchItem are = inl refl
switch_form names (MoreSwitchItems i is) are = inr (i, is, refl, are.0, are.1)

pub part_no_brace : (names : Names) (i : SwitchItem) (x after : Kinds) → IsSwitchItem names i → switch_item_text i x ≡ close_brace ∷ after → ⊥
part_no_brace names i x after is same =
    false≢true (first_passes (begins_switch_part names) (switch_item_text i x) close_brace after (switch_part_begins names i x is) same)

abbrev pub switch_listing : (names : Names) → Listing (SwitchRows names) (SwitchParts names)
switch_listing names = record {
  none = NoSwitchItem;
  more = MoreSwitchItems;
  form = switch_form names;
  is_none = tt;
  is_more = λ c rest is are. (is, are);
  spell_more = λ c rest after. refl;
  tall_none = refl;
  tall_more = λ c rest. refl;
  shut_more = λ c rest after shut. tt;
  joins = λ c rest after is are shut reported. switch_no_else names rest after are;
  apart = λ c x after is shut same. part_no_brace names c x after is same;
  law = switch_item_append;
}

abbrev pub joined_switch : SwitchItems → SwitchItems → SwitchItems
joined_switch NoSwitchItem rest = rest
joined_switch (MoreSwitchItems i is) rest = MoreSwitchItems i (joined_switch is rest)

pub switch_joined_more : (done : SwitchItems) (i : SwitchItem) (rest : SwitchItems)
    → joined_switch (joined_switch done (MoreSwitchItems i NoSwitchItem)) rest ≡ joined_switch done (MoreSwitchItems i rest)
switch_joined_more NoSwitchItem i rest = refl
switch_joined_more (MoreSwitchItems d ds) i rest = ap (MoreSwitchItems d) (switch_joined_more ds i rest)

pub switch_joined_none : (done : SwitchItems) → joined_switch done NoSwitchItem ≡ done
switch_joined_none NoSwitchItem = refl
switch_joined_none (MoreSwitchItems d ds) = ap (MoreSwitchItems d) (switch_joined_none ds)

pub switch_more_text : (done : SwitchItems) (i : SwitchItem) (x : Kinds)
    → switch_text (joined_switch done (MoreSwitchItems i NoSwitchItem)) x ≡ switch_text done (switch_item_text i x)
switch_more_text NoSwitchItem i x = refl
switch_more_text (MoreSwitchItems d ds) i x = ap (switch_item_text d) (switch_more_text ds i x)

abbrev pub switch_growing : (names : Names) → Growing (SwitchRows names) (SwitchParts names) (switch_listing names)
switch_growing names = record {
  append = joined_switch;
  row_text = switch_text;
  append_more = switch_joined_more;
  append_none = switch_joined_none;
  none_append = λ rest. refl;
  none_text = λ x. refl;
  text_more = switch_more_text;
  row_append = switch_append;
  law = λ items x y. switch_append items (close_brace ∷ x) y;
}

no_part_is : (names : Names) (other : SwitchItems) (after following : Kinds) → AreSwitchItems names other
    → switch_text other (close_brace ∷ after) ≡ close_brace ∷ following → (other ≡ NoSwitchItem) × (after ≡ following)
no_part_is names NoSwitchItem after following are same = (refl, cc)
no_part_is names (MoreSwitchItems i is) after following are same = absurd (part_no_brace names i (switch_text is (close_brace ∷ after)) following are.0 same)

-- the next token is the closing brace of a `switch`
pub switch_end : (names : Names) (limit : ℕ) → Exactly (SwitchRows names) limit NoSwitchItem
switch_end names limit = record { is_phrase = tt; low = omega arith; exact = λ other after following is same. no_part_is names other after following is same }

item_no_case : (names : Names) (i : Item) (after more : Kinds) (t : TokenKind) → IsItem names i → begins_item names t ≡ false
    → item_text i after ≡ t ∷ more → ⊥
item_no_case names i after more t is e same =
    false≢true (sym e ∙ first_passes (begins_item names) (item_text i after) t more (item_begins names i after is) same)

pub case_invert : (names : Names) (whole : SwitchItem) (after following : Kinds) → IsSwitchItem names whole
    → switch_item_text whole after ≡ word keyword.Case ∷ following
    → (part : Written) × (whole ≡ Case part) × IsPhrase names 2 part × (following ≡ text part (colon ∷ after))
case_invert names (Case v) after following is same = (v, refl, is, cc)
case_invert names Default after following is same = absurd cc
case_invert names (Inside i) after following is same = absurd (item_no_case names i after following (word keyword.Case) is refl same)

-- `case e :`
abbrev pub case_single : (names : Names)
    → Single (SwitchParts names) (ClosedBy (Expressions names 2) colon) 0 (word keyword.Case ∷ []) Case (λ rest. Unit {0})
case_single names = record {
  production = record {
    invert = λ whole after following is fit same. case_invert names whole after following is same;
    shut = λ part after shut. tt;
    spelled = λ part after. refl;
    is_phrase = λ part is. is;
    taller = λ part. omega arith;
  };
  law = closed_law (Expressions names 2) colon (text_law names 2);
  least = closed_least (Expressions names 2) colon (expression_least names 2 (omega arith));
}

pub default_invert : (names : Names) (whole : SwitchItem) (after following : Kinds) → IsSwitchItem names whole
    → switch_item_text whole after ≡ word keyword.Default ∷ following
    → (part : Unit {0}) × (whole ≡ Default) × Unit {0} × (following ≡ colon ∷ after)
default_invert names Default after following is same = (tt, refl, tt, cc)
default_invert names (Case v) after following is same = absurd cc
default_invert names (Inside i) after following is same = absurd (item_no_case names i after following (word keyword.Default) is refl same)

-- `default :`
abbrev pub default_single : (names : Names)
    → Single (SwitchParts names) (ClosedBy Ended colon) 0 (word keyword.Default ∷ []) (λ part. Default) (λ rest. Unit {0})
default_single names = record {
  production = record {
    invert = λ whole after following is fit same. default_invert names whole after following is same;
    shut = λ part after shut. tt;
    spelled = λ part after. refl;
    is_phrase = λ part is. tt;
    taller = λ part. omega arith;
  };
  law = closed_law Ended colon ended_law;
  least = closed_least Ended colon ended_least;
}

-- the first token is neither `case` nor `default`
abbrev pub HasNoCase : Kinds → Type 0
HasNoCase tokens = (first : TokenKind) (more : Kinds) → tokens ≡ first ∷ more → is_case first ≡ false

pub inside_invert : (names : Names) (whole : SwitchItem) (after following : Kinds) → IsSwitchItem names whole → HasNoCase following
    → switch_item_text whole after ≡ following → (part : Item) × (whole ≡ Inside part) × IsItem names part × (following ≡ item_text part after)
inside_invert names (Inside i) after following is fit same = (i, refl, is, sym same)
inside_invert names (Case v) after following is fit same = absurd (false≢true (sym (fit (word keyword.Case) (text v (colon ∷ after)) (sym same))))
inside_invert names Default after following is fit same = absurd (false≢true (sym (fit (word keyword.Default) (colon ∷ after) (sym same))))

pub item_some : (names : Names) (i : Item) → IsItem names i → 1 ≤ item_height i
item_some names (Does s) is = sentence_some s
item_some names (Declares specs objects) is = omega arith

abbrev pub items_least : (names : Names) → Least (BlockItems names)
items_least names = record { tree = Does Nothing; is_phrase = tt; below = λ other is. item_some names other is }

-- an item that any block may have
abbrev pub inside_single : (names : Names) → Single (SwitchParts names) (BlockItems names) 0 [] Inside HasNoCase
inside_single names = record {
  production = record {
    invert = λ whole after following is fit same. inside_invert names whole after following is fit same;
    shut = λ part after shut. shut;
    spelled = λ part after. refl;
    is_phrase = λ part is. is;
    taller = λ part. omega arith;
  };
  law = item_append;
  least = items_least names;
}
