-- Returns of functions that parse items of blocks or of a `switch`: for the contracts of every parser of statements.
use Rattle.std.proofs.Common.{◌≡◌, ℕ, ◌+◌, ◌<◌, ◌≤◌, ◌⊎◌, inl, inr, Bool, true, false, List, [], ◌∷◌, ◌++◌, refl, sym, ap}
use Rattle.std.proofs.Common.{◌∙◌, arith}
use Rattle.std.proofs.lemmas.Bool.{false≢true, both_ways, or_cases}
use Rattle.cs_ast.specs.declared.token.TokenKind.{TokenKind}
use Rattle.cs_ast.specs.declared.token.TokenKind.TheVariants as token
use Rattle.cs_ast.specs.declared.token.Keyword.{Keyword}
use Rattle.cs_ast.specs.declared.token.Keyword.TheVariants as keyword
use Rattle.cs_ast.specs.declared.raw.written_type.TypeWord.{TypeWord}
use Rattle.cs_ast.specs.declared.raw.written_type.TypeWord.TheVariants as word_of
use Rattle.cs_ast.specs.declared.raw.written_type.IntegerWord.TheVariants.{Char, Short, Int, Long, Signed, Unsigned}
use Rattle.cs_ast.specs.RawDeclarations.{Declared, Specs}
use Rattle.cs_ast.specs.RawStatements.{Sentence, Item, Declares, Does, SwitchItem, Case, Default, Inside}
use Rattle.cs_ast.specs.RawFileHeight.{item_height, switch_item_height}
use Rattle.cs_grammar.specs.TypeWords.{Names, is_among, is_type}
use Rattle.cs_grammar.specs.Text.{Kinds, text, words_text, type_word_text}
use Rattle.cs_grammar.specs.FirstTokens.{begins_type, keyword_begins_type}
use Rattle.cs_grammar.specs.FileFirstTokens.{begins_sentence, begins_item, is_case, begins_switch_part}
use Rattle.cs_grammar.specs.FileText.{declared_text, with_commas, specs_text, declaration_text, sentence_text, item_text, switch_item_text}
use Rattle.cs_grammar.specs.FilePhrases.{AreAll, IsSomeList, IsDeclared, AreBlockSpecs, IsSentence, IsItem, IsSwitchItem}
use Rattle.cs_grammar.specs.FileClasses.{Sentences, BlockItems, SwitchParts}
use Rattle.cs_grammar.specs.Parsing.{Near, Begins, BeginsLow, Took, Refused}
use Rattle.cs_grammar.proofs.FileBeginnings.{specs_of, plain_text, block_words, plain_are, block_specs_begin, sentence_begins, item_begins, switch_part_begins}
use Rattle.cs_grammar.proofs.FileBeginnings.{some_first, first_passes}
use Rattle.cs_grammar.proofs.Tails.{first_or, full_refused, none_refused, near_other}
use Rattle.cs_grammar.proofs.Pairs.{single_refused, single_took}
use Rattle.cs_grammar.proofs.Statements.{semicolon, colon, word}
use Rattle.cs_grammar.proofs.StatementParts.{nought, expression_height}
use Rattle.cs_grammar.proofs.StatementFirsts.{begins_low, two_high, sentence_example}
use Rattle.cs_grammar.proofs.DeclaredObjects.{least_object, least_is}
use Rattle.cs_grammar.proofs.BlockItems.{IsDeclaration, IsStatement, HasNoCase, BlockDeclarations, Declaration, declares_single, does_single, inside_single}
use Rattle.cs_grammar.proofs.BlockItems.{both_begin, name_sentence, objects_start, declared_no_colon, block_specs_height, item_some}

-- a type that begins with a token
pub record TypeExample (names : Names) (t : TokenKind) : Type 0 where
  pub first : TypeWord
  pub others : List TypeWord
  pub type : is_type names (first ∷ others) ≡ true
  pub more : Kinds
  pub spelled : (rest : Kinds) → words_text (first ∷ others) rest ≡ t ∷ (more ++ rest)

one_word : (names : Names) (t : TokenKind) (w : TypeWord) → is_type names (w ∷ []) ≡ true → ((rest : Kinds) → type_word_text w rest ≡ t ∷ rest)
    → TypeExample names t
one_word names t w type same = record { first = w; others = []; type = type; more = []; spelled = same }

keyword_type : (names : Names) (k : Keyword) → keyword_begins_type k ≡ true → TypeExample names (token.Keyword k)
keyword_type names keyword.Const e = record {
  first = word_of.Const;
  others = word_of.Void ∷ [];
  type = refl;
  more = word keyword.Void ∷ [];
  spelled = λ rest. refl;
}
keyword_type names keyword.Void e = one_word names (word keyword.Void) word_of.Void refl (λ rest. refl)
keyword_type names keyword.Struct e = record { first = word_of.Struct []; others = []; type = refl; more = token.Name [] ∷ []; spelled = λ rest. refl }
keyword_type names keyword.Enum e = record { first = word_of.Enum []; others = []; type = refl; more = token.Name [] ∷ []; spelled = λ rest. refl }
keyword_type names keyword.Char e = one_word names (word keyword.Char) (word_of.Integer Char) refl (λ rest. refl)
keyword_type names keyword.Short e = one_word names (word keyword.Short) (word_of.Integer Short) refl (λ rest. refl)
keyword_type names keyword.Int e = one_word names (word keyword.Int) (word_of.Integer Int) refl (λ rest. refl)
keyword_type names keyword.Long e = one_word names (word keyword.Long) (word_of.Integer Long) refl (λ rest. refl)
keyword_type names keyword.Signed e = one_word names (word keyword.Signed) (word_of.Integer Signed) refl (λ rest. refl)
keyword_type names keyword.Unsigned e = one_word names (word keyword.Unsigned) (word_of.Integer Unsigned) refl (λ rest. refl)
keyword_type names _ e = absurd cc

pub type_example : (names : Names) (t : TokenKind) → begins_type names t ≡ true → TypeExample names t
type_example names (token.Name n) e = one_word names (token.Name n) (word_of.Typedef n) e (λ rest. refl)
type_example names (token.Keyword k) e = keyword_type names k e
type_example names (token.Number c) e = absurd cc
type_example names (token.Character v) e = absurd cc
type_example names (token.Text b) e = absurd cc
type_example names (token.Punctuator m) e = absurd cc
type_example names (token.Unsupported w) e = absurd cc
type_example names token.Attribute e = absurd cc

declaration_example : (names : Names) (t : TokenKind) → begins_type names t ≡ true → Begins (BlockItems names) (t ∷ [])
declaration_example names t e =
    let x = type_example names t e in
    record {
      phrase = Declares (specs_of (x.first ∷ x.others)) (least_object names ∷ []);
      more = x.more ++ with_commas declared_text (least_object names ∷ []) (semicolon ∷ []);
      is_phrase = (plain_are names (x.first ∷ x.others) x.type, (tt, (least_is names, tt)));
      spelled = plain_text (x.first ∷ x.others) (with_commas declared_text (least_object names ∷ []) (semicolon ∷ []))
          ∙ x.spelled (with_commas declared_text (least_object names ∷ []) (semicolon ∷ []));
    }

-- an item of a block that begins with this token
pub item_example : (names : Names) (t : TokenKind) → begins_item names t ≡ true → Begins (BlockItems names) (t ∷ [])
item_example names t e =
    elim (or_cases (begins_sentence t) (begins_type names t) e) [
      | inl s ↦ let b = sentence_example names t s in record { phrase = Does b.phrase; more = b.more; is_phrase = b.is_phrase; spelled = b.spelled }
      | inr d ↦ declaration_example names t d
    ]

pub item_has : (names : Names) (i : Item) (after : Kinds) → IsItem names i → item_text i after ≡ [] → ⊥
item_has names i after is same = some_first (begins_item names) (item_text i after) (item_begins names i after is) same

-- no item of a block begins with the token
pub item_not : (names : Names) (limit : ℕ) (next : TokenKind) → begins_item names next ≡ false → Refused (BlockItems names) limit [] next false
item_not names limit next e =
    none_refused (BlockItems names) limit next (item_has names)
    (λ i after more is same. false≢true (sym e ∙ first_passes (begins_item names) (item_text i after) next more (item_begins names i after is) same))

-- the limit allows no item
pub item_none : (names : Names) (limit : ℕ) (next : TokenKind) → limit < 1 → begins_item names next ≡ true
    → Refused (BlockItems names) limit [] next true
item_none names limit next full e =
    full_refused (BlockItems names) limit next (item_has names) (λ i after more is same. let h = item_some names i is in omega (arith, h, full))
    (item_example names next e)

item_two : (names : Names) (i : Item) (after : Kinds) (t : TokenKind) (more : Kinds) → IsItem names i → item_text i after ≡ t ∷ more
    → begins_low t ≡ false → 2 ≤ item_height i
item_two names (Does s) after t more is same l = two_high names s after t more same l
item_two names (Declares specs objects) after t more is same l = let h = block_specs_height names specs is.0 in omega (arith, h)

-- the limit allows only a statement without parts, and the token begins none
pub item_low : (names : Names) (limit : ℕ) (next : TokenKind) → limit < 2 → begins_item names next ≡ true → begins_low next ≡ false
    → Refused (BlockItems names) limit [] next true
item_low names limit next full e l =
    full_refused (BlockItems names) limit next (item_has names)
    (λ i after more is same. let h = item_two names i after next more is same l in omega (arith, h, full)) (item_example names next e)

second_near : (fs following more : Kinds) (next : TokenKind) → (first_or fs next ≡ colon → ⊥) → Near next following
    → fs ++ following ≡ colon ∷ more → ⊥
second_near [] following more next other near same = near_other colon next following more other near (sym same)
second_near (g ∷ gs) following more next other near same = other cc

-- the tokens of a refused declaration begin a type and no label
pub declaration_fits : (names : Names) (f : TokenKind) (fs : Kinds) (next : TokenKind) → begins_type names f ≡ true
    → ((n : List ℕ) → f ≡ token.Name n → first_or fs next ≡ colon → ⊥) → (following : Kinds) → Near next following
    → IsDeclaration names ((f ∷ fs) ++ following)
declaration_fits names f fs next e other following near = record {
  typed = λ first more same. let k : f ≡ first = cc in ap (begins_type names) (sym k) ∙ e;
  unlabelled = λ n more same. let k : f ≡ token.Name n = cc in second_near fs following more next (other n k) near cc;
  some = λ none. cc;
}

-- a declaration was refused
pub declares_refused : (names : Names) (limit inner : ℕ) → limit ≡ 1 + inner → 1 ≤ inner
    → (f : TokenKind) (fs : Kinds) (next : TokenKind) (deep : Bool) → begins_type names f ≡ true
    → ((n : List ℕ) → f ≡ token.Name n → first_or fs next ≡ colon → ⊥) → Refused (BlockDeclarations names) inner (f ∷ fs) next deep
    → Refused (BlockItems names) limit (f ∷ fs) next deep
declares_refused names limit inner less some f fs next deep e other r =
    single_refused (declares_single names) limit inner (less, omega (arith, some)) (f ∷ fs) next deep (declaration_fits names f fs next e other) r

declaration_is : (names : Names) (specs : Specs) (objects : List Declared) (x : Kinds) → AreBlockSpecs names specs → IsSomeList objects
    → AreAll (IsDeclared names) objects → IsDeclaration names (declaration_text specs objects x)
declaration_is names specs objects x is some are =
    let rest = with_commas declared_text objects (semicolon ∷ x) in
    let b = block_specs_begin names specs rest is in
    let w = block_words names specs is in
    record {
      typed = λ first more same. first_passes (begins_type names) (declaration_text specs objects x) first more b same;
      unlabelled = λ n more same.
          declared_no_colon names w.words rest (token.Name n) more w.type (objects_start names objects (semicolon ∷ x) some are)
          (sym (plain_text w.words rest) ∙ ap (λ (y : Specs). specs_text y rest) (sym w.are) ∙ same);
      some = λ none. some_first (begins_type names) (declaration_text specs objects x) b none;
    }

-- a declaration was taken
pub declares_took : (names : Names) (limit inner : ℕ) → limit ≡ 1 + inner → 1 ≤ inner
    → (part : Declaration) (next : TokenKind) (deep : Bool) → Took (BlockDeclarations names) inner part next deep
    → Took (BlockItems names) limit (Declares part.0 part.1) next deep
declares_took names limit inner less some part next deep t =
    single_took (declares_single names) limit inner (less, omega (arith, some)) part next deep
    (λ following near. declaration_is names part.0 part.1 following t.is_phrase.0 t.is_phrase.1.0 t.is_phrase.1.1) t

either_type : (b : Bool) → (b ≡ false) ⊎ (b ≡ true)
either_type false = inl refl
either_type true = inr refl

-- the first token of a statement begins no type, or a colon follows it
pub statement_is : (names : Names) (s : Sentence) (x : Kinds) → IsSentence names s → IsStatement names (sentence_text s x)
statement_is names s x is first more same =
    elim (either_type (begins_type names first)) [
      | inl no_type ↦ inl no_type
      | inr typed ↦
          let n = both_begin names first (first_passes begins_sentence (sentence_text s x) first more (sentence_begins names s x is) same) typed in
          inr (name_sentence names s x n.0 more is n.2 (same ∙ ap (λ (t : TokenKind). t ∷ more) n.1))
    ]

statement_front : (names : Names) (limit : ℕ) (f : TokenKind) (fs following : Kinds) → BeginsLow (Sentences names) limit (f ∷ fs)
    → ((n : List ℕ) → f ∷ fs ≡ token.Name n ∷ [] → is_among names n ≡ false) → begins_type names f ≡ true
    → (m : Kinds) × (fs ++ following ≡ colon ∷ m)
statement_front names limit f [] following b lone typed =
    let n = both_begin names f (first_passes begins_sentence (sentence_text b.phrase []) f b.more (sentence_begins names b.phrase [] b.is_phrase) b.spelled)
    typed in
    absurd (both_ways (is_among names n.0) (lone n.0 (ap (λ (t : TokenKind). t ∷ []) n.1)) n.2)
statement_front names limit f (g ∷ gs) following b lone typed =
    let n =
    both_begin names f (first_passes begins_sentence (sentence_text b.phrase []) f ((g ∷ gs) ++ b.more) (sentence_begins names b.phrase [] b.is_phrase)
    b.spelled) typed in
    let m = name_sentence names b.phrase [] n.0 ((g ∷ gs) ++ b.more) b.is_phrase n.2 (b.spelled
    ∙ ap (λ (t : TokenKind). t ∷ ((g ∷ gs) ++ b.more)) n.1) in
    let s : g ∷ (gs ++ b.more) ≡ colon ∷ m.0 = m.1 in
    let k : g ≡ colon = cc in
    (gs ++ following, ap (λ (t : TokenKind). t ∷ (gs ++ following)) k)

statement_fits : (names : Names) (limit : ℕ) (front : Kinds) (next : TokenKind) (deep : Bool) → (front ≡ [] → begins_type names next ≡ false)
    → ((n : List ℕ) → front ≡ token.Name n ∷ [] → is_among names n ≡ false) → Refused (Sentences names) limit front next deep
    → (following : Kinds) → Near next following → IsStatement names (front ++ following)
statement_fits names limit [] next deep first lone r following near t more same =
    elim near [
      | inl none ↦ let z = sym same ∙ none in absurd cc
      | inr m ↦
          let z : t ∷ more ≡ next ∷ m.0 = sym same ∙ m.1 in
          let k : t ≡ next = cc in
          inl (ap (begins_type names) k ∙ first refl)
    ]
statement_fits names limit (f ∷ fs) next deep first lone r following near t more same =
    let k : f ≡ t = cc in
    let z : fs ++ following ≡ more = cc in
    elim r.begun [
      | inl none ↦ absurd cc
      | inr b ↦
          elim (either_type (begins_type names t)) [
            | inl no_type ↦ inl no_type
            | inr typed ↦
                let m = statement_front names limit f fs following b lone (ap (begins_type names) k ∙ typed) in
                inr (m.0, sym z ∙ m.1)
          ]
    ]

-- a statement was refused; a typedef name without a colon begins no statement in a block
pub does_refused : (names : Names) (limit : ℕ) → 1 ≤ limit
    → (front : Kinds) (next : TokenKind) (deep : Bool) → (front ≡ [] → begins_type names next ≡ false)
    → ((n : List ℕ) → front ≡ token.Name n ∷ [] → is_among names n ≡ false) → Refused (Sentences names) limit front next deep
    → Refused (BlockItems names) limit front next deep
does_refused names limit some front next deep first lone r =
    single_refused (does_single names) limit limit (omega arith, some) front next deep (statement_fits names limit front next deep first lone r) r

-- a statement was taken
pub does_took : (names : Names) (limit : ℕ) → 1 ≤ limit → (s : Sentence) (next : TokenKind) (deep : Bool) → Took (Sentences names) limit s next deep
    → Took (BlockItems names) limit (Does s) next deep
does_took names limit some s next deep t =
    single_took (does_single names) limit limit (omega arith, some) s next deep (λ following near. statement_is names s following t.is_phrase) t

keyword_no_case : (names : Names) (k : Keyword) → begins_item names (token.Keyword k) ≡ true → is_case (token.Keyword k) ≡ false
keyword_no_case names keyword.Case e = absurd cc
keyword_no_case names keyword.Default e = absurd cc
keyword_no_case names _ e = refl

no_case : (names : Names) (t : TokenKind) → begins_item names t ≡ true → is_case t ≡ false
no_case names (token.Keyword k) e = keyword_no_case names k e
no_case names _ e = refl

item_no_case : (names : Names) (i : Item) (x : Kinds) → IsItem names i → HasNoCase (item_text i x)
item_no_case names i x is first more same = no_case names first (first_passes (begins_item names) (item_text i x) first more (item_begins names i x is) same)

case_fits : (names : Names) (limit : ℕ) (front : Kinds) (next : TokenKind) (deep : Bool) → (front ≡ [] → is_case next ≡ false)
    → Refused (BlockItems names) limit front next deep → (following : Kinds) → Near next following → HasNoCase (front ++ following)
case_fits names limit [] next deep first r following near t more same =
    elim near [
      | inl none ↦ let z = sym same ∙ none in absurd cc
      | inr m ↦
          let z : t ∷ more ≡ next ∷ m.0 = sym same ∙ m.1 in
          let k : t ≡ next = cc in
          ap is_case k ∙ first refl
    ]
case_fits names limit (f ∷ fs) next deep first r following near t more same =
    let k : f ≡ t = cc in
    elim r.begun [
      | inl none ↦ absurd cc
      | inr b ↦ ap is_case (sym k) ∙ item_no_case names b.phrase [] b.is_phrase f (fs ++ b.more) b.spelled
    ]

-- an item that any block may have was refused in a `switch`
pub inside_refused : (names : Names) (limit : ℕ) → 1 ≤ limit
    → (front : Kinds) (next : TokenKind) (deep : Bool) → (front ≡ [] → is_case next ≡ false) → Refused (BlockItems names) limit front next deep
    → Refused (SwitchParts names) limit front next deep
inside_refused names limit some front next deep first r =
    single_refused (inside_single names) limit limit (omega arith, some) front next deep (case_fits names limit front next deep first r) r

-- it was taken
pub inside_took : (names : Names) (limit : ℕ) → 1 ≤ limit → (i : Item) (next : TokenKind) (deep : Bool) → Took (BlockItems names) limit i next deep
    → Took (SwitchParts names) limit (Inside i) next deep
inside_took names limit some i next deep t =
    single_took (inside_single names) limit limit (omega arith, some) i next deep (λ following near. item_no_case names i following t.is_phrase) t

part_has : (names : Names) (i : SwitchItem) (after : Kinds) → IsSwitchItem names i → switch_item_text i after ≡ [] → ⊥
part_has names i after is same = some_first (begins_switch_part names) (switch_item_text i after) (switch_part_begins names i after is) same

-- no item of a `switch` begins with the token
pub part_not : (names : Names) (limit : ℕ) (next : TokenKind) → begins_switch_part names next ≡ false → Refused (SwitchParts names) limit [] next false
part_not names limit next e =
    none_refused (SwitchParts names) limit next (part_has names)
    (λ i after more is same.
    false≢true (sym e ∙ first_passes (begins_switch_part names) (switch_item_text i after) next more (switch_part_begins names i after is) same))

part_some : (names : Names) (i : SwitchItem) (after : Kinds) (t : TokenKind) (more : Kinds) → IsSwitchItem names i → (t ≡ word keyword.Default → ⊥)
    → switch_item_text i after ≡ t ∷ more → 1 ≤ switch_item_height i
part_some names (Case e) after t more is other same = expression_height e
part_some names Default after t more is other same = absurd (other cc)
part_some names (Inside i) after t more is other same = item_some names i is

-- the limit doesn't allow a `case`
pub case_none : (names : Names) (limit : ℕ) → limit < 1 → Refused (SwitchParts names) limit [] (word keyword.Case) true
case_none names limit full =
    full_refused (SwitchParts names) limit (word keyword.Case) (part_has names)
    (λ i after more is same. let h = part_some names i after (word keyword.Case) more is (λ e. cc) same in omega (arith, h, full))
    (record { phrase = Case nought; more = text nought (colon ∷ []); is_phrase = (omega arith, tt); spelled = refl })

-- the limit allows only `default`
pub inside_none : (names : Names) (limit : ℕ) (next : TokenKind) → limit < 1 → begins_item names next ≡ true → (next ≡ word keyword.Default → ⊥)
    → Refused (SwitchParts names) limit [] next true
inside_none names limit next full e other =
    let b = item_example names next e in
    full_refused (SwitchParts names) limit next (part_has names)
    (λ i after more is same. let h = part_some names i after next more is other same in omega (arith, h, full))
    (record { phrase = Inside b.phrase; more = b.more; is_phrase = b.is_phrase; spelled = b.spelled })
