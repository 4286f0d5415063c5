-- The words of a type before declarators: for the contracts of every parser of declarations.
use Rattle.std.proofs.Common.{◌≡◌, ℕ, ◌≤◌, inl, inr, Bool, true, false, ◌&&◌, List, [], ◌∷◌, ◌++◌, Option, Some, None, refl, sym}
use Rattle.std.proofs.Common.{ap, ◌∙◌, subst, arith, append_assoc, append-nil}
use Rattle.std.proofs.lemmas.Bool.{false≢true, both_ways, and_left, and_right}
use Rattle.std.proofs.lemmas.List.Folds.{list_all-append}
use Rattle.std.specs.List.{list_all}
use Rattle.cs_ast.specs.declared.token.TokenKind.{TokenKind}
use Rattle.cs_ast.specs.declared.token.TokenKind.TheVariants as token
use Rattle.cs_ast.specs.declared.token.Keyword.TheVariants as keyword
use Rattle.cs_ast.specs.declared.raw.written_type.TypeWord.{TypeWord}
use Rattle.cs_ast.specs.declared.raw.written_type.TypeWord.TheVariants as word
use Rattle.cs_ast.specs.declared.raw.written_type.IntegerWord.TheVariants.{Char, Short, Int, Long, Signed, Unsigned}
use Rattle.cs_ast.specs.RawDeclarations.{Specs}
use Rattle.cs_ast.specs.RawFileHeight.{specs_height}
use Rattle.cs_grammar.specs.TypeWords.{Names, is_integer_word, fit_together, names_type, named_by, is_type}
use Rattle.cs_grammar.specs.Text.{Kinds, words_text, type_word_text, integer_word_text}
use Rattle.cs_grammar.specs.FileText.{specs_text}
use Rattle.cs_grammar.specs.FilePhrases.{AreBlockSpecs}
use Rattle.cs_grammar.specs.DeclarationClasses.{Follows, ends_specs, BlockSpecs}
use Rattle.cs_grammar.specs.Parsing.{Near, Took, Refused}
use Rattle.cs_grammar.proofs.Texts.{words_append}
use Rattle.cs_grammar.proofs.WordsOfTypes.{named_more}
use Rattle.cs_grammar.proofs.FileBeginnings.{specs_of, plain_text, block_words, plain_are}
use Rattle.cs_grammar.proofs.BlockItems.{plain_height}
use Rattle.cs_grammar.proofs.Tails.{near_other}

-- the first word of some tokens, and what follows it
abbrev read_word : Kinds → Option (TypeWord × Kinds)
read_word (token.Keyword keyword.Const ∷ rest) = Some (word.Const, rest)
read_word (token.Keyword keyword.Void ∷ rest) = Some (word.Void, rest)
read_word (token.Keyword keyword.Char ∷ rest) = Some (word.Integer Char, rest)
read_word (token.Keyword keyword.Short ∷ rest) = Some (word.Integer Short, rest)
read_word (token.Keyword keyword.Int ∷ rest) = Some (word.Integer Int, rest)
read_word (token.Keyword keyword.Long ∷ rest) = Some (word.Integer Long, rest)
read_word (token.Keyword keyword.Signed ∷ rest) = Some (word.Integer Signed, rest)
read_word (token.Keyword keyword.Unsigned ∷ rest) = Some (word.Integer Unsigned, rest)
read_word (token.Keyword keyword.Struct ∷ token.Name tag ∷ rest) = Some (word.Struct tag, rest)
read_word (token.Keyword keyword.Enum ∷ token.Name tag ∷ rest) = Some (word.Enum tag, rest)
read_word (token.Name name ∷ rest) = Some (word.Typedef name, rest)
read_word other = None

read_text : (w : TypeWord) (x : Kinds) → read_word (type_word_text w x) ≡ Some (w, x)
read_text word.Const x = refl
read_text word.Void x = refl
read_text (word.Integer Char) x = refl
read_text (word.Integer Short) x = refl
read_text (word.Integer Int) x = refl
read_text (word.Integer Long) x = refl
read_text (word.Integer Signed) x = refl
read_text (word.Integer Unsigned) x = refl
read_text (word.Typedef name) x = refl
read_text (word.Struct tag) x = refl
read_text (word.Enum tag) x = refl

abbrev first_read : Option (TypeWord × Kinds) → TypeWord
first_read None = word.Void
first_read (Some both) = both.0

abbrev second_read : Option (TypeWord × Kinds) → Kinds
second_read None = []
second_read (Some both) = both.1

-- a word is determined by its tokens
pub same_word : (v w : TypeWord) (x y : Kinds) → type_word_text v x ≡ type_word_text w y → (v ≡ w) × (x ≡ y)
same_word v w x y same =
    let s = sym (read_text v x) ∙ ap read_word same ∙ read_text w y in
    (ap first_read s, ap second_read s)

-- the first token of a word
abbrev pub first_token : TypeWord → TokenKind
first_token word.Const = token.Keyword keyword.Const
first_token (word.Integer kind) = integer_word_text kind
first_token word.Void = token.Keyword keyword.Void
first_token (word.Typedef name) = token.Name name
first_token (word.Struct tag) = token.Keyword keyword.Struct
first_token (word.Enum tag) = token.Keyword keyword.Enum

pub starts_word : (w : TypeWord) (x : Kinds) → (others : Kinds) × (type_word_text w x ≡ first_token w ∷ others)
starts_word word.Const x = (x, refl)
starts_word (word.Integer kind) x = (x, refl)
starts_word word.Void x = (x, refl)
starts_word (word.Typedef name) x = (x, refl)
starts_word (word.Struct tag) x = (token.Name tag ∷ x, refl)
starts_word (word.Enum tag) x = (token.Name tag ∷ x, refl)

-- the words of a type, followed by a name, begin no type
whole_and_name : (names : Names) (first : TypeWord) (others : List TypeWord) (n : List ℕ) (more : List TypeWord)
    → names_type names ((first ∷ others) ++ word.Typedef n ∷ more) ≡ false
whole_and_name names word.Const others n more = and_left false (fit_together ((word.Const ∷ others) ++ word.Typedef n ∷ more)) refl
whole_and_name names (word.Integer k) others n more =
    and_left (list_all is_integer_word ((word.Integer k ∷ others) ++ word.Typedef n ∷ more))
    (fit_together ((word.Integer k ∷ others) ++ word.Typedef n ∷ more))
    (list_all-append is_integer_word (word.Integer k ∷ others) (word.Typedef n ∷ more)
    ∙ and_right (list_all is_integer_word (word.Integer k ∷ others)) (false && list_all is_integer_word more)
    (and_left false (list_all is_integer_word more) refl))
whole_and_name names word.Void [] n more = refl
whole_and_name names word.Void (o ∷ os) n more = refl
whole_and_name names (word.Typedef name) [] n more = refl
whole_and_name names (word.Typedef name) (o ∷ os) n more = refl
whole_and_name names (word.Struct tag) [] n more = refl
whole_and_name names (word.Struct tag) (o ∷ os) n more = refl
whole_and_name names (word.Enum tag) [] n more = refl
whole_and_name names (word.Enum tag) (o ∷ os) n more = refl

named_and_name : (names : Names) (named : List TypeWord) (n : List ℕ) (more : List TypeWord) → names_type names named ≡ true
    → names_type names (named ++ word.Typedef n ∷ more) ≡ false
named_and_name names [] n more e = absurd (false≢true e)
named_and_name names (w ∷ ws) n more e = whole_and_name names w ws n more

-- a type followed by a name is no type
pub type_and_name : (names : Names) (ws : List TypeWord) (n : List ℕ) (more : List TypeWord) → is_type names ws ≡ true
    → is_type names (ws ++ word.Typedef n ∷ more) ≡ true → ⊥
type_and_name names ws n more type both =
    both_ways (is_type names (ws ++ word.Typedef n ∷ more)) (ap (names_type names) (named_more ws (word.Typedef n ∷ more))
    ∙ named_and_name names (named_by ws) n (named_by more) type) both

-- only a name is both a word and what may follow a type
word_ends : (w : TypeWord) → ends_specs (first_token w) ≡ true → (n : List ℕ) × (w ≡ word.Typedef n)
word_ends (word.Typedef n) e = (n, refl)
word_ends word.Const e = absurd (false≢true e)
word_ends word.Void e = absurd (false≢true e)
word_ends (word.Struct tag) e = absurd (false≢true e)
word_ends (word.Enum tag) e = absurd (false≢true e)
word_ends (word.Integer Char) e = absurd (false≢true e)
word_ends (word.Integer Short) e = absurd (false≢true e)
word_ends (word.Integer Int) e = absurd (false≢true e)
word_ends (word.Integer Long) e = absurd (false≢true e)
word_ends (word.Integer Signed) e = absurd (false≢true e)
word_ends (word.Integer Unsigned) e = absurd (false≢true e)

-- the words begin those of a type
abbrev pub MayGoOn : Names → List TypeWord → Type 0
MayGoOn names ws = (more : List TypeWord) × (is_type names (ws ++ more) ≡ true)

follows_first : (after : Kinds) (t : TokenKind) (more : Kinds) → Follows ends_specs after → after ≡ t ∷ more → ends_specs t ≡ true
follows_first after t more f same = subst (Follows ends_specs) same f

-- words of a type that begin as others continue with more
words_go_on : (names : Names) (before ws other : List TypeWord) (after following : Kinds) → MayGoOn names (before ++ ws)
    → is_type names (before ++ other) ≡ true → Follows ends_specs after → words_text other after ≡ words_text ws following
    → (more : List TypeWord) × (other ≡ ws ++ more) × (words_text more after ≡ following)
words_go_on names before [] other after following go type f same = (other, refl, same)
words_go_on names before (w ∷ ws) [] after following go type f same =
    let s = starts_word w (words_text ws following) in
    let n = word_ends w (follows_first after (first_token w) s.0 f (same ∙ s.1)) in
    let t : is_type names before ≡ true = ap (is_type names) (sym (append-nil before)) ∙ type in
    absurd (type_and_name names before n.0 (ws ++ go.0) t
    (ap (is_type names) (ap (λ (x : TypeWord). before ++ x ∷ (ws ++ go.0)) (sym n.1) ∙ sym (append_assoc before (w ∷ ws) go.0)) ∙ go.1))
words_go_on names before (w ∷ ws) (v ∷ vs) after following go type f same =
    let k = same_word v w (words_text vs after) (words_text ws following) same in
    let go' : MayGoOn names ((before ++ w ∷ []) ++ ws) =
    (go.0, ap (λ (x : List TypeWord). is_type names (x ++ go.0)) (append_assoc before (w ∷ []) ws) ∙ go.1) in
    let type' : is_type names ((before ++ w ∷ []) ++ vs) ≡ true =
    ap (is_type names) (append_assoc before (w ∷ []) vs ∙ ap (λ (x : TypeWord). before ++ x ∷ vs) (sym k.0)) ∙ type in
    let r = words_go_on names (before ++ w ∷ []) ws vs after following go' type' f k.1 in
    (r.0, ap (λ (x : TypeWord). x ∷ vs) k.0 ∙ ap (λ (x : List TypeWord). w ∷ x) r.1, r.2)

-- no word that begins with the token continues these
abbrev pub IsStuckAt : Names → List TypeWord → TokenKind → Type 0
IsStuckAt names ws next = (one : TypeWord) (more : List TypeWord) → first_token one ≡ next → is_type names (ws ++ one ∷ more) ≡ false

stuck_near : (names : Names) (ws : List TypeWord) (next : TokenKind) (more : List TypeWord) (after following : Kinds) → IsStuckAt names ws next
    → is_type names (ws ++ more) ≡ true → Near next following → words_text more after ≡ following → (more ≡ []) × (after ≡ following)
stuck_near names ws next [] after following stuck type near same = (refl, same)
stuck_near names ws next (w ∷ more) after following stuck type near same =
    let s = starts_word w (words_text more after) in
    absurd (elim near [
      | inl none ↦ let z = sym s.1 ∙ same ∙ none in cc
      | inr m ↦
          let z : first_token w ∷ s.0 ≡ next ∷ m.0 = sym s.1 ∙ same ∙ m.1 in
          let k : first_token w ≡ next = cc in
          both_ways (is_type names (ws ++ w ∷ more)) (stuck w more k) type
    ])

block_only : (names : Names) (ws : List TypeWord) (next : TokenKind) → is_type names ws ≡ true → IsStuckAt names ws next
    → (other : Specs) (after following : Kinds) → AreBlockSpecs names other → Follows ends_specs after → Near next following
    → specs_text other after ≡ specs_text (specs_of ws) following → (other ≡ specs_of ws) × (after ≡ following)
block_only names ws next type stuck other after following is f near same =
    let o = block_words names other is in
    let s : words_text o.words after ≡ words_text ws following = sym (plain_text o.words after) ∙ ap (λ (x : Specs). specs_text x after) (sym o.are)
    ∙ same ∙ plain_text ws following in
    let go : MayGoOn names ws = ([], ap (is_type names) (append-nil ws) ∙ type) in
    let r = words_go_on names [] ws o.words after following go o.type f s in
    let e = stuck_near names ws next r.0 after following stuck (ap (is_type names) (sym r.1) ∙ o.type) near r.2 in
    (o.are ∙ ap specs_of (r.1 ∙ ap (λ (x : List TypeWord). ws ++ x) e.0 ∙ append-nil ws), e.1)

words_height : (ws : List TypeWord) → specs_height (specs_of ws) ≤ 1
words_height [] = omega arith
words_height (w ∷ ws) = let h = plain_height w ws in omega (arith, h)

-- the words of a type were taken inside a block, as many as there are
pub block_specs_took : (names : Names) (limit : ℕ) (ws : List TypeWord) (next : TokenKind) → 1 ≤ limit → is_type names ws ≡ true
    → IsStuckAt names ws next → Took (BlockSpecs names) limit (specs_of ws) next false
block_specs_took names limit ws next some type stuck = record {
  is_phrase = plain_are names ws type;
  low = let h = words_height ws in omega (arith, h, some);
  only = λ other after following is shut near same. inl (block_only names ws next type stuck other after following is shut near same);
  further = λ reported. absurd (false≢true reported);
  joined = λ reported more shut. false≢true reported;
}

pub words_split : (ws more : List TypeWord) (x : Kinds) → words_text (ws ++ more) x ≡ words_text ws (words_text more x)
words_split [] more x = refl
words_split (w ∷ ws) more x = ap (type_word_text w) (words_split ws more x)

abbrev pub tag_word : Bool → TokenKind
tag_word true = token.Keyword keyword.Struct
tag_word false = token.Keyword keyword.Enum

abbrev pub tagged : Bool → List ℕ → TypeWord
tagged true tag = word.Struct tag
tagged false tag = word.Enum tag

tagged_text : (is_struct : Bool) (tag : List ℕ) (x : Kinds) → type_word_text (tagged is_struct tag) x ≡ tag_word is_struct ∷ token.Name tag ∷ x
tagged_text true tag x = refl
tagged_text false tag x = refl

tagged_names : (names : Names) (is_struct : Bool) (tag : List ℕ) → names_type names (named_by (tagged is_struct tag ∷ [])) ≡ true
tagged_names names true tag = refl
tagged_names names false tag = refl

tag_type : (names : Names) (ws : List TypeWord) (is_struct : Bool) (tag : List ℕ) → named_by ws ≡ []
    → is_type names (ws ++ tagged is_struct tag ∷ []) ≡ true
tag_type names ws is_struct tag none =
    ap (names_type names) (named_more ws (tagged is_struct tag ∷ []) ∙ ap (λ (x : List TypeWord). x ++ named_by (tagged is_struct tag ∷ [])) none)
    ∙ tagged_names names is_struct tag

-- no specifiers continue these words with the next token
pub block_words_never : (names : Names) (ws : List TypeWord) (next : TokenKind) → is_type names ws ≡ false → MayGoOn names ws → IsStuckAt names ws next
    → (other : Specs) (after following : Kinds) → AreBlockSpecs names other → Follows ends_specs after → Near next following
    → specs_text other after ≡ words_text ws [] ++ following → ⊥
block_words_never names ws next none go stuck other after following is f near same =
    let o = block_words names other is in
    let s : words_text o.words after ≡ words_text ws following = sym (plain_text o.words after) ∙ ap (λ (x : Specs). specs_text x after) (sym o.are)
    ∙ same ∙ words_append ws [] following in
    let r = words_go_on names [] ws o.words after following go o.type f s in
    let e = stuck_near names ws next r.0 after following stuck (ap (is_type names) (sym r.1) ∙ o.type) near r.2 in
    both_ways (is_type names ws) none (ap (is_type names) (sym (r.1 ∙ ap (λ (x : List TypeWord). ws ++ x) e.0 ∙ append-nil ws)) ∙ o.type)

-- words that name no type yet, and that no word continues
pub block_specs_refused : (names : Names) (limit : ℕ) (ws : List TypeWord) (next : TokenKind) → 1 ≤ limit → is_type names ws ≡ false
    → MayGoOn names ws → IsStuckAt names ws next → Refused (BlockSpecs names) limit (words_text ws []) next false
block_specs_refused names limit ws next some none go stuck = record {
  begun = inr (record {
    phrase = specs_of (ws ++ go.0);
    more = words_text go.0 [];
    is_phrase = plain_are names (ws ++ go.0) go.1;
    low = let h = words_height (ws ++ go.0) in omega (arith, h, some);
    spelled = plain_text (ws ++ go.0) [] ∙ words_split ws go.0 [] ∙ sym (words_append ws [] (words_text go.0 []));
  });
  never = λ other after following is shut near same. absurd (block_words_never names ws next none go stuck other after following is shut near same);
  further = λ reported. absurd (false≢true reported);
}

-- the token after `struct` or `enum` isn't a tag
tag_near : (is_struct : Bool) (next : TokenKind) (ws more : List TypeWord) (after following : Kinds) → ((n : List ℕ) → next ≡ token.Name n → ⊥)
    → Follows ends_specs after → Near next following → words_text more after ≡ tag_word is_struct ∷ following → ⊥
tag_near true next ws [] after following no_name f near same = false≢true (follows_first after (tag_word true) following f same)
tag_near false next ws [] after following no_name f near same = false≢true (follows_first after (tag_word false) following f same)
tag_near true next ws (word.Struct t ∷ more) after following no_name f near same =
    near_other (token.Name t) next following (words_text more after) (no_name t) near cc
tag_near false next ws (word.Enum t ∷ more) after following no_name f near same =
    near_other (token.Name t) next following (words_text more after) (no_name t) near cc
tag_near true next ws (word.Const ∷ more) after following no_name f near same = cc
tag_near true next ws (word.Void ∷ more) after following no_name f near same = cc
tag_near true next ws (word.Typedef n ∷ more) after following no_name f near same = cc
tag_near true next ws (word.Enum n ∷ more) after following no_name f near same = cc
tag_near true next ws (word.Integer Char ∷ more) after following no_name f near same = cc
tag_near true next ws (word.Integer Short ∷ more) after following no_name f near same = cc
tag_near true next ws (word.Integer Int ∷ more) after following no_name f near same = cc
tag_near true next ws (word.Integer Long ∷ more) after following no_name f near same = cc
tag_near true next ws (word.Integer Signed ∷ more) after following no_name f near same = cc
tag_near true next ws (word.Integer Unsigned ∷ more) after following no_name f near same = cc
tag_near false next ws (word.Const ∷ more) after following no_name f near same = cc
tag_near false next ws (word.Void ∷ more) after following no_name f near same = cc
tag_near false next ws (word.Typedef n ∷ more) after following no_name f near same = cc
tag_near false next ws (word.Struct n ∷ more) after following no_name f near same = cc
tag_near false next ws (word.Integer Char ∷ more) after following no_name f near same = cc
tag_near false next ws (word.Integer Short ∷ more) after following no_name f near same = cc
tag_near false next ws (word.Integer Int ∷ more) after following no_name f near same = cc
tag_near false next ws (word.Integer Long ∷ more) after following no_name f near same = cc
tag_near false next ws (word.Integer Signed ∷ more) after following no_name f near same = cc
tag_near false next ws (word.Integer Unsigned ∷ more) after following no_name f near same = cc

-- `struct` or `enum` after words that name nothing, and no tag after it, inside a block
pub block_tag_refused : (names : Names) (limit : ℕ) (ws : List TypeWord) (is_struct : Bool) (next : TokenKind) → 1 ≤ limit → named_by ws ≡ []
    → ((n : List ℕ) → next ≡ token.Name n → ⊥) → Refused (BlockSpecs names) limit (words_text ws (tag_word is_struct ∷ [])) next false
block_tag_refused names limit ws is_struct next some none no_name =
    let go : MayGoOn names ws = (tagged is_struct [] ∷ [], tag_type names ws is_struct [] none) in
    record {
      begun = inr (record {
        phrase = specs_of (ws ++ tagged is_struct [] ∷ []);
        more = token.Name [] ∷ [];
        is_phrase = plain_are names (ws ++ tagged is_struct [] ∷ []) go.1;
        low = let h = words_height (ws ++ tagged is_struct [] ∷ []) in omega (arith, h, some);
        spelled = plain_text (ws ++ tagged is_struct [] ∷ []) [] ∙ words_split ws (tagged is_struct [] ∷ []) []
            ∙ ap (words_text ws) (tagged_text is_struct [] []) ∙ sym (words_append ws (tag_word is_struct ∷ []) (token.Name [] ∷ []));
      });
      never = λ other after following is shut near same.
          let o = block_words names other is in
          let s : words_text o.words after ≡ words_text ws (tag_word is_struct ∷ following) = sym (plain_text o.words after)
          ∙ ap (λ (x : Specs). specs_text x after) (sym o.are) ∙ same ∙ words_append ws (tag_word is_struct ∷ []) following in
          let r = words_go_on names [] ws o.words after (tag_word is_struct ∷ following) go o.type shut s in
          absurd (tag_near is_struct next ws r.0 after following no_name shut near r.2);
      further = λ reported. absurd (false≢true reported);
    }
