-- The returns of the parts that parse the words of types and of pointers, over indices of tokens.
use Rattle.std.proofs.Common.{◌≡◌, ℕ, suc, ◌+◌, ◌<◌, ◌≤◌, ◌⊎◌, inl, inr, Bool, true, false, if◌then◌else◌, List, []}
use Rattle.std.proofs.Common.{◌∷◌, ◌++◌, Option, Some, None, length, drop, refl, sym, ap, ◌∙◌, subst, arith, append_assoc, append-nil}
use Rattle.std.specs.List.{list_all}
use Rattle.std.specs.Prelude.{Result, Ok, Err}
use Rattle.std.proofs.lemmas.Bool.{false≢true, both_ways, and_from}
use Rattle.cs_ast.specs.declared.token.Token.{Token}
use Rattle.cs_ast.specs.declared.token.TokenKind.{TokenKind}
use Rattle.cs_ast.specs.declared.token.TokenKind.TheVariants as token
use Rattle.cs_ast.specs.declared.token.Keyword.{Keyword}
use Rattle.cs_ast.specs.declared.token.Keyword.TheVariants as keyword
use Rattle.cs_ast.specs.declared.token.Punctuator.TheVariants as punctuator
use Rattle.cs_ast.specs.declared.raw.written_type.TypeWord.{TypeWord}
use Rattle.cs_ast.specs.declared.raw.written_type.TypeWord.TheVariants as word
use Rattle.cs_ast.specs.declared.raw.written_type.IntegerWord.{IntegerWord}
use Rattle.cs_ast.specs.declared.raw.written_type.IntegerWord.TheVariants.{Char, Short, Int, Long, Signed, Unsigned}
use Rattle.cs_ast.specs.declared.raw.written_type.PointerWord.{PointerWord}
use Rattle.cs_ast.specs.declared.raw.written_type.PointerWord.TheVariants as pointer
use Rattle.cs_grammar.specs.declared.refusal.Reason.{Reason}
use Rattle.cs_grammar.specs.declared.type_words.IntegerWords.{IntegerWords}
use Rattle.cs_grammar.specs.declared.type_words.TypeSoFar.{TypeSoFar}
use Rattle.cs_grammar.specs.declared.type_words.TypeSoFar.TheVariants.{Nothing, Integers, Whole}
use Rattle.cs_grammar.specs.TypeWords.{Names, is_among, is_integer_word, named_by, names_type, is_type, is_pointer, word_of, fit_together}
use Rattle.cs_grammar.specs.TypesSoFar.{Describes, AreIntegers, fit, is_whole, is_known, IsExtended}
use Rattle.cs_grammar.specs.Text.{Kinds, type_word_text, words_text, pointers_text, pointer_word_text, integer_word_text}
use Rattle.cs_grammar.specs.Parsing.{Class, Refused}
use Rattle.cs_grammar.proofs.Texts.{words_append}
use Rattle.cs_grammar.proofs.WordsOfTypes.{named_more}
use Rattle.cs_expr_parser.specs.Positions.{kinds, kind_or_end, name_of, keyword_of}
use Rattle.cs_expr_parser.specs.Reasons.{plain_reason, reason_of}
use Rattle.cs_expr_parser.specs.Parts.{Spells, Types, Stops, is_deep}
use Rattle.cs_expr_parser.specs.Words.{first_of_word, IsStuck, names_some, has_tag, last_tagged, IsWordAt, IsUnusable, NoWord, IsTagMissing, WordAnswer}
use Rattle.cs_expr_parser.specs.Words.{word_of_tag, TagAnswer, IsIntegerAt, IsJoiningAt, JoiningAnswer, IsWordsFrom, IsPointersFrom, IsPointerAt}
use Rattle.cs_expr_parser.specs.declared.stop.Stop.{Stop}
use Rattle.cs_expr_parser.specs.declared.stop.Stop.TheVariants as stop
use Rattle.cs_expr_parser.specs.declared.types.NextWord.{NextWord}
use Rattle.cs_expr_parser.specs.declared.types.TypeWords.{TypeWords}
use Rattle.cs_expr_parser.specs.declared.types.PointerWords.{PointerWords}
use Rattle.cs_expr_parser.specs.declared.types.JoiningWord.{JoiningWord}
use Rattle.cs_expr_parser.proofs.Standing.{kinds_first, spells_one, spells_none, spells_more, spells_as, keyword_is, name_is}
use Rattle.cs_expr_parser.proofs.Stopping.{refused_at, plain_not_deep, deep_reason}
use Rattle.cs_expr_parser.proofs.TypesInside.{word_first}
use Rattle.cs_expr_parser.proofs.WordsBegun.{tag_first, no_word_stuck, more_words, not_type_refused, tag_refused}

-- a token that is a keyword
pub keyword_stands : (tokens : List Token) (at : ℕ) (k : Keyword) → kind_or_end tokens at ≡ token.Keyword k
    → Spells tokens at (at + 1) (λ rest. token.Keyword k ∷ rest)
keyword_stands tokens at k e = spells_one tokens at (token.Keyword k) e (λ x. cc)

-- a name that is a typedef name
pub typedef_word : (names : Names) (tokens : List Token) (at : ℕ) (so_far : TypeSoFar) (name : List ℕ) (found : NextWord)
    → kind_or_end tokens at ≡ token.Name name → is_among names name ≡ true → found.word ≡ word.Typedef name → found.next ≡ at + 1
    → IsWordAt names tokens at so_far found
typedef_word names tokens at so_far name found k known w n = record {
  spelled =
      subst (λ (x : ℕ). Spells tokens at x (type_word_text found.word)) (sym n)
      (subst (λ (x : TypeWord). Spells tokens at (at + 1) (type_word_text x)) (sym w) (spells_one tokens at (token.Name name) k (λ x. cc)));
  known = λ other e. let s : word.Typedef name ≡ word.Typedef other = sym w ∙ e in let o : name ≡ other = cc in
      subst (λ (x : List ℕ). is_among names x ≡ true) o known;
  later = omega arith;
  fresh = λ tag. absurd (let s : has_tag (word.Typedef name) ≡ true = ap has_tag (sym w) ∙ tag in false≢true s);
}

-- a keyword that is a whole word of a type
pub plain_word : (names : Names) (tokens : List Token) (at : ℕ) (so_far : TypeSoFar) (k : Keyword) (one : TypeWord) (found : NextWord)
    → kind_or_end tokens at ≡ token.Keyword k → ((rest : Kinds) → type_word_text one rest ≡ token.Keyword k ∷ rest) → has_tag one ≡ false
    → ((name : List ℕ) → one ≡ word.Typedef name → ⊥) → found.word ≡ one → found.next ≡ at + 1 → IsWordAt names tokens at so_far found
plain_word names tokens at so_far k one found stands t tagless nameless w n = record {
  spelled =
      subst (λ (x : ℕ). Spells tokens at x (type_word_text found.word)) (sym n)
      (subst (λ (x : TypeWord). Spells tokens at (at + 1) (type_word_text x)) (sym w)
      (spells_as tokens at (at + 1) (λ rest. token.Keyword k ∷ rest) (type_word_text one) (keyword_stands tokens at k stands) (λ rest. sym (t rest))));
  known = λ name e. absurd (nameless name (sym w ∙ e));
  later = omega arith;
  fresh = λ tag. absurd (false≢true (sym tagless ∙ ap has_tag (sym w) ∙ tag));
}

integer_text : (kind : Keyword) (one : IntegerWord) → word_of kind ≡ Some one → integer_word_text one ≡ token.Keyword kind
integer_text keyword.Char one e = let s : Char ≡ one = cc in ap integer_word_text (sym s)
integer_text keyword.Short one e = let s : Short ≡ one = cc in ap integer_word_text (sym s)
integer_text keyword.Int one e = let s : Int ≡ one = cc in ap integer_word_text (sym s)
integer_text keyword.Long one e = let s : Long ≡ one = cc in ap integer_word_text (sym s)
integer_text keyword.Signed one e = let s : Signed ≡ one = cc in ap integer_word_text (sym s)
integer_text keyword.Unsigned one e = let s : Unsigned ≡ one = cc in ap integer_word_text (sym s)
integer_text _ one e = absurd cc

-- a keyword that begins no word of an integer type
integer_none : (kind : Keyword) (one : IntegerWord) → word_of kind ≡ None → integer_word_text one ≡ token.Keyword kind → ⊥
integer_none kind Char n e = let k : kind ≡ keyword.Char = cc in let z : word_of keyword.Char ≡ None = ap word_of (sym k) ∙ n in cc
integer_none kind Short n e = let k : kind ≡ keyword.Short = cc in let z : word_of keyword.Short ≡ None = ap word_of (sym k) ∙ n in cc
integer_none kind Int n e = let k : kind ≡ keyword.Int = cc in let z : word_of keyword.Int ≡ None = ap word_of (sym k) ∙ n in cc
integer_none kind Long n e = let k : kind ≡ keyword.Long = cc in let z : word_of keyword.Long ≡ None = ap word_of (sym k) ∙ n in cc
integer_none kind Signed n e = let k : kind ≡ keyword.Signed = cc in let z : word_of keyword.Signed ≡ None = ap word_of (sym k) ∙ n in cc
integer_none kind Unsigned n e = let k : kind ≡ keyword.Unsigned = cc in let z : word_of keyword.Unsigned ≡ None = ap word_of (sym k) ∙ n in cc

-- the keyword begins no other word of a type
pub record IsOther (kind : Keyword) : Type 0 where
  pub no_struct : kind ≡ keyword.Struct → ⊥
  pub no_enum : kind ≡ keyword.Enum → ⊥
  pub no_const : kind ≡ keyword.Const → ⊥
  pub no_void : kind ≡ keyword.Void → ⊥

integer_no_word : (names : Names) (so_far : TypeSoFar) (kind : Keyword) → IsOther kind → word_of kind ≡ None → NoWord names so_far (token.Keyword kind)
integer_no_word names so_far kind o n word.Const e = absurd (o.no_const cc)
integer_no_word names so_far kind o n (word.Integer one) e = absurd (integer_none kind one n e)
integer_no_word names so_far kind o n word.Void e = absurd (o.no_void cc)
integer_no_word names so_far kind o n (word.Typedef name) e = absurd cc
integer_no_word names so_far kind o n (word.Struct tag) e = absurd (o.no_struct cc)
integer_no_word names so_far kind o n (word.Enum tag) e = absurd (o.no_enum cc)

-- the result for another keyword
pub integer_answer : (names : Names) (tokens : List Token) (at : ℕ) (so_far : TypeSoFar) (kind : Keyword) (found : Option NextWord)
    → kind_or_end tokens at ≡ token.Keyword kind → IsOther kind → IsIntegerAt kind at found → WordAnswer names tokens at so_far (Ok found)
integer_answer names tokens at so_far kind (Some found) stands o (one, is, w, n, tag) =
    plain_word names tokens at so_far kind (word.Integer one) found stands (λ rest. ap (λ (x : TokenKind). x ∷ rest) (integer_text kind one is)) refl
    (λ name e. cc) w n
integer_answer names tokens at so_far kind None stands o n = subst (NoWord names so_far) (sym stands) (integer_no_word names so_far kind o n)

tag_typedef : (is_struct : Bool) (tag name : List ℕ) → word_of_tag is_struct tag ≡ word.Typedef name → ⊥
tag_typedef true tag name e = cc
tag_typedef false tag name e = cc

-- the word of a tag
tag_found : (names : Names) (tokens : List Token) (at : ℕ) (so_far : TypeSoFar) (is_struct : Bool) (found : NextWord) (tag : List ℕ)
    → kind_or_end tokens at ≡ token.Keyword (if is_struct then keyword.Struct else keyword.Enum) → kind_or_end tokens (at + 1) ≡ token.Name tag
    → found.word ≡ word_of_tag is_struct tag → found.next ≡ at + 2 → names_some so_far ≡ false → IsWordAt names tokens at so_far found
tag_found names tokens at so_far is_struct found tag stands k w n fresh = record {
  spelled =
      subst (λ (x : ℕ). Spells tokens at x (type_word_text found.word)) (let e : at + 1 + 1 ≡ found.next = omega arith in e)
      (subst (λ (x : TypeWord). Spells tokens at (at + 1 + 1) (type_word_text x)) (sym w)
      (spells_as tokens at (at + 1 + 1) (λ rest. token.Keyword (if is_struct then keyword.Struct else keyword.Enum) ∷ token.Name tag ∷ rest)
      (type_word_text (word_of_tag is_struct tag))
      (spells_more tokens at (at + 1) (at + 1 + 1) (λ rest. token.Keyword (if is_struct then keyword.Struct else keyword.Enum) ∷ rest)
      (λ rest. token.Name tag ∷ rest)
      (keyword_stands tokens at (if is_struct then keyword.Struct else keyword.Enum) stands) (spells_one tokens (at + 1) (token.Name tag) k (λ x. cc)))
      (λ rest. sym (tag_first is_struct tag rest))));
  known = λ name e. absurd (tag_typedef is_struct tag name (sym w ∙ e));
  later = omega arith;
  fresh = λ tagged. fresh;
}

tag_unusable : (names : Names) (so_far : TypeSoFar) (is_struct : Bool) → names_some so_far ≡ true
    → NoWord names so_far (token.Keyword (if is_struct then keyword.Struct else keyword.Enum))
tag_unusable names so_far is_struct some (word.Struct tag) e = some
tag_unusable names so_far is_struct some (word.Enum tag) e = some
tag_unusable names so_far true some word.Const e = absurd cc
tag_unusable names so_far false some word.Const e = absurd cc
tag_unusable names so_far true some word.Void e = absurd cc
tag_unusable names so_far false some word.Void e = absurd cc
tag_unusable names so_far true some (word.Typedef name) e = absurd cc
tag_unusable names so_far false some (word.Typedef name) e = absurd cc
tag_unusable names so_far true some (word.Integer one) e = absurd (integer_none keyword.Struct one refl e)
tag_unusable names so_far false some (word.Integer one) e = absurd (integer_none keyword.Enum one refl e)

-- the result for `struct` or `enum`
pub tag_answer : (names : Names) (tokens : List Token) (at : ℕ) (so_far : TypeSoFar) (is_struct : Bool) (answer : Result (Option NextWord) Stop)
    → kind_or_end tokens at ≡ token.Keyword (if is_struct then keyword.Struct else keyword.Enum) → TagAnswer is_struct tokens at so_far answer
    → WordAnswer names tokens at so_far answer
tag_answer names tokens at so_far is_struct (Ok (Some found)) stands (tag, k, w, n, fresh) =
    tag_found names tokens at so_far is_struct found tag stands k w n fresh
tag_answer names tokens at so_far is_struct (Ok None) stands some = subst (NoWord names so_far) (sym stands) (tag_unusable names so_far is_struct some)
tag_answer names tokens at so_far is_struct (Err stop.Memory) stands t = tt
tag_answer names tokens at so_far is_struct (Err (stop.Refused refused reason)) stands (none, number, fresh, why) =
    (record { is_struct = is_struct; stands = stands; none = none; refused_is = number }, fresh, why)

name_unusable : (names : Names) (so_far : TypeSoFar) (name : List ℕ) → is_among names name ≡ false → NoWord names so_far (token.Name name)
name_unusable names so_far name none word.Const e = absurd cc
name_unusable names so_far name none (word.Integer Char) e = absurd cc
name_unusable names so_far name none (word.Integer Short) e = absurd cc
name_unusable names so_far name none (word.Integer Int) e = absurd cc
name_unusable names so_far name none (word.Integer Long) e = absurd cc
name_unusable names so_far name none (word.Integer Signed) e = absurd cc
name_unusable names so_far name none (word.Integer Unsigned) e = absurd cc
name_unusable names so_far name none word.Void e = absurd cc
name_unusable names so_far name none (word.Typedef other) e = let o : name ≡ other = cc in subst (λ (x : List ℕ). is_among names x ≡ false) o none
name_unusable names so_far name none (word.Struct tag) e = absurd cc
name_unusable names so_far name none (word.Enum tag) e = absurd cc

-- a name that isn't a typedef name isn't a word of a type
pub name_no_word : (names : Names) (so_far : TypeSoFar) (next : TokenKind) (name : List ℕ) → next ≡ token.Name name → is_among names name ≡ false
    → NoWord names so_far next
name_no_word names so_far next name n none one e = name_unusable names so_far name none one (e ∙ n)

-- nor is a token that is neither a name nor a keyword
pub punctuator_no_word : (names : Names) (so_far : TypeSoFar) (next : TokenKind) → name_of next ≡ None → keyword_of next ≡ None
    → NoWord names so_far next
punctuator_no_word names so_far next n k word.Const e = absurd (let z = ap keyword_of e ∙ k in cc)
punctuator_no_word names so_far next n k (word.Integer Char) e = absurd (let z = ap keyword_of e ∙ k in cc)
punctuator_no_word names so_far next n k (word.Integer Short) e = absurd (let z = ap keyword_of e ∙ k in cc)
punctuator_no_word names so_far next n k (word.Integer Int) e = absurd (let z = ap keyword_of e ∙ k in cc)
punctuator_no_word names so_far next n k (word.Integer Long) e = absurd (let z = ap keyword_of e ∙ k in cc)
punctuator_no_word names so_far next n k (word.Integer Signed) e = absurd (let z = ap keyword_of e ∙ k in cc)
punctuator_no_word names so_far next n k (word.Integer Unsigned) e = absurd (let z = ap keyword_of e ∙ k in cc)
punctuator_no_word names so_far next n k word.Void e = absurd (let z = ap keyword_of e ∙ k in cc)
punctuator_no_word names so_far next n k (word.Typedef name) e = absurd (let z = ap name_of e ∙ n in cc)
punctuator_no_word names so_far next n k (word.Struct tag) e = absurd (let z = ap keyword_of e ∙ k in cc)
punctuator_no_word names so_far next n k (word.Enum tag) e = absurd (let z = ap keyword_of e ∙ k in cc)

-- words without a tag are determined by their first tokens
first_integer : (a b : IntegerWord) → integer_word_text a ≡ integer_word_text b → a ≡ b
first_integer Char Char e = refl
first_integer Short Short e = refl
first_integer Int Int e = refl
first_integer Long Long e = refl
first_integer Signed Signed e = refl
first_integer Unsigned Unsigned e = refl
first_integer Char _ e = absurd cc
first_integer Short _ e = absurd cc
first_integer Int _ e = absurd cc
first_integer Long _ e = absurd cc
first_integer Signed _ e = absurd cc
first_integer Unsigned _ e = absurd cc

no_integer : (kind : IntegerWord) (k : Keyword) → word_of k ≡ None → token.Keyword k ≡ integer_word_text kind → ⊥
no_integer kind k n e = integer_none k kind n (sym e)

same_first : (one found : TypeWord) → has_tag found ≡ false → first_of_word one ≡ first_of_word found → one ≡ found
same_first word.Const word.Const t e = refl
same_first word.Const (word.Integer k) t e = absurd (no_integer k keyword.Const refl e)
same_first word.Const _ t e = absurd cc
same_first word.Void word.Void t e = refl
same_first word.Void (word.Integer k) t e = absurd (no_integer k keyword.Void refl e)
same_first word.Void _ t e = absurd cc
same_first (word.Typedef name) (word.Typedef other) t e = cc
same_first (word.Typedef name) (word.Integer Char) t e = absurd cc
same_first (word.Typedef name) (word.Integer Short) t e = absurd cc
same_first (word.Typedef name) (word.Integer Int) t e = absurd cc
same_first (word.Typedef name) (word.Integer Long) t e = absurd cc
same_first (word.Typedef name) (word.Integer Signed) t e = absurd cc
same_first (word.Typedef name) (word.Integer Unsigned) t e = absurd cc
same_first (word.Typedef name) _ t e = absurd cc
same_first (word.Struct tag) (word.Integer k) t e = absurd (no_integer k keyword.Struct refl e)
same_first (word.Struct tag) _ t e = absurd cc
same_first (word.Enum tag) (word.Integer k) t e = absurd (no_integer k keyword.Enum refl e)
same_first (word.Enum tag) _ t e = absurd cc
same_first (word.Integer k) (word.Integer j) t e = ap word.Integer (first_integer k j e)
same_first (word.Integer k) word.Const t e = absurd (no_integer k keyword.Const refl (sym e))
same_first (word.Integer k) word.Void t e = absurd (no_integer k keyword.Void refl (sym e))
same_first (word.Integer Char) (word.Typedef name) t e = absurd cc
same_first (word.Integer Short) (word.Typedef name) t e = absurd cc
same_first (word.Integer Int) (word.Typedef name) t e = absurd cc
same_first (word.Integer Long) (word.Typedef name) t e = absurd cc
same_first (word.Integer Signed) (word.Typedef name) t e = absurd cc
same_first (word.Integer Unsigned) (word.Typedef name) t e = absurd cc
same_first (word.Integer k) (word.Struct tag) t e = absurd cc
same_first (word.Integer k) (word.Enum tag) t e = absurd cc

tag_known : (names : Names) (one : TypeWord) → has_tag one ≡ true → (names_type names (one ∷ []) ≡ true) × (named_by (one ∷ []) ≡ one ∷ [])
tag_known names (word.Struct tag) t = (refl, refl)
tag_known names (word.Enum tag) t = (refl, refl)
tag_known names word.Const t = absurd cc
tag_known names (word.Integer k) t = absurd cc
tag_known names word.Void t = absurd cc
tag_known names (word.Typedef name) t = absurd cc

pub nothing_named : (names : Names) (so_far : TypeSoFar) (words : List TypeWord) → Describes names so_far words → names_some so_far ≡ false
    → named_by words ≡ []
nothing_named names Nothing words d none = d
nothing_named names (Integers all) words d none = absurd cc
nothing_named names Whole words d none = absurd cc

stuck_following : (names : Names) (so_far : TypeSoFar) (words : List TypeWord) (found : NextWord) (tagged : Bool) → has_tag found.word ≡ tagged
    → Describes names so_far words → (tagged ≡ true → names_some so_far ≡ false)
    → ((more : List TypeWord) → is_type names (words ++ found.word ∷ more) ≡ false) → IsStuck names words (first_of_word found.word)
stuck_following names so_far words found false t d fresh none one more e =
    subst (λ (x : TypeWord). is_type names (words ++ x ∷ more) ≡ false) (sym (same_first one found.word t e)) (none more)
stuck_following names so_far words found true t d fresh none one more e =
    let k = tag_known names found.word t in
    let n = nothing_named names so_far words d (fresh refl) in
    absurd (both_ways (is_type names (words ++ found.word ∷ [])) (none [])
    (ap (names_type names) (named_more words (found.word ∷ []) ∙ ap (λ (x : List TypeWord). x ++ named_by (found.word ∷ [])) n ∙ k.1) ∙ k.0))

word_stands : (tokens : List Token) (at next : ℕ) (w : TypeWord) → Spells tokens at next (type_word_text w) → kind_or_end tokens at ≡ first_of_word w
word_stands tokens at next w sp =
    let f = word_first w (kinds (drop next tokens)) in
    kinds_first (drop at tokens) (first_of_word w) f.0 (sp.spelled ∙ f.1)

-- the next token is a word, but no type continues with it
pub unjoined_stuck : (names : Names) (tokens : List Token) (at : ℕ) (so_far : TypeSoFar) (words : List TypeWord) (found : NextWord)
    → Describes names so_far words → IsWordAt names tokens at so_far found → IsExtended names words found.word None
    → IsStuck names words (kind_or_end tokens at)
unjoined_stuck names tokens at so_far words found d w none =
    subst (IsStuck names words) (sym (word_stands tokens at found.next found.word w.spelled))
    (stuck_following names so_far words found (has_tag found.word) refl d w.fresh none)

word_known : (names : Names) (w : TypeWord) → ((name : List ℕ) → w ≡ word.Typedef name → is_among names name ≡ true) → is_known names w ≡ true
word_known names (word.Typedef name) k = k name refl
word_known names word.Const k = refl
word_known names (word.Integer kind) k = refl
word_known names word.Void k = refl
word_known names (word.Struct tag) k = refl
word_known names (word.Enum tag) k = refl

-- a word that was found may be part of a type
pub found_known : (names : Names) (tokens : List Token) (at : ℕ) (so_far : TypeSoFar) (found : NextWord) → IsWordAt names tokens at so_far found
    → is_known names found.word ≡ true
found_known names tokens at so_far found w = word_known names found.word w.known

-- the next token isn't a word, or is one that can't be used
pub no_word_joins : (names : Names) (tokens : List Token) (at : ℕ) (so_far : TypeSoFar) (words : List TypeWord) → Describes names so_far words
    → NoWord names so_far (kind_or_end tokens at) → IsStuck names words (kind_or_end tokens at)
no_word_joins names tokens at so_far words d n = no_word_stuck names so_far words (kind_or_end tokens at) d n

-- a tag is missing
pub tag_missing : (names : Names) (tokens : List Token) (at : ℕ) (so_far : TypeSoFar) (words : List TypeWord) (s : Stop) → Describes names so_far words
    → WordAnswer names tokens at so_far (Err s) → JoiningAnswer names words tokens at (Err s)
tag_missing names tokens at so_far words stop.Memory d w = tt
tag_missing names tokens at so_far words (stop.Refused refused reason) d (missing, none, why) = (missing, nothing_named names so_far words d none, why)

pub tagged_more : (ws : List TypeWord) (w : TypeWord) → last_tagged (ws ++ w ∷ []) ≡ has_tag w
tagged_more [] w = refl
tagged_more (v ∷ []) w = refl
tagged_more (v ∷ u ∷ ws) w = tagged_more (u ∷ ws) w

-- the words of a type so far, and the tokens that they are
pub record WordsSoFar (names : Names) (tokens : List Token) (from next : ℕ) (so_far : TypeSoFar) (words : List TypeWord) : Type 0 where
  pub spelled : Spells tokens from next (words_text words)
  pub describes : Describes names so_far words

pub words_none : (names : Names) (tokens : List Token) (from : ℕ) → from ≤ length tokens → WordsSoFar names tokens from from Nothing []
words_none names tokens from within = record { spelled = spells_none tokens from within; describes = refl }

pub words_one_more : (names : Names) (tokens : List Token) (from next : ℕ) (so_far : TypeSoFar) (words : List TypeWord) (joining : JoiningWord)
    → WordsSoFar names tokens from next so_far words → IsJoiningAt names words tokens next joining
    → WordsSoFar names tokens from joining.found.next joining.after (words ++ joining.found.word ∷ [])
words_one_more names tokens from next so_far words joining w j = record {
  spelled =
      spells_as tokens from joining.found.next (λ rest. words_text words (type_word_text joining.found.word rest))
      (words_text (words ++ joining.found.word ∷ []))
      (spells_more tokens from next joining.found.next (words_text words) (type_word_text joining.found.word) w.spelled j.spelled)
      (λ rest. sym (more_words words joining.found.word rest));
  describes = j.described;
}

missing_stops : (names : Names) (tokens : List Token) (from next refused : ℕ) (so_far : TypeSoFar) (words : List TypeWord) (reason : Reason) (limit : ℕ)
    → WordsSoFar names tokens from next so_far words → IsTagMissing tokens next refused → named_by words ≡ []
    → reason ≡ plain_reason (kind_or_end tokens refused) true → Stops (Types names) limit tokens from (stop.Refused refused reason)
missing_stops names tokens from next refused so_far words reason limit w m none why =
    let kw : TokenKind = token.Keyword (if m.is_struct then keyword.Struct else keyword.Enum) in
    subst (λ (at : ℕ). Stops (Types names) limit tokens from (stop.Refused at reason)) (sym m.refused_is)
    (refused_at (Types names) limit tokens from (next + 1) reason false
    (words_text words (token.Keyword (if m.is_struct then keyword.Struct else keyword.Enum) ∷ []))
    (spells_as tokens from (next + 1) (λ rest. words_text words (token.Keyword (if m.is_struct then keyword.Struct else keyword.Enum) ∷ rest))
    (λ rest. words_text words (token.Keyword (if m.is_struct then keyword.Struct else keyword.Enum) ∷ []) ++ rest)
    (spells_more tokens from next (next + 1) (words_text words) (λ rest. token.Keyword (if m.is_struct then keyword.Struct else keyword.Enum) ∷ rest)
    w.spelled (keyword_stands tokens next (if m.is_struct then keyword.Struct else keyword.Enum) m.stands))
    (λ rest. sym (words_append words (token.Keyword (if m.is_struct then keyword.Struct else keyword.Enum) ∷ []) rest)))
    (ap is_deep why ∙ plain_not_deep (kind_or_end tokens refused) true)
    (tag_refused names limit words m.is_struct (kind_or_end tokens (next + 1)) none m.none))

-- a word was refused
pub word_stops : (names : Names) (tokens : List Token) (from next : ℕ) (so_far : TypeSoFar) (words : List TypeWord) (s : Stop)
    → WordsSoFar names tokens from next so_far words → JoiningAnswer names words tokens next (Err s)
    → (limit : ℕ) → Stops (Types names) limit tokens from s
word_stops names tokens from next so_far words stop.Memory w j limit = tt
word_stops names tokens from next so_far words (stop.Refused refused reason) w (missing, none, why) limit =
    missing_stops names tokens from next refused so_far words reason limit w missing none why

-- the words name no type
pub words_name_nothing : (names : Names) (tokens : List Token) (from next : ℕ) (so_far : TypeSoFar) (words : List TypeWord) (s : Stop)
    → WordsSoFar names tokens from next so_far words → names_some so_far ≡ false → IsStuck names words (kind_or_end tokens next)
    → s ≡ stop.Refused next (reason_of false (kind_or_end tokens next) false) → (limit : ℕ) → Stops (Types names) limit tokens from s
words_name_nothing names tokens from next so_far words s w none stuck is limit =
    subst (Stops (Types names) limit tokens from) (sym is)
    (refused_at (Types names) limit tokens from next (reason_of false (kind_or_end tokens next) false) false (words_text words [])
    (spells_as tokens from next (words_text words) (λ rest. words_text words [] ++ rest) w.spelled (λ rest. sym (words_append words [] rest)))
    (deep_reason false (kind_or_end tokens next) false)
    (not_type_refused names limit words (kind_or_end tokens next) (nothing_named names so_far words w.describes none) stuck))

integers_named : (names : Names) (all : IntegerWords) (first : TypeWord) (others : List TypeWord) → AreIntegers all first others
    → names_type names (first ∷ others) ≡ true
integers_named names all (word.Integer k) others a =
    let c = a.counts in
    let f : fit_together (word.Integer k ∷ others) ≡ true = rw (sym c.char, sym c.short, sym c.int, sym c.long, sym c.signed, sym c.unsigned) a.fitting in
    and_from (list_all is_integer_word (word.Integer k ∷ others)) (fit_together (word.Integer k ∷ others)) a.integers f
integers_named names all word.Const others a = absurd (let i = a.integers in cc)
integers_named names all word.Void others a = absurd (let i = a.integers in cc)
integers_named names all (word.Typedef name) others a = absurd (let i = a.integers in cc)
integers_named names all (word.Struct tag) others a = absurd (let i = a.integers in cc)
integers_named names all (word.Enum tag) others a = absurd (let i = a.integers in cc)

whole_named : (names : Names) (only : TypeWord) → is_whole names only ≡ true → names_type names (only ∷ []) ≡ true
whole_named names word.Void w = refl
whole_named names (word.Typedef name) w = w
whole_named names (word.Struct tag) w = refl
whole_named names (word.Enum tag) w = refl
whole_named names word.Const w = absurd cc
whole_named names (word.Integer k) w = absurd cc

pub some_type : (names : Names) (so_far : TypeSoFar) (words : List TypeWord) → Describes names so_far words → names_some so_far ≡ true
    → is_type names words ≡ true
some_type names Nothing words d some = absurd cc
some_type names (Integers all) words (first, others, named, are) some = ap (names_type names) named ∙ integers_named names all first others are
some_type names Whole words (only, named, whole) some = ap (names_type names) named ∙ whole_named names only whole

pub words_taken : (names : Names) (tokens : List Token) (from : ℕ) (so_far : TypeSoFar) (taken : TypeWords)
    → WordsSoFar names tokens from taken.next so_far taken.words.items → names_some so_far ≡ true
    → IsStuck names taken.words.items (kind_or_end tokens taken.next) → taken.tagged ≡ last_tagged taken.words.items
    → IsWordsFrom names tokens from taken
words_taken names tokens from so_far taken w some stuck tagged =
    record { spelled = w.spelled; is_type = some_type names so_far taken.words.items w.describes some; stuck = stuck; tagged = tagged }

-- no `const` follows the words of a type
pub words_no_const : (names : Names) (tokens : List Token) (from : ℕ) (taken : TypeWords) → IsWordsFrom names tokens from taken
    → kind_or_end tokens taken.next ≡ token.Keyword keyword.Const → ⊥
words_no_const names tokens from taken w k =
    let s = w.stuck word.Const [] (sym k) in
    let n : is_type names (taken.words.items ++ word.Const ∷ []) ≡ is_type names taken.words.items =
    ap (names_type names) (named_more taken.words.items (word.Const ∷ []) ∙ append-nil (named_by taken.words.items)) in
    both_ways (is_type names taken.words.items) (sym n ∙ s) w.is_type

-- the words of pointers so far, and the tokens that they are
pub record PointersSoFar (tokens : List Token) (from next : ℕ) (words : List PointerWord) : Type 0 where
  pub spelled : Spells tokens from next (pointers_text words)
  pub is_pointer : is_pointer words ≡ true
  pub begun : words ≡ [] → next ≡ from

pub pointers_none : (tokens : List Token) (from : ℕ) → from ≤ length tokens → PointersSoFar tokens from from []
pointers_none tokens from within = record { spelled = spells_none tokens from within; is_pointer = refl; begun = λ e. refl }

pointers_text_more : (words : List PointerWord) (w : PointerWord) (rest : Kinds)
    → pointers_text words (pointer_word_text w ∷ rest) ≡ pointers_text (words ++ w ∷ []) rest
pointers_text_more [] w rest = refl
pointers_text_more (p ∷ ps) w rest = ap (λ (x : Kinds). pointer_word_text p ∷ x) (pointers_text_more ps w rest)

pointer_stands : (tokens : List Token) (at : ℕ) (w : PointerWord) → IsPointerAt (kind_or_end tokens at) (Some w)
    → Spells tokens at (at + 1) (λ rest. pointer_word_text w ∷ rest)
pointer_stands tokens at pointer.Star k = spells_one tokens at (token.Punctuator punctuator.Star) k (λ x. cc)
pointer_stands tokens at pointer.Const k = spells_one tokens at (token.Keyword keyword.Const) k (λ x. cc)

more_is_pointer : (tokens : List Token) (from next : ℕ) (words : List PointerWord) (w : PointerWord)
    → (kind_or_end tokens from ≡ token.Keyword keyword.Const → ⊥) → is_pointer words ≡ true → (words ≡ [] → next ≡ from)
    → IsPointerAt (kind_or_end tokens next) (Some w) → is_pointer (words ++ w ∷ []) ≡ true
more_is_pointer tokens from next [] pointer.Star none is begun k = refl
more_is_pointer tokens from next [] pointer.Const none is begun k = absurd (none (ap (kind_or_end tokens) (sym (begun refl)) ∙ k))
more_is_pointer tokens from next (pointer.Star ∷ ps) w none is begun k = refl
more_is_pointer tokens from next (pointer.Const ∷ ps) w none is begun k = absurd cc

one_some : (words : List PointerWord) (w : PointerWord) → words ++ w ∷ [] ≡ [] → ⊥
one_some [] w e = cc
one_some (p ∷ ps) w e = cc

pub pointers_one_more : (tokens : List Token) (from next : ℕ) (words : List PointerWord) (w : PointerWord)
    → (kind_or_end tokens from ≡ token.Keyword keyword.Const → ⊥) → PointersSoFar tokens from next words
    → IsPointerAt (kind_or_end tokens next) (Some w) → PointersSoFar tokens from (next + 1) (words ++ w ∷ [])
pointers_one_more tokens from next words w none p k = record {
  spelled =
      spells_as tokens from (next + 1) (λ rest. pointers_text words (pointer_word_text w ∷ rest)) (pointers_text (words ++ w ∷ []))
      (spells_more tokens from next (next + 1) (pointers_text words) (λ rest. pointer_word_text w ∷ rest) p.spelled (pointer_stands tokens next w k))
      (pointers_text_more words w);
  is_pointer = more_is_pointer tokens from next words w none p.is_pointer p.begun k;
  begun = λ e. absurd (one_some words w e);
}

pub pointers_taken : (tokens : List Token) (from : ℕ) (taken : PointerWords) → PointersSoFar tokens from taken.next taken.words.items
    → IsPointerAt (kind_or_end tokens taken.next) None → IsPointersFrom tokens from taken
pointers_taken tokens from taken p none = record { spelled = p.spelled; is_pointer = p.is_pointer; no_star = none.0; no_const = none.1 }
