-- Words that can't follow the words of a type so far: for the contracts of the parts that parse specifiers.
use Rattle.std.proofs.Common.{◌≡◌, ℕ, ◌+◌, inl, inr, Bool, true, false, if◌then◌else◌, List, [], ◌∷◌, ◌++◌, Option, Some, None}
use Rattle.std.proofs.Common.{Result, Ok, Err, refl, sym, ap, ◌∙◌, subst, arith}
use Rattle.std.specs.Option.{option_map}
use Rattle.std.proofs.lemmas.Bool.{false≢true}
use Rattle.cs_ast.specs.declared.token.Token.{Token}
use Rattle.cs_ast.specs.declared.token.TokenKind.{TokenKind}
use Rattle.cs_ast.specs.declared.token.TokenKind.TheVariants as token
use Rattle.cs_ast.specs.declared.token.Keyword.{Keyword}
use Rattle.cs_ast.specs.declared.token.Keyword.TheVariants as keyword
use Rattle.cs_ast.specs.declared.token.Punctuator.TheVariants as punctuator
use Rattle.cs_ast.specs.declared.raw.declaration.SpecWord.TheVariants as words
use Rattle.cs_ast.specs.declared.raw.written_type.TypeWord.{TypeWord}
use Rattle.cs_ast.specs.declared.raw.written_type.TypeWord.TheVariants as word
use Rattle.cs_ast.specs.declared.raw.written_type.IntegerWord.{IntegerWord}
use Rattle.cs_ast.specs.declared.raw.written_type.IntegerWord.TheVariants.{Char, Short, Int, Long, Signed, Unsigned}
use Rattle.cs_ast.specs.RawDeclarations.{Plain}
use Rattle.cs_grammar.specs.declared.type_words.TypeSoFar.{TypeSoFar}
use Rattle.cs_grammar.specs.declared.type_words.TypeSoFar.TheVariants.{Nothing, Integers, Whole}
use Rattle.cs_grammar.specs.TypeWords.{Names, named_by, is_type, word_of}
use Rattle.cs_grammar.specs.TypesSoFar.{Describes, is_known, IsExtended}
use Rattle.cs_grammar.specs.Text.{Kinds, type_word_text, integer_word_text}
use Rattle.cs_grammar.specs.Parsing.{Near}
use Rattle.cs_grammar.specs.DeclarationClasses.{IsQuiet, HasNoOpenBrace}
use Rattle.cs_grammar.proofs.WordsOfTypes.{named_more}
use Rattle.cs_grammar.proofs.TypeNames.{same_word}
use Rattle.cs_expr_parser.specs.Positions.{kind_or_end}
use Rattle.cs_expr_parser.specs.Parts.{Spells}
use Rattle.cs_expr_parser.specs.Words.{first_of_word, IsUnusable, names_some, has_tag, word_of_tag}
use Rattle.cs_declarator_parser.specs.declared.specs.NextWord.{NextWord}
use Rattle.cs_grammar.specs.declared.refusal.Reason.{Reason}
use Rattle.cs_expr_parser.specs.Parts.{is_deep}
use Rattle.cs_expr_parser.specs.Positions.{name_of}
use Rattle.cs_expr_parser.specs.declared.stop.Stop.{Stop}
use Rattle.cs_expr_parser.specs.declared.stop.Stop.TheVariants as stop
use Rattle.cs_declarator_parser.specs.DeclarationAnswers.{IsNameAt, RefusesAfter}
use Rattle.cs_declarator_parser.specs.SpecWords.{PlainAnswer, BlockTagAnswer, BlockTagStops, BlockWordAnswer, IsTagKeyword, IsTypeWord, HasNoTag, IsPlainWord}
use Rattle.cs_declarator_parser.specs.SpecWords.{NothingFits, tag_keyword, IsTagged, word_of_keyword}
use Rattle.cs_expr_parser.proofs.Standing.{spells_one, spells_more, spells_as}
use Rattle.cs_expr_parser.proofs.WordsBegun.{no_word_stuck}

-- a word with a tag begins with `struct` or `enum`
no_tag : (next : TokenKind) → HasNoTag next → (one : TypeWord) → first_of_word one ≡ next → has_tag one ≡ true → ⊥
no_tag next none (word.Struct tag) e t = none.no_struct (sym e)
no_tag next none (word.Enum tag) e t = none.no_enum (sym e)
no_tag next none word.Const e t = false≢true t
no_tag next none word.Void e t = false≢true t
no_tag next none (word.Integer k) e t = false≢true t
no_tag next none (word.Typedef name) e t = false≢true t

unknown_unusable : (names : Names) (so_far : TypeSoFar) (one : TypeWord) → is_known names one ≡ false → IsUnusable names so_far one
unknown_unusable names so_far (word.Typedef name) k = k
unknown_unusable names so_far word.Const k = absurd (false≢true (sym k))
unknown_unusable names so_far word.Void k = absurd (false≢true (sym k))
unknown_unusable names so_far (word.Integer i) k = absurd (false≢true (sym k))
unknown_unusable names so_far (word.Struct tag) k = absurd (false≢true (sym k))
unknown_unusable names so_far (word.Enum tag) k = absurd (false≢true (sym k))

-- the token is no word of a type
pub no_word_fits : (names : Names) (so_far : TypeSoFar) (next : TokenKind) → IsTypeWord names next None → HasNoTag next → NothingFits names so_far next
no_word_fits names so_far next none tagless = λ before d.
    no_word_stuck names so_far before next d (λ one e.
    elim (none one e) [ inl t ↦ absurd (no_tag next tagless one e t) | inr k ↦ unknown_unusable names so_far one k ])

untagged_text : (w : TypeWord) (rest : Kinds) → has_tag w ≡ false → type_word_text w rest ≡ first_of_word w ∷ rest
untagged_text word.Const rest t = refl
untagged_text word.Void rest t = refl
untagged_text (word.Integer k) rest t = refl
untagged_text (word.Typedef name) rest t = refl
untagged_text (word.Struct tag) rest t = absurd (false≢true (sym t))
untagged_text (word.Enum tag) rest t = absurd (false≢true (sym t))

-- a token's word is the only one that begins with the token
same_first : (next : TokenKind) (found one : TypeWord) (tagged : Bool) → HasNoTag next → ((rest : Kinds) → type_word_text found rest ≡ next ∷ rest)
    → first_of_word one ≡ next → has_tag one ≡ tagged → one ≡ found
same_first next found one true none t e tag = absurd (no_tag next none one e tag)
same_first next found one false none t e tag =
    (same_word one found [] [] (untagged_text one [] tag ∙ ap (λ (x : TokenKind). x ∷ []) e ∙ sym (t []))).0

-- the token's word doesn't fit after the words so far
pub word_unfit : (names : Names) (so_far : TypeSoFar) (next : TokenKind) (found : TypeWord) → IsTypeWord names next (Some found)
    → ((before : List TypeWord) → Describes names so_far before → IsExtended names before found None) → HasNoTag next → NothingFits names so_far next
word_unfit names so_far next found is unfit none = λ before d one more e.
    let s = same_first next found one (has_tag one) none is.0 e refl in
    subst (λ (x : TypeWord). is_type names (before ++ x ∷ more) ≡ false) (sym s) (unfit before d more)

untagged_quiet : (w : TypeWord) (following : Kinds) → has_tag w ≡ false → IsQuiet (Plain w) following
untagged_quiet word.Const following t = tt
untagged_quiet word.Void following t = tt
untagged_quiet (word.Integer k) following t = tt
untagged_quiet (word.Typedef name) following t = tt
untagged_quiet (word.Struct tag) following t = absurd (false≢true (sym t))
untagged_quiet (word.Enum tag) following t = absurd (false≢true (sym t))

-- the token is a word that fits
pub plain_taken : (names : Names) (tokens : List Token) (at : ℕ) (so_far : TypeSoFar) (one : TypeWord) (found : NextWord)
    → (kind_or_end tokens at ≡ token.Attribute → ⊥) → IsTypeWord names (kind_or_end tokens at) (Some one)
    → ((before : List TypeWord) → Describes names so_far before → Describes names found.so_far (before ++ one ∷ [])) → found.word ≡ words.Plain one
    → found.height ≡ 1 → found.next ≡ at + 1 → IsPlainWord names tokens at so_far found one
plain_taken names tokens at so_far one found some is described w tall next = record {
  word_is = w;
  height_is = tall;
  later = omega (arith, next);
  spelled =
      subst (λ (n : ℕ). Spells tokens at n (type_word_text one)) (sym next)
      (spells_as tokens at (at + 1) (λ rest. kind_or_end tokens at ∷ rest) (type_word_text one) (spells_one tokens at (kind_or_end tokens at) refl some)
      (λ rest. sym (is.0 rest)));
  quiet = λ following near. untagged_quiet one following is.1;
  described = described;
}

abbrev first_kind_of : Kinds → TokenKind
first_kind_of [] = token.Attribute
first_kind_of (t ∷ tokens) = t

first_no_end : (one : TypeWord) (next : TokenKind) → next ≡ first_of_word one → next ≡ token.Attribute → ⊥
first_no_end word.Const next a b = let z = sym a ∙ b in cc
first_no_end word.Void next a b = let z = sym a ∙ b in cc
first_no_end (word.Integer Char) next a b = let z = sym a ∙ b in cc
first_no_end (word.Integer Short) next a b = let z = sym a ∙ b in cc
first_no_end (word.Integer Int) next a b = let z = sym a ∙ b in cc
first_no_end (word.Integer Long) next a b = let z = sym a ∙ b in cc
first_no_end (word.Integer Signed) next a b = let z = sym a ∙ b in cc
first_no_end (word.Integer Unsigned) next a b = let z = sym a ∙ b in cc
first_no_end (word.Typedef name) next a b = let z = sym a ∙ b in cc
first_no_end (word.Struct tag) next a b = let z = sym a ∙ b in cc
first_no_end (word.Enum tag) next a b = let z = sym a ∙ b in cc

-- the end of input is no word of a type
pub word_no_end : (names : Names) (next : TokenKind) (one : TypeWord) → IsTypeWord names next (Some one) → next ≡ token.Attribute → ⊥
word_no_end names next one is e = first_no_end one next (sym (ap (λ (k : Kinds). first_kind_of k) (sym (untagged_text one [] is.1) ∙ is.0 []))) e

-- the word of a keyword
integer_keyword : (k : Keyword) (one : IntegerWord) → word_of k ≡ Some one
    → (rest : Kinds) → type_word_text (word.Integer one) rest ≡ token.Keyword k ∷ rest
integer_keyword keyword.Char one e rest = let s : Char ≡ one = cc in ap (λ (x : IntegerWord). integer_word_text x ∷ rest) (sym s)
integer_keyword keyword.Short one e rest = let s : Short ≡ one = cc in ap (λ (x : IntegerWord). integer_word_text x ∷ rest) (sym s)
integer_keyword keyword.Int one e rest = let s : Int ≡ one = cc in ap (λ (x : IntegerWord). integer_word_text x ∷ rest) (sym s)
integer_keyword keyword.Long one e rest = let s : Long ≡ one = cc in ap (λ (x : IntegerWord). integer_word_text x ∷ rest) (sym s)
integer_keyword keyword.Signed one e rest = let s : Signed ≡ one = cc in ap (λ (x : IntegerWord). integer_word_text x ∷ rest) (sym s)
integer_keyword keyword.Unsigned one e rest = let s : Unsigned ≡ one = cc in ap (λ (x : IntegerWord). integer_word_text x ∷ rest) (sym s)
integer_keyword _ one e rest = absurd cc

no_keyword : (k : Keyword) (one : TypeWord) → word_of_keyword k ≡ None → first_of_word one ≡ token.Keyword k → has_tag one ≡ true
no_keyword k (word.Struct tag) n e = refl
no_keyword k (word.Enum tag) n e = refl
no_keyword k word.Const n e = absurd (let s : k ≡ keyword.Const = cc in let z : word_of_keyword keyword.Const ≡ None = ap word_of_keyword (sym s) ∙ n in
    cc)
no_keyword k word.Void n e = absurd (let s : k ≡ keyword.Void = cc in let z : word_of_keyword keyword.Void ≡ None = ap word_of_keyword (sym s) ∙ n in cc)
no_keyword k (word.Typedef name) n e = absurd cc
no_keyword k (word.Integer Char) n e = absurd (let s : k ≡ keyword.Char = cc in
    let z : word_of_keyword keyword.Char ≡ None = ap word_of_keyword (sym s) ∙ n in cc)
no_keyword k (word.Integer Short) n e = absurd (let s : k ≡ keyword.Short = cc in
    let z : word_of_keyword keyword.Short ≡ None = ap word_of_keyword (sym s) ∙ n in cc)
no_keyword k (word.Integer Int) n e = absurd (let s : k ≡ keyword.Int = cc in
    let z : word_of_keyword keyword.Int ≡ None = ap word_of_keyword (sym s) ∙ n in cc)
no_keyword k (word.Integer Long) n e = absurd (let s : k ≡ keyword.Long = cc in
    let z : word_of_keyword keyword.Long ≡ None = ap word_of_keyword (sym s) ∙ n in cc)
no_keyword k (word.Integer Signed) n e = absurd (let s : k ≡ keyword.Signed = cc in
    let z : word_of_keyword keyword.Signed ≡ None = ap word_of_keyword (sym s) ∙ n in cc)
no_keyword k (word.Integer Unsigned) n e =
    absurd (let s : k ≡ keyword.Unsigned = cc in let z : word_of_keyword keyword.Unsigned ≡ None = ap word_of_keyword (sym s) ∙ n in cc)

integer_word : (names : Names) (k : Keyword) (found : Option IntegerWord) → word_of k ≡ found → word_of_keyword k ≡ option_map word.Integer found
    → IsTypeWord names (token.Keyword k) (option_map word.Integer found)
integer_word names k (Some one) e w = (integer_keyword k one e, refl, refl)
integer_word names k None e w = λ one f. inl (no_keyword k one w f)

keyword_word : (names : Names) (k : Keyword) → IsTypeWord names (token.Keyword k) (word_of_keyword k)
keyword_word names keyword.Const = (λ rest. refl, refl, refl)
keyword_word names keyword.Void = (λ rest. refl, refl, refl)
keyword_word names other = integer_word names other (word_of other) refl refl

-- the token is a keyword
pub keyword_type_word : (names : Names) (next : TokenKind) (k : Keyword) (found : Option TypeWord) → next ≡ token.Keyword k → found ≡ word_of_keyword k
    → IsTypeWord names next found
keyword_type_word names next k found e is =
    subst (λ (x : TokenKind). IsTypeWord names x found) (sym e) (subst (IsTypeWord names (token.Keyword k)) (sym is) (keyword_word names k))

pub fresh_nothing : (so_far : TypeSoFar) → names_some so_far ≡ false → so_far ≡ Nothing
fresh_nothing Nothing none = refl
fresh_nothing (Integers all) none = absurd cc
fresh_nothing Whole none = absurd cc

tag_unusable : (names : Names) (so_far : TypeSoFar) (is_struct : Bool) (one : TypeWord) → names_some so_far ≡ true
    → first_of_word one ≡ tag_keyword is_struct → IsUnusable names so_far one
tag_unusable names so_far is_struct (word.Struct tag) some e = some
tag_unusable names so_far is_struct (word.Enum tag) some e = some
tag_unusable names so_far true word.Const some e = absurd cc
tag_unusable names so_far false word.Const some e = absurd cc
tag_unusable names so_far true word.Void some e = absurd cc
tag_unusable names so_far false word.Void some e = absurd cc
tag_unusable names so_far true (word.Typedef name) some e = absurd cc
tag_unusable names so_far false (word.Typedef name) some e = absurd cc
tag_unusable names so_far true (word.Integer k) some e = absurd (let z = no_keyword keyword.Struct (word.Integer k) refl e in false≢true z)
tag_unusable names so_far false (word.Integer k) some e = absurd (let z = no_keyword keyword.Enum (word.Integer k) refl e in false≢true z)

-- a word with a tag doesn't fit after words that name a type
pub tag_unfit : (names : Names) (so_far : TypeSoFar) (next : TokenKind) (is_struct : Bool) → next ≡ tag_keyword is_struct → names_some so_far ≡ true
    → NothingFits names so_far next
tag_unfit names so_far next is_struct k some = λ before d.
    no_word_stuck names so_far before next d (λ one e. tag_unusable names so_far is_struct one some (e ∙ k))

no_brace : (t : TokenKind) (tokens : Kinds) → (t ≡ token.Punctuator punctuator.OpenBrace → ⊥) → HasNoOpenBrace (t ∷ tokens)
no_brace (token.Punctuator punctuator.OpenBrace) tokens other = other refl
no_brace _ tokens other = tt

pub no_brace_near : (next : TokenKind) (following : Kinds) → (next ≡ token.Punctuator punctuator.OpenBrace → ⊥) → Near next following
    → HasNoOpenBrace following
no_brace_near next following other near =
    elim near [ inl none ↦ subst HasNoOpenBrace (sym none) tt | inr m ↦ subst HasNoOpenBrace (sym m.1) (no_brace next m.0 other) ]

tag_quiet : (is_struct : Bool) (tag : List ℕ) (following : Kinds) → HasNoOpenBrace following → IsQuiet (Plain (word_of_tag is_struct tag)) following
tag_quiet true tag following h = h
tag_quiet false tag following h = h

tag_text : (is_struct : Bool) (tag : List ℕ) (rest : Kinds)
    → type_word_text (word_of_tag is_struct tag) rest ≡ tag_keyword is_struct ∷ token.Name tag ∷ rest
tag_text true tag rest = refl
tag_text false tag rest = refl

pub tag_some : (is_struct : Bool) → tag_keyword is_struct ≡ token.Attribute → ⊥
tag_some true e = cc
tag_some false e = cc

pub tag_spelled : (tokens : List Token) (at : ℕ) (is_struct : Bool) (tag : List ℕ) → kind_or_end tokens at ≡ tag_keyword is_struct
    → kind_or_end tokens (at + 1) ≡ token.Name tag → Spells tokens at (at + 2) (λ rest. tag_keyword is_struct ∷ token.Name tag ∷ rest)
tag_spelled tokens at is_struct tag k n =
    subst (λ (m : ℕ). Spells tokens at m (λ rest. tag_keyword is_struct ∷ token.Name tag ∷ rest)) (let e : at + 1 + 1 ≡ at + 2 = omega arith in e)
    (spells_more tokens at (at + 1) (at + 1 + 1) (λ rest. tag_keyword is_struct ∷ rest) (λ rest. token.Name tag ∷ rest)
    (spells_one tokens at (tag_keyword is_struct) k (tag_some is_struct)) (spells_one tokens (at + 1) (token.Name tag) n (λ x. cc)))

tag_whole : (names : Names) (is_struct : Bool) (tag : List ℕ) (before : List TypeWord) → named_by before ≡ []
    → Describes names Whole (before ++ word_of_tag is_struct tag ∷ [])
tag_whole names true tag before none =
    (word.Struct tag, named_more before (word.Struct tag ∷ []) ∙ ap (λ (x : List TypeWord). x ++ word.Struct tag ∷ []) none, refl)
tag_whole names false tag before none =
    (word.Enum tag, named_more before (word.Enum tag ∷ []) ∙ ap (λ (x : List TypeWord). x ++ word.Enum tag ∷ []) none, refl)

-- `struct` or `enum` with a tag was taken
pub tag_taken : (names : Names) (tokens : List Token) (at : ℕ) (is_struct : Bool) (tag : List ℕ) (found : NextWord)
    → kind_or_end tokens at ≡ tag_keyword is_struct → kind_or_end tokens (at + 1) ≡ token.Name tag
    → (kind_or_end tokens (at + 2) ≡ token.Punctuator punctuator.OpenBrace → ⊥) → IsTagged (kind_or_end tokens at) tag found → found.height ≡ 1
    → found.next ≡ at + 2 → IsPlainWord names tokens at Nothing found (word_of_tag is_struct tag)
tag_taken names tokens at is_struct tag found k n other is tall next = record {
  word_is = is.one is_struct k;
  height_is = tall;
  later = omega (arith, next);
  spelled =
      subst (λ (m : ℕ). Spells tokens at m (type_word_text (word_of_tag is_struct tag))) (sym next)
      (spells_as tokens at (at + 2) (λ rest. tag_keyword is_struct ∷ token.Name tag ∷ rest) (type_word_text (word_of_tag is_struct tag))
      (tag_spelled tokens at is_struct tag k n) (λ rest. sym (tag_text is_struct tag rest)));
  quiet = λ following near. tag_quiet is_struct tag following
      (no_brace_near (kind_or_end tokens (at + 2)) following other (subst (λ (m : ℕ). Near (kind_or_end tokens m) following) next near));
  described = λ before none. subst (λ (x : TypeSoFar). Describes names x (before ++ word_of_tag is_struct tag ∷ [])) (sym is.whole)
      (tag_whole names is_struct tag before none);
}

pub block_plain : (names : Names) (tokens : List Token) (at : ℕ) (so_far : TypeSoFar) (answer : Result (Option NextWord) Stop)
    → HasNoTag (kind_or_end tokens at) → PlainAnswer names tokens at so_far answer → BlockWordAnswer names tokens at so_far answer
block_plain names tokens at so_far (Ok (Some found)) none p = p
block_plain names tokens at so_far (Ok None) none p = p none
block_plain names tokens at so_far (Err stop.Memory) none p = tt
block_plain names tokens at so_far (Err (stop.Refused refused reason)) none p = absurd p

pub block_error : (names : Names) (tokens : List Token) (at : ℕ) (so_far : TypeSoFar) (s : Stop) → names_some so_far ≡ false
    → BlockTagAnswer names tokens at (Err s) → BlockWordAnswer names tokens at so_far (Err s)
block_error names tokens at so_far stop.Memory none b = tt
block_error names tokens at so_far (stop.Refused refused reason) none b = (none, b)

pub block_word : (names : Names) (tokens : List Token) (at : ℕ) (so_far : TypeSoFar) (found : NextWord) → names_some so_far ≡ false
    → BlockTagAnswer names tokens at (Ok found) → BlockWordAnswer names tokens at so_far (Ok (Some found))
block_word names tokens at so_far found none b =
    subst (λ (x : TypeSoFar). (one : TypeWord) × IsPlainWord names tokens at x found one) (sym (fresh_nothing so_far none)) b

tag_stands : (is_struct : Bool) (next : TokenKind) → next ≡ tag_keyword is_struct
    → next ≡ token.Keyword (if is_struct then keyword.Struct else keyword.Enum)
tag_stands true next k = k
tag_stands false next k = k

unnamed : (next : TokenKind) → ((name : List ℕ) → next ≡ token.Name name → Unit {0} → ⊥) → name_of next ≡ None
unnamed (token.Name name) none = absurd (none name refl tt)
unnamed _ none = refl

-- no tag follows `struct` or `enum`
pub tag_unnamed : (names : Names) (tokens : List Token) (at : ℕ) → IsTagKeyword (kind_or_end tokens at)
    → IsNameAt (λ name. Unit {0}) (kind_or_end tokens (at + 1)) None → (s : Stop) → RefusesAfter (at + 1) false s
    → BlockTagAnswer names tokens at (Err s)
tag_unnamed names tokens at k none stop.Memory r = absurd r
tag_unnamed names tokens at k none (stop.Refused refused reason) r = (
  r.1,
  inl (record { is_struct = k.0; stands = tag_stands k.0 (kind_or_end tokens at) k.1; none = unnamed (kind_or_end tokens (at + 1)) none; refused_is = r.0 }),
)

-- a brace follows the tag
pub tag_braced : (tokens : List Token) (at : ℕ) → IsTagKeyword (kind_or_end tokens at)
    → (tag : List ℕ) → kind_or_end tokens (at + 1) ≡ token.Name tag → kind_or_end tokens (at + 2) ≡ token.Punctuator punctuator.OpenBrace
    → (reason : Reason) → is_deep reason ≡ false → BlockTagStops tokens at (stop.Refused (at + 2) reason)
tag_braced tokens at k tag n b reason plain = (plain, inr (record { is_struct = k.0; tag = tag; spelled = tag_spelled tokens at k.0 tag k.1 n; brace = b }))
