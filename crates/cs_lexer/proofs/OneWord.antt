-- A word, or the punctuator that bytes begin with, is only one token: for the uniqueness of cuttings.
use Rattle.std.proofs.Common.{◌≡◌, ◌⊎◌, inl, inr, ◌||◌, codes, ℕ, Bool, true, false, List, [], ◌∷◌, length, take, Option, Some, None}
use Rattle.std.proofs.Common.{nat_eq, refl, sym, ap, ◌∙◌, arith}
use Rattle.std.proofs.lemmas.Bool.{false≢true}
use Rattle.std.specs.List.{find}
use Rattle.std.specs.Cmp.Lexicographic.{pointwise, bytes_decides}
use Rattle.cs_ast.specs.declared.token.Keyword as keywords
use Rattle.cs_ast.specs.declared.token.Keyword.TheVariants.{Break, Case, Char, Const, Continue, Default, Do, Else, Enum, For, Goto, If, Int, Long, Return}
use Rattle.cs_ast.specs.declared.token.Keyword.TheVariants.{Short, Signed, Sizeof, Static, Struct, Switch, Typedef, Unsigned, Void, While}
use Rattle.cs_ast.specs.declared.token.Unsupported as left_outs
use Rattle.cs_ast.specs.declared.token.Unsupported.TheVariants as left
use Rattle.cs_ast.specs.declared.token.Punctuator as punctuators
use Rattle.cs_ast.specs.declared.token.Punctuator.TheVariants as punctuator
use Rattle.cs_ast.specs.declared.token.TokenKind.{TokenKind}
use Rattle.cs_ast.specs.declared.token.TokenKind.TheVariants as kinds
use Rattle.cs_ast.specs.declared.token.TokenKind.TheVariants.{Keyword, Unsupported, Attribute, Name}
use Rattle.cs_lexer.specs.declared.lexeme.Lexeme.{Lexeme}
use Rattle.cs_lexer.specs.declared.lexeme.Lexeme.TheVariants.{Gap, Marker, Token, Refused}
use Rattle.cs_lexer.specs.Spellings.{keyword_text, unsupported_text, punctuator_text}
use Rattle.cs_lexer.specs.Punctuators.{NoPunctuator, IsPunctuatorToken, PunctuatorGives}
use Rattle.cs_lexer.specs.Words.{dropped_words, attribute_words, is_dropped, is_attribute, IsPlain, WordIs, WordGives}

-- the first of these with this spelling
abbrev spelled : {A : Type 0} → (A → List ℕ) → List A → List ℕ → Option A
spelled text all word = find (λ a. pointwise nat_eq (text a) word) all

abbrev all_keywords : List keywords.Keyword
all_keywords = Break ∷ Case ∷ Char ∷ Const ∷ Continue ∷ Default ∷ Do ∷ Else ∷ Enum ∷ For ∷ Goto ∷ If ∷ Int ∷ Long ∷ Return ∷ Short
    ∷ Signed ∷ Sizeof ∷ Static ∷ Struct ∷ Switch ∷ Typedef ∷ Unsigned ∷ Void ∷ While ∷ []

abbrev all_left_outs : List left_outs.Unsupported
all_left_outs = left.Float ∷ left.Double ∷ left.Union ∷ left.Bool ∷ left.Complex ∷ left.Imaginary ∷ left.Atomic ∷ left.Alignas ∷ left.Alignof
    ∷ left.Generic ∷ left.Noreturn ∷ left.StaticAssert ∷ left.ThreadLocal ∷ left.Int128 ∷ left.Asm ∷ left.AsmUnderscored ∷ left.AsmPrefixed
    ∷ left.Typeof ∷ left.TypeofUnderscored ∷ left.Auto ∷ []

abbrev all_punctuators : List punctuators.Punctuator
all_punctuators = punctuator.OpenBracket ∷ punctuator.CloseBracket ∷ punctuator.OpenParenthesis ∷ punctuator.CloseParenthesis ∷ punctuator.OpenBrace
    ∷ punctuator.CloseBrace ∷ punctuator.Dot ∷ punctuator.Arrow ∷ punctuator.Increment ∷ punctuator.Decrement ∷ punctuator.Ampersand
    ∷ punctuator.Star ∷ punctuator.Plus ∷ punctuator.Minus ∷ punctuator.Tilde ∷ punctuator.Exclamation ∷ punctuator.Slash ∷ punctuator.Percent
    ∷ punctuator.ShiftLeft ∷ punctuator.ShiftRight ∷ punctuator.Less ∷ punctuator.More ∷ punctuator.AtMost ∷ punctuator.AtLeast
    ∷ punctuator.EqualEqual ∷ punctuator.Differs ∷ punctuator.Caret ∷ punctuator.Bar ∷ punctuator.AndAnd ∷ punctuator.BarBar ∷ punctuator.Question
    ∷ punctuator.Colon ∷ punctuator.Semicolon ∷ punctuator.Equal ∷ punctuator.StarEqual ∷ punctuator.SlashEqual ∷ punctuator.PercentEqual
    ∷ punctuator.PlusEqual ∷ punctuator.MinusEqual ∷ punctuator.ShiftLeftEqual ∷ punctuator.ShiftRightEqual ∷ punctuator.AmpersandEqual
    ∷ punctuator.CaretEqual ∷ punctuator.BarEqual ∷ punctuator.Comma ∷ punctuator.Ellipsis ∷ []

keyword_found : (k : keywords.Keyword) → spelled keyword_text all_keywords (keyword_text k) ≡ Some k
keyword_found Break = refl
keyword_found _ = refl

unsupported_found : (l : left_outs.Unsupported) → spelled unsupported_text all_left_outs (unsupported_text l) ≡ Some l
unsupported_found left.Float = refl
unsupported_found _ = refl

punctuator_found : (m : punctuators.Punctuator) → spelled punctuator_text all_punctuators (punctuator_text m) ≡ Some m
punctuator_found punctuator.OpenBracket = refl
punctuator_found _ = refl

no_keyword_unsupported : (l : left_outs.Unsupported) → spelled keyword_text all_keywords (unsupported_text l) ≡ None
no_keyword_unsupported left.Float = refl
no_keyword_unsupported _ = refl

keyword_kept : (k : keywords.Keyword) → is_dropped (keyword_text k) ≡ false
unfolding dropped_words
keyword_kept Break = refl
keyword_kept _ = refl

unsupported_kept : (l : left_outs.Unsupported) → is_dropped (unsupported_text l) ≡ false
unfolding dropped_words
unsupported_kept left.Float = refl
unsupported_kept _ = refl

keyword_plain : (k : keywords.Keyword) → is_attribute (keyword_text k) ≡ false
unfolding attribute_words
keyword_plain Break = refl
keyword_plain _ = refl

unsupported_plain : (l : left_outs.Unsupported) → is_attribute (unsupported_text l) ≡ false
unfolding attribute_words
unsupported_plain left.Float = refl
unsupported_plain _ = refl

pub one_keyword : (k l : keywords.Keyword) → keyword_text k ≡ keyword_text l → k ≡ l
one_keyword k l same = let e = sym (keyword_found k) ∙ ap (spelled keyword_text all_keywords) same ∙ keyword_found l in cc

pub one_unsupported : (k l : left_outs.Unsupported) → unsupported_text k ≡ unsupported_text l → k ≡ l
one_unsupported k l same = let e = sym (unsupported_found k) ∙ ap (spelled unsupported_text all_left_outs) same ∙ unsupported_found l in cc

pub one_punctuator : (k l : punctuators.Punctuator) → punctuator_text k ≡ punctuator_text l → k ≡ l
one_punctuator k l same = let e = sym (punctuator_found k) ∙ ap (spelled punctuator_text all_punctuators) same ∙ punctuator_found l in cc

first_attribute : is_dropped (codes "__attribute__") ≡ false
unfolding dropped_words
first_attribute = refl

second_attribute : is_dropped (codes "__attribute") ≡ false
unfolding dropped_words
second_attribute = refl

same_word : (word text : List ℕ) → is_dropped text ≡ false → pointwise nat_eq word text ≡ true → is_dropped word ≡ false
same_word word text kept same = ap is_dropped ((bytes_decides word text).0 same) ∙ kept

either : (a b : Bool) → a || (b || false) ≡ true → (a ≡ true) ⊎ (b ≡ true)
either true b h = inl refl
either false true h = inr refl
either false false h = absurd cc

-- a word that begins an attribute isn't dropped
attribute_kept : (word : List ℕ) → is_attribute word ≡ true → is_dropped word ≡ false
unfolding attribute_words
attribute_kept word h =
    elim (either (pointwise nat_eq word (codes "__attribute__")) (pointwise nat_eq word (codes "__attribute")) h) [
      | inl one ↦ same_word word (codes "__attribute__") first_attribute one
      | inr other ↦ same_word word (codes "__attribute") second_attribute other
    ]

contrary : (b : Bool) → b ≡ true → b ≡ false → ⊥
contrary b h k = false≢true (sym k ∙ h)

keyword_once : (word : List ℕ) (k : keywords.Keyword) (b : TokenKind) → keyword_text k ≡ word → WordIs word b → Keyword k ≡ b
keyword_once word k (Keyword l) h i = ap Keyword (one_keyword k l (h ∙ sym i))
keyword_once word k (Unsupported l) h i =
    absurd (let e = sym (keyword_found k) ∙ ap (spelled keyword_text all_keywords) (h ∙ sym i) ∙ no_keyword_unsupported l in cc)
keyword_once word k Attribute h i = absurd (contrary (is_attribute word) i (ap is_attribute (sym h) ∙ keyword_plain k))
keyword_once word k (Name name) h i = absurd (i.1.no_keyword k h)
keyword_once word k _ h i = absurd i

unsupported_once : (word : List ℕ) (l : left_outs.Unsupported) (b : TokenKind) → unsupported_text l ≡ word → WordIs word b → Unsupported l ≡ b
unsupported_once word l (Keyword k) h i =
    absurd (let e = sym (keyword_found k) ∙ ap (spelled keyword_text all_keywords) (i ∙ sym h) ∙ no_keyword_unsupported l in cc)
unsupported_once word l (Unsupported m) h i = ap Unsupported (one_unsupported l m (h ∙ sym i))
unsupported_once word l Attribute h i = absurd (contrary (is_attribute word) i (ap is_attribute (sym h) ∙ unsupported_plain l))
unsupported_once word l (Name name) h i = absurd (i.1.no_unsupported l h)
unsupported_once word l _ h i = absurd i

attribute_once : (word : List ℕ) (b : TokenKind) → is_attribute word ≡ true → WordIs word b → Attribute ≡ b
attribute_once word (Keyword k) h i = absurd (contrary (is_attribute word) h (ap is_attribute (sym i) ∙ keyword_plain k))
attribute_once word (Unsupported l) h i = absurd (contrary (is_attribute word) h (ap is_attribute (sym i) ∙ unsupported_plain l))
attribute_once word Attribute h i = refl
attribute_once word (Name name) h i = absurd (contrary (is_attribute word) h i.1.no_attribute)
attribute_once word _ h i = absurd i

name_once : (word name : List ℕ) (b : TokenKind) → name ≡ word → IsPlain word → WordIs word b → Name name ≡ b
name_once word name (Keyword k) h plain i = absurd (plain.no_keyword k i)
name_once word name (Unsupported l) h plain i = absurd (plain.no_unsupported l i)
name_once word name Attribute h plain i = absurd (contrary (is_attribute word) i plain.no_attribute)
name_once word name (Name other) h plain i = ap Name (h ∙ sym i.0)
name_once word name _ h plain i = absurd i

kind_once : (word : List ℕ) (a b : TokenKind) → WordIs word a → WordIs word b → a ≡ b
kind_once word (Keyword k) b h i = keyword_once word k b h i
kind_once word (Unsupported l) b h i = unsupported_once word l b h i
kind_once word Attribute b h i = attribute_once word b h i
kind_once word (Name name) b h i = name_once word name b h.0 h.1 i
kind_once word _ b h i = absurd h

dropped_alone : (word : List ℕ) (b : TokenKind) → is_dropped word ≡ true → WordIs word b → ⊥
dropped_alone word (Keyword k) h i = contrary (is_dropped word) h (ap is_dropped (sym i) ∙ keyword_kept k)
dropped_alone word (Unsupported l) h i = contrary (is_dropped word) h (ap is_dropped (sym i) ∙ unsupported_kept l)
dropped_alone word Attribute h i = contrary (is_dropped word) h (attribute_kept word i)
dropped_alone word (Name name) h i = contrary (is_dropped word) h i.1.kept
dropped_alone word _ h i = i

-- a word is dropped or is one token
pub word_once : (word : List ℕ) (f g : Lexeme) → WordGives word f → WordGives word g → f ≡ g
word_once word (Gap m) (Gap n) h i = ap Gap (h.0 ∙ sym i.0)
word_once word (Gap m) (Token n b) h i = absurd (dropped_alone word b h.1 i.1)
word_once word (Token m a) (Gap n) h i = absurd (dropped_alone word a i.1 h.1)
word_once word (Token m a) (Token n b) h i = ap (λ k. Token m k) (kind_once word a b h.1 i.1) ∙ ap (λ k. Token k b) (h.0 ∙ sym i.0)
word_once word (Gap m) (Marker n next name) h i = absurd i
word_once word (Gap m) (Refused fault n) h i = absurd i
word_once word (Token m a) (Marker n next name) h i = absurd i
word_once word (Token m a) (Refused fault n) h i = absurd i
word_once word (Marker m next name) g h i = absurd h
word_once word (Refused fault m) g h i = absurd h

-- the token of a punctuator is only the longest one
punctuator_token_once : (bytes : List ℕ) (m n : ℕ) (a b : TokenKind) → IsPunctuatorToken bytes m a → IsPunctuatorToken bytes n b
    → Token m a ≡ Token n b
punctuator_token_once bytes m n (kinds.Punctuator k) (kinds.Punctuator l) h i =
    let long : length (punctuator_text k) ≡ length (punctuator_text l) = omega (arith, h.1.longest l i.1.begins, i.1.longest k h.1.begins) in
    let same : punctuator_text k ≡ punctuator_text l = sym h.1.begins ∙ ap (λ n. take n bytes) long ∙ i.1.begins in
    ap (λ x. Token m (kinds.Punctuator x)) (one_punctuator k l same) ∙ ap (λ x. Token x (kinds.Punctuator l)) (h.0 ∙ long ∙ sym i.0)
punctuator_token_once bytes m n (kinds.Punctuator k) _ h i = absurd i
punctuator_token_once bytes m n _ b h i = absurd h

no_punctuator_token : (bytes : List ℕ) (m : ℕ) (a : TokenKind) → IsPunctuatorToken bytes m a → NoPunctuator bytes → ⊥
no_punctuator_token bytes m (kinds.Punctuator k) h none = none k h.1.begins
no_punctuator_token bytes m _ h none = h

pub punctuator_once : (bytes : List ℕ) (f g : Lexeme) → PunctuatorGives bytes f → PunctuatorGives bytes g → f ≡ g
punctuator_once bytes (Token m a) (Token n b) h i = punctuator_token_once bytes m n a b h i
punctuator_once bytes (Token m a) (Refused fault n) h i = absurd (no_punctuator_token bytes m a h i.2)
punctuator_once bytes (Refused fault m) (Token n b) h i = absurd (no_punctuator_token bytes n b i h.2)
punctuator_once bytes (Refused fault m) (Refused other n) h i = ap (λ f. Refused f m) (h.0 ∙ sym i.0) ∙ ap (λ s. Refused other s) (h.1 ∙ sym i.1)
punctuator_once bytes (Token m a) (Gap n) h i = absurd i
punctuator_once bytes (Token m a) (Marker n next name) h i = absurd i
punctuator_once bytes (Refused fault m) (Gap n) h i = absurd i
punctuator_once bytes (Refused fault m) (Marker n next name) h i = absurd i
punctuator_once bytes (Gap m) g h i = absurd h
punctuator_once bytes (Marker m next name) g h i = absurd h
