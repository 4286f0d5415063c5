-- The words of a type so far: for the contract of `type_words`.
use Rattle.std.proofs.Common.{◌≡◌, ℕ, suc, ◌+◌, ◌<◌, ◌≤◌, ◌⊎◌, inl, inr, Bool, true, false, ◌&&◌, ◌||◌, if◌then◌else◌}
use Rattle.std.proofs.Common.{IsTrue, List, [], ◌∷◌, ◌++◌, refl, sym, ap, ◌∙◌, subst, arith, append_assoc, append-nil, Option, Some, None}
use Rattle.std.specs.List.{list_all}
use Rattle.std.proofs.lemmas.List.Folds.{list_all-append}
use Rattle.std.proofs.lemmas.Bool.{false≢true, both_ways, and_left, and_right}
use Rattle.cs_ast.specs.declared.token.TokenKind.{TokenKind}
use Rattle.cs_ast.specs.declared.token.TokenKind.TheVariants as token
use Rattle.cs_ast.specs.declared.token.Keyword.TheVariants as keyword
use Rattle.cs_ast.specs.declared.raw.written_type.TypeWord.{TypeWord}
use Rattle.cs_ast.specs.declared.raw.written_type.TypeWord.TheVariants as word
use Rattle.cs_ast.specs.declared.raw.written_type.IntegerWord.TheVariants.{Char, Short, Int, Long, Signed, Unsigned}
use Rattle.cs_ast.specs.RawTree.{WrittenList, End}
use Rattle.cs_grammar.specs.declared.type_words.TypeSoFar.{TypeSoFar}
use Rattle.cs_grammar.specs.declared.type_words.TypeSoFar.TheVariants.{Nothing, Integers, Whole}
use Rattle.cs_grammar.specs.TypeWords.{Names, is_among, is_const, is_integer_word, named_by, names_type, is_type, fit_together}
use Rattle.cs_grammar.specs.TypesSoFar.{Describes, AreIntegers, is_whole}
use Rattle.cs_grammar.specs.Text.{Kinds, words_text, type_word_text, pointers_text}
use Rattle.cs_grammar.specs.Parsing.{Class, Near, IsOver, Begins, BeginsLow, Refused}
use Rattle.cs_grammar.proofs.Texts.{words_append}
use Rattle.cs_grammar.proofs.WordsOfTypes.{named_more}
use Rattle.cs_expr_parser.specs.Parts.{TypeParts, IsTypeOf, Types, type_closed_text, closed_bounds_text}
use Rattle.cs_expr_parser.specs.Positions.{name_of}
use Rattle.cs_expr_parser.specs.Words.{first_of_word, IsStuck, IsUnusable, NoWord, names_some, word_of_tag}
use Rattle.cs_expr_parser.proofs.Closings.{close_parenthesis}
use Rattle.cs_expr_parser.proofs.TypesInside.{words_go_on, word_first, IsMarked, pointers_marked, word_no_punctuator}

-- the words of a type, followed by another word that names a type or by an unknown name, name no type
whole_joins : (names : Names) (first : TypeWord) (others : List TypeWord) (one : TypeWord) (more : List TypeWord) → is_integer_word one ≡ false
    → names_type names ((first ∷ others) ++ one ∷ more) ≡ false
whole_joins names word.Const others one more i = and_left false (fit_together ((word.Const ∷ others) ++ one ∷ more)) refl
whole_joins names (word.Integer k) others one more i =
    and_left (list_all is_integer_word ((word.Integer k ∷ others) ++ one ∷ more)) (fit_together ((word.Integer k ∷ others) ++ one ∷ more))
    (list_all-append is_integer_word (word.Integer k ∷ others) (one ∷ more)
    ∙ and_right (list_all is_integer_word (word.Integer k ∷ others)) (is_integer_word one && list_all is_integer_word more)
    (and_left (is_integer_word one) (list_all is_integer_word more) i))
whole_joins names word.Void [] one more i = refl
whole_joins names word.Void (o ∷ os) one more i = refl
whole_joins names (word.Typedef name) [] one more i = refl
whole_joins names (word.Typedef name) (o ∷ os) one more i = refl
whole_joins names (word.Struct tag) [] one more i = refl
whole_joins names (word.Struct tag) (o ∷ os) one more i = refl
whole_joins names (word.Enum tag) [] one more i = refl
whole_joins names (word.Enum tag) (o ∷ os) one more i = refl

unknown_alone : (names : Names) (name : List ℕ) (more : List TypeWord) → is_among names name ≡ false
    → names_type names (word.Typedef name ∷ more) ≡ false
unknown_alone names name [] k = k
unknown_alone names name (m ∷ more) k = refl

-- no type contains an unknown name
unknown_name : (names : Names) (name : List ℕ) (ws more : List TypeWord) → is_among names name ≡ false
    → names_type names (ws ++ word.Typedef name ∷ more) ≡ false
unknown_name names name [] more k = unknown_alone names name more k
unknown_name names name (w ∷ ws) more k = whole_joins names w ws (word.Typedef name) more refl

type_of_more : (names : Names) (ws : List TypeWord) (one : TypeWord) (more : List TypeWord) → (named_by (one ∷ more) ≡ one ∷ named_by more)
    → is_type names (ws ++ one ∷ more) ≡ names_type names (named_by ws ++ one ∷ named_by more)
type_of_more names ws one more n = ap (names_type names) (named_more ws (one ∷ more) ∙ ap (λ (x : List TypeWord). named_by ws ++ x) n)

-- if the words name a type, no other whole type can follow
named_joins : (names : Names) (so_far : TypeSoFar) (ws : List TypeWord) (one : TypeWord) (more : List TypeWord) → names_some so_far ≡ true
    → Describes names so_far ws → is_integer_word one ≡ false → named_by (one ∷ more) ≡ one ∷ named_by more
    → is_type names (ws ++ one ∷ more) ≡ false
named_joins names Nothing ws one more s d i n = absurd (false≢true s)
named_joins names (Integers all) ws one more s (first, others, named, are) i n =
    type_of_more names ws one more n ∙ ap (λ (x : List TypeWord). names_type names (x ++ one ∷ named_by more)) named
    ∙ whole_joins names first others one (named_by more) i
named_joins names Whole ws one more s (only, named, whole) i n =
    type_of_more names ws one more n ∙ ap (λ (x : List TypeWord). names_type names (x ++ one ∷ named_by more)) named
    ∙ whole_joins names only [] one (named_by more) i

-- a word that can't be used makes no type with these
unusable : (names : Names) (so_far : TypeSoFar) (ws : List TypeWord) (one : TypeWord) (more : List TypeWord) → Describes names so_far ws
    → IsUnusable names so_far one → is_type names (ws ++ one ∷ more) ≡ false
unusable names so_far ws (word.Typedef name) more d u = type_of_more names ws (word.Typedef name) more refl
    ∙ unknown_name names name (named_by ws) (named_by more) u
unusable names so_far ws (word.Struct tag) more d u = named_joins names so_far ws (word.Struct tag) more u d refl refl
unusable names so_far ws (word.Enum tag) more d u = named_joins names so_far ws (word.Enum tag) more u d refl refl
unusable names so_far ws word.Const more d u = absurd u
unusable names so_far ws word.Void more d u = absurd u
unusable names so_far ws (word.Integer k) more d u = absurd u

-- if the next token isn't a word, no type continues
pub no_word_stuck : (names : Names) (so_far : TypeSoFar) (ws : List TypeWord) (next : TokenKind) → Describes names so_far ws → NoWord names so_far next
    → IsStuck names ws next
no_word_stuck names so_far ws next d n one more e = unusable names so_far ws one more d (n one e)

pub more_words : (ws : List TypeWord) (one : TypeWord) (rest : Kinds) → words_text (ws ++ one ∷ []) rest ≡ words_text ws (type_word_text one rest)
more_words [] one rest = refl
more_words (w ∷ ws) one rest = ap (type_word_text w) (more_words ws one rest)

not_type_step : (names : Names) (ws : List TypeWord) (next : TokenKind) (other : List TypeWord) (rest following : Kinds) → named_by ws ≡ []
    → IsStuck names ws next → is_type names other ≡ true → Near next following → (more : List TypeWord) → other ≡ ws ++ more
    → words_text more rest ≡ following → ⊥
not_type_step names ws next other rest following none stuck is near [] o same =
    let e : is_type names other ≡ false = ap (is_type names) (o ∙ append-nil ws) ∙ ap (names_type names) none in
    both_ways (is_type names other) e is
not_type_step names ws next other rest following none stuck is near (w ∷ more) o same =
    let f = word_first w (words_text more rest) in
    elim near [
      | inl n ↦ let s = sym f.1 ∙ same ∙ n in cc
      | inr m ↦
          let s : first_of_word w ∷ f.0 ≡ next ∷ m.0 = sym f.1 ∙ same ∙ m.1 in
          let e : first_of_word w ≡ next = cc in
          both_ways (is_type names other) (ap (is_type names) o ∙ stuck w more e) is
    ]

-- words that name nothing, and that no word continues
pub not_type_refused : (names : Names) (limit : ℕ) (ws : List TypeWord) (next : TokenKind) → named_by ws ≡ [] → IsStuck names ws next
    → Refused (Types names) limit (words_text ws []) next false
not_type_refused names limit ws next none stuck = record {
  begun = inr (record {
    phrase = record { words = ws ++ word.Void ∷ []; pointers = []; bounds = End };
    more = token.Keyword keyword.Void ∷ close_parenthesis ∷ [];
    is_phrase = record {
      words = ap (names_type names) (named_more ws (word.Void ∷ []) ∙ ap (λ (x : List TypeWord). x ++ word.Void ∷ []) none);
      pointers = refl;
      bounds = tt;
    };
    low = omega arith;
    spelled = more_words ws word.Void (close_parenthesis ∷ []) ∙ sym (words_append ws [] (token.Keyword keyword.Void ∷ close_parenthesis ∷ []));
  });
  never = λ other after following is shut near same.
      let f = words_go_on ws other.words (pointers_text other.pointers (closed_bounds_text other.bounds after)) following
      (pointers_marked other.pointers other.bounds after is.pointers) (same ∙ words_append ws [] following) in
      absurd (not_type_step names ws next other.words (pointers_text other.pointers (closed_bounds_text other.bounds after)) following none stuck is.words near
      f.0 f.1 f.2);
  further = λ reported. absurd (false≢true reported);
}

pub tag_first : (is_struct : Bool) (tag : List ℕ) (x : Kinds)
    → type_word_text (word_of_tag is_struct tag) x ≡ token.Keyword (if is_struct then keyword.Struct else keyword.Enum) ∷ token.Name tag ∷ x
tag_first true tag x = refl
tag_first false tag x = refl

tag_named : (is_struct : Bool) (tag : List ℕ) → named_by (word_of_tag is_struct tag ∷ []) ≡ word_of_tag is_struct tag ∷ []
tag_named true tag = refl
tag_named false tag = refl

tag_type : (names : Names) (is_struct : Bool) (tag : List ℕ) → names_type names (word_of_tag is_struct tag ∷ []) ≡ true
tag_type names true tag = refl
tag_type names false tag = refl

tag_word_text : (is_struct : Bool) (w : TypeWord) (x more : Kinds)
    → type_word_text w x ≡ token.Keyword (if is_struct then keyword.Struct else keyword.Enum) ∷ more
    → (tag : List ℕ) × (more ≡ token.Name tag ∷ x)
tag_word_text true word.Const x more same = absurd cc
tag_word_text true (word.Integer Char) x more same = absurd cc
tag_word_text true (word.Integer Short) x more same = absurd cc
tag_word_text true (word.Integer Int) x more same = absurd cc
tag_word_text true (word.Integer Long) x more same = absurd cc
tag_word_text true (word.Integer Signed) x more same = absurd cc
tag_word_text true (word.Integer Unsigned) x more same = absurd cc
tag_word_text true word.Void x more same = absurd cc
tag_word_text true (word.Typedef name) x more same = absurd cc
tag_word_text true (word.Struct tag) x more same = (tag, cc)
tag_word_text true (word.Enum tag) x more same = absurd cc
tag_word_text false word.Const x more same = absurd cc
tag_word_text false (word.Integer Char) x more same = absurd cc
tag_word_text false (word.Integer Short) x more same = absurd cc
tag_word_text false (word.Integer Int) x more same = absurd cc
tag_word_text false (word.Integer Long) x more same = absurd cc
tag_word_text false (word.Integer Signed) x more same = absurd cc
tag_word_text false (word.Integer Unsigned) x more same = absurd cc
tag_word_text false word.Void x more same = absurd cc
tag_word_text false (word.Typedef name) x more same = absurd cc
tag_word_text false (word.Struct tag) x more same = absurd cc
tag_word_text false (word.Enum tag) x more same = (tag, cc)

tag_step : (is_struct : Bool) (next : TokenKind) (rest following : Kinds) → IsMarked rest → name_of next ≡ None → Near next following
    → (more : List TypeWord) → words_text more rest ≡ token.Keyword (if is_struct then keyword.Struct else keyword.Enum) ∷ following → ⊥
tag_step is_struct next rest following m none near [] same = let s = sym m.are ∙ same in cc
tag_step is_struct next rest following m none near (w ∷ more) same =
    let t = tag_word_text is_struct w (words_text more rest) following same in
    elim near [
      | inl n ↦ let s = sym t.1 ∙ n in cc
      | inr k ↦
          let s : token.Name t.0 ∷ words_text more rest ≡ next ∷ k.0 = sym t.1 ∙ k.1 in
          let e : next ≡ token.Name t.0 = cc in
          let z : Some t.0 ≡ None = sym (ap name_of e) ∙ none in
          cc
    ]

-- a tag is missing
pub tag_refused : (names : Names) (limit : ℕ) (ws : List TypeWord) (is_struct : Bool) (next : TokenKind) → named_by ws ≡ [] → name_of next ≡ None
    → Refused (Types names) limit (words_text ws (token.Keyword (if is_struct then keyword.Struct else keyword.Enum) ∷ [])) next false
tag_refused names limit ws is_struct next empty none = record {
  begun = inr (record {
    phrase = record { words = ws ++ word_of_tag is_struct [] ∷ []; pointers = []; bounds = End };
    more = token.Name [] ∷ close_parenthesis ∷ [];
    is_phrase =
        record {
          words = ap (names_type names) (named_more ws (word_of_tag is_struct [] ∷ [])
              ∙ ap (λ (x : List TypeWord). x ++ named_by (word_of_tag is_struct [] ∷ [])) empty ∙ tag_named is_struct [])
              ∙ tag_type names is_struct [];
          pointers = refl;
          bounds = tt;
        };
    low = omega arith;
    spelled = more_words ws (word_of_tag is_struct []) (close_parenthesis ∷ []) ∙ ap (words_text ws) (tag_first is_struct [] (close_parenthesis ∷ []))
        ∙ sym (words_append ws (token.Keyword (if is_struct then keyword.Struct else keyword.Enum) ∷ []) (token.Name [] ∷ close_parenthesis ∷ []));
  });
  never = λ other after following is shut near same.
      let f = words_go_on ws other.words (pointers_text other.pointers (closed_bounds_text other.bounds after))
      (token.Keyword (if is_struct then keyword.Struct else keyword.Enum) ∷ following) (pointers_marked other.pointers other.bounds after is.pointers)
      (same ∙ words_append ws (token.Keyword (if is_struct then keyword.Struct else keyword.Enum) ∷ []) following) in
      absurd (tag_step is_struct next (pointers_text other.pointers (closed_bounds_text other.bounds after)) following
      (pointers_marked other.pointers other.bounds after is.pointers) none near f.0 f.2);
  further = λ reported. absurd (false≢true reported);
}
