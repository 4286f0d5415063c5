-- One more word of a type: for the contract of `TypeSoFar::with`, and for parsers of types.
use Rattle.std.proofs.Common.{◌≡◌, ℕ, ◌+◌, ◌≤◌, true, false, ◌&&◌, ◌||◌, not, ◌==◌, nat_le, List, [], ◌∷◌, ◌++◌, refl}
use Rattle.std.proofs.Common.{sym, ap, ◌∙◌, arith, append_assoc, subst, cond, inl, inr}
use Rattle.std.specs.List.{list_all}
use Rattle.std.proofs.lemmas.List.Sums.{sum_by-append}
use Rattle.std.proofs.lemmas.List.Elements.{filter-append}
use Rattle.std.proofs.lemmas.List.Folds.{list_all-append}
use Rattle.std.proofs.lemmas.Bool.{and_parts, and_from, and_right, leb-true, le-leb, false_from_ne_true, both_ways, or_cases, or_left, or_right, eqb-true}
use Rattle.std.proofs.lemmas.Bool.{eq-eqb}
use Rattle.cs_ast.specs.declared.raw.written_type.TypeWord.{TypeWord}
use Rattle.cs_ast.specs.declared.raw.written_type.TypeWord.TheVariants as word
use Rattle.cs_ast.specs.declared.raw.written_type.IntegerWord.{IntegerWord}
use Rattle.cs_ast.specs.declared.raw.written_type.IntegerWord.TheVariants.{Char, Short, Int, Long, Signed, Unsigned}
use Rattle.cs_grammar.specs.declared.type_words.IntegerWords.{IntegerWords}
use Rattle.cs_grammar.specs.TypeWords.{Names, is_const, is_word, is_integer_word, named_by, times, fit_numbers, fit_together, names_type}
use Rattle.cs_grammar.specs.declared.type_words.TypeSoFar.{TypeSoFar}
use Rattle.cs_grammar.specs.declared.type_words.TypeSoFar.TheVariants.{Nothing, Integers, Whole}
use Rattle.std.proofs.Common.{Option, Some, None}
use Rattle.cs_grammar.specs.TypesSoFar.{Counts, fit, counted, is_whole, is_known, Describes, IsExtended, IsJoined}

-- the words of two lists, except for `const`, are those of both
pub named_more : (ws us : List TypeWord) → named_by (ws ++ us) ≡ named_by ws ++ named_by us
named_more ws us = filter-append (λ w. not (is_const w)) ws us

pub times_more : (k : IntegerWord) (ws us : List TypeWord) → times k (ws ++ us) ≡ times k ws + times k us
times_more k ws us = sum_by-append (λ w. cond (is_word k w) 1 0) ws us

-- one more word of an integer type is counted
pub counts_more : (k : IntegerWord) (all : IntegerWords) (ws : List TypeWord) → Counts all ws → Counts (counted k all) (ws ++ word.Integer k ∷ [])
counts_more Char all ws c = record {
  char = ap (λ n. n + 1) c.char ∙ sym (times_more Char ws (word.Integer Char ∷ []));
  short = omega (arith, c.short, times_more Short ws (word.Integer Char ∷ []));
  int = omega (arith, c.int, times_more Int ws (word.Integer Char ∷ []));
  long = omega (arith, c.long, times_more Long ws (word.Integer Char ∷ []));
  signed = omega (arith, c.signed, times_more Signed ws (word.Integer Char ∷ []));
  unsigned = omega (arith, c.unsigned, times_more Unsigned ws (word.Integer Char ∷ []));
}
counts_more Short all ws c = record {
  short = ap (λ n. n + 1) c.short ∙ sym (times_more Short ws (word.Integer Short ∷ []));
  char = omega (arith, c.char, times_more Char ws (word.Integer Short ∷ []));
  int = omega (arith, c.int, times_more Int ws (word.Integer Short ∷ []));
  long = omega (arith, c.long, times_more Long ws (word.Integer Short ∷ []));
  signed = omega (arith, c.signed, times_more Signed ws (word.Integer Short ∷ []));
  unsigned = omega (arith, c.unsigned, times_more Unsigned ws (word.Integer Short ∷ []));
}
counts_more Int all ws c = record {
  int = ap (λ n. n + 1) c.int ∙ sym (times_more Int ws (word.Integer Int ∷ []));
  char = omega (arith, c.char, times_more Char ws (word.Integer Int ∷ []));
  short = omega (arith, c.short, times_more Short ws (word.Integer Int ∷ []));
  long = omega (arith, c.long, times_more Long ws (word.Integer Int ∷ []));
  signed = omega (arith, c.signed, times_more Signed ws (word.Integer Int ∷ []));
  unsigned = omega (arith, c.unsigned, times_more Unsigned ws (word.Integer Int ∷ []));
}
counts_more Long all ws c = record {
  long = ap (λ n. n + 1) c.long ∙ sym (times_more Long ws (word.Integer Long ∷ []));
  char = omega (arith, c.char, times_more Char ws (word.Integer Long ∷ []));
  short = omega (arith, c.short, times_more Short ws (word.Integer Long ∷ []));
  int = omega (arith, c.int, times_more Int ws (word.Integer Long ∷ []));
  signed = omega (arith, c.signed, times_more Signed ws (word.Integer Long ∷ []));
  unsigned = omega (arith, c.unsigned, times_more Unsigned ws (word.Integer Long ∷ []));
}
counts_more Signed all ws c = record {
  signed = ap (λ n. n + 1) c.signed ∙ sym (times_more Signed ws (word.Integer Signed ∷ []));
  char = omega (arith, c.char, times_more Char ws (word.Integer Signed ∷ []));
  short = omega (arith, c.short, times_more Short ws (word.Integer Signed ∷ []));
  int = omega (arith, c.int, times_more Int ws (word.Integer Signed ∷ []));
  long = omega (arith, c.long, times_more Long ws (word.Integer Signed ∷ []));
  unsigned = omega (arith, c.unsigned, times_more Unsigned ws (word.Integer Signed ∷ []));
}
counts_more Unsigned all ws c = record {
  unsigned = ap (λ n. n + 1) c.unsigned ∙ sym (times_more Unsigned ws (word.Integer Unsigned ∷ []));
  char = omega (arith, c.char, times_more Char ws (word.Integer Unsigned ∷ []));
  short = omega (arith, c.short, times_more Short ws (word.Integer Unsigned ∷ []));
  int = omega (arith, c.int, times_more Int ws (word.Integer Unsigned ∷ []));
  long = omega (arith, c.long, times_more Long ws (word.Integer Unsigned ∷ []));
  signed = omega (arith, c.signed, times_more Signed ws (word.Integer Unsigned ∷ []));
}

one_test : (m n k : ℕ) → m ≤ n → nat_le n k ≡ true → nat_le m k ≡ true
one_test m n k less h = le-leb m k (omega (arith, leb-true n k h))

zero_test : (m n : ℕ) → m ≤ n → (n == 0) ≡ true → (m == 0) ≡ true
zero_test m n less h = eq-eqb m 0 (omega (arith, eqb-true n 0 h))

either_test : (a b a' b' : ℕ) → a ≤ a' → b ≤ b' → ((a' == 0) || (b' == 0)) ≡ true → ((a == 0) || (b == 0)) ≡ true
either_test a b a' b' p q h =
    elim (or_cases (a' == 0) (b' == 0) h) [
      | inl e ↦ or_left (a == 0) (b == 0) (zero_test a a' p e)
      | inr e ↦ or_right (a == 0) (b == 0) (zero_test b b' q e)
    ]

-- fewer words also fit together
pub fewer_fit : (a b c d e f a' b' c' d' e' f' : ℕ) → a ≤ a' → b ≤ b' → c ≤ c' → d ≤ d' → e ≤ e' → f ≤ f'
    → fit_numbers a' b' c' d' e' f' ≡ true → fit_numbers a b c d e f ≡ true
fewer_fit a b c d e f a' b' c' d' e' f' pa pb pc pd pe pf h =
    let h5 = and_parts (nat_le (e' + f') 1 && nat_le c' 1 && nat_le (a' + b') 1 && nat_le d' 2 && ((a' == 0) || (c' + d' == 0))) ((b' == 0) || (d' == 0)) h in
    let h4 = and_parts (nat_le (e' + f') 1 && nat_le c' 1 && nat_le (a' + b') 1 && nat_le d' 2) ((a' == 0) || (c' + d' == 0)) h5.0 in
    let h3 = and_parts (nat_le (e' + f') 1 && nat_le c' 1 && nat_le (a' + b') 1) (nat_le d' 2) h4.0 in
    let h2 = and_parts (nat_le (e' + f') 1 && nat_le c' 1) (nat_le (a' + b') 1) h3.0 in
    let h1 = and_parts (nat_le (e' + f') 1) (nat_le c' 1) h2.0 in
    and_from (nat_le (e + f) 1 && nat_le c 1 && nat_le (a + b) 1 && nat_le d 2 && ((a == 0) || (c + d == 0))) ((b == 0) || (d == 0))
    (and_from (nat_le (e + f) 1 && nat_le c 1 && nat_le (a + b) 1 && nat_le d 2) ((a == 0) || (c + d == 0))
    (and_from (nat_le (e + f) 1 && nat_le c 1 && nat_le (a + b) 1) (nat_le d 2)
    (and_from (nat_le (e + f) 1 && nat_le c 1) (nat_le (a + b) 1)
    (and_from (nat_le (e + f) 1) (nat_le c 1)
    (one_test (e + f) (e' + f') 1 (omega arith) h1.0)
    (one_test c c' 1 pc h1.1))
    (one_test (a + b) (a' + b') 1 (omega arith) h2.1))
    (one_test d d' 2 pd h3.1))
    (either_test a (c + d) a' (c' + d') pa (omega arith) h4.1))
    (either_test b d b' d' pb pd h5.1)

-- a nonempty part of words that fit together fits
pub part_fits : (all : IntegerWords) (ws us : List TypeWord) → Counts all ws → fit_together (ws ++ us) ≡ true → fit all ≡ true
part_fits all ws us c h =
    fewer_fit all.char all.short all.int all.long all.signed all.unsigned
    (times Char (ws ++ us)) (times Short (ws ++ us)) (times Int (ws ++ us)) (times Long (ws ++ us)) (times Signed (ws ++ us)) (times Unsigned (ws ++ us))
    (omega (arith, c.char, times_more Char ws us)) (omega (arith, c.short, times_more Short ws us)) (omega (arith, c.int, times_more Int ws us))
    (omega (arith, c.long, times_more Long ws us)) (omega (arith, c.signed, times_more Signed ws us)) (omega (arith, c.unsigned, times_more Unsigned ws us))
    h

-- words of an integer type and one more that doesn't fit name no type, whatever follows
pub misfit : (names : Names) (first : TypeWord) (others us : List TypeWord) (k : IntegerWord) (all : IntegerWords) → Counts all (first ∷ others)
    → list_all is_integer_word (first ∷ others) ≡ true → fit (counted k all) ≡ false
    → names_type names ((first ∷ others) ++ word.Integer k ∷ us) ≡ false
misfit names word.Const others us k all c a h = cc
misfit names word.Void others us k all c a h = cc
misfit names (word.Typedef name) others us k all c a h = cc
misfit names (word.Struct tag) others us k all c a h = cc
misfit names (word.Enum tag) others us k all c a h = cc
misfit names (word.Integer i) others us k all c a h =
    let ws : List TypeWord = word.Integer i ∷ others in
    let more : List TypeWord = word.Integer k ∷ us in
    let step = append_assoc ws (word.Integer k ∷ []) us in
    and_right (list_all is_integer_word (ws ++ more)) (fit_together (ws ++ more))
    (false_from_ne_true (fit_together (ws ++ more)) (λ t.
    both_ways (fit (counted k all)) h
    (part_fits (counted k all) (ws ++ word.Integer k ∷ []) us (counts_more k all ws c)
    (subst (λ (x : List TypeWord). fit_together x ≡ true) (sym step) t))))

known_whole : (names : Names) (next : TypeWord) → is_const next ≡ false → is_integer_word next ≡ false → is_known names next ≡ true
    → is_whole names next ≡ true
known_whole names word.Const c i k = cc
known_whole names word.Void c i k = refl
known_whole names (word.Typedef name) c i k = k
known_whole names (word.Struct tag) c i k = refl
known_whole names (word.Enum tag) c i k = refl
known_whole names (word.Integer kind) c i k = cc

named_one : (next : TypeWord) (us : List TypeWord) → is_const next ≡ false → named_by (next ∷ us) ≡ next ∷ named_by us
named_one word.Const us c = cc
named_one word.Void us c = refl
named_one (word.Typedef name) us c = refl
named_one (word.Struct tag) us c = refl
named_one (word.Enum tag) us c = refl
named_one (word.Integer kind) us c = refl

-- words that name nothing yet, and one that names a type
pub extends_nothing : (names : Names) (so_far : TypeSoFar) (words : List TypeWord) (next : TypeWord) → so_far ≡ Nothing → is_const next ≡ false
    → is_integer_word next ≡ false → Describes names so_far words → is_known names next ≡ true → Describes names Whole (words ++ next ∷ [])
extends_nothing names so_far words next e c i d k =
    let none : named_by words ≡ [] = subst (λ (s : TypeSoFar). Describes names s words) e d in (
      next,
      named_more words (next ∷ []) ∙ ap (λ (x : List TypeWord). x ++ named_by (next ∷ [])) none ∙ named_one next [] c,
      known_whole names next c i k,
    )

one_fits : (kind : IntegerWord) → fit (counted kind (record { char = 0; short = 0; int = 0; long = 0; signed = 0; unsigned = 0 })) ≡ true
one_fits Char = refl
one_fits Short = refl
one_fits Int = refl
one_fits Long = refl
one_fits Signed = refl
one_fits Unsigned = refl

-- words of an integer type and one more of them: their description, or none
abbrev pub AfterJoin : Names → List TypeWord → TypeWord → Option IntegerWords → Type 0
AfterJoin names words next (Some all) = Describes names (Integers all) (words ++ next ∷ [])
AfterJoin names words next None = IsExtended names words next None

joins : (names : Names) (words : List TypeWord) (kind : IntegerWord) (all : IntegerWords) (joined : Option IntegerWords)
    → Describes names (Integers all) words → (fit all ≡ true → IsJoined all kind joined) → AfterJoin names words (word.Integer kind) joined
joins names words kind all (Some more) (first, others, named, are) j =
    let done = j are.fitting in (
      first,
      others ++ word.Integer kind ∷ [],
      named_more words (word.Integer kind ∷ []) ∙ ap (λ (x : List TypeWord). x ++ word.Integer kind ∷ []) named,
      record {
        counts = subst (λ (x : IntegerWords). Counts x ((first ∷ others) ++ word.Integer kind ∷ [])) (sym done.0)
            (counts_more kind all (first ∷ others) are.counts);
        integers = list_all-append is_integer_word (first ∷ others) (word.Integer kind ∷ [])
            ∙ and_from (list_all is_integer_word (first ∷ others)) true are.integers refl;
        fitting = done.1;
      },
    )
joins names words kind all None (first, others, named, are) j =
    λ more.
    ap (names_type names) (named_more words (word.Integer kind ∷ more) ∙ ap (λ (x : List TypeWord). x ++ word.Integer kind ∷ named_by more) named)
    ∙ misfit names first others (named_by more) kind all are.counts are.integers (j are.fitting)

-- words that name nothing yet, and one of an integer type
pub extends_by_integer : (names : Names) (so_far : TypeSoFar) (words : List TypeWord) (next : TypeWord) (kind : IntegerWord) (all : IntegerWords)
    → so_far ≡ Nothing → next ≡ word.Integer kind → all ≡ counted kind (record { char = 0; short = 0; int = 0; long = 0; signed = 0; unsigned = 0 })
    → Describes names so_far words → Describes names (Integers all) (words ++ next ∷ [])
extends_by_integer names so_far words next kind all e n a d =
    let none : named_by words ≡ [] = subst (λ (s : TypeSoFar). Describes names s words) e d in
    let zero : IntegerWords = record { char = 0; short = 0; int = 0; long = 0; signed = 0; unsigned = 0 } in
    let start : Counts zero [] = record { char = refl; short = refl; int = refl; long = refl; signed = refl; unsigned = refl } in
    let named : named_by (words ++ word.Integer kind ∷ []) ≡ word.Integer kind ∷ [] = named_more words (word.Integer kind ∷ [])
    ∙ ap (λ (x : List TypeWord). x ++ word.Integer kind ∷ []) none in
    subst (λ (w : TypeWord). Describes names (Integers all) (words ++ w ∷ [])) (sym n) (
      word.Integer kind,
      [],
      named,
      record {
        counts = subst (λ (x : IntegerWords). Counts x (word.Integer kind ∷ [])) (sym a) (counts_more kind zero [] start);
        integers = refl;
        fitting = ap fit a ∙ one_fits kind;
      },
    )

-- words of an integer type and one more of them
pub extends_integers : (names : Names) (so_far : TypeSoFar) (words : List TypeWord) (next : TypeWord) (kind : IntegerWord) (all : IntegerWords)
    (joined : Option IntegerWords) → so_far ≡ Integers all → next ≡ word.Integer kind → (fit all ≡ true → IsJoined all kind joined)
    → Describes names so_far words → AfterJoin names words next joined
extends_integers names so_far words next kind all joined e n j d =
    subst (λ (w : TypeWord). AfterJoin names words w joined) (sym n)
    (joins names words kind all joined (subst (λ (s : TypeSoFar). Describes names s words) e d) j)
