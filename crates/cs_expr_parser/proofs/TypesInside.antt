-- The words, pointers and bounds of a type, in this order: for the contracts of `type_words`, `pointer_words` and
-- `parenthesised_type`.
use Rattle.std.proofs.Common.{◌≡◌, ℕ, suc, ◌+◌, ◌<◌, ◌≤◌, ◌⊎◌, inl, inr, Bool, true, false, List, [], ◌∷◌, ◌++◌, refl}
use Rattle.std.proofs.Common.{sym, ap, ◌∙◌, subst, arith, append_assoc, append-nil, Option, Some, None}
use Rattle.std.proofs.lemmas.Bool.{false≢true, both_ways}
use Rattle.cs_ast.specs.declared.token.TokenKind.{TokenKind}
use Rattle.cs_ast.specs.declared.token.TokenKind.TheVariants as token
use Rattle.cs_ast.specs.declared.token.Keyword.TheVariants as keyword
use Rattle.cs_ast.specs.declared.token.Punctuator.{Punctuator}
use Rattle.cs_ast.specs.declared.token.Punctuator.TheVariants as punctuator
use Rattle.cs_ast.specs.declared.raw.written_type.TypeWord.{TypeWord}
use Rattle.cs_ast.specs.declared.raw.written_type.TypeWord.TheVariants as word
use Rattle.cs_ast.specs.declared.raw.written_type.IntegerWord.{IntegerWord}
use Rattle.cs_ast.specs.declared.raw.written_type.IntegerWord.TheVariants.{Char, Short, Int, Long, Signed, Unsigned}
use Rattle.cs_ast.specs.declared.raw.written_type.PointerWord.{PointerWord}
use Rattle.cs_ast.specs.declared.raw.written_type.PointerWord.TheVariants as pointer
use Rattle.cs_ast.specs.RawTree.{WrittenList, End, More}
use Rattle.cs_ast.specs.RawHeight.{highest}
use Rattle.cs_grammar.specs.TypeWords.{Names, is_among, is_const, is_integer_word, named_by, names_type, is_type, is_pointer}
use Rattle.cs_grammar.specs.Text.{Kinds, text, words_text, type_word_text, integer_word_text, pointers_text, pointer_word_text, bounds_text, type_text}
use Rattle.cs_grammar.specs.Phrases.{ArePhrases}
use Rattle.cs_grammar.specs.Parsing.{Class, Near, IsOver, Begins, BeginsLow, Took, Refused, Exactly}
use Rattle.cs_grammar.proofs.Texts.{words_append, pointers_append}
use Rattle.cs_grammar.proofs.WordsOfTypes.{named_more}
use Rattle.cs_expr_parser.specs.Parts.{TypeParts, IsTypeOf, Types, type_closed_text, Rows, closed_bounds_text}
use Rattle.cs_expr_parser.specs.Words.{first_of_word, IsStuck}
use Rattle.cs_expr_parser.proofs.Closings.{close_parenthesis}

abbrev read_word : Kinds → Option (TypeWord × Kinds)
read_word (token.Keyword keyword.Const ∷ rest) = Some (word.Const, rest)
read_word (token.Keyword keyword.Char ∷ rest) = Some (word.Integer Char, rest)
read_word (token.Keyword keyword.Short ∷ rest) = Some (word.Integer Short, rest)
read_word (token.Keyword keyword.Int ∷ rest) = Some (word.Integer Int, rest)
read_word (token.Keyword keyword.Long ∷ rest) = Some (word.Integer Long, rest)
read_word (token.Keyword keyword.Signed ∷ rest) = Some (word.Integer Signed, rest)
read_word (token.Keyword keyword.Unsigned ∷ rest) = Some (word.Integer Unsigned, rest)
read_word (token.Keyword keyword.Void ∷ rest) = Some (word.Void, rest)
read_word (token.Name name ∷ rest) = Some (word.Typedef name, rest)
read_word (token.Keyword keyword.Struct ∷ token.Name tag ∷ rest) = Some (word.Struct tag, rest)
read_word (token.Keyword keyword.Enum ∷ token.Name tag ∷ rest) = Some (word.Enum tag, rest)
read_word other = None

read_text : (w : TypeWord) (x : Kinds) → read_word (type_word_text w x) ≡ Some (w, x)
read_text word.Const x = refl
read_text word.Void x = refl
read_text (word.Typedef name) x = refl
read_text (word.Struct tag) x = refl
read_text (word.Enum tag) x = refl
read_text (word.Integer Char) x = refl
read_text (word.Integer Short) x = refl
read_text (word.Integer Int) x = refl
read_text (word.Integer Long) x = refl
read_text (word.Integer Signed) x = refl
read_text (word.Integer Unsigned) x = refl

abbrev first_read : Option (TypeWord × Kinds) → TypeWord
first_read None = word.Const
first_read (Some both) = both.0

abbrev second_read : Option (TypeWord × Kinds) → Kinds
second_read None = []
second_read (Some both) = both.1

word_same : (v w : TypeWord) (x y : Kinds) → type_word_text v x ≡ type_word_text w y → (v ≡ w) × (x ≡ y)
word_same v w x y same =
    let s : Some (v, x) ≡ Some (w, y) = sym (read_text v x) ∙ ap read_word same ∙ read_text w y in
    (ap first_read s, ap second_read s)

pub word_first : (w : TypeWord) (x : Kinds) → (others : Kinds) × (type_word_text w x ≡ first_of_word w ∷ others)
word_first word.Const x = (x, refl)
word_first (word.Integer kind) x = (x, refl)
word_first word.Void x = (x, refl)
word_first (word.Typedef name) x = (x, refl)
word_first (word.Struct tag) x = (token.Name tag ∷ x, refl)
word_first (word.Enum tag) x = (token.Name tag ∷ x, refl)

pub word_no_punctuator : (w : TypeWord) (m : Punctuator) → first_of_word w ≡ token.Punctuator m → ⊥
word_no_punctuator word.Const m e = cc
word_no_punctuator (word.Integer Char) m e = cc
word_no_punctuator (word.Integer Short) m e = cc
word_no_punctuator (word.Integer Int) m e = cc
word_no_punctuator (word.Integer Long) m e = cc
word_no_punctuator (word.Integer Signed) m e = cc
word_no_punctuator (word.Integer Unsigned) m e = cc
word_no_punctuator word.Void m e = cc
word_no_punctuator (word.Typedef name) m e = cc
word_no_punctuator (word.Struct tag) m e = cc
word_no_punctuator (word.Enum tag) m e = cc

-- tokens that begin with a punctuator
pub record IsMarked (tokens : Kinds) : Type 0 where
  pub punctuator : Punctuator
  pub others : Kinds
  pub are : tokens ≡ token.Punctuator punctuator ∷ others

pub bounds_marked : (bs : WrittenList) (after : Kinds) → IsMarked (closed_bounds_text bs after)
bounds_marked End after = record { punctuator = punctuator.CloseParenthesis; others = after; are = refl }
bounds_marked (More x xs) after = record {
  punctuator = punctuator.OpenBracket;
  others = text x (token.Punctuator punctuator.CloseBracket ∷ closed_bounds_text xs after);
  are = refl;
}

pub pointers_marked : (ps : List PointerWord) (bs : WrittenList) (after : Kinds) → is_pointer ps ≡ true
    → IsMarked (pointers_text ps (closed_bounds_text bs after))
pointers_marked [] bs after is = bounds_marked bs after
pointers_marked (pointer.Star ∷ ps) bs after is = record { punctuator = punctuator.Star; others = pointers_text ps (closed_bounds_text bs after); are = refl }
pointers_marked (pointer.Const ∷ ps) bs after is = absurd cc

-- words with this beginning continue with others
pub words_go_on : (ws other : List TypeWord) (rest following : Kinds) → IsMarked rest → words_text other rest ≡ words_text ws following
    → (more : List TypeWord) × (other ≡ ws ++ more) × (words_text more rest ≡ following)
words_go_on [] other rest following m same = (other, refl, same)
words_go_on (w ∷ ws) [] rest following m same =
    let f = word_first w (words_text ws following) in
    let s : first_of_word w ∷ f.0 ≡ token.Punctuator m.punctuator ∷ m.others = sym f.1 ∙ sym same ∙ m.are in
    absurd (word_no_punctuator w m.punctuator cc)
words_go_on (w ∷ ws) (v ∷ vs) rest following m same =
    let k = word_same v w (words_text vs rest) (words_text ws following) same in
    let f = words_go_on ws vs rest following m k.1 in
    (f.0, ap (λ (x : TypeWord). x ∷ vs) k.0 ∙ ap (λ (xs : List TypeWord). w ∷ xs) f.1, f.2)

bounds_first_punctuator : (bs : WrittenList) (after : Kinds) (m : Punctuator) (more : Kinds) → closed_bounds_text bs after ≡ token.Punctuator m ∷ more
    → m ≡ punctuator.Star → ⊥
bounds_first_punctuator End after m more same e = cc
bounds_first_punctuator (More x xs) after m more same e = cc

bounds_no_star : (bs : WrittenList) (after more : Kinds) → closed_bounds_text bs after ≡ token.Punctuator punctuator.Star ∷ more → ⊥
bounds_no_star bs after more same = bounds_first_punctuator bs after punctuator.Star more same refl

-- pointers with this beginning continue with others
pointers_go_on : (ps other : List PointerWord) (bs : WrittenList) (after following : Kinds)
    → pointers_text other (closed_bounds_text bs after) ≡ pointers_text ps following
    → (more : List PointerWord) × (other ≡ ps ++ more) × (pointers_text more (closed_bounds_text bs after) ≡ following)
pointers_go_on [] other bs after following same = (other, refl, same)
pointers_go_on (pointer.Star ∷ ps) [] bs after following same = absurd (bounds_no_star bs after (pointers_text ps following) same)
pointers_go_on (pointer.Const ∷ ps) [] bs after following same = absurd (let m = bounds_marked bs after in let s = sym m.are ∙ same in cc)
pointers_go_on (pointer.Star ∷ ps) (pointer.Star ∷ qs) bs after following same =
    let f = pointers_go_on ps qs bs after following cc in
    (f.0, ap (λ (xs : List PointerWord). pointer.Star ∷ xs) f.1, f.2)
pointers_go_on (pointer.Const ∷ ps) (pointer.Const ∷ qs) bs after following same =
    let f = pointers_go_on ps qs bs after following cc in
    (f.0, ap (λ (xs : List PointerWord). pointer.Const ∷ xs) f.1, f.2)
pointers_go_on (pointer.Star ∷ ps) (pointer.Const ∷ qs) bs after following same = absurd cc
pointers_go_on (pointer.Const ∷ ps) (pointer.Star ∷ qs) bs after following same = absurd cc

-- what follows the words and the pointers of a type adds no word and no pointer to them
pub record IsQuiet (names : Names) (ws : List TypeWord) (ps : List PointerWord) (following : Kinds) : Type 0 where
  pub no_star : (more : Kinds) → following ≡ token.Punctuator punctuator.Star ∷ more → ⊥
  pub no_const : (more : Kinds) → following ≡ token.Keyword keyword.Const ∷ more → ⊥
  pub no_word : ps ≡ [] → (one : TypeWord) (words : List TypeWord) (more : Kinds) → following ≡ first_of_word one ∷ more
      → is_type names (ws ++ one ∷ words) ≡ false

pub bounds_quiet : (names : Names) (ws : List TypeWord) (ps : List PointerWord) (bs : WrittenList) (after : Kinds)
    → IsQuiet names ws ps (closed_bounds_text bs after)
bounds_quiet names ws ps bs after = record {
  no_star = λ more e. bounds_first_punctuator bs after punctuator.Star more e refl;
  no_const = λ more e. let m = bounds_marked bs after in let s = sym m.are ∙ e in cc;
  no_word = λ none one words more e. let m = bounds_marked bs after in
      let s : token.Punctuator m.punctuator ∷ m.others ≡ first_of_word one ∷ more = sym m.are ∙ e in absurd (word_no_punctuator one m.punctuator cc);
}

-- these are all words of a type with this beginning
words_all : (names : Names) (ws other : List TypeWord) (ps : List PointerWord) (rest following : Kinds) → is_pointer ps ≡ true
    → IsQuiet names ws ps following → is_type names other ≡ true → (more : List TypeWord) → other ≡ ws ++ more
    → words_text more rest ≡ pointers_text ps following → (other ≡ ws) × (rest ≡ pointers_text ps following)
words_all names ws other ps rest following p quiet is [] o same = (o ∙ append-nil ws, same)
words_all names ws other [] rest following p quiet is (w ∷ more) o same =
    let f = word_first w (words_text more rest) in
    absurd (both_ways (is_type names (ws ++ w ∷ more)) (quiet.no_word refl w more f.0 (sym same ∙ f.1)) (ap (is_type names) (sym o) ∙ is))
words_all names ws other (pointer.Star ∷ ps) rest following p quiet is (w ∷ more) o same =
    let f = word_first w (words_text more rest) in
    let s : first_of_word w ∷ f.0 ≡ token.Punctuator punctuator.Star ∷ pointers_text ps following = sym f.1 ∙ same in
    absurd (word_no_punctuator w punctuator.Star cc)
words_all names ws other (pointer.Const ∷ ps) rest following p quiet is (w ∷ more) o same = absurd cc

pointers_all : (names : Names) (ws : List TypeWord) (ps other : List PointerWord) (rest following : Kinds) → IsQuiet names ws ps following
    → (more : List PointerWord) → other ≡ ps ++ more → pointers_text more rest ≡ following → (other ≡ ps) × (rest ≡ following)
pointers_all names ws ps other rest following quiet [] o same = (o ∙ append-nil ps, same)
pointers_all names ws ps other rest following quiet (pointer.Star ∷ more) o same = absurd (quiet.no_star (pointers_text more rest) (sym same))
pointers_all names ws ps other rest following quiet (pointer.Const ∷ more) o same = absurd (quiet.no_const (pointers_text more rest) (sym same))

-- a type that begins with these words and pointers has them
pub type_invert : (names : Names) (ws : List TypeWord) (ps : List PointerWord) (other : TypeParts) (after following : Kinds) → is_pointer ps ≡ true
    → IsQuiet names ws ps following → IsTypeOf names other → type_closed_text other after ≡ words_text ws (pointers_text ps following)
    → (other.words ≡ ws) × (other.pointers ≡ ps) × (closed_bounds_text other.bounds after ≡ following)
type_invert names ws ps other after following p quiet is same =
    let f = words_go_on ws other.words (pointers_text other.pointers (closed_bounds_text other.bounds after)) (pointers_text ps following)
    (pointers_marked other.pointers other.bounds after is.pointers) same in
    let w = words_all names ws other.words ps (pointers_text other.pointers (closed_bounds_text other.bounds after)) following p quiet is.words f.0 f.1 f.2 in
    let g = pointers_go_on ps other.pointers other.bounds after following w.1 in
    let q = pointers_all names ws ps other.pointers (closed_bounds_text other.bounds after) following quiet g.0 g.1 g.2 in
    (w.0, q.0, q.1)

pub head_text : (ws : List TypeWord) (ps : List PointerWord) (x : Kinds) → words_text ws (pointers_text ps []) ++ x ≡ words_text ws (pointers_text ps x)
head_text ws ps x = words_append ws (pointers_text ps []) x ∙ ap (words_text ws) (pointers_append ps [] x)

-- the bounds of a type were taken
pub type_exact : (names : Names) (limit : ℕ) (ws : List TypeWord) (ps : List PointerWord) (bs : WrittenList) → is_type names ws ≡ true
    → is_pointer ps ≡ true → Exactly (Rows closed_bounds_text (ArePhrases names 2)) limit bs
    → Exactly (Types names) limit (record { words = ws; pointers = ps; bounds = bs })
type_exact names limit ws ps bs w p e = record {
  is_phrase = record { words = w; pointers = p; bounds = e.is_phrase };
  low = e.low;
  exact = λ other after following is same.
      let f = type_invert names ws ps other after (closed_bounds_text bs following) p (bounds_quiet names ws ps bs following) is same in
      let k = e.exact other.bounds after following is.bounds f.2 in (
        ap (λ (x : List TypeWord). let made : TypeParts = record { words = x; pointers = other.pointers; bounds = other.bounds } in made) f.0
            ∙ ap (λ (x : List PointerWord). let made : TypeParts = record { words = ws; pointers = x; bounds = other.bounds } in made) f.1
            ∙ ap (λ (x : WrittenList). let made : TypeParts = record { words = ws; pointers = ps; bounds = x } in made) k.0,
        k.1,
      );
}

-- the bounds of a type were refused
pub type_refused : (names : Names) (limit : ℕ) (ws : List TypeWord) (ps : List PointerWord) → is_type names ws ≡ true → is_pointer ps ≡ true
    → (front : Kinds) (next : TokenKind) (deep : Bool) → ((following : Kinds) → Near next following → IsQuiet names ws ps (front ++ following))
    → Refused (Rows closed_bounds_text (ArePhrases names 2)) limit front next deep
    → Refused (Types names) limit (words_text ws (pointers_text ps []) ++ front) next deep
type_refused names limit ws ps w p front next deep quiet r = record {
  begun = inr (elim r.begun [
    | inl none ↦ record {
      phrase = record { words = ws; pointers = ps; bounds = End };
      more = close_parenthesis ∷ [];
      is_phrase = record { words = w; pointers = p; bounds = tt };
      low = omega arith;
      spelled = sym (ap (λ (x : Kinds). (words_text ws (pointers_text ps []) ++ x) ++ (close_parenthesis ∷ [])) none
          ∙ ap (λ (x : Kinds). x ++ (close_parenthesis ∷ [])) (append-nil (words_text ws (pointers_text ps [])))
          ∙ head_text ws ps (close_parenthesis ∷ []));
    }
    | inr l ↦ record {
      phrase = record { words = ws; pointers = ps; bounds = l.phrase };
      more = l.more;
      is_phrase = record { words = w; pointers = p; bounds = l.is_phrase };
      low = l.low;
      spelled = sym (append_assoc (words_text ws (pointers_text ps [])) front l.more ∙ head_text ws ps (front ++ l.more)
          ∙ ap (λ (x : Kinds). words_text ws (pointers_text ps x)) (sym l.spelled));
    }
  ]);
  never = λ other after following is shut near same.
      let f = type_invert names ws ps other after (front ++ following) p (quiet following near) is (same
      ∙ append_assoc (words_text ws (pointers_text ps [])) front following ∙ head_text ws ps (front ++ following)) in
      let v = r.never other.bounds after following is.bounds tt near f.2 in
      record { reported = v.reported; high = v.high; onward = v.onward };
  further = λ reported.
      let b = r.further reported in
      record {
        phrase = record { words = ws; pointers = ps; bounds = b.phrase };
        more = b.more;
        is_phrase = record { words = w; pointers = p; bounds = b.is_phrase };
        spelled = sym (ap (λ (x : Kinds). x ++ b.more) (append_assoc (words_text ws (pointers_text ps [])) front (next ∷ []))
            ∙ append_assoc (words_text ws (pointers_text ps [])) (front ++ next ∷ []) b.more ∙ head_text ws ps ((front ++ next ∷ []) ++ b.more)
            ∙ ap (λ (x : Kinds). words_text ws (pointers_text ps x)) (sym b.spelled));
      };
}
