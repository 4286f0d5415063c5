-- Specifiers outside blocks, word by word: for the contracts of every parser of declarations.
use Rattle.std.proofs.Common.{◌≡◌, ℕ, ◌<◌, ◌≤◌, max, inl, inr, Bool, true, false, List, [], ◌∷◌, ◌++◌, Option, Some, None, refl}
use Rattle.std.proofs.Common.{sym, ap, ◌∙◌, subst, arith, append_assoc, append-nil}
use Rattle.std.proofs.lemmas.Bool.{false≢true, both_ways}
use Rattle.cs_ast.specs.declared.token.TokenKind.{TokenKind}
use Rattle.cs_ast.specs.declared.token.TokenKind.TheVariants as token
use Rattle.cs_ast.specs.declared.token.Keyword.TheVariants as keyword
use Rattle.cs_ast.specs.declared.token.Punctuator.TheVariants as punctuator
use Rattle.cs_ast.specs.declared.raw.written_type.TypeWord.{TypeWord}
use Rattle.cs_ast.specs.declared.raw.written_type.TypeWord.TheVariants as word
use Rattle.cs_ast.specs.declared.raw.written_type.IntegerWord.TheVariants.{Char, Short, Int, Long, Signed, Unsigned}
use Rattle.cs_ast.specs.RawDeclarations.{Constant, Spec, Static, Plain, StructBody, EnumBody, Specs, NoSpec, MoreSpecs, Members, NoMember}
use Rattle.cs_ast.specs.RawFileHeight.{specs_height}
use Rattle.cs_grammar.specs.TypeWords.{Names, named_by, names_type, is_type}
use Rattle.cs_grammar.specs.Text.{Kinds}
use Rattle.cs_grammar.specs.FileText.{name_text, comma_text, with_commas, constant_text, members_text, spec_text, specs_text}
use Rattle.cs_grammar.specs.FilePhrases.{words_of, HaveBodies, HasBody, AreSpecs}
use Rattle.cs_grammar.specs.DeclarationClasses.{Follows, ends_specs, HasNoOpenBrace, IsQuiet, SpecElements, FileSpecs}
use Rattle.cs_grammar.specs.Parsing.{Near, IsOver, Took, Refused}
use Rattle.cs_grammar.proofs.FileTexts.{specs_append}
use Rattle.cs_grammar.proofs.WordsOfTypes.{named_more}
use Rattle.cs_grammar.proofs.TypeNames.{first_token, MayGoOn, type_and_name, tag_word}

-- the words of a specifier
abbrev pub spec_words : Spec → List TypeWord
spec_words Static = []
spec_words (Plain w) = w ∷ []
spec_words (StructBody tag members) = word.Struct [] ∷ []
spec_words (EnumBody tag constants comma) = word.Enum [] ∷ []

pub words_more : (s : Spec) (others : Specs) → words_of (MoreSpecs s others) ≡ spec_words s ++ words_of others
words_more Static others = refl
words_more (Plain w) others = refl
words_more (StructBody tag members) others = refl
words_more (EnumBody tag constants comma) others = refl

abbrev pub joined_specs : Specs → Specs → Specs
joined_specs NoSpec rest = rest
joined_specs (MoreSpecs s others) rest = MoreSpecs s (joined_specs others rest)

pub specs_joined : (done : Specs) (s : Spec) (rest : Specs)
    → joined_specs (joined_specs done (MoreSpecs s NoSpec)) rest ≡ joined_specs done (MoreSpecs s rest)
specs_joined NoSpec s rest = refl
specs_joined (MoreSpecs d ds) s rest = ap (MoreSpecs d) (specs_joined ds s rest)

pub specs_joined_none : (done : Specs) → joined_specs done NoSpec ≡ done
specs_joined_none NoSpec = refl
specs_joined_none (MoreSpecs d ds) = ap (MoreSpecs d) (specs_joined_none ds)

pub joined_text : (done rest : Specs) (x : Kinds) → specs_text (joined_specs done rest) x ≡ specs_text done (specs_text rest x)
joined_text NoSpec rest x = refl
joined_text (MoreSpecs d ds) rest x = ap (spec_text d) (joined_text ds rest x)

pub joined_words : (done rest : Specs) → words_of (joined_specs done rest) ≡ words_of done ++ words_of rest
joined_words NoSpec rest = refl
joined_words (MoreSpecs Static ds) rest = joined_words ds rest
joined_words (MoreSpecs (Plain w) ds) rest = ap (λ (x : List TypeWord). w ∷ x) (joined_words ds rest)
joined_words (MoreSpecs (StructBody tag members) ds) rest = ap (λ (x : List TypeWord). word.Struct [] ∷ x) (joined_words ds rest)
joined_words (MoreSpecs (EnumBody tag constants comma) ds) rest = ap (λ (x : List TypeWord). word.Enum [] ∷ x) (joined_words ds rest)

pub joined_bodies : (names : Names) (done rest : Specs) → HaveBodies names done → HaveBodies names rest → HaveBodies names (joined_specs done rest)
joined_bodies names NoSpec rest a b = b
joined_bodies names (MoreSpecs d ds) rest a b = (a.0, joined_bodies names ds rest a.1 b)

pub rest_bodies : (names : Names) (done rest : Specs) → HaveBodies names (joined_specs done rest) → HaveBodies names rest
rest_bodies names NoSpec rest a = a
rest_bodies names (MoreSpecs d ds) rest a = rest_bodies names ds rest a.1

pub joined_tall : (done rest : Specs) → specs_height (joined_specs done rest) ≡ max (specs_height done) (specs_height rest)
joined_tall NoSpec rest = omega arith
joined_tall (MoreSpecs d ds) rest = let h = joined_tall ds rest in omega (arith, h)

-- the first token of a specifier
abbrev pub first_of : Spec → TokenKind
first_of Static = token.Keyword keyword.Static
first_of (Plain w) = first_token w
first_of (StructBody tag members) = token.Keyword keyword.Struct
first_of (EnumBody tag constants comma) = token.Keyword keyword.Enum

pub spec_starts : (s : Spec) (x : Kinds) → (others : Kinds) × (spec_text s x ≡ first_of s ∷ others)
spec_starts Static x = (x, refl)
spec_starts (Plain word.Const) x = (x, refl)
spec_starts (Plain (word.Integer kind)) x = (x, refl)
spec_starts (Plain word.Void) x = (x, refl)
spec_starts (Plain (word.Typedef name)) x = (x, refl)
spec_starts (Plain (word.Struct tag)) x = (token.Name tag ∷ x, refl)
spec_starts (Plain (word.Enum tag)) x = (token.Name tag ∷ x, refl)
spec_starts (StructBody tag members) x =
    (name_text tag (token.Punctuator punctuator.OpenBrace ∷ members_text members (token.Punctuator punctuator.CloseBrace ∷ x)), refl)
spec_starts (EnumBody tag constants comma) x = (
  name_text tag (token.Punctuator punctuator.OpenBrace
      ∷ with_commas constant_text constants (comma_text comma (token.Punctuator punctuator.CloseBrace ∷ x))),
  refl,
)

-- the first word or `static` of some tokens, and what follows it, if no type with a body begins there
abbrev read_spec : Kinds → Option (Spec × Kinds)
read_spec (token.Keyword keyword.Static ∷ rest) = Some (Static, rest)
read_spec (token.Keyword keyword.Const ∷ rest) = Some (Plain word.Const, rest)
read_spec (token.Keyword keyword.Void ∷ rest) = Some (Plain word.Void, rest)
read_spec (token.Keyword keyword.Char ∷ rest) = Some (Plain (word.Integer Char), rest)
read_spec (token.Keyword keyword.Short ∷ rest) = Some (Plain (word.Integer Short), rest)
read_spec (token.Keyword keyword.Int ∷ rest) = Some (Plain (word.Integer Int), rest)
read_spec (token.Keyword keyword.Long ∷ rest) = Some (Plain (word.Integer Long), rest)
read_spec (token.Keyword keyword.Signed ∷ rest) = Some (Plain (word.Integer Signed), rest)
read_spec (token.Keyword keyword.Unsigned ∷ rest) = Some (Plain (word.Integer Unsigned), rest)
read_spec (token.Keyword keyword.Struct ∷ token.Name tag ∷ token.Punctuator punctuator.OpenBrace ∷ rest) = None
read_spec (token.Keyword keyword.Struct ∷ token.Name tag ∷ rest) = Some (Plain (word.Struct tag), rest)
read_spec (token.Keyword keyword.Enum ∷ token.Name tag ∷ token.Punctuator punctuator.OpenBrace ∷ rest) = None
read_spec (token.Keyword keyword.Enum ∷ token.Name tag ∷ rest) = Some (Plain (word.Enum tag), rest)
read_spec (token.Name name ∷ rest) = Some (Plain (word.Typedef name), rest)
read_spec other = None

read_struct : (tag : List ℕ) (x : Kinds) → HasNoOpenBrace x
    → read_spec (token.Keyword keyword.Struct ∷ token.Name tag ∷ x) ≡ Some (Plain (word.Struct tag), x)
read_struct tag (token.Punctuator punctuator.OpenBrace ∷ x) quiet = absurd quiet
read_struct tag _ quiet = refl

read_enum : (tag : List ℕ) (x : Kinds) → HasNoOpenBrace x
    → read_spec (token.Keyword keyword.Enum ∷ token.Name tag ∷ x) ≡ Some (Plain (word.Enum tag), x)
read_enum tag (token.Punctuator punctuator.OpenBrace ∷ x) quiet = absurd quiet
read_enum tag _ quiet = refl

read_plain : (w : TypeWord) (x : Kinds) → IsQuiet (Plain w) x → read_spec (spec_text (Plain w) x) ≡ Some (Plain w, x)
read_plain word.Const x quiet = refl
read_plain word.Void x quiet = refl
read_plain (word.Integer Char) x quiet = refl
read_plain (word.Integer Short) x quiet = refl
read_plain (word.Integer Int) x quiet = refl
read_plain (word.Integer Long) x quiet = refl
read_plain (word.Integer Signed) x quiet = refl
read_plain (word.Integer Unsigned) x quiet = refl
read_plain (word.Typedef name) x quiet = refl
read_plain (word.Struct tag) x quiet = read_struct tag x quiet
read_plain (word.Enum tag) x quiet = read_enum tag x quiet

read_struct_body : (tag : Option (List ℕ)) (members : Members) (x : Kinds) → read_spec (spec_text (StructBody tag members) x) ≡ None
read_struct_body None members x = refl
read_struct_body (Some tag) members x = refl

read_enum_body : (tag : Option (List ℕ)) (constants : List Constant) (comma : Bool) (x : Kinds)
    → read_spec (spec_text (EnumBody tag constants comma) x) ≡ None
read_enum_body None constants comma x = refl
read_enum_body (Some tag) constants comma x = refl

abbrev first_read : Option (Spec × Kinds) → Spec
first_read None = Static
first_read (Some both) = both.0

abbrev second_read : Option (Spec × Kinds) → Kinds
second_read None = []
second_read (Some both) = both.1

-- a specifier is determined by its tokens
abbrev pub IsExactSpec : Names → Spec → Type 0
IsExactSpec names s = (t : Spec) (x y : Kinds) → HasBody names t → IsQuiet t x → IsQuiet s y → spec_text t x ≡ spec_text s y
    → (t ≡ s) × (x ≡ y)

read_same : (s : Spec) (y : Kinds) → read_spec (spec_text s y) ≡ Some (s, y) → (t : Spec) (x : Kinds) → read_spec (spec_text t x) ≡ Some (t, x)
    → spec_text t x ≡ spec_text s y → (t ≡ s) × (x ≡ y)
read_same s y rs t x rt same =
    let e = sym rt ∙ ap read_spec same ∙ rs in
    (ap first_read e, ap second_read e)

read_apart : (s : Spec) (y : Kinds) → read_spec (spec_text s y) ≡ Some (s, y) → (t : Spec) (x : Kinds) → read_spec (spec_text t x) ≡ None
    → spec_text t x ≡ spec_text s y → ⊥
read_apart s y rs t x rt same = let e = sym rt ∙ ap read_spec same ∙ rs in cc

-- a word or `static`, which can be read
simple_exact : (names : Names) (s : Spec) → ((y : Kinds) → IsQuiet s y → read_spec (spec_text s y) ≡ Some (s, y)) → IsExactSpec names s
simple_exact names s rs Static x y has quiet quiet' same = read_same s y (rs y quiet') Static x refl same
simple_exact names s rs (Plain w) x y has quiet quiet' same = read_same s y (rs y quiet') (Plain w) x (read_plain w x quiet) same
simple_exact names s rs (StructBody tag members) x y has quiet quiet' same =
    absurd (read_apart s y (rs y quiet') (StructBody tag members) x (read_struct_body tag members x) same)
simple_exact names s rs (EnumBody tag constants comma) x y has quiet quiet' same =
    absurd (read_apart s y (rs y quiet') (EnumBody tag constants comma) x (read_enum_body tag constants comma x) same)

pub static_exact : (names : Names) → IsExactSpec names Static
static_exact names = simple_exact names Static (λ y quiet. refl)

pub plain_exact : (names : Names) (w : TypeWord) → IsExactSpec names (Plain w)
plain_exact names w = simple_exact names (Plain w) (λ y quiet. read_plain w y quiet)

-- each specifier is determined by its tokens
abbrev pub AreExact : Names → Specs → Type 0
AreExact names NoSpec = Unit {0}
AreExact names (MoreSpecs s others) = HasBody names s × IsExactSpec names s × AreExact names others

pub exact_more : (names : Names) (done : Specs) (s : Spec) → AreExact names done → HasBody names s → IsExactSpec names s
    → AreExact names (joined_specs done (MoreSpecs s NoSpec))
exact_more names NoSpec s a has x = (has, x, tt)
exact_more names (MoreSpecs d ds) s a has x = (a.0, a.1, exact_more names ds s a.2 has x)

pub exact_bodies : (names : Names) (done : Specs) → AreExact names done → HaveBodies names done
exact_bodies names NoSpec a = tt
exact_bodies names (MoreSpecs d ds) a = (a.0, exact_bodies names ds a.2)

-- no opening brace follows the last one, if that is a tag
abbrev pub EndsQuiet : Specs → Kinds → Type 0
EndsQuiet NoSpec after = Unit {0}
EndsQuiet (MoreSpecs s NoSpec) after = IsQuiet s after
EndsQuiet (MoreSpecs s (MoreSpecs t others)) after = EndsQuiet (MoreSpecs t others) after

pub quiet_plain : (s : Spec) (x : Kinds) → HasNoOpenBrace x → IsQuiet s x
quiet_plain Static x n = tt
quiet_plain (Plain word.Const) x n = tt
quiet_plain (Plain word.Void) x n = tt
quiet_plain (Plain (word.Integer k)) x n = tt
quiet_plain (Plain (word.Typedef name)) x n = tt
quiet_plain (Plain (word.Struct tag)) x n = n
quiet_plain (Plain (word.Enum tag)) x n = n
quiet_plain (StructBody tag members) x n = tt
quiet_plain (EnumBody tag constants comma) x n = tt

pub quiet_end : (done : Specs) (x : Kinds) → HasNoOpenBrace x → EndsQuiet done x
quiet_end NoSpec x n = tt
quiet_end (MoreSpecs s NoSpec) x n = quiet_plain s x n
quiet_end (MoreSpecs s (MoreSpecs t others)) x n = quiet_end (MoreSpecs t others) x n

spec_no_brace : (s : Spec) (x : Kinds) → HasNoOpenBrace (spec_text s x)
spec_no_brace Static x = tt
spec_no_brace (Plain word.Const) x = tt
spec_no_brace (Plain word.Void) x = tt
spec_no_brace (Plain (word.Integer Char)) x = tt
spec_no_brace (Plain (word.Integer Short)) x = tt
spec_no_brace (Plain (word.Integer Int)) x = tt
spec_no_brace (Plain (word.Integer Long)) x = tt
spec_no_brace (Plain (word.Integer Signed)) x = tt
spec_no_brace (Plain (word.Integer Unsigned)) x = tt
spec_no_brace (Plain (word.Typedef name)) x = tt
spec_no_brace (Plain (word.Struct tag)) x = tt
spec_no_brace (Plain (word.Enum tag)) x = tt
spec_no_brace (StructBody tag members) x = tt
spec_no_brace (EnumBody tag constants comma) x = tt

quiet_inner : (s : Spec) (ds : Specs) (following : Kinds) → EndsQuiet (MoreSpecs s ds) following → IsQuiet s (specs_text ds following)
quiet_inner s NoSpec following q = q
quiet_inner s (MoreSpecs d ds) following q = quiet_plain s (spec_text d (specs_text ds following)) (spec_no_brace d (specs_text ds following))

quiet_rest : (s : Spec) (ds : Specs) (following : Kinds) → EndsQuiet (MoreSpecs s ds) following → EndsQuiet ds following
quiet_rest s NoSpec following q = tt
quiet_rest s (MoreSpecs d ds) following q = q

follows_no_brace : (after : Kinds) → Follows ends_specs after → HasNoOpenBrace after
follows_no_brace [] f = tt
follows_no_brace (token.Punctuator punctuator.OpenBrace ∷ x) f = false≢true f
follows_no_brace _ f = tt

pub specs_no_brace : (ts : Specs) (after : Kinds) → Follows ends_specs after → HasNoOpenBrace (specs_text ts after)
specs_no_brace NoSpec after f = follows_no_brace after f
specs_no_brace (MoreSpecs t ts) after f = spec_no_brace t (specs_text ts after)

-- only a typedef name is both a specifier and what may follow specifiers
spec_ends : (s : Spec) → ends_specs (first_of s) ≡ true → (n : List ℕ) × (spec_words s ≡ word.Typedef n ∷ [])
spec_ends (Plain (word.Typedef n)) e = (n, refl)
spec_ends Static e = absurd (false≢true e)
spec_ends (Plain word.Const) e = absurd (false≢true e)
spec_ends (Plain word.Void) e = absurd (false≢true e)
spec_ends (Plain (word.Integer Char)) e = absurd (false≢true e)
spec_ends (Plain (word.Integer Short)) e = absurd (false≢true e)
spec_ends (Plain (word.Integer Int)) e = absurd (false≢true e)
spec_ends (Plain (word.Integer Long)) e = absurd (false≢true e)
spec_ends (Plain (word.Integer Signed)) e = absurd (false≢true e)
spec_ends (Plain (word.Integer Unsigned)) e = absurd (false≢true e)
spec_ends (Plain (word.Struct tag)) e = absurd (false≢true e)
spec_ends (Plain (word.Enum tag)) e = absurd (false≢true e)
spec_ends (StructBody tag members) e = absurd (false≢true e)
spec_ends (EnumBody tag constants comma) e = absurd (false≢true e)

-- specifiers that begin with the tokens of these continue with more specifiers
pub specs_go_on : (names : Names) (before : List TypeWord) (done other : Specs) (after following : Kinds) → MayGoOn names (before ++ words_of done)
    → is_type names (before ++ words_of other) ≡ true → HaveBodies names other → AreExact names done → Follows ends_specs after
    → EndsQuiet done following → specs_text other after ≡ specs_text done following
    → (more : Specs) × (other ≡ joined_specs done more) × (specs_text more after ≡ following)
specs_go_on names before NoSpec other after following go type has exact f quiet same = (other, refl, same)
specs_go_on names before (MoreSpecs s ds) NoSpec after following go type has exact f quiet same =
    let b = spec_starts s (specs_text ds following) in
    let n = spec_ends s (subst (Follows ends_specs) (same ∙ b.1) f) in
    let t : is_type names before ≡ true = ap (is_type names) (sym (append-nil before)) ∙ type in
    let w : before ++ words_of (MoreSpecs s ds) ≡ before ++ word.Typedef n.0 ∷ words_of ds =
    ap (λ (x : List TypeWord). before ++ x) (words_more s ds ∙ ap (λ (x : List TypeWord). x ++ words_of ds) n.1) in
    absurd (type_and_name names before n.0 (words_of ds ++ go.0) t
    (ap (is_type names) (sym (append_assoc before (word.Typedef n.0 ∷ words_of ds) go.0) ∙ ap (λ (x : List TypeWord). x ++ go.0) (sym w)) ∙ go.1))
specs_go_on names before (MoreSpecs s ds) (MoreSpecs t ts) after following go type has exact f quiet same =
    let k = exact.1 t (specs_text ts after) (specs_text ds following) has.0 (quiet_plain t (specs_text ts after) (specs_no_brace ts after f))
    (quiet_inner s ds following quiet) same in
    let go' : MayGoOn names ((before ++ spec_words s) ++ words_of ds) = (
      go.0,
      ap (λ (x : List TypeWord). is_type names (x ++ go.0)) (append_assoc before (spec_words s) (words_of ds)
          ∙ ap (λ (x : List TypeWord). before ++ x) (sym (words_more s ds))) ∙ go.1,
    ) in
    let type' : is_type names ((before ++ spec_words s) ++ words_of ts) ≡ true =
    ap (is_type names) (append_assoc before (spec_words s) (words_of ts) ∙ ap (λ (x : Spec). before ++ (spec_words x ++ words_of ts)) (sym k.0)
    ∙ ap (λ (x : List TypeWord). before ++ x) (sym (words_more t ts))) ∙ type in
    let r = specs_go_on names (before ++ spec_words s) ds ts after following go' type' has.1 exact.2 f (quiet_rest s ds following quiet) k.1 in
    (r.0, ap (λ (x : Spec). MoreSpecs x ts) k.0 ∙ ap (MoreSpecs s) r.1, r.2)

-- no specifier that begins with the token continues these words
abbrev pub IsStuckAfter : Names → List TypeWord → TokenKind → Type 0
IsStuckAfter names ws next = (one : Spec) (more : List TypeWord) → first_of one ≡ next → is_type names (ws ++ (spec_words one ++ more)) ≡ false

pub no_more : (names : Names) (done : Specs) (next : TokenKind) (more : Specs) (after following : Kinds) → IsStuckAfter names (words_of done) next
    → is_type names (words_of (joined_specs done more)) ≡ true → Near next following → specs_text more after ≡ following
    → (more ≡ NoSpec) × (after ≡ following)
no_more names done next NoSpec after following stuck type near same = (refl, same)
no_more names done next (MoreSpecs s more) after following stuck type near same =
    let b = spec_starts s (specs_text more after) in
    absurd (elim near [
      | inl none ↦ let z = sym b.1 ∙ same ∙ none in cc
      | inr m ↦
          let z : first_of s ∷ b.0 ≡ next ∷ m.0 = sym b.1 ∙ same ∙ m.1 in
          let k : first_of s ≡ next = cc in
          both_ways (is_type names (words_of (joined_specs done (MoreSpecs s more))))
          (ap (is_type names) (joined_words done (MoreSpecs s more) ∙ ap (λ (x : List TypeWord). words_of done ++ x) (words_more s more))
          ∙ stuck s (words_of more) k) type
    ])

pub specs_only : (names : Names) (done : Specs) (next : TokenKind) → MayGoOn names (words_of done) → AreExact names done
    → IsStuckAfter names (words_of done) next → ((following : Kinds) → Near next following → EndsQuiet done following)
    → (other : Specs) (after following : Kinds) → AreSpecs names other → Follows ends_specs after → Near next following
    → specs_text other after ≡ specs_text done following → (other ≡ done) × (after ≡ following)
specs_only names done next go exact stuck quiet other after following is f near same =
    let r = specs_go_on names [] done other after following go is.0 is.1 exact f (quiet following near) same in
    let e = no_more names done next r.0 after following stuck (ap (λ (x : Specs). is_type names (words_of x)) (sym r.1) ∙ is.0) near r.2 in
    (r.1 ∙ ap (joined_specs done) e.0 ∙ specs_joined_none done, e.1)

-- specifiers outside blocks were taken, as many as there are
pub specs_took : (names : Names) (limit : ℕ) (done : Specs) (next : TokenKind) → specs_height done ≤ limit → is_type names (words_of done) ≡ true
    → AreExact names done → IsStuckAfter names (words_of done) next → ((following : Kinds) → Near next following → EndsQuiet done following)
    → Took (FileSpecs names) limit done next false
specs_took names limit done next low type exact stuck quiet = record {
  is_phrase = (type, exact_bodies names done exact);
  low = low;
  only = λ other after following is shut near same. inl
      (specs_only names done next ([], ap (is_type names) (append-nil (words_of done)) ∙ type) exact stuck quiet other after following is shut near same);
  further = λ reported. absurd (false≢true reported);
  joined = λ reported more shut. false≢true reported;
}

-- words that name no type yet, and that no specifier continues
pub specs_refused : (names : Names) (limit : ℕ) (done : Specs) (next : TokenKind) → specs_height done ≤ limit → 1 ≤ limit
    → is_type names (words_of done) ≡ false → named_by (words_of done) ≡ [] → AreExact names done → IsStuckAfter names (words_of done) next
    → ((following : Kinds) → Near next following → EndsQuiet done following) → Refused (FileSpecs names) limit (specs_text done []) next false
specs_refused names limit done next low some none unnamed exact stuck quiet =
    let void : Specs = MoreSpecs (Plain word.Void) NoSpec in
    let type : is_type names (words_of done ++ word.Void ∷ []) ≡ true =
    ap (names_type names) (named_more (words_of done) (word.Void ∷ []) ∙ ap (λ (x : List TypeWord). x ++ word.Void ∷ []) unnamed) in
    let tall = joined_tall done void in
    record {
      begun = inr (record {
        phrase = joined_specs done void;
        more = token.Keyword keyword.Void ∷ [];
        is_phrase = (ap (is_type names) (joined_words done void) ∙ type, joined_bodies names done void (exact_bodies names done exact) (tt, tt));
        low = omega (arith, tall, low, some);
        spelled = joined_text done void [] ∙ sym (specs_append done [] (token.Keyword keyword.Void ∷ []));
      });
      never = λ other after following is shut near same.
          let e = specs_only names done next (word.Void ∷ [], type) exact stuck quiet other after following is shut near (same
          ∙ specs_append done [] following) in
          absurd (both_ways (is_type names (words_of done)) none (ap (λ (x : Specs). is_type names (words_of x)) (sym e.0) ∙ is.0));
      further = λ reported. absurd (false≢true reported);
    }

tag_names : (names : Names) (s : Spec) (is_struct : Bool) → first_of s ≡ tag_word is_struct → names_type names (named_by (spec_words s)) ≡ true
tag_names names (StructBody tag members) is_struct e = refl
tag_names names (EnumBody tag constants comma) is_struct e = refl
tag_names names (Plain (word.Struct tag)) is_struct e = refl
tag_names names (Plain (word.Enum tag)) is_struct e = refl
tag_names names Static true e = absurd cc
tag_names names Static false e = absurd cc
tag_names names (Plain word.Const) true e = absurd cc
tag_names names (Plain word.Const) false e = absurd cc
tag_names names (Plain word.Void) true e = absurd cc
tag_names names (Plain word.Void) false e = absurd cc
tag_names names (Plain (word.Typedef n)) true e = absurd cc
tag_names names (Plain (word.Typedef n)) false e = absurd cc
tag_names names (Plain (word.Integer Char)) true e = absurd cc
tag_names names (Plain (word.Integer Char)) false e = absurd cc
tag_names names (Plain (word.Integer Short)) true e = absurd cc
tag_names names (Plain (word.Integer Short)) false e = absurd cc
tag_names names (Plain (word.Integer Int)) true e = absurd cc
tag_names names (Plain (word.Integer Int)) false e = absurd cc
tag_names names (Plain (word.Integer Long)) true e = absurd cc
tag_names names (Plain (word.Integer Long)) false e = absurd cc
tag_names names (Plain (word.Integer Signed)) true e = absurd cc
tag_names names (Plain (word.Integer Signed)) false e = absurd cc
tag_names names (Plain (word.Integer Unsigned)) true e = absurd cc
tag_names names (Plain (word.Integer Unsigned)) false e = absurd cc

-- `struct` or `enum` after words that name nothing names a type
pub tag_spec_type : (names : Names) (ws : List TypeWord) (s : Spec) (is_struct : Bool) → named_by ws ≡ [] → first_of s ≡ tag_word is_struct
    → is_type names (ws ++ spec_words s) ≡ true
tag_spec_type names ws s is_struct none first =
    ap (names_type names) (named_more ws (spec_words s) ∙ ap (λ (x : List TypeWord). x ++ named_by (spec_words s)) none)
    ∙ tag_names names s is_struct first

pub tag_ends : (is_struct : Bool) → ends_specs (tag_word is_struct) ≡ false
tag_ends true = refl
tag_ends false = refl

-- words that name nothing, and a type with `struct` or `enum`
abbrev pub with_spec : Specs → Spec → Specs
with_spec done s = joined_specs done (MoreSpecs s NoSpec)

pub with_is : (names : Names) (done : Specs) (s : Spec) (is_struct : Bool) → AreExact names done → named_by (words_of done) ≡ [] → HasBody names s
    → first_of s ≡ tag_word is_struct → AreSpecs names (with_spec done s)
with_is names done s is_struct exact none has first = (
  ap (is_type names) (joined_words done (MoreSpecs s NoSpec)
      ∙ ap (λ (x : List TypeWord). words_of done ++ x) (words_more s NoSpec ∙ append-nil (spec_words s)))
      ∙ tag_spec_type names (words_of done) s is_struct none first,
  joined_bodies names done (MoreSpecs s NoSpec) (exact_bodies names done exact) (has, tt),
)

pub with_text : (done : Specs) (s : Spec) (front more : Kinds) → spec_text s [] ≡ front ++ more
    → specs_text (with_spec done s) [] ≡ (specs_text done [] ++ front) ++ more
with_text done s front more same =
    joined_text done (MoreSpecs s NoSpec) [] ∙ ap (specs_text done) same ∙ sym (specs_append done [] (front ++ more))
    ∙ sym (append_assoc (specs_text done []) front more)

pub spec_first : (s : Spec) (x : Kinds) (f : TokenKind) (more : Kinds) → spec_text s x ≡ f ∷ more → first_of s ≡ f
spec_first s x f more same = let b = spec_starts s x in let z : first_of s ∷ b.0 ≡ f ∷ more = sym b.1 ∙ same in cc

element_never : (names : Names) (limit : ℕ) (done : Specs) (is_struct : Bool) (fs : Kinds) (next : TokenKind) (deep : Bool)
    → Refused (SpecElements names) limit (tag_word is_struct ∷ fs) next deep → (more : Specs) (after following : Kinds) → HaveBodies names more
    → Follows ends_specs after → Near next following → specs_text more after ≡ tag_word is_struct ∷ (fs ++ following)
    → IsOver (FileSpecs names) limit deep (joined_specs done more) following
element_never names limit done is_struct fs next deep r NoSpec after following has f near same =
    absurd (false≢true (sym (tag_ends is_struct) ∙ subst (Follows ends_specs) same f))
element_never names limit done is_struct fs next deep r (MoreSpecs s more) after following has f near same =
    let v = r.never s (specs_text more after) following has.0 (quiet_plain s (specs_text more after) (specs_no_brace more after f)) near same in
    let tall = joined_tall done (MoreSpecs s more) in
    record { reported = v.reported; high = let h = v.high in omega (arith, tall, h); onward = v.onward }

pub tag_quiet : (done : Specs) (x : Kinds) (is_struct : Bool) → EndsQuiet done (tag_word is_struct ∷ x)
tag_quiet done x true = quiet_end done (tag_word true ∷ x) tt
tag_quiet done x false = quiet_end done (tag_word false ∷ x) tt

-- a type with `struct` or `enum` was refused after words that name nothing
pub element_refused : (names : Names) (limit : ℕ) (done : Specs) → specs_height done ≤ limit → named_by (words_of done) ≡ [] → AreExact names done
    → (is_struct : Bool) (fs : Kinds) (next : TokenKind) (deep : Bool) → Refused (SpecElements names) limit (tag_word is_struct ∷ fs) next deep
    → Refused (FileSpecs names) limit (specs_text done [] ++ (tag_word is_struct ∷ fs)) next deep
element_refused names limit done low none exact is_struct fs next deep r = record {
  begun = elim r.begun [
    | inl empty ↦ absurd cc
    | inr b ↦
        let first = spec_first b.phrase [] (tag_word is_struct) (fs ++ b.more) b.spelled in
        let tall = joined_tall done (MoreSpecs b.phrase NoSpec) in
        inr (record {
          phrase = with_spec done b.phrase;
          more = b.more;
          is_phrase = with_is names done b.phrase is_struct exact none b.is_phrase first;
          low = let l = b.low in omega (arith, tall, low, l);
          spelled = with_text done b.phrase (tag_word is_struct ∷ fs) b.more b.spelled;
        })
  ];
  never = λ other after following is shut near same.
      let go : MayGoOn names (words_of done) =
      (spec_words (StructBody None NoMember), tag_spec_type names (words_of done) (StructBody None NoMember) true none refl) in
      let r' = specs_go_on names [] done other after (tag_word is_struct ∷ (fs ++ following)) go is.0 is.1 exact shut
      (tag_quiet done (fs ++ following) is_struct) (same ∙ append_assoc (specs_text done []) (tag_word is_struct ∷ fs) following
      ∙ specs_append done [] (tag_word is_struct ∷ (fs ++ following))) in
      let has = rest_bodies names done r'.0 (subst (HaveBodies names) r'.1 is.1) in
      let v = element_never names limit done is_struct fs next deep r r'.0 after following has shut near r'.2 in
      record { reported = v.reported; high = subst (λ (x : Specs). limit < specs_height x) (sym r'.1) v.high; onward = v.onward };
  further = λ reported.
      let b = r.further reported in
      let first = spec_first b.phrase [] (tag_word is_struct) ((fs ++ next ∷ []) ++ b.more) b.spelled in
      record {
        phrase = with_spec done b.phrase;
        more = b.more;
        is_phrase = with_is names done b.phrase is_struct exact none b.is_phrase first;
        spelled = with_text done b.phrase (tag_word is_struct ∷ (fs ++ next ∷ [])) b.more b.spelled
            ∙ ap (λ (x : Kinds). x ++ b.more) (sym (append_assoc (specs_text done []) (tag_word is_struct ∷ fs) (next ∷ [])));
      };
}
