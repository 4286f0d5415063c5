-- One parameter: the result of each return. For the contracts of `parameter` and `parameter_name`.
use Rattle.std.proofs.Common.{◌≡◌, ℕ, ◌+◌, ◌≤◌, ◌⊎◌, inl, inr, Bool, false, IsTrue, List, [], ◌∷◌, ◌++◌, Option, Some, None}
use Rattle.std.proofs.Common.{Err, length, refl, sym, ap, ◌∙◌, subst, arith, append-nil}
use Rattle.std.proofs.lemmas.Bool.{false≢true}
use Rattle.cs_ast.specs.declared.token.Token.{Token}
use Rattle.cs_ast.specs.declared.token.TokenKind.{TokenKind}
use Rattle.cs_ast.specs.declared.token.TokenKind.TheVariants as token
use Rattle.cs_ast.specs.declared.token.Keyword.TheVariants as keyword
use Rattle.cs_ast.specs.declared.token.Punctuator.TheVariants as punctuator
use Rattle.cs_ast.specs.declared.raw.declaration.RawParameter.{RawParameter}
use Rattle.cs_ast.specs.declared.raw.declaration.RawSpecs.{RawSpecs}
use Rattle.cs_ast.specs.declared.raw.name.RawName.{RawName}
use Rattle.cs_ast.specs.declared.raw.written_type.TypeWord.{TypeWord}
use Rattle.cs_ast.specs.declared.raw.written_type.TypeWord.TheVariants as word
use Rattle.cs_ast.specs.declared.raw.written_type.PointerWord.{PointerWord}
use Rattle.cs_ast.specs.declared.raw.written_type.PointerWord.TheVariants as pointer
use Rattle.cs_ast.specs.RawTree.{Written}
use Rattle.cs_ast.specs.RawDeclarations.{Plain, Specs, NoSpec, MoreSpecs, Parameter}
use Rattle.cs_ast.specs.RawDeclarationView.{specs, parameter}
use Rattle.cs_ast.specs.RawFileHeight.{parameter_height}
use Rattle.cs_grammar.specs.declared.refusal.Reason.{Reason}
use Rattle.cs_grammar.specs.TypeWords.{Names, is_pointer, named_by, names_type, is_type}
use Rattle.cs_grammar.specs.Text.{Kinds, pointers_text}
use Rattle.cs_grammar.specs.FileText.{name_text, brackets_text, specs_text, parameter_text}
use Rattle.cs_grammar.specs.FilePhrases.{IsFree, AreSpecs, words_of, IsParameter}
use Rattle.cs_grammar.specs.Parsing.{Near, IsOver, Begins, Took}
use Rattle.cs_grammar.specs.DeclarationClasses.{Follows, Brackets, FileSpecs, ends_parameter, ParameterClass, ParameterTail, ParameterTails}
use Rattle.cs_grammar.proofs.Texts.{pointers_append}
use Rattle.cs_grammar.proofs.FileTexts.{name_append}
use Rattle.cs_grammar.proofs.Holes.{Tail, tail_refused, tail_took}
use Rattle.cs_grammar.proofs.Pairs.{HasLimit, pair_then_refused, pair_then_took}
use Rattle.cs_grammar.proofs.WordsOfTypes.{named_more}
use Rattle.cs_grammar.proofs.SpecRows.{joined_specs, joined_text, joined_words, joined_bodies}
use Rattle.cs_grammar.proofs.Bodies.{file_specs_law}
use Rattle.cs_grammar.proofs.Declarators.{brackets_law, brackets_end, IsNoName}
use Rattle.cs_grammar.proofs.ParameterRules.{tail_of, tail_end, named_tail, HasNoName, unnamed_tail, parameter_tails_law, parameter_of, parameter_pair}
use Rattle.cs_expr_parser.specs.Positions.{kind_or_end}
use Rattle.cs_expr_parser.specs.Parts.{Spells, is_deep}
use Rattle.cs_expr_parser.specs.declared.stop.Stop.{Stop}
use Rattle.cs_expr_parser.specs.declared.stop.Stop.TheVariants as stop
use Rattle.cs_declarator_parser.specs.declared.stop.Taken.{Taken}
use Rattle.cs_declarator_parser.specs.Answers.{Stops, IsTaken, IsBraceRefused, StopsOrBrace}
use Rattle.cs_declarator_parser.specs.DeclarationAnswers.{ArePointers, IsNameAt, ParameterNameAnswer, RefusesAfter}
use Rattle.cs_declarator_parser.specs.ParameterAnswers.{IsRefusedAfter, ParameterStops, number_past}
use Rattle.cs_declarator_parser.specs.SpecWords.{name_in}
use Rattle.cs_expr_parser.proofs.Standing.{spells_one, spells_none, spells_more, spells_as}
use Rattle.cs_expr_parser.proofs.Stopping.{refused_number}
use Rattle.cs_declarator_parser.proofs.PartStops.{stops_in, front_of, first_front, near_start, pair_first_stops}

-- the tokens of a name, if there is one at an index
pub name_spelled : (IsName : List ℕ → Type 0) (tokens : List Token) (at next : ℕ) (name : Option RawName) → at ≤ length tokens
    → IsNameAt IsName (kind_or_end tokens at) name → next ≡ number_past at (name_in name) → Spells tokens at next (name_text (name_in name))
name_spelled IsName tokens at next None within i is = subst (λ (n : ℕ). Spells tokens at n (λ rest. rest)) (sym is) (spells_none tokens at within)
name_spelled IsName tokens at next (Some n) within i is =
    subst (λ (m : ℕ). Spells tokens at m (λ rest. token.Name n.name ∷ rest)) (sym is) (spells_one tokens at (token.Name n.name) i.0 (λ x. cc))

-- the refusal of a parenthesis where a name is allowed
pub name_refused : (names : Names) (tokens : List Token) (at : ℕ) → kind_or_end tokens at ≡ token.Punctuator punctuator.OpenParenthesis
    → (s : Stop) → RefusesAfter at false s → ParameterNameAnswer names tokens at (Err s)
name_refused names tokens at k stop.Memory is = absurd is
name_refused names tokens at k (stop.Refused refused reason) is = (is.0, is.1, k)

abbrev one_const : Specs
one_const = MoreSpecs (Plain word.Const) NoSpec

const_type : (names : Names) (ws : List TypeWord) → is_type names (ws ++ word.Const ∷ []) ≡ is_type names ws
const_type names ws = ap (names_type names) (named_more ws (word.Const ∷ []) ∙ append-nil (named_by ws))

const_fits : (names : Names) (s : Specs) → AreSpecs names s → AreSpecs names (joined_specs s one_const)
const_fits names s is = (
  ap (is_type names) (joined_words s one_const) ∙ const_type names (words_of s) ∙ is.0,
  joined_bodies names s one_const is.1 (tt, tt),
)

-- no `const` follows specifiers that were taken, since it would be one of them
pub specs_no_const : (names : Names) (limit : ℕ) (s : Specs) (next : TokenKind) → Took (FileSpecs names) limit s next false
    → next ≡ token.Keyword keyword.Const → ⊥
specs_no_const names limit s next t k =
    elim (t.only (joined_specs s one_const) [] (next ∷ []) (const_fits names s t.is_phrase) tt (inr ([], refl)) (joined_text s one_const []
    ∙ ap (λ (x : TokenKind). specs_text s (x ∷ [])) (sym k))) [
      | inl e ↦ let z = e.1 in cc
      | inr over ↦ false≢true over.reported
    ]

-- the pointers of a parameter, and its name if it has one
pub record TailBegun (names : Names) (tokens : List Token) (from mid next : ℕ) (words : List PointerWord) (name : Option RawName) : Type 0 where
  pub pointers : ArePointers tokens from mid words
  pub no_const : kind_or_end tokens mid ≡ token.Keyword keyword.Const → ⊥
  pub named : IsNameAt (IsFree names) (kind_or_end tokens mid) name
  pub spelled : Spells tokens mid next (name_text (name_in name))

-- what may follow them
abbrev FitAfter : Names → Option (List ℕ) → Kinds → Type 0
FitAfter names None following = HasNoName names following
FitAfter names (Some n) following = Unit {0}

begun_tail : (names : Names) (limit : ℕ) (words : List PointerWord) → IsTrue (is_pointer words)
    → (kind : TokenKind) (name : Option RawName) → IsNameAt (IsFree names) kind name
    → Tail (ParameterTails names) (Brackets names (Unit {0})) limit limit (pointers_text words (name_text (name_in name) [])) (tail_of words (name_in name))
    (FitAfter names (name_in name))
begun_tail names limit words p kind None i = unnamed_tail names limit words p
begun_tail names limit words p kind (Some n) i = named_tail names limit words n.name p i.1

none_near : (names : Names) (next : TokenKind) → IsNoName (IsFree names) next → (following : Kinds) → Near next following → HasNoName names following
none_near names next none following near = λ first more same.
    elim near [
      | inl e ↦ let z = sym e ∙ same in absurd cc
      | inr m ↦ let z : next ∷ m.0 ≡ first ∷ more = sym m.1 ∙ same in let k : next ≡ first = cc in subst (IsNoName (IsFree names)) k none
    ]

begun_fits : (names : Names) (tokens : List Token) (from mid next : ℕ) (words : List PointerWord) (name : Option RawName)
    → TailBegun names tokens from mid next words name → (front : Kinds) (at : ℕ) → Spells tokens next at (λ rest. front ++ rest)
    → (following : Kinds) → Near (kind_or_end tokens at) following → FitAfter names (name_in name) (front ++ following)
begun_fits names tokens from mid next words (Some n) b front at here following near = tt
begun_fits names tokens from mid next words None b front at here following near =
    let n = refused_number tokens mid next [] b.spelled in
    let e : next ≡ mid = omega (arith, n) in
    none_near names (kind_or_end tokens next)
    (subst (λ (m : ℕ). IsNoName (IsFree names) (kind_or_end tokens m)) (sym e)
    (record { no_star = b.pointers.no_star; no_const = b.no_const; no_name = b.named }))
    (front ++ following) (near_start tokens next at front here following near)

begun_text : (words : List PointerWord) (name : Option (List ℕ)) (rest : Kinds)
    → pointers_text words (name_text name rest) ≡ pointers_text words (name_text name []) ++ rest
begun_text words name rest = sym (pointers_append words (name_text name []) rest ∙ ap (pointers_text words) (name_append name [] rest))

begun_spelled : (names : Names) (tokens : List Token) (from mid next : ℕ) (words : List PointerWord) (name : Option RawName)
    → TailBegun names tokens from mid next words name → Spells tokens from next (λ rest. pointers_text words (name_text (name_in name) rest))
begun_spelled names tokens from mid next words name b =
    spells_more tokens from mid next (pointers_text words) (name_text (name_in name)) b.pointers.spelled b.spelled

-- the bounds after them were refused
pub tail_stops : (names : Names) (limit : ℕ) (tokens : List Token) (from mid next : ℕ) (words : List PointerWord) (name : Option RawName)
    → TailBegun names tokens from mid next words name → (s : Stop) → Stops (Brackets names (Unit {0})) limit tokens next s
    → Stops (ParameterTails names) limit tokens from s
tail_stops names limit tokens from mid next words name b s r =
    stops_in (ParameterTails names) (Brackets names (Unit {0})) limit limit tokens from next (pointers_text words (name_text (name_in name) []))
    (spells_as tokens from next (λ rest. pointers_text words (name_text (name_in name) rest))
    (λ rest. pointers_text words (name_text (name_in name) []) ++ rest) (begun_spelled names tokens from mid next words name b)
    (begun_text words (name_in name)))
    (λ front at deep here x.
    tail_refused (ParameterTails names) (Brackets names (Unit {0})) limit limit (pointers_text words (name_text (name_in name) []))
    (tail_of words (name_in name)) (FitAfter names (name_in name)) (brackets_law names (Unit {0}))
    (begun_tail names limit words b.pointers.pointers (kind_or_end tokens mid) name b.named) front (kind_or_end tokens at) deep
    (λ following near. begun_fits names tokens from mid next words name b front at here following near) x) s r

-- a parameter's pointers, its name and its bounds were taken
pub record TailStands (names : Names) (limit : ℕ) (tokens : List Token) (from next : ℕ) (tail : ParameterTail) : Type 0 where
  pub spelled : Spells tokens from next ((ParameterTails names).spell tail)
  pub took : Took (ParameterTails names) limit tail (kind_or_end tokens next) false

pub tail_stands : (names : Names) (limit : ℕ) (tokens : List Token) (from mid next end : ℕ) (words : List PointerWord) (name : Option RawName)
    → TailBegun names tokens from mid next words name → (bs : List (Option Written)) → Spells tokens next end (brackets_text bs)
    → Took (Brackets names (Unit {0})) limit bs (kind_or_end tokens end) false → TailStands names limit tokens from end (tail_of words (name_in name) bs)
tail_stands names limit tokens from mid next end words name b bs sp t = record {
  spelled = spells_more tokens from next end (λ rest. pointers_text words (name_text (name_in name) rest)) (brackets_text bs)
      (begun_spelled names tokens from mid next words name b) sp;
  took =
      tail_took (ParameterTails names) (Brackets names (Unit {0})) limit limit (pointers_text words (name_text (name_in name) []))
      (tail_of words (name_in name)) (FitAfter names (name_in name)) (brackets_law names (Unit {0}))
      (begun_tail names limit words b.pointers.pointers (kind_or_end tokens mid) name b.named) bs (kind_or_end tokens end) false
      (λ following near.
      subst (FitAfter names (name_in name)) (brackets_law names (Unit {0}) bs [] following)
      (begun_fits names tokens from mid next words name b (brackets_text bs []) end
      (front_of (Brackets names (Unit {0})) (brackets_law names (Unit {0})) tokens next end bs sp) following near)) t;
}

-- specifiers were taken, after which the rest of a parameter begins
abbrev pub SpecsTaken : Names → ℕ → List Token → ℕ → Taken RawSpecs → Type 0
SpecsTaken names limit tokens from words = IsTaken (FileSpecs names) specs limit tokens from false words

has_limit : (names : Names) (limit inner : ℕ) → limit ≡ 1 + inner → 1 ≤ inner → HasLimit (parameter_pair names) limit inner
has_limit names limit inner less some = (less, some, omega arith)

-- what follows the specifiers was refused
pub after_specs_stops : (names : Names) (limit inner : ℕ) → limit ≡ 1 + inner → 1 ≤ inner
    → (tokens : List Token) (from : ℕ) (words : Taken RawSpecs) → SpecsTaken names inner tokens from words
    → (s : Stop) → Stops (ParameterTails names) inner tokens words.next s → Stops (ParameterClass names) limit tokens from s
after_specs_stops names limit inner less some tokens from words t s r =
    stops_in (ParameterClass names) (ParameterTails names) limit inner tokens from words.next (specs_text (specs words.tree) [])
    (front_of (FileSpecs names) (file_specs_law names) tokens from words.next (specs words.tree) t.spelled)
    (λ front at deep here x.
    pair_then_refused (parameter_pair names) limit inner (has_limit names limit inner less some) (specs words.tree) (kind_or_end tokens words.next) false t.took
    (λ reported. absurd (false≢true reported)) front (kind_or_end tokens at) deep (first_front tokens words.next at front here) x) s r

-- the refusal lies within the parameter
pub stopped : (names : Names) (limit : ℕ) (tokens : List Token) (from : ℕ) (s : Stop) → Stops (ParameterClass names) limit tokens from s
    → ParameterStops names limit tokens from s
stopped names limit tokens from stop.Memory r = r
stopped names limit tokens from (stop.Refused at reason) r = inl r

-- a whole parameter was taken
pub record ParameterStands (names : Names) (limit : ℕ) (tokens : List Token) (from next : ℕ) (deep : Bool) (whole : Parameter) : Type 0 where
  pub spelled : Spells tokens from next (parameter_text whole)
  pub took : Took (ParameterClass names) limit whole (kind_or_end tokens next) deep

pub parameter_stands : (names : Names) (limit inner : ℕ) → limit ≡ 1 + inner → 1 ≤ inner
    → (tokens : List Token) (from next : ℕ) (words : Taken RawSpecs) → SpecsTaken names inner tokens from words
    → (tail : ParameterTail) → TailStands names inner tokens words.next next tail
    → ParameterStands names limit tokens from next false (parameter_of (specs words.tree) tail)
parameter_stands names limit inner less some tokens from next words t tail d = record {
  spelled = spells_more tokens from words.next next (specs_text (specs words.tree)) ((ParameterTails names).spell tail) t.spelled d.spelled;
  took =
      pair_then_took (parameter_pair names) limit inner (has_limit names limit inner less some) (specs words.tree) (kind_or_end tokens words.next) false t.took
      (λ reported. absurd (false≢true reported)) tail (kind_or_end tokens next) false
      (first_front tokens words.next next ((ParameterTails names).spell tail [])
      (front_of (ParameterTails names) (parameter_tails_law names) tokens words.next next tail d.spelled)) d.took;
}

-- the parameter that was taken
pub parameter_taken : (names : Names) (limit : ℕ) (tokens : List Token) (from next : ℕ) (whole : Parameter)
    → ParameterStands names limit tokens from next false whole → (taken : Taken RawParameter) → parameter taken.tree ≡ whole
    → taken.height ≡ parameter_height whole → taken.next ≡ next → IsTaken (ParameterClass names) parameter limit tokens from false taken
parameter_taken names limit tokens from next whole p taken is tall number = record {
  height_is = tall ∙ ap parameter_height (sym is);
  spelled = subst (λ (n : ℕ). Spells tokens from n (parameter_text (parameter taken.tree))) (sym number)
      (subst (λ (x : Parameter). Spells tokens from next (parameter_text x)) (sym is) p.spelled);
  took =
      subst (λ (n : ℕ). Took (ParameterClass names) limit (parameter taken.tree) (kind_or_end tokens n) false) (sym number)
      (subst (λ (x : Parameter). Took (ParameterClass names) limit x (kind_or_end tokens next) false) (sym is) p.took);
}

-- no `const` follows the specifiers and the pointers
pub pointers_no_const : (names : Names) (limit : ℕ) (tokens : List Token) (from mid : ℕ) (taken : Taken RawSpecs) (words : List PointerWord)
    → SpecsTaken names limit tokens from taken → ArePointers tokens taken.next mid words → kind_or_end tokens mid ≡ token.Keyword keyword.Const → ⊥
pointers_no_const names limit tokens from mid taken words t p k =
    let none = p.no_const k in
    let n = refused_number tokens taken.next mid [] (subst (λ (ws : List PointerWord). Spells tokens taken.next mid (pointers_text ws)) none p.spelled) in
    let e : taken.next ≡ mid = omega (arith, n) in
    specs_no_const names limit (specs taken.tree) (kind_or_end tokens taken.next) t.took (ap (kind_or_end tokens) e ∙ k)

-- a parenthesis is refused where a name is allowed
parenthesis_after : (names : Names) (limit inner : ℕ) → limit ≡ 1 + inner → 1 ≤ inner
    → (tokens : List Token) (from mid : ℕ) (taken : Taken RawSpecs) → SpecsTaken names inner tokens from taken
    → (words : List PointerWord) → ArePointers tokens taken.next mid words → kind_or_end tokens mid ≡ token.Punctuator punctuator.OpenParenthesis
    → ParameterStands names limit tokens from mid false (parameter_of (specs taken.tree) (tail_of words None []))
parenthesis_after names limit inner less some tokens from mid taken t words p k =
    parameter_stands names limit inner less some tokens from mid taken t (tail_of words None [])
    (tail_stands names inner tokens taken.next mid mid mid words None
    (record {
      pointers = p;
      no_const = λ c. let z = sym k ∙ c in cc;
      named = λ name n free. let z = sym k ∙ n in cc;
      spelled = spells_none tokens mid p.spelled.within;
    }) []
    (spells_none tokens mid p.spelled.within) (brackets_end names (Unit {0}) inner (kind_or_end tokens mid) (λ b. let z = sym k ∙ b in cc)))

parenthesis_unended : (next : TokenKind) → next ≡ token.Punctuator punctuator.OpenParenthesis → ends_parameter next ≡ false
parenthesis_unended next k = ap ends_parameter k

pub name_stops : (names : Names) (limit inner : ℕ) → limit ≡ 1 + inner → 1 ≤ inner
    → (tokens : List Token) (from mid : ℕ) (taken : Taken RawSpecs) → SpecsTaken names inner tokens from taken
    → (words : List PointerWord) → ArePointers tokens taken.next mid words → (s : Stop) → ParameterNameAnswer names tokens mid (Err s)
    → ParameterStops names limit tokens from s
name_stops names limit inner less some tokens from mid taken t words p stop.Memory r = tt
name_stops names limit inner less some tokens from mid taken t words p (stop.Refused at reason) r =
    let w = parenthesis_after names limit inner less some tokens from mid taken t words p r.2 in
    inr (subst (λ (n : ℕ). IsRefusedAfter names limit tokens from n reason) (sym r.0)
    (record {
      whole = parameter_of (specs taken.tree) (tail_of words None []);
      spelled = w.spelled;
      unended = parenthesis_unended (kind_or_end tokens mid) r.2;
      took = subst (λ (d : Bool). Took (ParameterClass names) limit (parameter_of (specs taken.tree) (tail_of words None [])) (kind_or_end tokens mid) d)
          (sym r.1) w.took;
    }))

-- nothing of a parameter after its specifiers begins with a brace
no_tail_brace : (ps : List PointerWord) (o : Option (List ℕ)) (bs : List (Option Written)) (after more : Kinds)
    → pointers_text ps (name_text o (brackets_text bs after)) ≡ token.Punctuator punctuator.OpenBrace ∷ more
    → (tail_of ps o bs ≡ tail_of [] None []) × (after ≡ token.Punctuator punctuator.OpenBrace ∷ more)
no_tail_brace [] None [] after more same = (refl, same)
no_tail_brace [] None (b ∷ bs) after more same = absurd cc
no_tail_brace [] (Some n) bs after more same = absurd cc
no_tail_brace (pointer.Star ∷ ps) o bs after more same = absurd cc
no_tail_brace (pointer.Const ∷ ps) o bs after more same = absurd cc

no_tail : (ps : List PointerWord) (o : Option (List ℕ)) (bs : List (Option Written)) (after : Kinds)
    → pointers_text ps (name_text o (brackets_text bs after)) ≡ [] → (tail_of ps o bs ≡ tail_of [] None []) × (after ≡ [])
no_tail [] None [] after same = (refl, same)
no_tail [] None (b ∷ bs) after same = absurd cc
no_tail [] (Some n) bs after same = absurd cc
no_tail (p ∷ ps) o bs after same = absurd cc

abbrev brace : TokenKind
brace = token.Punctuator punctuator.OpenBrace

nothing_left : (ps : List PointerWord) (o : Option (List ℕ)) (bs : List (Option Written)) (after following : Kinds) → Follows ends_parameter after
    → Near brace following → pointers_text ps (name_text o (brackets_text bs after)) ≡ following
    → (tail_of ps o bs ≡ tail_of [] None []) × (after ≡ following)
nothing_left ps o bs after following shut near same =
    elim near [
      | inl e ↦ let k = no_tail ps o bs after (same ∙ e) in (k.0, k.1 ∙ sym e)
      | inr m ↦ let k = no_tail_brace ps o bs after m.0 (same ∙ m.1) in absurd (false≢true (subst (Follows ends_parameter) k.1 shut))
    ]

words_only : (names : Names) (limit inner : ℕ) → limit ≡ 1 + inner → (s : Specs) (deep : Bool) → Took (FileSpecs names) inner s brace deep
    → (other : Parameter) (after following : Kinds) → IsParameter names other → Follows ends_parameter after → Near brace following
    → parameter_text other after ≡ specs_text s following
    → ((other ≡ parameter_of s (tail_of [] None [])) × (after ≡ following)) ⊎ IsOver (ParameterClass names) limit deep other following
words_only names limit inner less s deep t other after following is shut near same =
    elim (t.only other.specs (pointers_text other.pointers (name_text other.name (brackets_text other.bounds after))) following is.specs
    (tail_end other.pointers other.name other.bounds after is.pointers shut) near same) [
      | inl e ↦
          let k = nothing_left other.pointers other.name other.bounds after following shut near e.1 in
          inl (ap (λ (x : Specs). parameter_of x (tail_of other.pointers other.name other.bounds)) e.0 ∙ ap (parameter_of s) k.0, k.1)
      | inr over ↦ let h = over.high in inr (record { reported = over.reported; high = omega (arith, h, less); onward = over.onward })
    ]

brace_further : (names : Names) (s : Specs) → Begins (FileSpecs names) (specs_text s (brace ∷ []))
    → Begins (ParameterClass names) (specs_text s (brace ∷ []))
brace_further names s b = record {
  phrase = parameter_of b.phrase (tail_of [] None []);
  more = b.more;
  is_phrase = record { specs = b.is_phrase; pointers = refl; free = tt; bounds = tt };
  spelled = b.spelled;
}

-- specifiers before a brace are a whole parameter
brace_took : (names : Names) (limit inner : ℕ) → limit ≡ 1 + inner → (s : Specs) (deep : Bool) → Took (FileSpecs names) inner s brace deep
    → Took (ParameterClass names) limit (parameter_of s (tail_of [] None [])) brace deep
brace_took names limit inner less s deep t = record {
  is_phrase = record { specs = t.is_phrase; pointers = refl; free = tt; bounds = tt };
  low = let l = t.low in omega (arith, l, less);
  only = λ other after following is shut near same. words_only names limit inner less s deep t other after following is shut near same;
  further = λ reported. brace_further names s (t.further reported);
  joined = λ reported more shut. false≢true shut;
}

brace_after : (names : Names) (limit inner : ℕ) → limit ≡ 1 + inner
    → (tokens : List Token) (from at : ℕ) (reason : Reason) → IsBraceRefused (FileSpecs names) inner tokens from at reason
    → IsRefusedAfter names limit tokens from at reason
brace_after names limit inner less tokens from at reason b = record {
  whole = parameter_of b.phrase (tail_of [] None []);
  spelled = b.spelled;
  unended = ap ends_parameter b.brace;
  took = subst (λ (x : TokenKind). Took (ParameterClass names) limit (parameter_of b.phrase (tail_of [] None [])) x (is_deep reason)) (sym b.brace)
      (brace_took names limit inner less b.phrase (is_deep reason) b.took);
}

-- the specifiers were refused
pub specs_stop : (names : Names) (limit inner : ℕ) → limit ≡ 1 + inner → 1 ≤ inner → (tokens : List Token) (from : ℕ) → from ≤ length tokens
    → (s : Stop) → StopsOrBrace (FileSpecs names) inner tokens from s → ParameterStops names limit tokens from s
specs_stop names limit inner less some tokens from within stop.Memory r = tt
specs_stop names limit inner less some tokens from within (stop.Refused at reason) r =
    elim r [
      | inl x ↦
          inl (pair_first_stops (parameter_pair names) limit inner (has_limit names limit inner less some) tokens from from (spells_none tokens from within)
          (stop.Refused at reason) x)
      | inr b ↦ inr (brace_after names limit inner less tokens from at reason b)
    ]
