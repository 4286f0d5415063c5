-- Specifiers outside blocks, and members: the result of each return. For the contracts of `specs`, `members` and their parts.
use Rattle.std.proofs.Common.{◌≡◌, ℕ, ◌+◌, ◌<◌, ◌≤◌, max, inl, inr, Bool, true, false, Option, Some, None, Result, Ok, Err, List, []}
use Rattle.std.proofs.Common.{◌∷◌, ◌++◌, length, refl, sym, ap, ◌∙◌, subst, arith, append_assoc, append-nil}
use Rattle.std.proofs.lemmas.Bool.{false≢true}
use Rattle.cs_ast.specs.declared.token.Token.{Token}
use Rattle.cs_ast.specs.declared.token.TokenKind.{TokenKind}
use Rattle.cs_ast.specs.declared.token.TokenKind.TheVariants as token
use Rattle.cs_ast.specs.declared.token.Keyword.TheVariants as keyword
use Rattle.cs_ast.specs.declared.token.Punctuator.TheVariants as punctuator
use Rattle.cs_ast.specs.declared.raw.declaration.RawSpecs.{RawSpecs}
use Rattle.cs_ast.specs.declared.raw.declaration.SpecWord.{SpecWord}
use Rattle.cs_ast.specs.declared.raw.name.RawName.{RawName}
use Rattle.cs_ast.specs.declared.raw.written_type.TypeWord.{TypeWord}
use Rattle.cs_ast.specs.declared.raw.written_type.TypeWord.TheVariants as word
use Rattle.cs_ast.specs.RawDeclarations.{Constant, Spec, Plain, Static, StructBody, Specs, NoSpec, MoreSpecs, Members}
use Rattle.cs_ast.specs.RawDeclarationView.{spec, specs, specs_list}
use Rattle.cs_ast.specs.RawFileHeight.{spec_height, specs_height}
use Rattle.cs_grammar.specs.declared.refusal.Reason.{Reason}
use Rattle.cs_grammar.specs.declared.refusal.Reason.TheVariants.{TooDeep}
use Rattle.cs_grammar.specs.declared.type_words.TypeSoFar.{TypeSoFar}
use Rattle.cs_grammar.specs.declared.type_words.TypeSoFar.TheVariants.{Nothing, Whole}
use Rattle.cs_grammar.specs.TypeWords.{Names, named_by, names_type, is_type}
use Rattle.cs_grammar.specs.TypesSoFar.{Describes, is_whole}
use Rattle.cs_grammar.proofs.WordsOfTypes.{named_more}
use Rattle.cs_grammar.specs.Text.{Kinds}
use Rattle.cs_grammar.specs.FileText.{name_text, spec_text, specs_text, members_text}
use Rattle.cs_grammar.specs.FilePhrases.{HasBody, words_of}
use Rattle.cs_grammar.specs.Parsing.{Class, Near, Took, Refused}
use Rattle.cs_grammar.specs.Composed.{Trailing}
use Rattle.cs_grammar.specs.DeclarationClasses.{IsQuiet, SpecElements, FileSpecs, Constants, MemberRows}
use Rattle.cs_grammar.proofs.FileTexts.{specs_append}
use Rattle.cs_grammar.proofs.TypeNames.{tag_word}
use Rattle.cs_grammar.proofs.SpecRows.{joined_specs, joined_text, joined_words, joined_tall, AreExact, exact_more, EndsQuiet, specs_took, specs_refused}
use Rattle.cs_grammar.proofs.SpecRows.{element_refused, static_exact, plain_exact}
use Rattle.cs_grammar.proofs.Bodies.{struct_exact, enum_exact, struct_refused, enum_refused, tag_missing}
use Rattle.cs_grammar.proofs.SmallRooms.{stuck_after, with_enum, enum_tag_full, enum_full}
use Rattle.cs_expr_parser.specs.Positions.{kind_or_end}
use Rattle.cs_expr_parser.specs.Parts.{Spells, IsRefused, is_deep}
use Rattle.cs_expr_parser.specs.Words.{names_some, word_of_tag}
use Rattle.cs_declarator_parser.specs.declared.source.Scope.TheVariants.{File}
use Rattle.cs_declarator_parser.specs.declared.specs.NextWord.{NextWord}
use Rattle.cs_expr_parser.specs.declared.stop.Stop.{Stop}
use Rattle.cs_expr_parser.specs.declared.stop.Stop.TheVariants as stop
use Rattle.cs_declarator_parser.specs.declared.stop.Taken.{Taken}
use Rattle.cs_declarator_parser.specs.Reasons.{plain_reason}
use Rattle.cs_declarator_parser.specs.Answers.{Stops, StopsOrBrace, IsTaken, IsExactly, IsBraceRefused}
use Rattle.cs_declarator_parser.specs.SpecWords.{NothingFits, HasNoTag, IsPlainWord, PlainAnswer, IsSpecTaken, IsElementRefused, IsEnumFull, ElementStops}
use Rattle.cs_declarator_parser.specs.SpecWords.{SpecAnswer}
use Rattle.cs_declarator_parser.specs.SpecWords.{IsStatic, IsReportedByTokens, tag_keyword, IsOpened, IsSpecOf, IsTagKeyword, IsTagged, enum_of, name_in}
use Rattle.cs_declarator_parser.specs.SpecWords.{number_after}
use Rattle.cs_declarator_parser.specs.DeclarationAnswers.{IsNameAt}
use Rattle.cs_expr_parser.proofs.Standing.{spells_one, spells_none, spells_more, spells_as}
use Rattle.cs_declarator_parser.proofs.PartStops.{plain_flat}
use Rattle.cs_expr_parser.proofs.SitesOfWords.{some_type, nothing_named}
use Rattle.cs_declarator_parser.proofs.StuckWords.{fresh_nothing, tag_unfit, tag_some, tag_spelled, tag_taken}
use Rattle.cs_declarator_parser.proofs.BlockSpecSites.{stuck_at}

-- the words so far
pub record SpecsSoFar (names : Names) (tokens : List Token) (from next : ℕ) (so_far : TypeSoFar) (items : List SpecWord) (tall : ℕ) : Type 0 where
  pub spelled : Spells tokens from next (specs_text (specs_list items))
  pub exact : AreExact names (specs_list items)
  pub quiet : (following : Kinds) → Near (kind_or_end tokens next) following → EndsQuiet (specs_list items) following
  pub described : Describes names so_far (words_of (specs_list items))
  pub height_is : tall ≡ specs_height (specs_list items)

pub specs_none : (names : Names) (tokens : List Token) (from : ℕ) → from ≤ length tokens → SpecsSoFar names tokens from from Nothing [] 0
specs_none names tokens from within = record {
  spelled = spells_none tokens from within;
  exact = tt;
  quiet = λ following near. tt;
  described = refl;
  height_is = refl;
}

list_more : (items : List SpecWord) (w : SpecWord) → specs_list (items ++ w ∷ []) ≡ joined_specs (specs_list items) (MoreSpecs (spec w) NoSpec)
list_more [] w = refl
list_more (i ∷ is) w = ap (MoreSpecs (spec i)) (list_more is w)

quiet_more : (done : Specs) (s : Spec) (following : Kinds) → IsQuiet s following → EndsQuiet (joined_specs done (MoreSpecs s NoSpec)) following
quiet_more NoSpec s following q = q
quiet_more (MoreSpecs d NoSpec) s following q = q
quiet_more (MoreSpecs d (MoreSpecs e es)) s following q = quiet_more (MoreSpecs e es) s following q

pub spec_more : (names : Names) (limit : ℕ) (tokens : List Token) (from next : ℕ) (so_far : TypeSoFar) (items more : List SpecWord) (tall : ℕ)
    (found : NextWord) → SpecsSoFar names tokens from next so_far items tall → IsSpecTaken names limit tokens next so_far found
    → more ≡ items ++ found.word ∷ [] → SpecsSoFar names tokens from found.next found.so_far more (max tall found.height)
spec_more names limit tokens from next so_far items more tall found w p is =
    let all : specs_list more ≡ joined_specs (specs_list items) (MoreSpecs (spec found.word) NoSpec) = ap specs_list is ∙ list_more items found.word in
    let one = MoreSpecs (spec found.word) NoSpec in
    record {
      spelled =
          subst (λ (x : Specs). Spells tokens from found.next (specs_text x)) (sym all)
          (spells_as tokens from found.next (λ rest. specs_text (specs_list items) (spec_text (spec found.word) rest))
          (specs_text (joined_specs (specs_list items) one))
          (spells_more tokens from next found.next (specs_text (specs_list items)) (spec_text (spec found.word)) w.spelled p.spelled)
          (λ rest. sym (joined_text (specs_list items) one rest)));
      exact = subst (AreExact names) (sym all) (exact_more names (specs_list items) (spec found.word) w.exact p.body p.reported);
      quiet = λ following near. subst (λ (x : Specs). EndsQuiet x following) (sym all)
          (quiet_more (specs_list items) (spec found.word) following (p.quiet following near));
      described =
          subst (λ (x : Specs). Describes names found.so_far (words_of x)) (sym all)
          (subst (Describes names found.so_far) (sym (joined_words (specs_list items) one)) (p.described (words_of (specs_list items)) w.described));
      height_is =
          let h = joined_tall (specs_list items) one in
          let a = w.height_is in
          let b = p.height_is in
          let e : max tall found.height ≡ specs_height (joined_specs (specs_list items) one) = omega (arith, h, a, b) in
          e ∙ ap specs_height (sym all);
    }

unnamed_type : (names : Names) (ws : List TypeWord) → named_by ws ≡ [] → is_type names ws ≡ false
unnamed_type names ws none = ap (names_type names) none

-- the words name no type, and no specifier that begins with the token fits
pub specs_stop : (names : Names) (limit : ℕ) → 1 ≤ limit
    → (tokens : List Token) (from next : ℕ) (so_far : TypeSoFar) (items : List SpecWord) (tall : ℕ) (s : Stop) → tall ≤ limit
    → SpecsSoFar names tokens from next so_far items tall → names_some so_far ≡ false → NothingFits names so_far (kind_or_end tokens next)
    → (kind_or_end tokens next ≡ token.Keyword keyword.Static → ⊥) → s ≡ stop.Refused next (plain_reason File (kind_or_end tokens next))
    → StopsOrBrace (FileSpecs names) limit tokens from s
specs_stop names limit some tokens from next so_far items tall s low w none stuck other is =
    let ws = words_of (specs_list items) in
    let n = nothing_named names so_far ws w.described none in
    let h = w.height_is in
    subst (StopsOrBrace (FileSpecs names) limit tokens from) (sym is) (inl (record {
      front = specs_text (specs_list items) [];
      spelled = spells_as tokens from next (specs_text (specs_list items)) (λ rest. specs_text (specs_list items) [] ++ rest) w.spelled
          (λ rest. sym (specs_append (specs_list items) [] rest));
      refused =
          subst (λ (d : Bool). Refused (FileSpecs names) limit (specs_text (specs_list items) []) (kind_or_end tokens next) d)
          (sym (plain_flat File (kind_or_end tokens next)))
          (specs_refused names limit (specs_list items) (kind_or_end tokens next) (omega (arith, h, low)) some (unnamed_type names ws n) n w.exact
          (stuck_after names ws (kind_or_end tokens next) (stuck_at names ws (kind_or_end tokens next) (stuck ws w.described)) other) w.quiet);
    }))

-- the words are those of a type
pub specs_taken : (names : Names) (limit : ℕ) (tokens : List Token) (from next : ℕ) (so_far : TypeSoFar) (tall : ℕ) (taken : Taken RawSpecs)
    → tall ≤ limit → SpecsSoFar names tokens from next so_far taken.tree.words.items tall → names_some so_far ≡ true
    → NothingFits names so_far (kind_or_end tokens next) → (kind_or_end tokens next ≡ token.Keyword keyword.Static → ⊥) → taken.height ≡ tall
    → taken.next ≡ next → IsTaken (FileSpecs names) specs limit tokens from false taken
specs_taken names limit tokens from next so_far tall taken low w named stuck other tallness number =
    let all = specs_list taken.tree.words.items in
    let h = w.height_is in
    record {
      height_is = tallness ∙ h;
      spelled = subst (λ (n : ℕ). Spells tokens from n (specs_text all)) (sym number) w.spelled;
      took =
          subst (λ (n : ℕ). Took (FileSpecs names) limit all (kind_or_end tokens n) false) (sym number)
          (specs_took names limit all (kind_or_end tokens next) (omega (arith, h, low)) (some_type names so_far (words_of all) w.described named) w.exact
          (stuck_after names (words_of all) (kind_or_end tokens next)
          (stuck_at names (words_of all) (kind_or_end tokens next) (stuck (words_of all) w.described)) other) w.quiet);
    }

same_tag : (is_struct : Bool) → tag_keyword is_struct ≡ tag_word is_struct
same_tag true = refl
same_tag false = refl

element_in : (names : Names) (limit : ℕ) (tokens : List Token) (from next : ℕ) (so_far : TypeSoFar) (items : List SpecWord) (tall : ℕ) → tall ≤ limit
    → SpecsSoFar names tokens from next so_far items tall → names_some so_far ≡ false
    → (refused : ℕ) (reason : Reason) → IsElementRefused names limit tokens next refused reason
    → IsRefused (FileSpecs names) limit tokens from refused reason
element_in names limit tokens from next so_far items tall low w none refused reason r =
    let h = w.height_is in
    record {
      front = specs_text (specs_list items) [] ++ (tag_word r.is_struct ∷ r.front);
      spelled =
          spells_as tokens from refused (λ rest. specs_text (specs_list items) (tag_keyword r.is_struct ∷ (r.front ++ rest)))
          (λ rest. (specs_text (specs_list items) [] ++ (tag_word r.is_struct ∷ r.front)) ++ rest)
          (spells_more tokens from next refused (specs_text (specs_list items)) (λ rest. tag_keyword r.is_struct ∷ (r.front ++ rest)) w.spelled r.spelled)
          (λ rest.
          ap (λ (x : TokenKind). specs_text (specs_list items) (x ∷ (r.front ++ rest))) (same_tag r.is_struct)
          ∙ sym (specs_append (specs_list items) [] (tag_word r.is_struct ∷ (r.front ++ rest)))
          ∙ sym (append_assoc (specs_text (specs_list items) []) (tag_word r.is_struct ∷ r.front) rest));
      refused =
          element_refused names limit (specs_list items) (omega (arith, h, low)) (nothing_named names so_far (words_of (specs_list items)) w.described none)
          w.exact r.is_struct r.front (kind_or_end tokens refused) (is_deep reason)
          (subst (λ (x : TokenKind). Refused (SpecElements names) limit (x ∷ r.front) (kind_or_end tokens refused) (is_deep reason)) (same_tag r.is_struct)
          r.refused_is);
    }

enum_in : (names : Names) (limit : ℕ) → 1 ≤ limit → (tokens : List Token) (from next : ℕ) (so_far : TypeSoFar) (items : List SpecWord) (tall : ℕ)
    → tall ≤ limit → SpecsSoFar names tokens from next so_far items tall → names_some so_far ≡ false
    → (refused : ℕ) (reason : Reason) → IsEnumFull limit tokens next refused reason → IsBraceRefused (FileSpecs names) limit tokens from refused reason
enum_in names limit some tokens from next so_far items tall low w none refused reason r =
    let h = w.height_is in
    let g = joined_tall (specs_list items) (MoreSpecs (Plain (word.Enum r.tag)) NoSpec) in
    record {
      phrase = with_enum (specs_list items) r.tag;
      spelled =
          spells_as tokens from refused (λ rest. specs_text (specs_list items) (tag_keyword false ∷ token.Name r.tag ∷ rest))
          (specs_text (with_enum (specs_list items) r.tag))
          (spells_more tokens from next refused (specs_text (specs_list items)) (λ rest. tag_keyword false ∷ token.Name r.tag ∷ rest) w.spelled r.spelled)
          (λ rest. sym (joined_text (specs_list items) (MoreSpecs (Plain (word.Enum r.tag)) NoSpec) rest));
      brace = r.brace;
      took =
          subst (λ (d : Bool). Took (FileSpecs names) limit (with_enum (specs_list items) r.tag) (token.Punctuator punctuator.OpenBrace) d) (sym r.deep)
          (enum_tag_full names limit (specs_list items) r.tag r.little (omega (arith, g, h, low, some))
          (nothing_named names so_far (words_of (specs_list items)) w.described none) w.exact);
    }

-- a word was refused
pub spec_stops : (names : Names) (limit : ℕ) → 1 ≤ limit
    → (tokens : List Token) (from next : ℕ) (so_far : TypeSoFar) (items : List SpecWord) (tall : ℕ) → tall ≤ limit
    → SpecsSoFar names tokens from next so_far items tall → (s : Stop) → SpecAnswer names limit tokens next so_far (Err s)
    → StopsOrBrace (FileSpecs names) limit tokens from s
spec_stops names limit some tokens from next so_far items tall low w stop.Memory a = tt
spec_stops names limit some tokens from next so_far items tall low w (stop.Refused refused reason) a =
    elim a.1 [
      | inl r ↦ inl (element_in names limit tokens from next so_far items tall low w a.0 refused reason r)
      | inr r ↦ inr (enum_in names limit some tokens from next so_far items tall low w a.0 refused reason r)
    ]

-- a word that was found
spec_found : (names : Names) (limit : ℕ) (tokens : List Token) (at : ℕ) (so_far : TypeSoFar) (found : NextWord) (s : Spec) → spec found.word ≡ s
    → found.height ≡ spec_height s → found.height ≤ limit → at < found.next → Spells tokens at found.next (spec_text s) → HasBody names s
    → IsReportedByTokens names s → ((following : Kinds) → Near (kind_or_end tokens found.next) following → IsQuiet s following)
    → ((before : List TypeWord) → Describes names so_far before → Describes names found.so_far (before ++ words_of (MoreSpecs s NoSpec)))
    → IsSpecTaken names limit tokens at so_far found
spec_found names limit tokens at so_far found s is tall low later sp body reported quiet described = record {
  height_is = tall ∙ ap spec_height (sym is);
  low = low;
  spelled = subst (λ (x : Spec). Spells tokens at found.next (spec_text x)) (sym is) sp;
  later = later;
  body = subst (HasBody names) (sym is) body;
  reported = subst (IsReportedByTokens names) (sym is) reported;
  quiet = λ following near. subst (λ (x : Spec). IsQuiet x following) (sym is) (quiet following near);
  described = λ before d. subst (λ (x : Spec). Describes names found.so_far (before ++ words_of (MoreSpecs x NoSpec))) (sym is) (described before d);
}

-- a word of a type
pub plain_found : (names : Names) (limit : ℕ) → 1 ≤ limit
    → (tokens : List Token) (at : ℕ) (so_far : TypeSoFar) (found : NextWord) (one : TypeWord) → IsPlainWord names tokens at so_far found one
    → IsSpecTaken names limit tokens at so_far found
plain_found names limit some tokens at so_far found one p =
    let h = p.height_is in
    spec_found names limit tokens at so_far found (Plain one) (ap spec p.word_is) p.height_is (omega (arith, h, some)) p.later p.spelled tt
    (plain_exact names one) p.quiet p.described

pub plain_answer : (names : Names) (limit : ℕ) → 1 ≤ limit
    → (tokens : List Token) (at : ℕ) (so_far : TypeSoFar) (answer : Result (Option NextWord) Stop) → HasNoTag (kind_or_end tokens at)
    → (kind_or_end tokens at ≡ token.Keyword keyword.Static → ⊥) → PlainAnswer names tokens at so_far answer
    → SpecAnswer names limit tokens at so_far answer
plain_answer names limit some tokens at so_far (Ok (Some found)) none other p = plain_found names limit some tokens at so_far found p.0 p.1
plain_answer names limit some tokens at so_far (Ok None) none other p = (p none, other)
plain_answer names limit some tokens at so_far (Err stop.Memory) none other p = tt
plain_answer names limit some tokens at so_far (Err (stop.Refused refused reason)) none other p = absurd p

-- `static`
pub static_found : (names : Names) (limit : ℕ) → 1 ≤ limit
    → (tokens : List Token) (at : ℕ) (so_far : TypeSoFar) (found : NextWord) → kind_or_end tokens at ≡ token.Keyword keyword.Static
    → IsStatic at so_far found → IsSpecTaken names limit tokens at so_far found
static_found names limit some tokens at so_far found k is =
    let tall = is.1 in
    let next = is.2 in
    spec_found names limit tokens at so_far found Static (ap spec is.0) is.1 (omega (arith, tall, some)) (omega (arith, next))
    (subst (λ (n : ℕ). Spells tokens at n (spec_text Static)) (sym is.2) (spells_one tokens at (token.Keyword keyword.Static) k (λ x. cc))) tt
    (static_exact names) (λ following near. tt)
    (λ before d. subst (λ (x : TypeSoFar). Describes names x (before ++ [])) (sym is.3) (subst (Describes names so_far) (sym (append-nil before)) d))

static_differs : (is_struct : Bool) → tag_keyword is_struct ≡ token.Keyword keyword.Static → ⊥
static_differs true e = cc
static_differs false e = cc

-- `struct` or `enum` after words that name a type
pub tag_none : (names : Names) (so_far : TypeSoFar) (next : TokenKind) (is_struct : Bool) → next ≡ tag_keyword is_struct → names_some so_far ≡ true
    → NothingFits names so_far next × (next ≡ token.Keyword keyword.Static → ⊥)
tag_none names so_far next is_struct k some = (tag_unfit names so_far next is_struct k some, λ e. static_differs is_struct (sym k ∙ e))

pub element_error : (names : Names) (limit : ℕ) (tokens : List Token) (at : ℕ) (so_far : TypeSoFar) (s : Stop) → names_some so_far ≡ false
    → ElementStops names limit tokens at s → SpecAnswer names limit tokens at so_far (Err s)
element_error names limit tokens at so_far stop.Memory none e = tt
element_error names limit tokens at so_far (stop.Refused refused reason) none e = (none, e)

pub element_found : (names : Names) (limit : ℕ) (tokens : List Token) (at : ℕ) (so_far : TypeSoFar) (found : NextWord) → names_some so_far ≡ false
    → IsSpecTaken names limit tokens at Nothing found → IsSpecTaken names limit tokens at so_far found
element_found names limit tokens at so_far found none e =
    subst (λ (x : TypeSoFar). IsSpecTaken names limit tokens at x found) (sym (fresh_nothing so_far none)) e

pub same_struct : (b is_struct : Bool) (kind : TokenKind) → kind ≡ tag_keyword b
    → ((is_struct ≡ true → kind ≡ token.Keyword keyword.Struct) × (kind ≡ token.Keyword keyword.Struct → is_struct ≡ true)) → b ≡ is_struct
same_struct true true kind s k = refl
same_struct true false kind s k = absurd (false≢true (k.1 s))
same_struct false true kind s k = absurd (let z = sym s ∙ k.0 refl in cc)
same_struct false false kind s k = refl

-- which of the two keywords it is
pub with_struct : (tokens : List Token) (at brace : ℕ) (tag : Option (List ℕ)) (is_struct : Bool) → IsOpened tokens at brace tag
    → ((is_struct ≡ true → kind_or_end tokens at ≡ token.Keyword keyword.Struct)
    × (kind_or_end tokens at ≡ token.Keyword keyword.Struct → is_struct ≡ true))
    → Spells tokens at (brace + 1) (λ rest. tag_keyword is_struct ∷ name_text tag (token.Punctuator punctuator.OpenBrace ∷ rest))
with_struct tokens at brace tag is_struct o k =
    let e : o.is_struct ≡ is_struct = same_struct o.is_struct is_struct (kind_or_end tokens at) o.stands k in
    subst (λ (b : Bool). Spells tokens at (brace + 1) (λ rest. tag_keyword b ∷ name_text tag (token.Punctuator punctuator.OpenBrace ∷ rest))) e
    (spells_more tokens at brace (brace + 1) (λ rest. tag_keyword o.is_struct ∷ name_text tag rest) (λ rest. token.Punctuator punctuator.OpenBrace ∷ rest)
    o.spelled (spells_one tokens brace (token.Punctuator punctuator.OpenBrace) o.opening (λ x. cc)))

name_append : (tag : Option (List ℕ)) (x y : Kinds) → name_text tag (x ++ y) ≡ name_text tag x ++ y
name_append None x y = refl
name_append (Some n) x y = refl

-- the first tokens of a type with a body, and a refusal inside that
body_refused : (names : Names) (limit inner : ℕ) (D : Class) (is_struct : Bool) (tag : Option (List ℕ))
    → ((front : Kinds) (next : TokenKind) (deep : Bool) → Refused D inner front next deep
    → Refused (SpecElements names) limit (tag_keyword is_struct ∷ (name_text tag (token.Punctuator punctuator.OpenBrace ∷ []) ++ front)) next deep)
    → (tokens : List Token) (at mid : ℕ)
    → Spells tokens at mid (λ rest. tag_keyword is_struct ∷ name_text tag (token.Punctuator punctuator.OpenBrace ∷ rest))
    → (refused : ℕ) (reason : Reason) → IsRefused D inner tokens mid refused reason → IsElementRefused names limit tokens at refused reason
body_refused names limit inner D is_struct tag lift tokens at mid sp refused reason r = record {
  is_struct = is_struct;
  front = name_text tag (token.Punctuator punctuator.OpenBrace ∷ []) ++ r.front;
  spelled =
      spells_as tokens at refused (λ rest. tag_keyword is_struct ∷ name_text tag (token.Punctuator punctuator.OpenBrace ∷ (r.front ++ rest)))
      (λ rest. tag_keyword is_struct ∷ ((name_text tag (token.Punctuator punctuator.OpenBrace ∷ []) ++ r.front) ++ rest))
      (spells_more tokens at mid refused (λ rest. tag_keyword is_struct ∷ name_text tag (token.Punctuator punctuator.OpenBrace ∷ rest))
      (λ rest. r.front ++ rest) sp r.spelled)
      (λ rest.
      ap (λ (x : Kinds). tag_keyword is_struct ∷ x) (name_append tag (token.Punctuator punctuator.OpenBrace ∷ []) (r.front ++ rest)
      ∙ sym (append_assoc (name_text tag (token.Punctuator punctuator.OpenBrace ∷ [])) r.front rest)));
  refused_is = lift r.front (kind_or_end tokens refused) (is_deep reason) r.refused;
}

body_stops : (names : Names) (limit inner : ℕ) (D : Class) (is_struct : Bool) (tag : Option (List ℕ))
    → ((front : Kinds) (next : TokenKind) (deep : Bool) → Refused D inner front next deep
    → Refused (SpecElements names) limit (tag_keyword is_struct ∷ (name_text tag (token.Punctuator punctuator.OpenBrace ∷ []) ++ front)) next deep)
    → (tokens : List Token) (at mid : ℕ)
    → Spells tokens at mid (λ rest. tag_keyword is_struct ∷ name_text tag (token.Punctuator punctuator.OpenBrace ∷ rest))
    → (s : Stop) → Stops D inner tokens mid s → ElementStops names limit tokens at s
body_stops names limit inner D is_struct tag lift tokens at mid sp stop.Memory r = tt
body_stops names limit inner D is_struct tag lift tokens at mid sp (stop.Refused refused reason) r =
    inl (body_refused names limit inner D is_struct tag lift tokens at mid sp refused reason r)

-- members or constants were refused
pub struct_stops : (names : Names) (limit inner : ℕ) → limit ≡ 1 + inner
    → (tag : Option (List ℕ)) (tokens : List Token) (at mid : ℕ)
    → Spells tokens at mid (λ rest. tag_keyword true ∷ name_text tag (token.Punctuator punctuator.OpenBrace ∷ rest))
    → (s : Stop) → Stops (MemberRows names) inner tokens mid s → ElementStops names limit tokens at s
struct_stops names limit inner less tag tokens at mid sp s r =
    body_stops names limit inner (MemberRows names) true tag (λ front next deep x. struct_refused names limit inner less tag front next deep x) tokens at mid
    sp s r

pub enum_stops : (names : Names) (limit inner : ℕ) → limit ≡ 1 + inner → 1 ≤ inner
    → (tag : Option (List ℕ)) (tokens : List Token) (at mid : ℕ)
    → Spells tokens at mid (λ rest. tag_keyword false ∷ name_text tag (token.Punctuator punctuator.OpenBrace ∷ rest))
    → (s : Stop) → Stops (Trailing (Constants names) (token.Punctuator punctuator.CloseBrace)) inner tokens mid s → ElementStops names limit tokens at s
enum_stops names limit inner less some tag tokens at mid sp s r =
    body_stops names limit inner (Trailing (Constants names) (token.Punctuator punctuator.CloseBrace)) false tag
    (λ front next deep x. enum_refused names limit inner less some tag front next deep x) tokens at mid sp s r

-- the limit doesn't allow constants
pub enum_little : (names : Names) (limit : ℕ) → 1 ≤ limit → limit < 2
    → (tag : Option (List ℕ)) (tokens : List Token) (at brace : ℕ) → Spells tokens at brace (λ rest. tag_keyword false ∷ name_text tag rest)
    → kind_or_end tokens brace ≡ token.Punctuator punctuator.OpenBrace → ElementStops names limit tokens at (stop.Refused brace TooDeep)
enum_little names limit some little None tokens at brace sp k = inl (record {
  is_struct = false;
  front = [];
  spelled = sp;
  refused_is = subst (λ (x : TokenKind). Refused (SpecElements names) limit (tag_keyword false ∷ []) x true) (sym k) (enum_full names limit little some);
})
enum_little names limit some little (Some tag) tokens at brace sp k = inr (record { tag = tag; spelled = sp; brace = k; little = little; deep = refl })

struct_whole : (before : List TypeWord) (names : Names) (w : TypeWord) → named_by (w ∷ []) ≡ w ∷ [] → is_whole names w ≡ true
    → named_by before ≡ [] → Describes names Whole (before ++ w ∷ [])
struct_whole before names w n is none = (w, named_more before (w ∷ []) ∙ ap (λ (x : List TypeWord). x ++ named_by (w ∷ [])) none ∙ n, is)

pub struct_found : (names : Names) (limit inner : ℕ) → limit ≡ 1 + inner → (tag : Option (List ℕ)) (tokens : List Token) (at mid : ℕ) → at < mid
    → Spells tokens at mid (λ rest. tag_keyword true ∷ name_text tag (token.Punctuator punctuator.OpenBrace ∷ rest))
    → {A : Type 0} (view : A → Members) (body : Taken A) → IsExactly (MemberRows names) view inner tokens mid body
    → (found : NextWord) → IsSpecOf (StructBody tag (view body.tree)) found → found.height ≡ body.height + 1 → found.next ≡ body.next
    → IsSpecTaken names limit tokens at Nothing found
struct_found names limit inner less tag tokens at mid later sp view body b found is tall next =
    let h = b.height_is in
    let l = b.exactly.low in
    let o = b.spelled.onward in
    spec_found names limit tokens at Nothing found (StructBody tag (view body.tree)) is.word_is (omega (arith, h, tall)) (omega (arith, h, l, tall, less))
    (omega (arith, o, later, next))
    (subst (λ (n : ℕ). Spells tokens at n (spec_text (StructBody tag (view body.tree)))) (sym next)
    (spells_more tokens at mid body.next (λ rest. tag_keyword true ∷ name_text tag (token.Punctuator punctuator.OpenBrace ∷ rest))
    (λ rest. members_text (view body.tree) (token.Punctuator punctuator.CloseBrace ∷ rest)) sp b.spelled))
    b.exactly.is_phrase (struct_exact names inner tag (view body.tree) b.exactly) (λ following near. tt)
    (λ before none.
    subst (λ (x : TypeSoFar). Describes names x (before ++ word.Struct [] ∷ [])) (sym is.whole)
    (struct_whole before names (word.Struct []) refl refl none))

pub enum_found : (names : Names) (limit inner : ℕ) → limit ≡ 1 + inner → (tag : Option (List ℕ)) (tokens : List Token) (at mid : ℕ) → at < mid
    → Spells tokens at mid (λ rest. tag_keyword false ∷ name_text tag (token.Punctuator punctuator.OpenBrace ∷ rest))
    → {A : Type 0} (view : A → List Constant × Bool) (body : Taken A)
    → IsExactly (Trailing (Constants names) (token.Punctuator punctuator.CloseBrace)) view inner tokens mid body
    → (found : NextWord) → IsSpecOf (enum_of tag (view body.tree)) found → found.height ≡ body.height + 1 → found.next ≡ body.next
    → IsSpecTaken names limit tokens at Nothing found
enum_found names limit inner less tag tokens at mid later sp view body b found is tall next =
    let h = b.height_is in
    let l = b.exactly.low in
    let o = b.spelled.onward in
    spec_found names limit tokens at Nothing found (enum_of tag (view body.tree)) is.word_is (omega (arith, h, tall)) (omega (arith, h, l, tall, less))
    (omega (arith, o, later, next))
    (subst (λ (n : ℕ). Spells tokens at n (spec_text (enum_of tag (view body.tree)))) (sym next)
    (spells_more tokens at mid body.next (λ rest. tag_keyword false ∷ name_text tag (token.Punctuator punctuator.OpenBrace ∷ rest))
    ((Trailing (Constants names) (token.Punctuator punctuator.CloseBrace)).spell (view body.tree)) sp b.spelled))
    b.exactly.is_phrase (enum_exact names inner tag (view body.tree) b.exactly) (λ following near. tt)
    (λ before none.
    subst (λ (x : TypeSoFar). Describes names x (before ++ word.Enum [] ∷ [])) (sym is.whole) (struct_whole before names (word.Enum []) refl refl none))

-- a brace follows `struct` or `enum` and its tag
pub opened_at : (tokens : List Token) (at brace : ℕ) (tag : Option RawName) → IsTagKeyword (kind_or_end tokens at)
    → IsNameAt (λ name. Unit {0}) (kind_or_end tokens (at + 1)) tag → brace ≡ number_after at (name_in tag)
    → kind_or_end tokens brace ≡ token.Punctuator punctuator.OpenBrace → IsOpened tokens at brace (name_in tag)
opened_at tokens at brace None k named number b = record {
  is_struct = k.0;
  stands = k.1;
  spelled = subst (λ (n : ℕ). Spells tokens at n (λ rest. tag_keyword k.0 ∷ rest)) (sym number)
      (spells_one tokens at (tag_keyword k.0) k.1 (tag_some k.0));
  opening = b;
}
opened_at tokens at brace (Some tag) k named number b = record {
  is_struct = k.0;
  stands = k.1;
  spelled = subst (λ (n : ℕ). Spells tokens at n (λ rest. tag_keyword k.0 ∷ token.Name tag.name ∷ rest)) (sym number)
      (tag_spelled tokens at k.0 tag.name k.1 named.0);
  opening = b;
}

-- only a tag
pub tagged_found : (names : Names) (limit : ℕ) → 1 ≤ limit
    → (tokens : List Token) (at following : ℕ) (tag : Option RawName) (name : RawName) → tag ≡ Some name → IsTagKeyword (kind_or_end tokens at)
    → IsNameAt (λ name. Unit {0}) (kind_or_end tokens (at + 1)) tag → following ≡ number_after at (name_in tag)
    → (kind_or_end tokens following ≡ token.Punctuator punctuator.OpenBrace → ⊥)
    → (found : NextWord) → IsTagged (kind_or_end tokens at) name.name found → found.height ≡ 1 → found.next ≡ at + 2
    → IsSpecTaken names limit tokens at Nothing found
tagged_found names limit some tokens at following tag name is k named number other found t tall next =
    let n : IsNameAt (λ name. Unit {0}) (kind_or_end tokens (at + 1)) (Some name) =
    subst (IsNameAt (λ name. Unit {0}) (kind_or_end tokens (at + 1))) is named in
    let e : following ≡ at + 2 = number ∙ ap (λ (x : Option RawName). number_after at (name_in x)) is in
    plain_found names limit some tokens at Nothing found (word_of_tag k.0 name.name)
    (tag_taken names tokens at k.0 name.name found k.1 n.0 (λ b. other (ap (kind_or_end tokens) e ∙ b)) t tall next)

-- neither a tag nor a brace
pub untagged_stops : (names : Names) (limit : ℕ) → 1 ≤ limit → (tokens : List Token) (at following : ℕ) (tag : Option RawName) → tag ≡ None
    → IsTagKeyword (kind_or_end tokens at) → IsNameAt (λ name. Unit {0}) (kind_or_end tokens (at + 1)) tag → following ≡ number_after at (name_in tag)
    → (kind_or_end tokens following ≡ token.Punctuator punctuator.OpenBrace → ⊥)
    → (s : Stop) → s ≡ stop.Refused following (plain_reason File (kind_or_end tokens following)) → ElementStops names limit tokens at s
untagged_stops names limit some tokens at following tag is k named number other s why =
    let n : IsNameAt (λ name. Unit {0}) (kind_or_end tokens (at + 1)) None = subst (IsNameAt (λ name. Unit {0}) (kind_or_end tokens (at + 1))) is named in
    let e : following ≡ at + 1 = number ∙ ap (λ (x : Option RawName). number_after at (name_in x)) is in
    let kind = kind_or_end tokens following in
    subst (ElementStops names limit tokens at) (sym why) (inl (record {
      is_struct = k.0;
      front = [];
      spelled = subst (λ (m : ℕ). Spells tokens at m (λ rest. tag_keyword k.0 ∷ rest)) (sym e)
          (spells_one tokens at (tag_keyword k.0) k.1 (tag_some k.0));
      refused_is =
          subst (λ (d : Bool). Refused (SpecElements names) limit (tag_keyword k.0 ∷ []) (kind_or_end tokens following) d)
          (sym (plain_flat File (kind_or_end tokens following)))
          (subst (λ (x : TokenKind). Refused (SpecElements names) limit (x ∷ []) (kind_or_end tokens following) false) (sym (same_tag k.0))
          (tag_missing names limit some k.0 (kind_or_end tokens following) (λ name q. n name (sym (ap (kind_or_end tokens) e) ∙ q) tt) other));
    }))

pub opened_later : (tokens : List Token) (at brace : ℕ) (tag : Option RawName) → brace ≡ number_after at (name_in tag) → at < brace
opened_later tokens at brace None e = omega (arith, e)
opened_later tokens at brace (Some tag) e = omega (arith, e)
