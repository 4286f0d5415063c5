-- Types with bodies that the limit doesn't allow, and words that no word continues: for the contracts of every parser of
-- declarations.
use Rattle.std.proofs.Common.{◌≡◌, ℕ, ◌<◌, ◌≤◌, ◌⊎◌, inl, inr, Bool, true, false, List, [], ◌∷◌, ◌++◌, Option, Some, None}
use Rattle.std.proofs.Common.{refl, sym, ap, ◌∙◌, subst, arith, append-nil}
use Rattle.std.proofs.lemmas.Bool.{false≢true}
use Rattle.cs_ast.specs.declared.token.TokenKind.{TokenKind}
use Rattle.cs_ast.specs.declared.token.TokenKind.TheVariants as token
use Rattle.cs_ast.specs.declared.token.Keyword.{Keyword}
use Rattle.cs_ast.specs.declared.token.Keyword.TheVariants as keyword
use Rattle.cs_ast.specs.declared.raw.written_type.TypeWord.{TypeWord}
use Rattle.cs_ast.specs.declared.raw.written_type.TypeWord.TheVariants as word
use Rattle.cs_ast.specs.declared.raw.written_type.IntegerWord.TheVariants.{Char, Short, Int, Long, Signed, Unsigned}
use Rattle.cs_ast.specs.RawDeclarations.{Declarator, Constant, Spec, Static, Plain, StructBody, EnumBody, Specs, NoSpec, MoreSpecs}
use Rattle.cs_ast.specs.RawFileHeight.{highest_by, constant_height, spec_height, specs_height}
use Rattle.cs_grammar.specs.TypeWords.{Names, named_by, is_type}
use Rattle.cs_grammar.specs.Text.{Kinds}
use Rattle.cs_grammar.specs.FirstTokens.{begins_type}
use Rattle.cs_grammar.specs.FileText.{name_text, with_commas, declarator_text, spec_text, specs_text}
use Rattle.cs_grammar.specs.FilePhrases.{IsSomeList, words_of, HaveBodies, HasBody, AreSpecs}
use Rattle.cs_grammar.specs.DeclarationClasses.{Follows, ends_specs, IsQuiet, SpecElements, FileSpecs, MemberGroups, MemberRows}
use Rattle.cs_grammar.specs.Parsing.{Near, IsOver, BeginsLow, Took, Refused}
use Rattle.cs_grammar.proofs.Tails.{none_refused, full_refused, near_other}
use Rattle.cs_grammar.proofs.Rows.{row_refused}
use Rattle.cs_grammar.proofs.FreshNames.{fresh, fresh_free}
use Rattle.cs_grammar.proofs.FileBeginnings.{specs_of, plain_text}
use Rattle.cs_grammar.proofs.Statements.{open_brace, close_brace, semicolon}
use Rattle.cs_grammar.proofs.Declarators.{declarator_of}
use Rattle.cs_grammar.proofs.ItemSites.{type_example}
use Rattle.cs_grammar.proofs.FileTexts.{specs_append}
use Rattle.cs_grammar.proofs.TypeNames.{MayGoOn, tag_word, IsStuckAt}
use Rattle.cs_grammar.proofs.SpecRows.{first_of, spec_starts, IsStuckAfter, joined_specs, joined_text, joined_words, joined_tall, specs_joined_none}
use Rattle.cs_grammar.proofs.SpecRows.{rest_bodies, AreExact, exact_more, plain_exact, specs_go_on, quiet_plain, quiet_end, specs_no_brace, with_spec, with_is}
use Rattle.cs_grammar.proofs.SpecRows.{tag_quiet, tag_spec_type}
use Rattle.cs_grammar.proofs.Bodies.{MemberGroup, constant_of, constant_some, file_specs_height, member_listing, enum_is}
use Rattle.cs_grammar.proofs.ExternalSites.{begins_spec, first_begins, specs_first}
use Rattle.cs_grammar.proofs.FileRules.{specs_has}

-- if no word continues these, no type with a body and no `static` does, unless the next token is `static`
pub stuck_after : (names : Names) (ws : List TypeWord) (next : TokenKind) → IsStuckAt names ws next → (next ≡ token.Keyword keyword.Static → ⊥)
    → IsStuckAfter names ws next
stuck_after names ws next stuck none Static more e = absurd (none (sym e))
stuck_after names ws next stuck none (Plain w) more e = stuck w more e
stuck_after names ws next stuck none (StructBody tag members) more e = stuck (word.Struct []) more e
stuck_after names ws next stuck none (EnumBody tag constants comma) more e = stuck (word.Enum []) more e

-- the token begins specifiers outside blocks
abbrev pub begins_file_spec : Names → TokenKind → Bool
begins_file_spec names (token.Keyword keyword.Static) = true
begins_file_spec names other = begins_type names other

plain_bodies : (names : Names) (ws : List TypeWord) → HaveBodies names (specs_of ws)
plain_bodies names [] = tt
plain_bodies names (w ∷ ws) = (tt, plain_bodies names ws)

plain_words_of : (ws : List TypeWord) → words_of (specs_of ws) ≡ ws
plain_words_of [] = refl
plain_words_of (w ∷ ws) = ap (λ (x : List TypeWord). w ∷ x) (plain_words_of ws)

-- specifiers that begin with a token
pub record SpecsExample (names : Names) (t : TokenKind) : Type 0 where
  pub specs : Specs
  pub are : AreSpecs names specs
  pub more : Kinds
  pub spelled : (rest : Kinds) → specs_text specs rest ≡ t ∷ (more ++ rest)

typed_example : (names : Names) (t : TokenKind) → begins_type names t ≡ true → SpecsExample names t
typed_example names t e =
    let x = type_example names t e in
    record {
      specs = specs_of (x.first ∷ x.others);
      are = (ap (is_type names) (plain_words_of (x.first ∷ x.others)) ∙ x.type, plain_bodies names (x.first ∷ x.others));
      more = x.more;
      spelled = λ rest. plain_text (x.first ∷ x.others) rest ∙ x.spelled rest;
    }

keyword_example : (names : Names) (k : Keyword) → begins_file_spec names (token.Keyword k) ≡ true → SpecsExample names (token.Keyword k)
keyword_example names keyword.Static e = record {
  specs = MoreSpecs Static (MoreSpecs (Plain (word.Integer Int)) NoSpec);
  are = (refl, (tt, (tt, tt)));
  more = token.Keyword keyword.Int ∷ [];
  spelled = λ rest. refl;
}
keyword_example names keyword.Break e = absurd cc
keyword_example names keyword.Case e = absurd cc
keyword_example names keyword.Continue e = absurd cc
keyword_example names keyword.Default e = absurd cc
keyword_example names keyword.Do e = absurd cc
keyword_example names keyword.Else e = absurd cc
keyword_example names keyword.For e = absurd cc
keyword_example names keyword.Goto e = absurd cc
keyword_example names keyword.If e = absurd cc
keyword_example names keyword.Return e = absurd cc
keyword_example names keyword.Sizeof e = absurd cc
keyword_example names keyword.Switch e = absurd cc
keyword_example names keyword.Typedef e = absurd cc
keyword_example names keyword.While e = absurd cc
keyword_example names keyword.Char e = typed_example names (token.Keyword keyword.Char) refl
keyword_example names keyword.Const e = typed_example names (token.Keyword keyword.Const) refl
keyword_example names keyword.Enum e = typed_example names (token.Keyword keyword.Enum) refl
keyword_example names keyword.Int e = typed_example names (token.Keyword keyword.Int) refl
keyword_example names keyword.Long e = typed_example names (token.Keyword keyword.Long) refl
keyword_example names keyword.Short e = typed_example names (token.Keyword keyword.Short) refl
keyword_example names keyword.Signed e = typed_example names (token.Keyword keyword.Signed) refl
keyword_example names keyword.Struct e = typed_example names (token.Keyword keyword.Struct) refl
keyword_example names keyword.Unsigned e = typed_example names (token.Keyword keyword.Unsigned) refl
keyword_example names keyword.Void e = typed_example names (token.Keyword keyword.Void) refl

pub specs_example : (names : Names) (t : TokenKind) → begins_file_spec names t ≡ true → SpecsExample names t
specs_example names (token.Keyword k) e = keyword_example names k e
specs_example names (token.Name n) e = typed_example names (token.Name n) e
specs_example names (token.Number c) e = absurd cc
specs_example names (token.Character v) e = absurd cc
specs_example names (token.Text b) e = absurd cc
specs_example names (token.Punctuator m) e = absurd cc
specs_example names (token.Unsupported w) e = absurd cc
specs_example names token.Attribute e = absurd cc

group_has : (names : Names) (g : MemberGroup) (after : Kinds) → (MemberGroups names).Is g → (MemberGroups names).spell g after ≡ [] → ⊥
group_has names g after is same = specs_has names g.0 (with_commas declarator_text g.1 (semicolon ∷ after)) is.0 same

-- a member of any name
abbrev any_member : Declarator
any_member = declarator_of [] [] []

-- the limit doesn't allow a member
pub group_full : (names : Names) (limit : ℕ) (next : TokenKind) → limit < 2 → begins_file_spec names next ≡ true
    → Refused (MemberGroups names) limit [] next true
group_full names limit next full e =
    let x = specs_example names next e in
    full_refused (MemberGroups names) limit next (group_has names) (λ g after more is same. let h = file_specs_height names g.0 is.0 in omega (arith, h, full))
    (record {
      phrase = (x.specs, any_member ∷ []);
      more = x.more ++ token.Name [] ∷ semicolon ∷ [];
      is_phrase = (x.are, (tt, (record { pointers = refl; named = tt; bounds = tt }, tt)));
      spelled = x.spelled (token.Name [] ∷ semicolon ∷ []);
    })

-- a member was refused at its first token
pub members_first_refused : (names : Names) (limit : ℕ) (next : TokenKind) (deep : Bool) → (next ≡ close_brace → ⊥)
    → Refused (MemberGroups names) limit [] next deep → Refused (MemberRows names) limit [] next deep
members_first_refused names limit next deep other r =
    row_refused (MemberRows names) (MemberGroups names) limit (member_listing names) [] next deep
    (λ after following shut near same. near_other close_brace next following after other near same) r

-- no member begins with the token
pub group_not : (names : Names) (limit : ℕ) (next : TokenKind) → begins_spec next ≡ false → Refused (MemberGroups names) limit [] next false
group_not names limit next none =
    none_refused (MemberGroups names) limit next (group_has names)
    (λ g after more is same. false≢true (sym none ∙ specs_first names g.0 (with_commas declarator_text g.1 (semicolon ∷ after)) next more is.0 same))

enum_high : (names : Names) (list : List Constant) → IsSomeList list → 1 ≤ highest_by constant_height list
enum_high names [] some = absurd some
enum_high names (c ∷ cs) some = let h = constant_some c in omega (arith, h)

enum_begun : (names : Names) (limit : ℕ) → 1 ≤ limit → (tag : Option (List ℕ))
    → BeginsLow (SpecElements names) limit (tag_word false ∷ name_text tag [])
enum_begun names limit some None = record { phrase = Plain (word.Enum []); more = token.Name [] ∷ []; is_phrase = tt; low = some; spelled = refl }
enum_begun names limit some (Some t) = record { phrase = Plain (word.Enum t); more = []; is_phrase = tt; low = some; spelled = refl }

enum_over : (names : Names) (limit : ℕ) (tag : Option (List ℕ)) → limit < 2 → (s : Spec) (after more : Kinds) → HasBody names s → IsQuiet s after
    → spec_text s after ≡ tag_word false ∷ name_text tag (open_brace ∷ more) → limit < spec_height s
enum_over names limit tag full s after more has quiet same =
    let f = enum_is names tag s after more has quiet same in
    let h = enum_high names f.0.0 f.2.0 in
    subst (λ (x : Spec). limit < spec_height x) (sym f.1) (omega (arith, h, full))

-- no specifier is only `enum`
enum_cut : (s : Spec) (after : Kinds) → spec_text s after ≡ tag_word false ∷ [] → ⊥
enum_cut Static after same = cc
enum_cut (Plain word.Const) after same = cc
enum_cut (Plain word.Void) after same = cc
enum_cut (Plain (word.Typedef n)) after same = cc
enum_cut (Plain (word.Struct t)) after same = cc
enum_cut (Plain (word.Enum t)) after same = cc
enum_cut (Plain (word.Integer Char)) after same = cc
enum_cut (Plain (word.Integer Short)) after same = cc
enum_cut (Plain (word.Integer Int)) after same = cc
enum_cut (Plain (word.Integer Long)) after same = cc
enum_cut (Plain (word.Integer Signed)) after same = cc
enum_cut (Plain (word.Integer Unsigned)) after same = cc
enum_cut (StructBody tag members) after same = cc
enum_cut (EnumBody None constants comma) after same = cc
enum_cut (EnumBody (Some t) constants comma) after same = cc

-- an `enum` without a tag, and a brace that the limit doesn't allow
pub enum_full : (names : Names) (limit : ℕ) → limit < 2 → 1 ≤ limit → Refused (SpecElements names) limit (tag_word false ∷ []) open_brace true
enum_full names limit full some = record {
  begun = inr (enum_begun names limit some None);
  never = λ other after following is shut near same.
      elim near [
        | inl none ↦ absurd (enum_cut other after (same ∙ ap (λ (x : Kinds). tag_word false ∷ x) none))
        | inr m ↦ record {
          reported = refl;
          high = enum_over names limit None full other after m.0 is shut (same ∙ ap (λ (x : Kinds). tag_word false ∷ x) m.1);
          onward = λ none. let z : open_brace ∷ m.0 ≡ [] = sym m.1 ∙ none in cc;
        }
      ];
  further = λ reported. record {
    phrase = EnumBody None (constant_of (fresh names) None ∷ []) false;
    more = token.Name (fresh names) ∷ close_brace ∷ [];
    is_phrase = (tt, (record { free = fresh_free names; value = tt }, tt));
    spelled = refl;
  };
}

nothing_more : (more : Specs) (after : Kinds) → specs_text more after ≡ [] → (more ≡ NoSpec) × (after ≡ [])
nothing_more NoSpec after same = (refl, same)
nothing_more (MoreSpecs s more) after same = let b = spec_starts s (specs_text more after) in let z : first_of s ∷ b.0 ≡ [] = sym b.1 ∙ same in absurd cc

-- words that name nothing, then `enum` and a tag
abbrev pub with_enum : Specs → List ℕ → Specs
with_enum before tag = with_spec before (Plain (word.Enum tag))

enum_rest : (names : Names) (limit : ℕ) (before : Specs) (tag : List ℕ) → limit < 2 → (more : Specs) (after following : Kinds) → HaveBodies names more
    → Follows ends_specs after → specs_text more after ≡ tag_word false ∷ token.Name tag ∷ open_brace ∷ following
    → limit < specs_height (joined_specs before more)
enum_rest names limit before tag full NoSpec after following has f same = absurd (false≢true (subst (Follows ends_specs) same f))
enum_rest names limit before tag full (MoreSpecs s more) after following has f same =
    let h = enum_over names limit (Some tag) full s (specs_text more after) following has.0
    (quiet_plain s (specs_text more after) (specs_no_brace more after f)) same in
    let t = joined_tall before (MoreSpecs s more) in
    omega (arith, h, t)

enum_only : (names : Names) (limit : ℕ) (before : Specs) (tag : List ℕ) → limit < 2 → named_by (words_of before) ≡ [] → AreExact names before
    → (other : Specs) (after following : Kinds) → AreSpecs names other → Follows ends_specs after → Near open_brace following
    → specs_text other after ≡ specs_text (with_enum before tag) following
    → ((other ≡ with_enum before tag) × (after ≡ following)) ⊎ IsOver (FileSpecs names) limit true other following
enum_only names limit before tag full none exact other after [] is f near same =
    let done = with_enum before tag in
    let exact' = exact_more names before (Plain (word.Enum tag)) exact tt (plain_exact names (word.Enum tag)) in
    let go : MayGoOn names (words_of done) = (
      [],
      ap (is_type names) (append-nil (words_of done) ∙ joined_words before (MoreSpecs (Plain (word.Enum tag)) NoSpec))
          ∙ tag_spec_type names (words_of before) (Plain (word.Enum tag)) false none refl,
    ) in
    let r = specs_go_on names [] done other after [] go is.0 is.1 exact' f (quiet_end done [] tt) same in
    let e = nothing_more r.0 after r.2 in
    inl (r.1 ∙ ap (joined_specs done) e.0 ∙ specs_joined_none done, e.1)
enum_only names limit before tag full none exact other after (t ∷ following) is f near same =
    let k : t ≡ open_brace = elim near [ inl z ↦ absurd cc | inr m ↦ let z = m.1 in cc ] in
    let s : specs_text other after ≡ specs_text before (tag_word false ∷ token.Name tag ∷ open_brace ∷ following) = same
    ∙ joined_text before (MoreSpecs (Plain (word.Enum tag)) NoSpec) (t ∷ following)
    ∙ ap (λ (x : TokenKind). specs_text before (tag_word false ∷ token.Name tag ∷ x ∷ following)) k in
    let go : MayGoOn names (words_of before) = (word.Enum [] ∷ [], tag_spec_type names (words_of before) (EnumBody None [] false) false none refl) in
    let r = specs_go_on names [] before other after (tag_word false ∷ token.Name tag ∷ open_brace ∷ following) go is.0 is.1 exact f
    (tag_quiet before (token.Name tag ∷ open_brace ∷ following) false) s in
    let has = rest_bodies names before r.0 (subst (HaveBodies names) r.1 is.1) in
    let h = enum_rest names limit before tag full r.0 after following has f r.2 in
    inr (record { reported = refl; high = subst (λ (x : Specs). limit < specs_height x) (sym r.1) h; onward = λ z. cc })

-- an `enum` with a tag, and a brace that the limit doesn't allow: it is taken without a body, and a higher one continues
pub enum_tag_full : (names : Names) (limit : ℕ) (before : Specs) (tag : List ℕ) → limit < 2 → specs_height (with_enum before tag) ≤ limit
    → named_by (words_of before) ≡ [] → AreExact names before → Took (FileSpecs names) limit (with_enum before tag) open_brace true
enum_tag_full names limit before tag full low none exact = record {
  is_phrase = with_is names before (Plain (word.Enum tag)) false exact none tt refl;
  low = low;
  only = λ other after following is shut near same. enum_only names limit before tag full none exact other after following is shut near same;
  further = λ reported.
      let body = EnumBody (Some tag) (constant_of (fresh names) None ∷ []) false in
      record {
        phrase = with_spec before body;
        more = token.Name (fresh names) ∷ close_brace ∷ [];
        is_phrase = with_is names before body false exact none (tt, (record { free = fresh_free names; value = tt }, tt)) refl;
        spelled =
            joined_text before (MoreSpecs body NoSpec) []
            ∙ sym (specs_append before (tag_word false ∷ token.Name tag ∷ open_brace ∷ []) (token.Name (fresh names) ∷ close_brace ∷ []))
            ∙ ap (λ (x : Kinds). x ++ (token.Name (fresh names) ∷ close_brace ∷ []))
            (sym (joined_text before (MoreSpecs (Plain (word.Enum tag)) NoSpec) (open_brace ∷ [])));
      };
  joined = λ reported more shut. false≢true shut;
}
