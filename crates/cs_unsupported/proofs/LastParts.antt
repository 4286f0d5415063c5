-- The last of some tokens of a file, in the external declaration that they end in: for the contract of `is_after_type`.
use Rattle.std.proofs.Common.{◌≡◌, ℕ, zero, suc, ◌+◌, ◌-◌, ◌≤◌, ◌↔◌, Bool, false, IsTrue, inl, inr, List, [], ◌∷◌, ◌++◌}
use Rattle.std.proofs.Common.{Some, None, length, drop, slice_get, refl, sym, ap, ◌∙◌, subst, arith, append-nil, length-append, length-drop, take}
use Rattle.std.proofs.lemmas.List.{length-map, drop-map, take_all}
use Rattle.std.proofs.lemmas.Bool.{false≢true, cases_lt}
use Rattle.cs_ast.specs.declared.token.Token.{Token}
use Rattle.cs_ast.specs.declared.token.TokenKind.{TokenKind}
use Rattle.cs_ast.specs.declared.token.TokenKind.TheVariants as token
use Rattle.cs_ast.specs.declared.token.Keyword.TheVariants as keyword
use Rattle.cs_ast.specs.declared.token.Punctuator.TheVariants as punctuator
use Rattle.cs_ast.specs.RawStatements.{External, TypeAlone, Typedef, Objects, Function, Definition}
use Rattle.cs_grammar.specs.TypeWords.{Names}
use Rattle.cs_grammar.specs.Text.{Kinds}
use Rattle.cs_grammar.specs.FileText.{declarator_text, declared_text, with_commas, specs_text, head_text, items_text, external_text, externals_text, file_text}
use Rattle.cs_grammar.specs.FilePhrases.{names_after, IsFile, BeginsFile}
use Rattle.cs_grammar.specs.Roles.{closes_type, Roles, external_roles, file_roles}
use Rattle.cs_grammar.specs.FileRefusals.{IsAfterType}
use Rattle.cs_grammar.proofs.FileTexts.{specs_append, with_commas_append, declarator_append, declared_append, head_append, items_append, external_append}
use Rattle.cs_unsupported.specs.LastParts.{EndsInPart, EndInPart}
use Rattle.cs_unsupported.specs.Parentheses.{Parens, the_outside, closes, step, run}
use Rattle.cs_unsupported.specs.Readings.{kinds}
use Rattle.cs_unsupported.proofs.TypeFiles.{yields_type, roles_after}

abbrev none : Roles
none = []

none_there : (i : ℕ) → slice_get none i ≡ None
none_there zero = refl
none_there (suc i) = refl

pub get_after : (n i : ℕ) (rs : Roles) → slice_get rs (n + i) ≡ slice_get (drop n rs) i
get_after zero i rs =
    let e : 0 + i ≡ i = omega arith in
    ap (slice_get rs) e
get_after (suc n) i [] = none_there (suc n + i) ∙ sym (none_there i)
get_after (suc n) i (r ∷ rs) =
    let e : suc n + i ≡ suc (n + i) = omega arith in
    ap (slice_get (r ∷ rs)) e ∙ get_after n i rs

-- the number of tokens with one more external declaration
count_more : (d : External) (ds : List External) → length (externals_text (d ∷ ds) []) ≡ length (external_text d []) + length (externals_text ds [])
count_more d ds = ap length (sym (external_append d [] (externals_text ds []))) ∙ length-append (external_text d []) (externals_text ds [])

-- the roles of a file after those of its first external declarations
role_after : (names : Names) (done others : List External) (i : ℕ) → IsFile names (done ++ others)
    → slice_get (file_roles (done ++ others)) (length (externals_text done []) + i) ≡ slice_get (file_roles others) i
role_after names [] others i is =
    let e : 0 + i ≡ i = omega arith in
    ap (slice_get (file_roles others)) e
role_after names (d ∷ ds) others i is =
    let c = count_more d ds in
    let n : length (externals_text (d ∷ ds) []) + i ≡ length (external_text d []) + (length (externals_text ds []) + i) = omega (arith, c) in
    ap (slice_get (external_roles d (file_roles (ds ++ others)))) n
    ∙ get_after (length (external_text d [])) (length (externals_text ds []) + i) (external_roles d (file_roles (ds ++ others)))
    ∙ ap (λ (rs : Roles). slice_get rs (length (externals_text ds []) + i)) (roles_after names d (file_roles (ds ++ others)) is.0)
    ∙ role_after (names_after names d) ds others i is.1

-- an external declaration has a last token
record HasEnd (tokens : Kinds) : Type 0 where
  before : Kinds
  last : TokenKind
  spelled : tokens ≡ before ++ last ∷ []
  plain : (holds : Bool) → closes last holds ≡ false

abbrev semicolon : Kinds
semicolon = token.Punctuator punctuator.Semicolon ∷ []

abbrev brace : Kinds
brace = token.Punctuator punctuator.CloseBrace ∷ []

has_end : (e : External) → HasEnd (external_text e [])
has_end (TypeAlone specs) = record {
  before = specs_text specs [];
  last = token.Punctuator punctuator.Semicolon;
  spelled = sym (specs_append specs [] semicolon);
  plain = λ h. refl;
}
has_end (Typedef specs ds) = record {
  before = token.Keyword keyword.Typedef ∷ specs_text specs (with_commas declarator_text ds []);
  last = token.Punctuator punctuator.Semicolon;
  spelled = ap (λ (x : Kinds). token.Keyword keyword.Typedef ∷ x)
      (ap (specs_text specs) (sym (with_commas_append declarator_text declarator_append ds [] semicolon))
      ∙ sym (specs_append specs (with_commas declarator_text ds []) semicolon));
  plain = λ h. refl;
}
has_end (Objects specs ds) = record {
  before = specs_text specs (with_commas declared_text ds []);
  last = token.Punctuator punctuator.Semicolon;
  spelled = ap (specs_text specs) (sym (with_commas_append declared_text declared_append ds [] semicolon))
      ∙ sym (specs_append specs (with_commas declared_text ds []) semicolon);
  plain = λ h. refl;
}
has_end (Function specs head) = record {
  before = specs_text specs (head_text head []);
  last = token.Punctuator punctuator.Semicolon;
  spelled = ap (specs_text specs) (sym (head_append head [] semicolon)) ∙ sym (specs_append specs (head_text head []) semicolon);
  plain = λ h. refl;
}
has_end (Definition specs head body) = record {
  before = specs_text specs (head_text head (token.Punctuator punctuator.OpenBrace ∷ items_text body []));
  last = token.Punctuator punctuator.CloseBrace;
  spelled =
      ap (λ (x : Kinds). specs_text specs (head_text head (token.Punctuator punctuator.OpenBrace ∷ x))) (sym (items_append body [] brace))
      ∙ ap (specs_text specs) (sym (head_append head (token.Punctuator punctuator.OpenBrace ∷ items_text body []) brace))
      ∙ sym (specs_append specs (head_text head (token.Punctuator punctuator.OpenBrace ∷ items_text body [])) brace);
  plain = λ h. refl;
}

run_end : (names : Names) (before : Kinds) (last : TokenKind) (s : Parens) (b : Bool) → ((holds : Bool) → closes last holds ≡ false)
    → run names (before ++ last ∷ []) s b ≡ false
run_end names [] last s b plain = plain s.holds
run_end names (k ∷ before) last s b plain = run_end names before last (step names k s) (closes k s.holds) plain

some_end : (tokens : Kinds) → HasEnd tokens → 1 ≤ length tokens
some_end tokens h =
    let l : length tokens ≡ length h.before + 1 = ap length h.spelled ∙ length-append h.before (h.last ∷ []) in
    omega (arith, l)

-- the last token of the first external declarations closes no type
none_at_end : (names : Names) (done others : List External) (last : ℕ) → IsFile names (done ++ others) → length (externals_text done []) ≡ suc last
    → slice_get (file_roles (done ++ others)) last ≡ Some closes_type → ⊥
none_at_end names [] others last is n there = absurd (omega (arith, n))
none_at_end names (d ∷ []) others last is n there =
    let h = has_end d in
    let t = yields_type names (external_text d []) d (file_roles others) [] is.0 (sym (append-nil (external_text d []))) in
    let e : run names (external_text d []) the_outside false ≡ false = ap (λ (x : Kinds). run names x the_outside false) h.spelled
    ∙ run_end names h.before h.last the_outside false h.plain in
    false≢true (sym e ∙ t.1 (record { last = last; number = n; there = there }))
none_at_end names (d ∷ c ∷ ds) others last is n there =
    let m = count_more d (c ∷ ds) in
    let l = count_more c ds in
    let some = some_end (external_text c []) (has_end c) in
    let i : ℕ = length (externals_text (c ∷ ds) []) - 1 in
    let k : length (externals_text (c ∷ ds) []) ≡ suc i = omega (arith, l, some) in
    let at : last ≡ length (external_text d []) + i = omega (arith, m, n, k) in
    none_at_end (names_after names d) (c ∷ ds) others i is.1 k
    (sym
    (ap (slice_get (external_roles d (file_roles ((c ∷ ds) ++ others)))) at
    ∙ get_after (length (external_text d [])) i (external_roles d (file_roles ((c ∷ ds) ++ others)))
    ∙ ap (λ (rs : Roles). slice_get rs i) (roles_after names d (file_roles ((c ∷ ds) ++ others)) is.0))
    ∙ there)

-- the last token is in such an external declaration
last_in : (names : Names) (front : Kinds) (from : ℕ) (file : List External) (last : ℕ) → from ≤ length front → length front ≡ suc last
    → IsFile [] file → (p : EndsInPart names front from file) → slice_get (file_roles file) last ≡ Some closes_type
    → IsTrue (run names (drop from front) the_outside false)
last_in names front from file last less n is p there =
    let is' = subst (IsFile []) p.file_is is in
    let there' = subst (λ (x : List External). slice_get (file_roles x) last ≡ Some closes_type) p.file_is there in
    let b = p.begins in
    let d = length-drop from front in
    elim (cases_lt last from) [
      | inl past ↦ absurd (none_at_end [] p.done p.others last is' (omega (arith, b, past, less, n)) there')
      | inr here ↦
          let w = p.ends (omega (arith, here, n)) in
          let i : ℕ = last - from in
          let at : last ≡ length (externals_text p.done []) + i = omega (arith, b, here) in
          let t = yields_type names (drop from front) w.whole (file_roles w.others) w.more w.is w.spelled in
          t.1 (record {
            last = i;
            number = omega (arith, d, n, here, less);
            there =
                sym (ap (λ (x : List External). slice_get (file_roles x) i) w.parts_are)
                ∙ sym (ap (slice_get (file_roles (p.done ++ p.others))) at ∙ role_after [] p.done p.others i is')
                ∙ there';
          })
    ]

nothing_reported : (names : Names) (part : Kinds) → length part ≡ 0 → IsTrue (run names part the_outside false) → ⊥
nothing_reported names [] n reported = false≢true reported
nothing_reported names (k ∷ part) n reported = absurd (omega (arith, n))

-- and if it closes a type
role_in : (names : Names) (front more : Kinds) (from : ℕ) (file : List External) → from ≤ length front → IsFile [] file
    → file_text file ≡ front ++ more → (p : EndsInPart names front from file) → IsTrue (run names (drop from front) the_outside false)
    → IsAfterType front
role_in names front more from file less is spelled p reported =
    let d = length-drop from front in
    elim (cases_lt from (length front)) [
      | inr all ↦ absurd (nothing_reported names (drop from front) (omega (arith, d, all)) reported)
      | inl some ↦
          let is' = subst (IsFile []) p.file_is is in
          let w = p.ends some in
          let t = (yields_type names (drop from front) w.whole (file_roles w.others) w.more w.is w.spelled).0 reported in
          let b = p.begins in
          let k = t.number in
          let n : length front ≡ suc (from + t.last) = omega (arith, d, k, less) in
          record {
            last = from + t.last;
            number = n;
            closes = record {
              file = file;
              more = more;
              is_file = is;
              spelled = spelled;
              there =
                  subst (λ (x : List External). slice_get (file_roles x) (from + t.last) ≡ Some closes_type) (sym p.file_is)
                  (ap (λ (x : ℕ). slice_get (file_roles (p.done ++ p.others)) (x + t.last)) (sym b) ∙ role_after [] p.done p.others t.last is'
                  ∙ ap (λ (x : List External). slice_get (file_roles x) t.last) w.parts_are ∙ t.there);
            };
          }
    ]

pub front_in : (names : Names) (front : Kinds) (from : ℕ) → from ≤ length front → BeginsFile front → EndInPart names front from
    → IsTrue (run names (drop from front) the_outside false) ↔ IsAfterType front
front_in names front from less b split = (
  λ reported. role_in names front b.more from b.file less b.is_file b.spelled (split b.file b.more b.is_file b.spelled) reported,
  λ following.
      let c = following.closes in
      last_in names front from c.file following.last less following.number c.is_file (split c.file c.more c.is_file c.spelled) c.there,
)

-- the tokens from an index
pub kinds_sliced : (from : ℕ) (tokens : List Token) → kinds (take (length tokens - from) (drop from tokens)) ≡ drop from (kinds tokens)
kinds_sliced from tokens =
    let l = length-drop from tokens in
    ap kinds (take_all (length tokens - from) (drop from tokens) (omega (arith, l))) ∙ sym (drop-map (λ (t : Token). t.kind) from tokens)

pub count_kinds : (from : ℕ) (tokens : List Token) → from ≤ length tokens → from ≤ length (kinds tokens)
count_kinds from tokens less =
    let l : length (kinds tokens) ≡ length tokens = length-map tokens (λ (t : Token). t.kind) in
    omega (arith, l, less)
