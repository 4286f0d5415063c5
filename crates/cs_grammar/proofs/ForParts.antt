-- The first part of a `for`: for the contracts of every parser of statements.
use Rattle.std.proofs.Common.{◌≡◌, ℕ, ◌+◌, ◌≤◌, inl, inr, Bool, true, false, List, [], ◌∷◌, ◌++◌, refl, sym, ap, ◌∙◌, subst}
use Rattle.std.proofs.Common.{arith}
use Rattle.std.proofs.lemmas.Bool.{false≢true}
use Rattle.cs_ast.specs.declared.token.TokenKind.{TokenKind}
use Rattle.cs_ast.specs.RawTree.{Written}
use Rattle.cs_ast.specs.RawDeclarations.{Declared, Specs}
use Rattle.cs_ast.specs.RawStatements.{First, NoFirst, FirstRuns, FirstDeclares}
use Rattle.cs_grammar.specs.TypeWords.{Names}
use Rattle.cs_grammar.specs.Text.{Kinds, text}
use Rattle.cs_grammar.specs.Phrases.{IsPhrase}
use Rattle.cs_grammar.specs.FirstTokens.{begins_expression, begins_type}
use Rattle.cs_grammar.specs.FileText.{declared_text, with_commas, declaration_text, first_text}
use Rattle.cs_grammar.specs.FilePhrases.{AreAll, IsSomeList, IsDeclared, AreBlockSpecs, IsFirst}
use Rattle.cs_grammar.specs.FileClasses.{Firsts}
use Rattle.cs_grammar.specs.Parsing.{Expressions, Near, Took, Refused, Exactly}
use Rattle.cs_grammar.proofs.Levels.{text_law}
use Rattle.cs_grammar.proofs.Texts.{text_append}
use Rattle.cs_grammar.proofs.Beginnings.{expression_begins, begins_one}
use Rattle.cs_grammar.proofs.FileBeginnings.{block_specs_begin, first_passes, some_first}
use Rattle.cs_grammar.proofs.Holes.{ClosedBy, closed_law, closed_refused, closed_wrong, closed_exact}
use Rattle.cs_grammar.proofs.Sequences.{closed_least}
use Rattle.cs_grammar.proofs.Pairs.{Single, single_refused, single_took}
use Rattle.cs_grammar.proofs.Statements.{semicolon, runs_first}
use Rattle.cs_grammar.proofs.StatementParts.{expression_least}
use Rattle.cs_grammar.proofs.BlockItems.{Declaration, BlockDeclarations, declares_single}

declared_first : (names : Names) (specs : Specs) (objects : List Declared) (after : Kinds) (t : TokenKind) (more : Kinds) → AreBlockSpecs names specs
    → declaration_text specs objects after ≡ t ∷ more → begins_type names t ≡ true
declared_first names specs objects after t more is same =
    first_passes (begins_type names) (declaration_text specs objects after) t more
    (block_specs_begin names specs (with_commas declared_text objects (semicolon ∷ after)) is) same

none_is : (names : Names) (other : First) (after following : Kinds) → IsFirst names other → first_text other after ≡ semicolon ∷ following
    → (other ≡ NoFirst) × (after ≡ following)
none_is names NoFirst after following is same = (refl, cc)
none_is names (FirstRuns e) after following is same = absurd (false≢true (runs_first names e (semicolon ∷ after) semicolon following is same))
none_is names (FirstDeclares specs objects) after following is same =
    absurd (false≢true (declared_first names specs objects after semicolon following is.0 same))

-- the next token is a semicolon
pub first_none : (names : Names) (limit : ℕ) → Exactly (Firsts names) limit NoFirst
first_none names limit = record { is_phrase = tt; low = omega arith; exact = λ other after following is same. none_is names other after following is same }

-- the first token is no semicolon and begins no type
abbrev pub IsFirstRun : Names → Kinds → Type 0
IsFirstRun names tokens = (first : TokenKind) (more : Kinds) → tokens ≡ first ∷ more
    → (first ≡ semicolon → ⊥) × (begins_type names first ≡ false)

pub first_runs_invert : (names : Names) (whole : First) (after following : Kinds) → IsFirst names whole → IsFirstRun names following
    → first_text whole after ≡ following → (part : Written) × (whole ≡ FirstRuns part) × IsPhrase names 0 part
    × (following ≡ text part (semicolon ∷ after))
first_runs_invert names (FirstRuns e) after following is fit same = (e, refl, is, sym same)
first_runs_invert names NoFirst after following is fit same = absurd ((fit semicolon after (sym same)).0 refl)
first_runs_invert names (FirstDeclares specs objects) after following is fit same =
    let b = block_specs_begin names specs (with_commas declared_text objects (semicolon ∷ after)) is.0 in
    absurd (false≢true (sym (fit b.first b.others (sym same ∙ b.are)).1 ∙ b.passes))

abbrev pub first_runs_single : (names : Names) → Single (Firsts names) (ClosedBy (Expressions names 0) semicolon) 0 [] FirstRuns (IsFirstRun names)
first_runs_single names = record {
  production = record {
    invert = λ whole after following is fit same. first_runs_invert names whole after following is fit same;
    shut = λ part after shut. tt;
    spelled = λ part after. refl;
    is_phrase = λ part is. is;
    taller = λ part. omega arith;
  };
  law = closed_law (Expressions names 0) semicolon (text_law names 0);
  least = closed_least (Expressions names 0) semicolon (expression_least names 0 (omega arith));
}

semicolon_first : (names : Names) (t : TokenKind) → begins_expression names t ≡ true → t ≡ semicolon → ⊥
semicolon_first names t e s = false≢true (sym (ap (begins_expression names) s) ∙ e)

not_type : (names : Names) (t : TokenKind) (b : Bool) → begins_type names t ≡ b → begins_expression names t ≡ true → begins_type names t ≡ false
not_type names t false k e = k
not_type names t true k e = absurd (begins_one names t e k)

expression_run : (names : Names) (e : Written) (x : Kinds) → IsPhrase names 0 e → IsFirstRun names (text e x)
expression_run names e x is first more same =
    let b = runs_first names e x first more is same in
    (semicolon_first names first b, not_type names first (begins_type names first) refl b)

run_fits : (names : Names) (limit : ℕ) (front : Kinds) (next : TokenKind) (deep : Bool)
    → (front ≡ [] → (next ≡ semicolon → ⊥) × (begins_type names next ≡ false)) → Refused (Expressions names 0) limit front next deep
    → (following : Kinds) → Near next following → IsFirstRun names (front ++ following)
run_fits names limit [] next deep fit r following near first more same =
    elim near [
      | inl none ↦ let z = sym same ∙ none in absurd cc
      | inr m ↦
          let z : first ∷ more ≡ next ∷ m.0 = sym same ∙ m.1 in
          let k : first ≡ next = cc in
          let f = fit refl in
          (λ s. f.0 (sym k ∙ s), ap (begins_type names) k ∙ f.1)
    ]
run_fits names limit (f ∷ fs) next deep fit r following near first more same =
    elim r.begun [
      | inl none ↦ absurd cc
      | inr b ↦
          let k : f ≡ first = cc in
          expression_run names b.phrase [] b.is_phrase first (fs ++ b.more) (b.spelled ∙ ap (λ (t : TokenKind). t ∷ (fs ++ b.more)) k)
    ]

-- the expression was refused
pub first_runs_refused : (names : Names) (limit : ℕ) → 1 ≤ limit
    → (front : Kinds) (next : TokenKind) (deep : Bool) → (front ≡ [] → (next ≡ semicolon → ⊥) × (begins_type names next ≡ false))
    → Refused (Expressions names 0) limit front next deep → Refused (Firsts names) limit front next deep
first_runs_refused names limit some front next deep fit r =
    single_refused (first_runs_single names) limit limit (omega arith, some) front next deep (run_fits names limit front next deep fit r)
    (closed_refused (Expressions names 0) semicolon limit (text_law names 0) (λ part more. omega arith) front next deep r)

-- the expression was taken, and no semicolon follows it
pub first_runs_wrong : (names : Names) (limit : ℕ) → 1 ≤ limit
    → (e : Written) (next : TokenKind) (deep : Bool) → Took (Expressions names 0) limit e next deep → (next ≡ semicolon → ⊥)
    → Refused (Firsts names) limit (text e []) next deep
first_runs_wrong names limit some e next deep t other =
    single_refused (first_runs_single names) limit limit (omega arith, some) (text e []) next deep
    (λ following near. subst (IsFirstRun names) (sym (text_append e [] following)) (expression_run names e following t.is_phrase))
    (closed_wrong (Expressions names 0) semicolon limit (text_law names 0) (λ part more. omega arith) e next deep t other)

runs_is : (names : Names) (e : Written) (x : (o : Written) (after following : Kinds) → IsPhrase names 0 o
    → text o (semicolon ∷ after) ≡ text e (semicolon ∷ following) → (o ≡ e) × (after ≡ following)) → IsPhrase names 0 e
    → (other : First) (after following : Kinds) → IsFirst names other → first_text other after ≡ text e (semicolon ∷ following)
    → (other ≡ FirstRuns e) × (after ≡ following)
runs_is names e x is' other after following is same =
    let f = first_runs_invert names other after (text e (semicolon ∷ following)) is (expression_run names e (semicolon ∷ following) is') same in
    let k = x f.0 after following f.2 (sym f.3) in
    (f.1 ∙ ap FirstRuns k.0, k.1)

-- the expression was taken before its semicolon
pub first_runs_exact : (names : Names) (limit : ℕ) → (e : Written) (deep : Bool) → Took (Expressions names 0) limit e semicolon deep
    → Exactly (Firsts names) limit (FirstRuns e)
first_runs_exact names limit e deep t =
    let x = closed_exact (Expressions names 0) semicolon limit (λ part more. omega arith) e deep t in
    record { is_phrase = t.is_phrase; low = t.low; exact = λ other after following is same. runs_is names e x.exact t.is_phrase other after following is same }

-- the first token begins a type
abbrev pub IsFirstDeclaration : Names → Kinds → Type 0
IsFirstDeclaration names tokens = (tokens ≡ [] → ⊥)
    × ((first : TokenKind) (more : Kinds) → tokens ≡ first ∷ more → begins_type names first ≡ true)

pub first_declares_invert : (names : Names) (whole : First) (after following : Kinds) → IsFirst names whole → IsFirstDeclaration names following
    → first_text whole after ≡ following → (part : Declaration) × (whole ≡ FirstDeclares part.0 part.1)
    × (AreBlockSpecs names part.0 × (IsSomeList part.1 × AreAll (IsDeclared names) part.1)) × (following ≡ declaration_text part.0 part.1 after)
first_declares_invert names (FirstDeclares specs objects) after following is fit same = ((specs, objects), refl, is, sym same)
first_declares_invert names NoFirst after following is fit same = absurd (false≢true (fit.1 semicolon after (sym same)))
first_declares_invert names (FirstRuns e) after following is fit same =
    let b = expression_begins names e (semicolon ∷ after) is.1 in
    absurd (begins_one names b.first b.passes (fit.1 b.first b.others (sym same ∙ b.are)))

abbrev pub first_declares_single : (names : Names)
    → Single (Firsts names) (BlockDeclarations names) 1 [] (λ part. FirstDeclares part.0 part.1) (IsFirstDeclaration names)
first_declares_single names = record {
  production = record {
    invert = λ whole after following is fit same. first_declares_invert names whole after following is fit same;
    shut = λ part after shut. tt;
    spelled = λ part after. refl;
    is_phrase = λ part is. is;
    taller = λ part. refl;
  };
  law = (declares_single names).law;
  least = (declares_single names).least;
}

-- a declaration was refused after its first token
pub first_declares_refused : (names : Names) (limit inner : ℕ) → limit ≡ 1 + inner → 1 ≤ inner
    → (f : TokenKind) (fs : Kinds) (next : TokenKind) (deep : Bool) → begins_type names f ≡ true
    → Refused (BlockDeclarations names) inner (f ∷ fs) next deep → Refused (Firsts names) limit (f ∷ fs) next deep
first_declares_refused names limit inner less some f fs next deep e r =
    single_refused (first_declares_single names) limit inner (less, omega (arith, some)) (f ∷ fs) next deep
    (λ following near. (λ none. cc, λ first more same. let k : f ≡ first = cc in ap (begins_type names) (sym k) ∙ e)) r

-- a declaration was taken
pub first_declares_took : (names : Names) (limit inner : ℕ) → limit ≡ 1 + inner → 1 ≤ inner
    → (part : Declaration) (next : TokenKind) (deep : Bool) → Took (BlockDeclarations names) inner part next deep
    → Took (Firsts names) limit (FirstDeclares part.0 part.1) next deep
first_declares_took names limit inner less some part next deep t =
    single_took (first_declares_single names) limit inner (less, omega (arith, some)) part next deep
    (λ following near.
    let b = block_specs_begin names part.0 (with_commas declared_text part.1 (semicolon ∷ following)) t.is_phrase.0 in (
      λ none. some_first (begins_type names) (declaration_text part.0 part.1 following) b none,
      λ first more same. first_passes (begins_type names) (declaration_text part.0 part.1 following) first more b same,
    )) t
