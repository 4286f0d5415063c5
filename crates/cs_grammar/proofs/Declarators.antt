-- Declarators: their pointers, their name and their bounds. For the contracts of every parser of declarations.
use Rattle.std.proofs.Common.{◌≡◌, ℕ, ◌≤◌, ◌⊎◌, inl, inr, Bool, true, false, IsTrue, List, [], ◌∷◌, ◌++◌, Option, Some, None}
use Rattle.std.proofs.Common.{refl, sym, ap, ◌∙◌, subst, arith, append_assoc, append-nil}
use Rattle.std.proofs.lemmas.Bool.{false≢true}
use Rattle.cs_ast.specs.declared.token.TokenKind.{TokenKind}
use Rattle.cs_ast.specs.declared.token.TokenKind.TheVariants as token
use Rattle.cs_ast.specs.declared.token.Keyword.TheVariants as keyword
use Rattle.cs_ast.specs.declared.token.Punctuator.TheVariants as punctuator
use Rattle.cs_ast.specs.declared.raw.written_type.PointerWord.{PointerWord}
use Rattle.cs_ast.specs.declared.raw.written_type.PointerWord.TheVariants as pointer
use Rattle.cs_ast.specs.RawTree.{Written}
use Rattle.cs_ast.specs.RawDeclarations.{Declarator}
use Rattle.cs_grammar.specs.TypeWords.{Names, is_pointer}
use Rattle.cs_grammar.specs.Text.{Kinds, text, pointers_text}
use Rattle.cs_grammar.specs.FileText.{some_text, brackets_text, declarator_text}
use Rattle.cs_grammar.specs.DeclarationClasses.{HasNoBracket, Bounds, Brackets, Declarators}
use Rattle.cs_grammar.specs.Parsing.{Near, IsOver, Took, Refused, Exactly}
use Rattle.cs_grammar.specs.Composed.{ClosedSome}
use Rattle.cs_grammar.proofs.Texts.{pointers_append}
use Rattle.cs_grammar.proofs.FileTexts.{brackets_append, declarator_append}
use Rattle.cs_grammar.proofs.Holes.{Lawful, Tail, tail_refused, tail_took}
use Rattle.cs_grammar.proofs.Tails.{Least, tail_start, tail_then, tail_as, near_other}
use Rattle.cs_grammar.proofs.Sequences.{after_law, after_tail}
use Rattle.cs_grammar.proofs.Optional.{some_law}
use Rattle.cs_grammar.proofs.Rows.{Listing, row_refused}
use Rattle.cs_grammar.proofs.Pairs.{Single}
use Rattle.cs_grammar.proofs.StatementParts.{nought, expression_height}

pub bracket_form : (names : Names) (MayLack : Type 0) (list : List (Option Written)) → (Brackets names MayLack).Is list
    → (list ≡ []) ⊎ ((c : Option Written) × (rest : List (Option Written)) × (list ≡ c ∷ rest) × (Bounds names MayLack).Is c
    × (Brackets names MayLack).Is rest)
bracket_form names MayLack [] is = inl refl
bracket_form names MayLack (b ∷ bs) is = inr (b, bs, refl, is.0, is.1)

pub bracket_apart : (after : Kinds) (more : Kinds) → HasNoBracket after → token.Punctuator punctuator.OpenBracket ∷ more ≡ after → ⊥
bracket_apart after more shut same = subst HasNoBracket (sym same) shut

-- bounds are a list
abbrev pub bracket_listing : (names : Names) (MayLack : Type 0) → Listing (Brackets names MayLack) (Bounds names MayLack)
bracket_listing names MayLack = record {
  none = [];
  more = λ b bs. b ∷ bs;
  form = bracket_form names MayLack;
  is_none = tt;
  is_more = λ b bs is are. (is, are);
  spell_more = λ b bs after. refl;
  tall_none = refl;
  tall_more = λ b bs. refl;
  shut_more = λ b bs after shut. shut;
  joins = λ b bs after is are shut. tt;
  apart = λ b x after is shut same. bracket_apart after (some_text b (token.Punctuator punctuator.CloseBracket ∷ x)) shut same;
  law = after_law (token.Punctuator punctuator.OpenBracket) (ClosedSome names 2 MayLack (token.Punctuator punctuator.CloseBracket))
      (some_law names 2 MayLack (token.Punctuator punctuator.CloseBracket));
}

pub brackets_law : (names : Names) (MayLack : Type 0) → Lawful (Brackets names MayLack)
brackets_law names MayLack = brackets_append

abbrev pub brackets_least : (names : Names) (MayLack : Type 0) → Least (Brackets names MayLack)
brackets_least names MayLack = record { tree = []; is_phrase = tt; below = λ other is. omega arith }

-- bounds were taken, and others may follow
abbrev pub BracketsSoFar : Names → Type 0 → ℕ → List (Option Written) → Type 0
BracketsSoFar names MayLack limit done =
    Tail (Brackets names MayLack) (Brackets names MayLack) limit limit (brackets_text done []) (λ rest. done ++ rest) (λ rest. Unit {0})

pub brackets_none : (names : Names) (MayLack : Type 0) (limit : ℕ) → BracketsSoFar names MayLack limit []
brackets_none names MayLack limit = tail_start (Brackets names MayLack) limit

brackets_split : (done rest : List (Option Written)) (x : Kinds) → brackets_text (done ++ rest) x ≡ brackets_text done (brackets_text rest x)
brackets_split [] rest x = refl
brackets_split (d ∷ done) rest x =
    ap (λ (r : Kinds). token.Punctuator punctuator.OpenBracket ∷ some_text d (token.Punctuator punctuator.CloseBracket ∷ r)) (brackets_split done rest x)

exact_tail_row : (names : Names) (MayLack : Type 0) (limit : ℕ) (b : Option Written) → Exactly (Bounds names MayLack) limit b
    → Tail (Brackets names MayLack) (Brackets names MayLack) limit limit (brackets_text (b ∷ []) []) (λ rest. b ∷ rest) (λ rest. Unit {0})
exact_tail_row names MayLack limit b x =
    let low' = x.low in
    record {
      started = inr (record {
        phrase = b ∷ [];
        more = [];
        is_phrase = (x.is_phrase, tt);
        low = omega (arith, low');
        spelled = sym (append-nil (brackets_text (b ∷ []) []));
      });
      invert = λ whole after following is shut fit same.
          elim (bracket_form names MayLack whole is) [
            | inl e ↦
                let s : after ≡ brackets_text (b ∷ []) [] ++ following = ap (λ (w : List (Option Written)). brackets_text w after) (sym e) ∙ same in
                absurd (bracket_apart after (some_text b (token.Punctuator punctuator.CloseBracket ∷ []) ++ following) shut (sym s))
            | inr f ↦
                let s : (Bounds names MayLack).spell f.0 (brackets_text f.1 after) ≡ (Bounds names MayLack).spell b following =
                ap (λ (w : List (Option Written)). brackets_text w after) (sym f.2) ∙ same ∙ brackets_append (b ∷ []) [] following in
                let k = x.exact f.0 (brackets_text f.1 after) following f.3 s in
                (f.1, f.2 ∙ ap (λ (y : Option Written). y ∷ f.1) k.0, f.4, sym k.1)
          ];
      shut = λ part after shut. shut;
      spelled = λ part after. sym (brackets_append (b ∷ []) [] (brackets_text part after));
      is_phrase = λ part is. (x.is_phrase, is);
      low = λ part is low. omega (arith, low', low);
      rises = λ part high. omega (arith, high);
    }

-- one more bound was taken
pub brackets_more : (names : Names) (MayLack : Type 0) (limit : ℕ) (done : List (Option Written)) (b : Option Written)
    → BracketsSoFar names MayLack limit done → Exactly (Bounds names MayLack) limit b → BracketsSoFar names MayLack limit (done ++ b ∷ [])
brackets_more names MayLack limit done b so_far x =
    tail_as (Brackets names MayLack) (Brackets names MayLack) limit limit (brackets_text done [] ++ brackets_text (b ∷ []) [])
    (brackets_text (done ++ b ∷ []) []) (λ rest. done ++ (b ∷ rest)) (λ rest. (done ++ b ∷ []) ++ rest) (λ rest. Unit {0}) (λ rest. Unit {0})
    (tail_then (Brackets names MayLack) (Brackets names MayLack) (Brackets names MayLack) limit limit limit (brackets_text done [])
    (brackets_text (b ∷ []) []) (λ rest. done ++ rest) (λ rest. b ∷ rest) (λ rest. Unit {0}) (λ rest. Unit {0}) (brackets_law names MayLack) so_far
    (exact_tail_row names MayLack limit b x) (λ following fit. tt))
    (brackets_append done [] (brackets_text (b ∷ []) []) ∙ sym (brackets_split done (b ∷ []) []))
    (λ rest. sym (append_assoc done (b ∷ []) rest)) (λ following fit. tt)

-- a bound was refused after its bracket
pub brackets_refused : (names : Names) (MayLack : Type 0) (limit : ℕ) (done : List (Option Written)) → BracketsSoFar names MayLack limit done
    → (front : Kinds) (next : TokenKind) (deep : Bool) → Refused (Bounds names MayLack) limit (token.Punctuator punctuator.OpenBracket ∷ front) next deep
    → Refused (Brackets names MayLack) limit (brackets_text done [] ++ (token.Punctuator punctuator.OpenBracket ∷ front)) next deep
brackets_refused names MayLack limit done so_far front next deep r =
    tail_refused (Brackets names MayLack) (Brackets names MayLack) limit limit (brackets_text done []) (λ rest. done ++ rest) (λ rest. Unit {0})
    (brackets_law names MayLack) so_far (token.Punctuator punctuator.OpenBracket ∷ front) next deep (λ following near. tt)
    (row_refused (Brackets names MayLack) (Bounds names MayLack) limit (bracket_listing names MayLack) (token.Punctuator punctuator.OpenBracket ∷ front) next
    deep (λ after following shut near same. bracket_apart after (front ++ following) shut (sym same)) r)

end_only : (names : Names) (MayLack : Type 0) (next : TokenKind) → (next ≡ token.Punctuator punctuator.OpenBracket → ⊥)
    → (other : List (Option Written)) (after following : Kinds) → Near next following → brackets_text other after ≡ following
    → (other ≡ []) × (after ≡ following)
end_only names MayLack next other' [] after following near same = (refl, same)
end_only names MayLack next other' (b ∷ bs) after following near same =
    absurd (near_other (token.Punctuator punctuator.OpenBracket) next following
    (some_text b (token.Punctuator punctuator.CloseBracket ∷ brackets_text bs after)) other' near same)

-- no bound comes next
pub brackets_end : (names : Names) (MayLack : Type 0) (limit : ℕ) (next : TokenKind) → (next ≡ token.Punctuator punctuator.OpenBracket → ⊥)
    → Took (Brackets names MayLack) limit [] next false
brackets_end names MayLack limit next other = record {
  is_phrase = tt;
  low = omega arith;
  only = λ whole after following is shut near same. inl (end_only names MayLack next other whole after following near same);
  further = λ reported. absurd (false≢true reported);
  joined = λ reported more shut. false≢true reported;
}

full_only : (names : Names) (other : List (Option Written)) (after following : Kinds) → (Brackets names ⊥).Is other
    → Near (token.Punctuator punctuator.OpenBracket) following → brackets_text other after ≡ following
    → ((other ≡ []) × (after ≡ following)) ⊎ IsOver (Brackets names ⊥) 0 true other following
full_only names [] after following is near same = inl (refl, same)
full_only names (None ∷ bs) after following is near same = absurd is.0
full_only names (Some e ∷ bs) after following is near same =
    let h = expression_height e in
    inr (record { reported = refl; high = omega (arith, h); onward = λ none. let z = same ∙ none in cc })

-- the limit doesn't allow a bound, and an empty bound isn't allowed
pub brackets_full : (names : Names) (next : TokenKind) → Took (Brackets names ⊥) 0 [] (token.Punctuator punctuator.OpenBracket) true
brackets_full names next = record {
  is_phrase = tt;
  low = omega arith;
  only = λ whole after following is shut near same. full_only names whole after following is near same;
  further = λ reported. record {
    phrase = Some nought ∷ [];
    more = text nought (token.Punctuator punctuator.CloseBracket ∷ []);
    is_phrase = ((omega arith, tt), tt);
    spelled = refl;
  };
  joined = λ reported more shut. shut;
}

-- all bounds were taken
pub brackets_took : (names : Names) (MayLack : Type 0) (limit : ℕ) (done : List (Option Written)) (next : TokenKind) (deep : Bool)
    → BracketsSoFar names MayLack limit done → Took (Brackets names MayLack) limit [] next deep → Took (Brackets names MayLack) limit done next deep
brackets_took names MayLack limit done next deep so_far t =
    subst (λ (d : List (Option Written)). Took (Brackets names MayLack) limit d next deep) (append-nil done)
    (tail_took (Brackets names MayLack) (Brackets names MayLack) limit limit (brackets_text done []) (λ rest. done ++ rest) (λ rest. Unit {0})
    (brackets_law names MayLack) so_far [] next deep (λ following near. tt) t)

-- pointers before a name are determined by the tokens
pub pointers_name : (ps qs : List PointerWord) (n m : List ℕ) (x y : Kinds)
    → pointers_text ps (token.Name n ∷ x) ≡ pointers_text qs (token.Name m ∷ y) → (ps ≡ qs) × (n ≡ m) × (x ≡ y)
pointers_name [] [] n m x y same = (refl, cc, cc)
pointers_name [] (pointer.Star ∷ qs) n m x y same = absurd cc
pointers_name [] (pointer.Const ∷ qs) n m x y same = absurd cc
pointers_name (pointer.Star ∷ ps) [] n m x y same = absurd cc
pointers_name (pointer.Const ∷ ps) [] n m x y same = absurd cc
pointers_name (pointer.Star ∷ ps) (pointer.Const ∷ qs) n m x y same = absurd cc
pointers_name (pointer.Const ∷ ps) (pointer.Star ∷ qs) n m x y same = absurd cc
pointers_name (pointer.Star ∷ ps) (pointer.Star ∷ qs) n m x y same =
    let f = pointers_name ps qs n m x y cc in
    (ap (λ (r : List PointerWord). pointer.Star ∷ r) f.0, f.1, f.2)
pointers_name (pointer.Const ∷ ps) (pointer.Const ∷ qs) n m x y same =
    let f = pointers_name ps qs n m x y cc in
    (ap (λ (r : List PointerWord). pointer.Const ∷ r) f.0, f.1, f.2)

-- the declarator with these parts
abbrev pub declarator_of : List PointerWord → List ℕ → List (Option Written) → Declarator
declarator_of ps n bs = record { pointers = ps; name = n; bounds = bs }

pub declarator_invert : (IsName : List ℕ → Type 0) (names : Names) (MayLack : Type 0) (ps : List PointerWord) (n : List ℕ) (whole : Declarator)
    (after following : Kinds) → (Declarators IsName names MayLack).Is whole
    → declarator_text whole after ≡ pointers_text ps (token.Name n ∷ []) ++ following
    → (part : List (Option Written)) × (whole ≡ declarator_of ps n part) × (Brackets names MayLack).Is part × (following ≡ brackets_text part after)
declarator_invert IsName names MayLack ps n whole after following is same =
    let f = pointers_name whole.pointers ps whole.name n (brackets_text whole.bounds after) following (same
    ∙ pointers_append ps (token.Name n ∷ []) following) in (
      whole.bounds,
      ap (λ (q : List PointerWord). declarator_of q whole.name whole.bounds) f.0 ∙ ap (λ (m : List ℕ). declarator_of ps m whole.bounds) f.1,
      is.bounds,
      sym f.2,
    )

-- the pointers and the name of a declarator were taken: its bounds remain
abbrev pub declarator_single : (IsName : List ℕ → Type 0) (names : Names) (MayLack : Type 0) (ps : List PointerWord) (n : List ℕ)
    → IsTrue (is_pointer ps) → IsName n
    → Single (Declarators IsName names MayLack) (Brackets names MayLack) 1 (pointers_text ps (token.Name n ∷ [])) (declarator_of ps n) (λ rest. Unit {0})
declarator_single IsName names MayLack ps n p i = record {
  production = record {
    invert = λ whole after following is fit same. declarator_invert IsName names MayLack ps n whole after following is same;
    shut = λ part after shut. shut;
    spelled = λ part after. sym (pointers_append ps (token.Name n ∷ []) (brackets_text part after));
    is_phrase = λ part is. record { pointers = p; named = i; bounds = is };
    taller = λ part. refl;
  };
  law = brackets_law names MayLack;
  least = brackets_least names MayLack;
}

pub declarators_law : (IsName : List ℕ → Type 0) (names : Names) (MayLack : Type 0) → Lawful (Declarators IsName names MayLack)
declarators_law IsName names MayLack = declarator_append

abbrev pub declarators_least : (IsName : List ℕ → Type 0) (names : Names) (MayLack : Type 0) (n : List ℕ) → IsName n
    → Least (Declarators IsName names MayLack)
declarators_least IsName names MayLack n i = record {
  tree = declarator_of [] n [];
  is_phrase = record { pointers = refl; named = i; bounds = tt };
  below = λ other is. omega arith;
}

-- what follows the pointers is neither one of their tokens nor such a name
pub record IsNoName (IsName : List ℕ → Type 0) (next : TokenKind) : Type 0 where
  pub no_star : next ≡ token.Punctuator punctuator.Star → ⊥
  pub no_const : next ≡ token.Keyword keyword.Const → ⊥
  pub no_name : (n : List ℕ) → next ≡ token.Name n → IsName n → ⊥

name_never : (IsName : List ℕ → Type 0) (next : TokenKind) → IsNoName IsName next
    → (ps qs : List PointerWord) (n : List ℕ) (x following : Kinds) → IsName n → Near next following
    → pointers_text qs (token.Name n ∷ x) ≡ pointers_text ps following → ⊥
name_never IsName next none [] [] n x following i near same =
    elim near [
      | inl e ↦ let z = same ∙ e in cc
      | inr m ↦ let z : token.Name n ∷ x ≡ next ∷ m.0 = same ∙ m.1 in let k : next ≡ token.Name n = cc in none.no_name n k i
    ]
name_never IsName next none [] (pointer.Star ∷ qs) n x following i near same =
    elim near [
      | inl e ↦ let z = same ∙ e in cc
      | inr m ↦ let z : token.Punctuator punctuator.Star ∷ pointers_text qs (token.Name n ∷ x) ≡ next ∷ m.0 = same ∙ m.1 in none.no_star cc
    ]
name_never IsName next none [] (pointer.Const ∷ qs) n x following i near same =
    elim near [
      | inl e ↦ let z = same ∙ e in cc
      | inr m ↦ let z : token.Keyword keyword.Const ∷ pointers_text qs (token.Name n ∷ x) ≡ next ∷ m.0 = same ∙ m.1 in none.no_const cc
    ]
name_never IsName next none (pointer.Star ∷ ps) [] n x following i near same = cc
name_never IsName next none (pointer.Const ∷ ps) [] n x following i near same = cc
name_never IsName next none (pointer.Star ∷ ps) (pointer.Const ∷ qs) n x following i near same = cc
name_never IsName next none (pointer.Const ∷ ps) (pointer.Star ∷ qs) n x following i near same = cc
name_never IsName next none (pointer.Star ∷ ps) (pointer.Star ∷ qs) n x following i near same = name_never IsName next none ps qs n x following i near cc
name_never IsName next none (pointer.Const ∷ ps) (pointer.Const ∷ qs) n x following i near same = name_never IsName next none ps qs n x following i near cc

-- no name follows the pointers
pub name_missing : (IsName : List ℕ → Type 0) (names : Names) (MayLack : Type 0) (limit : ℕ) (some : List ℕ) → IsName some → 1 ≤ limit
    → (ps : List PointerWord) → IsTrue (is_pointer ps) → (next : TokenKind) → IsNoName IsName next
    → Refused (Declarators IsName names MayLack) limit (pointers_text ps []) next false
name_missing IsName names MayLack limit some i fits ps p next none = record {
  begun = inr (record {
    phrase = declarator_of ps some [];
    more = token.Name some ∷ [];
    is_phrase = record { pointers = p; named = i; bounds = tt };
    low = omega (arith, fits);
    spelled = sym (pointers_append ps [] (token.Name some ∷ []));
  });
  never = λ other after following is shut near same.
      absurd (name_never IsName next none ps other.pointers other.name (brackets_text other.bounds after) following is.named near (same
      ∙ pointers_append ps [] following));
  further = λ reported. absurd (false≢true reported);
}

-- what follows the bracket of a bound was refused
pub bound_refused : (names : Names) (MayLack : Type 0) (limit : ℕ) → (least : Least (ClosedSome names 2 MayLack (token.Punctuator punctuator.CloseBracket)))
    → (ClosedSome names 2 MayLack (token.Punctuator punctuator.CloseBracket)).tall least.tree ≤ limit
    → (front : Kinds) (next : TokenKind) (deep : Bool)
    → Refused (ClosedSome names 2 MayLack (token.Punctuator punctuator.CloseBracket)) limit front next deep
    → Refused (Bounds names MayLack) limit (token.Punctuator punctuator.OpenBracket ∷ front) next deep
bound_refused names MayLack limit least fits front next deep r =
    tail_refused (Bounds names MayLack) (ClosedSome names 2 MayLack (token.Punctuator punctuator.CloseBracket)) limit limit
    (token.Punctuator punctuator.OpenBracket ∷ []) (λ d. d) (λ rest. Unit {0}) (some_law names 2 MayLack (token.Punctuator punctuator.CloseBracket))
    (after_tail (token.Punctuator punctuator.OpenBracket) (ClosedSome names 2 MayLack (token.Punctuator punctuator.CloseBracket)) limit least fits) front
    next deep (λ following near. tt) r

-- a bound was taken
pub bound_exact : (names : Names) (MayLack : Type 0) (limit : ℕ) (b : Option Written)
    → Exactly (ClosedSome names 2 MayLack (token.Punctuator punctuator.CloseBracket)) limit b → Exactly (Bounds names MayLack) limit b
bound_exact names MayLack limit b x = record {
  is_phrase = x.is_phrase;
  low = x.low;
  exact = λ other after following is same. x.exact other after following is cc;
}
