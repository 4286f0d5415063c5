-- The rest of a phrase after its first tokens: for the contracts of every parser of declarations, statements and files. A `Tail`
-- states that the phrases of C that begin with some tokens consist of those and a phrase of D. Tails are composed, and at each
-- return a refusal or a phrase of D yields one of C (`tail_refused`, `tail_took`).
use Rattle.std.proofs.Common.{◌≡◌, ℕ, ◌+◌, ◌<◌, ◌≤◌, inl, inr, true, false, [], ◌∷◌, ◌++◌, refl, sym, ap, ◌∙◌, subst}
use Rattle.std.proofs.Common.{arith, append_assoc, append-nil}
use Rattle.std.proofs.lemmas.Bool.{false≢true}
use Rattle.cs_ast.specs.declared.token.TokenKind.{TokenKind}
use Rattle.cs_grammar.specs.Text.{Kinds}
use Rattle.cs_grammar.specs.Parsing.{Class, Near, Begins, Refused}
use Rattle.cs_grammar.proofs.Holes.{Lawful, Tail}

-- the first of these tokens, or the next one if there are none
abbrev pub first_or : Kinds → TokenKind → TokenKind
first_or [] next = next
first_or (t ∷ tokens) next = t

-- tokens that continue with the next token continue with the first one
pub near_first : (front : Kinds) (next first : TokenKind) → first_or front next ≡ first → (following : Kinds) → Near next following
    → Near first (front ++ following)
near_first [] next first e following near = elim near [ inl none ↦ inl none | inr m ↦ inr (m.0, m.1 ∙ ap (λ (t : TokenKind). t ∷ m.0) e) ]
near_first (t ∷ tokens) next first e following near = inr (tokens ++ following, ap (λ (x : TokenKind). x ∷ (tokens ++ following)) e)

-- tokens that continue with the next token don't begin with another one
pub near_other : (t next : TokenKind) (following more : Kinds) → (next ≡ t → ⊥) → Near next following → t ∷ more ≡ following → ⊥
near_other t next following more other near same =
    elim near [ inl none ↦ let z = same ∙ none in cc | inr m ↦ let z : t ∷ more ≡ next ∷ m.0 = same ∙ m.1 in other cc ]

-- a tail of a tail
pub tail_then : (C D E : Class) (limit mid inner : ℕ) (before next : Kinds) (build : D.Tree → C.Tree) (build' : E.Tree → D.Tree) (Fit Fit' : Kinds
    → Type 0) → Lawful D → Tail C D limit mid before build Fit → Tail D E mid inner next build' Fit'
    → ((following : Kinds) → Fit' following → Fit (next ++ following)) → Tail C E limit inner (before ++ next) (λ part. build (build' part)) Fit'
tail_then C D E limit mid inner before next build build' Fit Fit' law t t' fits = record {
  started = elim t'.started [
    | inl none ↦ elim t.started [
      | inl empty ↦ inl (ap (λ (x : Kinds). x ++ next) empty ∙ none)
      | inr b ↦ inr (record {
        phrase = b.phrase;
        more = b.more;
        is_phrase = b.is_phrase;
        low = b.low;
        spelled = b.spelled ∙ ap (λ (x : Kinds). x ++ b.more) (sym (ap (λ (x : Kinds). before ++ x) none ∙ append-nil before));
      })
    ]
    | inr b ↦ inr (record {
      phrase = build b.phrase;
      more = b.more;
      is_phrase = t.is_phrase b.phrase b.is_phrase;
      low = t.low b.phrase b.is_phrase b.low;
      spelled = t.spelled b.phrase [] ∙ ap (λ (x : Kinds). before ++ x) b.spelled ∙ sym (append_assoc before next b.more);
    })
  ];
  invert = λ whole after following is shut fit same.
      let f = t.invert whole after (next ++ following) is shut (fits following fit) (same ∙ append_assoc before next following) in
      let g = t'.invert f.0 after following f.2 (t.shut f.0 after (subst (λ (w : C.Tree). C.Shut w after) f.1 shut)) fit (sym f.3) in
      (g.0, f.1 ∙ ap build g.1, g.2, g.3);
  shut = λ part after shut. t'.shut part after (t.shut (build' part) after shut);
  spelled = λ part after. t.spelled (build' part) after ∙ ap (λ (x : Kinds). before ++ x) (t'.spelled part after)
      ∙ sym (append_assoc before next (E.spell part after));
  is_phrase = λ part is. t.is_phrase (build' part) (t'.is_phrase part is);
  low = λ part is low. t.low (build' part) (t'.is_phrase part is) (t'.low part is low);
  rises = λ part high. t.rises (build' part) (t'.rises part high);
}

-- the same tail, written differently
pub tail_as : (C D : Class) (limit inner : ℕ) (before before' : Kinds) (build build' : D.Tree → C.Tree) (Fit Fit' : Kinds → Type 0)
    → Tail C D limit inner before build Fit → before ≡ before' → ((part : D.Tree) → build part ≡ build' part)
    → ((following : Kinds) → Fit' following → Fit following) → Tail C D limit inner before' build' Fit'
tail_as C D limit inner before before' build build' Fit Fit' t b same fits = record {
  started = elim t.started [
    | inl none ↦ inl (sym b ∙ none)
    | inr l ↦ inr (record {
      phrase = l.phrase;
      more = l.more;
      is_phrase = l.is_phrase;
      low = l.low;
      spelled = l.spelled ∙ ap (λ (x : Kinds). x ++ l.more) b;
    })
  ];
  invert = λ whole after following is shut fit eq.
      let f = t.invert whole after following is shut (fits following fit) (eq ∙ ap (λ (x : Kinds). x ++ following) (sym b)) in
      (f.0, f.1 ∙ same f.0, f.2, f.3);
  shut = λ part after shut. t.shut part after (subst (λ (w : C.Tree). C.Shut w after) (sym (same part)) shut);
  spelled = λ part after. ap (λ (w : C.Tree). C.spell w after) (sym (same part)) ∙ t.spelled part after ∙ ap (λ (x : Kinds). x ++ D.spell part after) b;
  is_phrase = λ part is. subst C.Is (same part) (t.is_phrase part is);
  low = λ part is low. subst (λ (w : C.Tree). C.tall w ≤ limit) (same part) (t.low part is low);
  rises = λ part high. subst (λ (w : C.Tree). limit < C.tall w) (same part) (t.rises part high);
}

-- nothing has been read yet
pub tail_start : (C : Class) (limit : ℕ) → Tail C C limit limit [] (λ part. part) (λ rest. Unit {0})
tail_start C limit = record {
  started = inl refl;
  invert = λ whole after following is shut fit same. (whole, refl, is, sym same);
  shut = λ part after shut. shut;
  spelled = λ part after. refl;
  is_phrase = λ part is. is;
  low = λ part is low. low;
  rises = λ part high. high;
}

-- a phrase than which none is lower
pub record Least (C : Class) : Type 0 where
  pub tree : C.Tree
  pub is_phrase : C.Is tree
  pub below : (other : C.Tree) → C.Is other → C.tall tree ≤ C.tall other

-- the phrases of C that begin with these tokens are built of phrases of D, and so much higher than these
pub record Production (C D : Class) (plus : ℕ) (before : Kinds) (build : D.Tree → C.Tree) (Fit : Kinds → Type 0) : Type 0 where
  pub invert : (whole : C.Tree) (after following : Kinds) → C.Is whole → Fit following → C.spell whole after ≡ before ++ following
      → (part : D.Tree) × (whole ≡ build part) × D.Is part × (following ≡ D.spell part after)
  pub shut : (part : D.Tree) (after : Kinds) → C.Shut (build part) after → D.Shut part after
  pub spelled : (part : D.Tree) (after : Kinds) → C.spell (build part) after ≡ before ++ D.spell part after
  pub is_phrase : (part : D.Tree) → D.Is part → C.Is (build part)
  pub taller : (part : D.Tree) → C.tall (build part) ≡ plus + D.tall part

-- if the limit allows the lowest of them, they are a tail
pub production_tail : (C D : Class) (plus : ℕ) (before : Kinds) (build : D.Tree → C.Tree) (Fit : Kinds → Type 0) (limit inner : ℕ)
    → limit ≡ plus + inner → Production C D plus before build Fit → (least : Least D) → D.tall least.tree ≤ inner
    → Tail C D limit inner before build Fit
production_tail C D plus before build Fit limit inner less p least fits = record {
  started = inr (record {
    phrase = build least.tree;
    more = D.spell least.tree [];
    is_phrase = p.is_phrase least.tree least.is_phrase;
    low = let t = p.taller least.tree in omega (arith, t, fits, less);
    spelled = p.spelled least.tree [];
  });
  invert = λ whole after following is shut fit same. p.invert whole after following is fit same;
  shut = p.shut;
  spelled = p.spelled;
  is_phrase = p.is_phrase;
  low = λ part is low. let t = p.taller part in omega (arith, t, low, fits, less);
  rises = λ part high. let t = p.taller part in omega (arith, t, high, fits, less);
}

-- if it doesn't, the first token is refused, provided that all phrases that begin with it exceed the limit
pub full_refused : (C : Class) (limit : ℕ) (next : TokenKind) → ((other : C.Tree) (after : Kinds) → C.Is other → C.spell other after ≡ [] → ⊥)
    → ((other : C.Tree) (after more : Kinds) → C.Is other → C.spell other after ≡ next ∷ more → limit < C.tall other) → Begins C (next ∷ [])
    → Refused C limit [] next true
full_refused C limit next some high begins = record {
  begun = inl refl;
  never = λ other after following is shut near same.
      elim near [
        | inl none ↦ absurd (some other after is (same ∙ none))
        | inr m ↦ record {
          reported = refl;
          high = high other after m.0 is (same ∙ m.1);
          onward = λ none. let e : next ∷ m.0 ≡ [] = sym m.1 ∙ none in cc;
        }
      ];
  further = λ reported. begins;
}

-- no phrase begins with the token
pub none_refused : (C : Class) (limit : ℕ) (next : TokenKind) → ((other : C.Tree) (after : Kinds) → C.Is other → C.spell other after ≡ [] → ⊥)
    → ((other : C.Tree) (after more : Kinds) → C.Is other → C.spell other after ≡ next ∷ more → ⊥) → Refused C limit [] next false
none_refused C limit next some none = record {
  begun = inl refl;
  never = λ other after following is shut near same.
      absurd (elim near [ inl e ↦ some other after is (same ∙ e) | inr m ↦ none other after m.0 is (same ∙ m.1) ]);
  further = λ reported. absurd (false≢true reported);
}
