-- One phrase after another, and a token before or after: for the contracts of every parser of declarations, statements and files.
use Rattle.std.proofs.Common.{◌≡◌, ℕ, ◌+◌, ◌≤◌, inl, inr, Bool, true, false, [], ◌∷◌, ◌++◌, refl, sym, ap, ◌∙◌, subst, arith}
use Rattle.std.proofs.Common.{append_assoc}
use Rattle.std.proofs.lemmas.Bool.{false≢true}
use Rattle.cs_ast.specs.declared.token.TokenKind.{TokenKind}
use Rattle.cs_grammar.specs.Text.{Kinds}
use Rattle.cs_grammar.specs.Parsing.{Class, Near, Took, Refused, Exactly}
use Rattle.cs_grammar.specs.Composed.{Sequence, Following}
use Rattle.cs_grammar.proofs.Holes.{Lawful, splits, Tail, tail_refused, tail_took, ClosedBy, Ended}
use Rattle.cs_grammar.proofs.Tails.{first_or, near_first, Least, Production, production_tail, none_refused}

-- any phrase of D may follow one of C
abbrev pub Joins : Class → Class → Type 0
Joins C D = (c : C.Tree) (d : D.Tree) (after : Kinds) → C.Is c → D.Is d → D.Shut d after → C.Shut c (D.spell d after)

pub sequence_law : (C D : Class) → Lawful C → Lawful D → Lawful (Sequence C D)
sequence_law C D lc ld = λ pair x y. lc pair.0 (D.spell pair.1 x) y ∙ ap (λ (r : Kinds). C.spell pair.0 r) (ld pair.1 x y)

abbrev pub sequence_least : (C D : Class) → Least C → Least D → Least (Sequence C D)
sequence_least C D lc ld = record {
  tree = (lc.tree, ld.tree);
  is_phrase = (lc.is_phrase, ld.is_phrase);
  below = λ other is. let c = lc.below other.0 is.0 in let d = ld.below other.1 is.1 in omega (arith, c, d);
}

front_text : (C D : Class) → Lawful C → (c : C.Tree) (d : D.Tree) (front more : Kinds) → C.spell c [] ≡ front ++ more
    → C.spell c (D.spell d []) ≡ front ++ (more ++ D.spell d [])
front_text C D law c d front more same = splits C law c (D.spell d []) ∙ ap (λ (x : Kinds). x ++ D.spell d []) same
    ∙ append_assoc front more (D.spell d [])

-- the first of two was refused
pub first_refused : (C D : Class) (limit : ℕ) → Lawful C → Joins C D → (least : Least D) → D.tall least.tree ≤ limit
    → (front : Kinds) (next : TokenKind) (deep : Bool) → Refused C limit front next deep → Refused (Sequence C D) limit front next deep
first_refused C D limit law joins least fits front next deep r = record {
  begun = elim r.begun [
    | inl none ↦ inl none
    | inr b ↦ inr (record {
      phrase = (b.phrase, least.tree);
      more = b.more ++ D.spell least.tree [];
      is_phrase = (b.is_phrase, least.is_phrase);
      low = let l = b.low in omega (arith, l, fits);
      spelled = front_text C D law b.phrase least.tree front b.more b.spelled;
    })
  ];
  never = λ other after following is shut near same.
      let v = r.never other.0 (D.spell other.1 after) following is.0 (joins other.0 other.1 after is.0 is.1 shut) near same in
      record { reported = v.reported; high = let h = v.high in omega (arith, h); onward = v.onward };
  further = λ reported.
      let b = r.further reported in
      record {
        phrase = (b.phrase, least.tree);
        more = b.more ++ D.spell least.tree [];
        is_phrase = (b.is_phrase, least.is_phrase);
        spelled = front_text C D law b.phrase least.tree (front ++ next ∷ []) b.more b.spelled;
      };
}

-- the first of two was taken before a token that may follow it: the second remains
pub second_tail : (C D : Class) (limit : ℕ) → Lawful C → Joins C D → (least : Least D) → D.tall least.tree ≤ limit
    → (c : C.Tree) (next : TokenKind) (deep : Bool) → Took C limit c next deep → (deep ≡ true → C.Shut c (next ∷ []))
    → Tail (Sequence C D) D limit limit (C.spell c []) (λ d. (c, d)) (Near next)
second_tail C D limit law joins least fits c next deep t settled =
    let low' = t.low in
    record {
      started = inr (record {
        phrase = (c, least.tree);
        more = D.spell least.tree [];
        is_phrase = (t.is_phrase, least.is_phrase);
        low = omega (arith, low', fits);
        spelled = splits C law c (D.spell least.tree []);
      });
      invert = λ whole after following is shut near same.
          elim (t.only whole.0 (D.spell whole.1 after) following is.0 (joins whole.0 whole.1 after is.0 is.1 shut) near (same
          ∙ sym (splits C law c following))) [
            | inl e ↦ (whole.1, ap (λ (x : C.Tree). (x, whole.1)) e.0, is.1, sym e.1)
            | inr over ↦ absurd (t.joined over.reported [] (settled over.reported))
          ];
      shut = λ part after shut. shut;
      spelled = λ part after. splits C law c (D.spell part after);
      is_phrase = λ part is. (t.is_phrase, is);
      low = λ part is low. omega (arith, low', low);
      rises = λ part high. omega (arith, high);
    }

-- the first of two was taken, and a token came with which none of the second begins
pub second_wrong : (C D : Class) (limit : ℕ) → Lawful C → Joins C D → (least : Least D) → D.tall least.tree ≤ limit
    → (c : C.Tree) (next : TokenKind) (deep : Bool) → Took C limit c next deep
    → ((d : D.Tree) (after : Kinds) → D.Is d → D.spell d after ≡ [] → ⊥)
    → ((d : D.Tree) (after more : Kinds) → D.Is d → D.spell d after ≡ next ∷ more → ⊥) → Refused (Sequence C D) limit (C.spell c []) next deep
second_wrong C D limit law joins least fits c next deep t some none = record {
  begun = inr (record {
    phrase = (c, least.tree);
    more = D.spell least.tree [];
    is_phrase = (t.is_phrase, least.is_phrase);
    low = let l = t.low in omega (arith, l, fits);
    spelled = splits C law c (D.spell least.tree []);
  });
  never = λ other after following is shut near same.
      elim (t.only other.0 (D.spell other.1 after) following is.0 (joins other.0 other.1 after is.0 is.1 shut) near (same ∙ sym (splits C law c following))) [
        | inl e ↦ absurd (elim near [ inl z ↦ some other.1 after is.1 (e.1 ∙ z) | inr m ↦ none other.1 after m.0 is.1 (e.1 ∙ m.1) ])
        | inr over ↦ record { reported = over.reported; high = let h = over.high in omega (arith, h); onward = over.onward }
      ];
  further = λ reported.
      let b = t.further reported in
      record {
        phrase = (b.phrase, least.tree);
        more = b.more ++ D.spell least.tree [];
        is_phrase = (b.is_phrase, least.is_phrase);
        spelled = front_text C D law b.phrase least.tree (C.spell c [] ++ next ∷ []) b.more (b.spelled
            ∙ ap (λ (x : Kinds). x ++ b.more) (splits C law c (next ∷ [])));
      };
}

pub after_law : (t : TokenKind) (D : Class) → Lawful D → Lawful (Following t D)
after_law t D law = λ tree x y. ap (λ (r : Kinds). t ∷ r) (law tree x y)

abbrev pub after_least : (t : TokenKind) (D : Class) → Least D → Least (Following t D)
after_least t D least = record { tree = least.tree; is_phrase = least.is_phrase; below = least.below }

abbrev pub closed_least : (D : Class) (t : TokenKind) → Least D → Least (ClosedBy D t)
closed_least D t least = record { tree = least.tree; is_phrase = least.is_phrase; below = least.below }

abbrev pub ended_least : Least Ended
ended_least = record { tree = tt; is_phrase = tt; below = λ other is. omega arith }

-- the next token is this one: the phrase after it remains
pub after_tail : (t : TokenKind) (D : Class) (limit : ℕ) → (least : Least D) → D.tall least.tree ≤ limit
    → Tail (Following t D) D limit limit (t ∷ []) (λ d. d) (λ rest. Unit {0})
after_tail t D limit least fits = record {
  started = inr (record { phrase = least.tree; more = D.spell least.tree []; is_phrase = least.is_phrase; low = fits; spelled = refl });
  invert = λ whole after following is shut fit same. (whole, refl, is, cc);
  shut = λ part after shut. shut;
  spelled = λ part after. refl;
  is_phrase = λ part is. is;
  low = λ part is low. low;
  rises = λ part high. high;
}

-- the next token is another one
pub after_wrong : (t : TokenKind) (D : Class) (limit : ℕ) (next : TokenKind) → (next ≡ t → ⊥) → Refused (Following t D) limit [] next false
after_wrong t D limit next other = none_refused (Following t D) limit next (λ o after is same. cc) (λ o after more is same. other cc)

-- the first of two was taken, whatever follows it: the second remains
pub exact_tail : (C D : Class) (limit : ℕ) → Lawful C → (least : Least D) → D.tall least.tree ≤ limit → (c : C.Tree) → Exactly C limit c
    → Tail (Sequence C D) D limit limit (C.spell c []) (λ d. (c, d)) (λ rest. Unit {0})
exact_tail C D limit law least fits c e =
    let low' = e.low in
    record {
      started = inr (record {
        phrase = (c, least.tree);
        more = D.spell least.tree [];
        is_phrase = (e.is_phrase, least.is_phrase);
        low = omega (arith, low', fits);
        spelled = splits C law c (D.spell least.tree []);
      });
      invert = λ whole after following is shut fit same.
          let k = e.exact whole.0 (D.spell whole.1 after) following is.0 (same ∙ sym (splits C law c following)) in
          (whole.1, ap (λ (x : C.Tree). (x, whole.1)) k.0, is.1, sym k.1);
      shut = λ part after shut. shut;
      spelled = λ part after. splits C law c (D.spell part after);
      is_phrase = λ part is. (e.is_phrase, is);
      low = λ part is low. omega (arith, low', low);
      rises = λ part high. omega (arith, high);
    }

-- the first of two was taken, the second refused
pub exact_then_refused : (C D : Class) (limit : ℕ) → Lawful C → Lawful D → (least : Least D) → D.tall least.tree ≤ limit
    → (c : C.Tree) → Exactly C limit c → (front : Kinds) (next : TokenKind) (deep : Bool) → Refused D limit front next deep
    → Refused (Sequence C D) limit (C.spell c [] ++ front) next deep
exact_then_refused C D limit lc ld least fits c e front next deep r =
    tail_refused (Sequence C D) D limit limit (C.spell c []) (λ d. (c, d)) (λ rest. Unit {0}) ld (exact_tail C D limit lc least fits c e) front next deep
    (λ following near. tt) r

-- both were taken
pub exact_then_took : (C D : Class) (limit : ℕ) → Lawful C → Lawful D → (least : Least D) → D.tall least.tree ≤ limit
    → (c : C.Tree) → Exactly C limit c → (d : D.Tree) (next : TokenKind) (deep : Bool) → Took D limit d next deep
    → Took (Sequence C D) limit (c, d) next deep
exact_then_took C D limit lc ld least fits c e d next deep t =
    tail_took (Sequence C D) D limit limit (C.spell c []) (λ d. (c, d)) (λ rest. Unit {0}) ld (exact_tail C D limit lc least fits c e) d next deep
    (λ following near. tt) t

-- both were taken, whatever follows them
pub exact_both : (C D : Class) (limit : ℕ) → (c : C.Tree) (d : D.Tree) → Exactly C limit c → Exactly D limit d → Exactly (Sequence C D) limit (c, d)
exact_both C D limit c d ec ed =
    let lc = ec.low in
    let ld = ed.low in
    record {
      is_phrase = (ec.is_phrase, ed.is_phrase);
      low = omega (arith, lc, ld);
      exact = λ other after following is same.
          let k = ec.exact other.0 (D.spell other.1 after) (D.spell d following) is.0 same in
          let l = ed.exact other.1 after following is.1 k.1 in
          (ap (λ (x : C.Tree). (x, other.1)) k.0 ∙ ap (λ (y : D.Tree). (c, y)) l.0, l.1);
    }

-- the same if the first of two was taken before a token that may follow it
pub then_refused : (C D : Class) (limit : ℕ) → Lawful C → Lawful D → Joins C D → (least : Least D) → D.tall least.tree ≤ limit
    → (c : C.Tree) (first : TokenKind) (deep : Bool) → Took C limit c first deep → (deep ≡ true → C.Shut c (first ∷ []))
    → (front : Kinds) (next : TokenKind) (deep' : Bool) → first_or front next ≡ first → Refused D limit front next deep'
    → Refused (Sequence C D) limit (C.spell c [] ++ front) next deep'
then_refused C D limit lc ld joins least fits c first deep t settled front next deep' starts r =
    tail_refused (Sequence C D) D limit limit (C.spell c []) (λ d. (c, d)) (Near first) ld (second_tail C D limit lc joins least fits c first deep t settled)
    front next deep' (near_first front next first starts) r

pub then_took : (C D : Class) (limit : ℕ) → Lawful C → Lawful D → Joins C D → (least : Least D) → D.tall least.tree ≤ limit
    → (c : C.Tree) (first : TokenKind) (deep : Bool) → Took C limit c first deep → (deep ≡ true → C.Shut c (first ∷ []))
    → (d : D.Tree) (next : TokenKind) (deep' : Bool) → first_or (D.spell d []) next ≡ first → Took D limit d next deep'
    → Took (Sequence C D) limit (c, d) next deep'
then_took C D limit lc ld joins least fits c first deep t settled d next deep' starts t' =
    tail_took (Sequence C D) D limit limit (C.spell c []) (λ d. (c, d)) (Near first) ld (second_tail C D limit lc joins least fits c first deep t settled) d
    next deep'
    (λ following near. subst (λ (x : Kinds). Near first x) (ld d [] following) (near_first (D.spell d []) next first starts following near)) t'

-- a phrase of D was taken, and only phrases of C that are built of one have this beginning: for productions
pub made_refused : (C D : Class) (plus : ℕ) (before : Kinds) (build : D.Tree → C.Tree) (Fit : Kinds → Type 0) (limit inner : ℕ)
    → limit ≡ plus + inner → Production C D plus before build Fit → (least : Least D) → D.tall least.tree ≤ inner → Lawful D
    → (front : Kinds) (next : TokenKind) (deep : Bool) → ((following : Kinds) → Near next following → Fit (front ++ following))
    → Refused D inner front next deep → Refused C limit (before ++ front) next deep
made_refused C D plus before build Fit limit inner less p least fits law front next deep fit r =
    tail_refused C D limit inner before build Fit law (production_tail C D plus before build Fit limit inner less p least fits) front next deep fit r

pub made_took : (C D : Class) (plus : ℕ) (before : Kinds) (build : D.Tree → C.Tree) (Fit : Kinds → Type 0) (limit inner : ℕ) → limit ≡ plus + inner
    → Production C D plus before build Fit → (least : Least D) → D.tall least.tree ≤ inner → Lawful D
    → (part : D.Tree) (next : TokenKind) (deep : Bool) → ((following : Kinds) → Near next following → Fit (D.spell part following))
    → Took D inner part next deep → Took C limit (build part) next deep
made_took C D plus before build Fit limit inner less p least fits law part next deep fit t =
    tail_took C D limit inner before build Fit law (production_tail C D plus before build Fit limit inner less p least fits) part next deep fit t

-- what was taken before a token that may follow it was taken within a smaller limit too, if it isn't higher
pub took_lower : (C : Class) (limit inner : ℕ) (c : C.Tree) (next : TokenKind) (deep : Bool) → Took C limit c next deep
    → (deep ≡ true → C.Shut c (next ∷ [])) → C.tall c ≤ inner → Took C inner c next false
took_lower C limit inner c next deep t settled fits = record {
  is_phrase = t.is_phrase;
  low = fits;
  only = λ other after following is shut near same.
      elim (t.only other after following is shut near same) [
        | inl e ↦ inl e
        | inr over ↦ absurd (t.joined over.reported [] (settled over.reported))
      ];
  further = λ reported. absurd (false≢true reported);
  joined = λ reported more shut. false≢true reported;
}

each_took : (C : Class) (limit : ℕ) (c : C.Tree) → ((next : TokenKind) → Took C limit c next false)
    → ((other : C.Tree) (after : Kinds) → C.Shut other after) → (some : TokenKind) → (other : C.Tree) (after following : Kinds) → C.Is other
    → C.spell other after ≡ C.spell c following → (other ≡ c) × (after ≡ following)
each_took C limit c took shut some other after [] is same =
    elim ((took some).only other after [] is (shut other after) (inl refl) same) [ inl e ↦ e | inr over ↦ absurd (false≢true over.reported) ]
each_took C limit c took shut some other after (t ∷ following) is same =
    elim ((took t).only other after (t ∷ following) is (shut other after) (inr (following, refl)) same) [
      | inl e ↦ e
      | inr over ↦ absurd (false≢true over.reported)
    ]

-- what was taken before every token, and may be followed by any, is determined by its tokens
pub took_exact : (C : Class) (limit : ℕ) (c : C.Tree) → ((next : TokenKind) → Took C limit c next false)
    → ((other : C.Tree) (after : Kinds) → C.Shut other after) → (some : TokenKind) → Exactly C limit c
took_exact C limit c took shut some = record {
  is_phrase = (took some).is_phrase;
  low = (took some).low;
  exact = λ other after following is same. each_took C limit c took shut some other after following is same;
}
