-- A phrase inside another: what follows for the whole if the part was refused, or if a wrong token followed it. For the contracts
-- of every parser of phrases.
use Rattle.std.proofs.Common.{◌≡◌, ℕ, ◌<◌, ◌≤◌, ◌⊎◌, inl, inr, Bool, false, arith, List, [], ◌∷◌, ◌++◌, refl, sym, ap}
use Rattle.std.proofs.Common.{◌∙◌, append_assoc, append-nil, subst}
use Rattle.cs_ast.specs.declared.token.TokenKind.{TokenKind}
use Rattle.cs_ast.specs.declared.token.TokenKind.TheVariants as token
use Rattle.std.proofs.lemmas.Bool.{false≢true}
use Rattle.cs_grammar.specs.Text.{Kinds}
use Rattle.cs_grammar.specs.Parsing.{Class, Near, IsOver, BeginsLow, Took, Refused, Exactly}

-- what follows the tokens of a tree may be cut off
abbrev pub Lawful : Class → Type 0
Lawful C = (tree : C.Tree) (x y : Kinds) → C.spell tree x ++ y ≡ C.spell tree (x ++ y)

pub splits : (C : Class) → Lawful C → (tree : C.Tree) (x : Kinds) → C.spell tree x ≡ C.spell tree [] ++ x
splits C law tree x = sym (law tree [] x)

-- what fills a hole in a phrase of C: a phrase of D, before these tokens, which exceeds its limit only if the whole does
pub record Filling (C D : Class) (limit inner : ℕ) (After : Kinds → Type 0) (whole : C.Tree) (following : Kinds) : Type 0 where
  pub part : D.Tree
  pub rest : Kinds
  pub is_phrase : D.Is part
  pub spelled : following ≡ D.spell part rest
  pub shut : D.Shut part rest
  pub after : After rest
  pub rises : inner < D.tall part → limit < C.tall whole

-- a phrase of C around a phrase of D
pub record Completion (C D : Class) (limit inner : ℕ) (before : Kinds) (part : D.Tree) : Type 0 where
  pub whole : C.Tree
  pub more : Kinds
  pub is_phrase : C.Is whole
  pub spelled : C.spell whole [] ≡ before ++ D.spell part more
  pub low : D.tall part ≤ inner → C.tall whole ≤ limit

-- a hole for a phrase of D in phrases of C, after these tokens and before those, where what fills it has to fit
pub record Hole (C D : Class) (limit inner : ℕ) (before : Kinds) (Fit After : Kinds → Type 0) : Type 0 where
  pub started : (before ≡ []) ⊎ BeginsLow C limit before
  pub invert : (whole : C.Tree) (after following : Kinds) → C.Is whole → C.Shut whole after → Fit following
      → C.spell whole after ≡ before ++ following → Filling C D limit inner After whole following
  pub complete : (part : D.Tree) → D.Is part → Completion C D limit inner before part

over_whole : (C D : Class) (limit inner : ℕ) (deep : Bool) (whole : C.Tree) (part : D.Tree) (following : Kinds)
    → (inner < D.tall part → limit < C.tall whole) → IsOver D inner deep part following → IsOver C limit deep whole following
over_whole C D limit inner deep whole part following rises over = record { reported = over.reported; high = rises over.high; onward = over.onward }

completed : (C D : Class) (limit inner : ℕ) (before front more : Kinds) (part : D.Tree) → Lawful D
    → (done : Completion C D limit inner before part) → D.spell part [] ≡ front ++ more
    → C.spell done.whole [] ≡ (before ++ front) ++ (more ++ done.more)
completed C D limit inner before front more part law done spelled =
    done.spelled
    ∙ ap (λ x. before ++ x) (splits D law part done.more ∙ ap (λ x. x ++ done.more) spelled ∙ append_assoc front more done.more)
    ∙ sym (append_assoc before front (more ++ done.more))

-- the part was refused
pub hole_refused : (C D : Class) (limit inner : ℕ) (before : Kinds) (Fit After : Kinds → Type 0) → Lawful D → Hole C D limit inner before Fit After
    → (front : Kinds) (next : TokenKind) (deep : Bool) → ((following : Kinds) → Near next following → Fit (front ++ following))
    → Refused D inner front next deep → Refused C limit (before ++ front) next deep
hole_refused C D limit inner before Fit After law hole front next deep fits r = record {
  begun = elim r.begun [
    | inl none ↦ elim hole.started [
      | inl empty ↦ inl (ap (λ x. x ++ front) empty ∙ none)
      | inr b ↦ inr (record {
        phrase = b.phrase;
        more = b.more;
        is_phrase = b.is_phrase;
        low = b.low;
        spelled = b.spelled ∙ ap (λ x. x ++ b.more) (sym (ap (λ x. before ++ x) none ∙ append-nil before));
      })
    ]
    | inr b ↦
        let done = hole.complete b.phrase b.is_phrase in
        inr (record {
          phrase = done.whole;
          more = b.more ++ done.more;
          is_phrase = done.is_phrase;
          low = done.low b.low;
          spelled = completed C D limit inner before front b.more b.phrase law done b.spelled;
        })
  ];
  never = λ other after following is shut near same.
      let f = hole.invert other after (front ++ following) is shut (fits following near) (same ∙ append_assoc before front following) in
      over_whole C D limit inner deep other f.part following f.rises (r.never f.part f.rest following f.is_phrase f.shut near (sym f.spelled));
  further = λ reported.
      let b = r.further reported in
      let done = hole.complete b.phrase b.is_phrase in
      record {
        phrase = done.whole;
        more = b.more ++ done.more;
        is_phrase = done.is_phrase;
        spelled =
            completed C D limit inner before (front ++ next ∷ []) b.more b.phrase law done b.spelled
            ∙ ap (λ x. x ++ (b.more ++ done.more)) (sym (append_assoc before front (next ∷ [])));
      };
}

-- the part was read, and a token came that may not follow it
pub hole_wrong : (C D : Class) (limit inner : ℕ) (before : Kinds) (Fit After : Kinds → Type 0) → Lawful D → Hole C D limit inner before Fit After
    → (part : D.Tree) (next : TokenKind) (deep : Bool) → ((following : Kinds) → Near next following → Fit (D.spell part following))
    → Took D inner part next deep → (After [] → ⊥) → ((more : Kinds) → After (next ∷ more) → ⊥)
    → Refused C limit (before ++ D.spell part []) next deep
hole_wrong C D limit inner before Fit After law hole part next deep fits t ended wrong = record {
  begun =
      let done = hole.complete part t.is_phrase in
      inr (record {
        phrase = done.whole;
        more = done.more;
        is_phrase = done.is_phrase;
        low = done.low t.low;
        spelled = done.spelled ∙ ap (λ x. before ++ x) (splits D law part done.more) ∙ sym (append_assoc before (D.spell part []) done.more);
      });
  never = λ other after following is shut near same.
      let f = hole.invert other after (D.spell part following) is shut (fits following near) (same ∙ append_assoc before (D.spell part []) following
      ∙ ap (λ x. before ++ x) (sym (splits D law part following))) in
      elim (t.only f.part f.rest following f.is_phrase f.shut near (sym f.spelled)) [
        | inl e ↦ absurd (elim near [
          | inl none ↦ ended (subst After (e.1 ∙ none) f.after)
          | inr m ↦ wrong m.0 (subst After (e.1 ∙ m.1) f.after)
        ])
        | inr over ↦ over_whole C D limit inner deep other f.part following f.rises over
      ];
  further = λ reported.
      let b = t.further reported in
      let done = hole.complete b.phrase b.is_phrase in
      record {
        phrase = done.whole;
        more = b.more ++ done.more;
        is_phrase = done.is_phrase;
        spelled =
            completed C D limit inner before (D.spell part (next ∷ [])) b.more b.phrase law done b.spelled
            ∙ ap (λ x. x ++ (b.more ++ done.more)) (ap (λ x. before ++ x) (splits D law part (next ∷ []))
            ∙ sym (append_assoc before (D.spell part []) (next ∷ [])));
      };
}

-- a hole at the end of phrases of C: the whole is built of the part, which has to fit, and both end together
pub record Tail (C D : Class) (limit inner : ℕ) (before : Kinds) (build : D.Tree → C.Tree) (Fit : Kinds → Type 0) : Type 0 where
  pub started : (before ≡ []) ⊎ BeginsLow C limit before
  pub invert : (whole : C.Tree) (after following : Kinds) → C.Is whole → C.Shut whole after → Fit following
      → C.spell whole after ≡ before ++ following → (part : D.Tree) × (whole ≡ build part) × D.Is part × (following ≡ D.spell part after)
  pub shut : (part : D.Tree) (after : Kinds) → C.Shut (build part) after → D.Shut part after
  pub spelled : (part : D.Tree) (after : Kinds) → C.spell (build part) after ≡ before ++ D.spell part after
  pub is_phrase : (part : D.Tree) → D.Is part → C.Is (build part)
  pub low : (part : D.Tree) → D.Is part → D.tall part ≤ inner → C.tall (build part) ≤ limit
  pub rises : (part : D.Tree) → inner < D.tall part → limit < C.tall (build part)

tail_hole : (C D : Class) (limit inner : ℕ) (before : Kinds) (build : D.Tree → C.Tree) (Fit : Kinds → Type 0) → Tail C D limit inner before build Fit
    → Hole C D limit inner before Fit (λ rest. Unit {0})
tail_hole C D limit inner before build Fit tail = record {
  started = tail.started;
  invert = λ whole after following is shut fit same.
      let f = tail.invert whole after following is shut fit same in
      record {
        part = f.0;
        rest = after;
        is_phrase = f.2;
        spelled = f.3;
        shut = tail.shut f.0 after (subst (λ (w : C.Tree). C.Shut w after) f.1 shut);
        after = tt;
        rises = λ high. subst (λ (w : C.Tree). limit < C.tall w) (sym f.1) (tail.rises f.0 high);
      };
  complete = λ part is. record {
    whole = build part;
    more = [];
    is_phrase = tail.is_phrase part is;
    spelled = tail.spelled part [];
    low = tail.low part is;
  };
}

-- the last part was refused
pub tail_refused : (C D : Class) (limit inner : ℕ) (before : Kinds) (build : D.Tree → C.Tree) (Fit : Kinds → Type 0) → Lawful D
    → Tail C D limit inner before build Fit → (front : Kinds) (next : TokenKind) (deep : Bool)
    → ((following : Kinds) → Near next following → Fit (front ++ following)) → Refused D inner front next deep
    → Refused C limit (before ++ front) next deep
tail_refused C D limit inner before build Fit law tail front next deep fits r =
    hole_refused C D limit inner before Fit (λ rest. Unit {0}) law (tail_hole C D limit inner before build Fit tail) front next deep fits r

-- the last part was taken
pub tail_took : (C D : Class) (limit inner : ℕ) (before : Kinds) (build : D.Tree → C.Tree) (Fit : Kinds → Type 0) → Lawful D
    → Tail C D limit inner before build Fit → (part : D.Tree) (next : TokenKind) (deep : Bool)
    → ((following : Kinds) → Near next following → Fit (D.spell part following)) → Took D inner part next deep → Took C limit (build part) next deep
tail_took C D limit inner before build Fit law tail part next deep fits t = record {
  is_phrase = tail.is_phrase part t.is_phrase;
  low = tail.low part t.is_phrase t.low;
  only = λ other after following is shut near same.
      let f = tail.invert other after (D.spell part following) is shut (fits following near) (same ∙ tail.spelled part following) in
      elim (t.only f.0 after following f.2 (tail.shut f.0 after (subst (λ (w : C.Tree). C.Shut w after) f.1 shut)) near (sym f.3)) [
        | inl e ↦ inl (f.1 ∙ ap build e.0, e.1)
        | inr over ↦
            inr (over_whole C D limit inner deep other f.0 following (λ high. subst (λ (w : C.Tree). limit < C.tall w) (sym f.1) (tail.rises f.0 high)) over)
      ];
  further = λ reported.
      let b = t.further reported in
      record {
        phrase = build b.phrase;
        more = b.more;
        is_phrase = tail.is_phrase b.phrase b.is_phrase;
        spelled =
            tail.spelled b.phrase [] ∙ ap (λ x. before ++ x) b.spelled ∙ sym (append_assoc before (D.spell part (next ∷ [])) b.more)
            ∙ ap (λ x. x ++ b.more) (sym (tail.spelled part (next ∷ [])));
      };
  joined = λ reported more shut. t.joined reported more (tail.shut part (next ∷ more) shut);
}

-- phrases of D with this token after each
abbrev pub ClosedBy : Class → TokenKind → Class
ClosedBy D close = record { Tree = D.Tree; spell = λ tree after. D.spell tree (close ∷ after); tall = D.tall; Is = D.Is; Shut = λ tree after. Unit {0} }

pub closed_law : (D : Class) (close : TokenKind) → Lawful D → Lawful (ClosedBy D close)
closed_law D close law = λ tree x y. law tree (close ∷ x) y

closed_hole : (D : Class) (close : TokenKind) (limit : ℕ) → ((part : D.Tree) (more : Kinds) → D.Shut part (close ∷ more))
    → Hole (ClosedBy D close) D limit limit [] (λ rest. Unit {0}) (λ rest. (more : Kinds) × (rest ≡ close ∷ more))
closed_hole D close limit shut = record {
  started = inl refl;
  invert = λ whole after following is none fit same. record {
    part = whole;
    rest = close ∷ after;
    is_phrase = is;
    spelled = sym same;
    shut = shut whole after;
    after = (after, refl);
    rises = λ high. high;
  };
  complete = λ part is. record { whole = part; more = close ∷ []; is_phrase = is; spelled = refl; low = λ low. low };
}

-- the phrase was refused
pub closed_refused : (D : Class) (close : TokenKind) (limit : ℕ) → Lawful D → ((part : D.Tree) (more : Kinds) → D.Shut part (close ∷ more))
    → (front : Kinds) (next : TokenKind) (deep : Bool) → Refused D limit front next deep → Refused (ClosedBy D close) limit front next deep
closed_refused D close limit law shut front next deep r =
    hole_refused (ClosedBy D close) D limit limit [] (λ rest. Unit {0}) (λ rest. (more : Kinds) × (rest ≡ close ∷ more)) law
    (closed_hole D close limit shut) front next deep (λ following near. tt) r

-- another token follows the phrase
pub closed_wrong : (D : Class) (close : TokenKind) (limit : ℕ) → Lawful D → ((part : D.Tree) (more : Kinds) → D.Shut part (close ∷ more))
    → (part : D.Tree) (next : TokenKind) (deep : Bool) → Took D limit part next deep → (next ≡ close → ⊥)
    → Refused (ClosedBy D close) limit (D.spell part []) next deep
closed_wrong D close limit law shut part next deep t other =
    hole_wrong (ClosedBy D close) D limit limit [] (λ rest. Unit {0}) (λ rest. (more : Kinds) × (rest ≡ close ∷ more)) law
    (closed_hole D close limit shut) part next deep (λ following near. tt) t
    (λ m. let e = m.1 in cc) (λ more m. let e = m.1 in other cc)

-- the token follows the phrase
pub closed_exact : (D : Class) (close : TokenKind) (limit : ℕ) → ((part : D.Tree) (more : Kinds) → D.Shut part (close ∷ more))
    → (part : D.Tree) (deep : Bool) → Took D limit part close deep → Exactly (ClosedBy D close) limit part
closed_exact D close limit shut part deep t = record {
  is_phrase = t.is_phrase;
  low = t.low;
  exact = λ other after following is same.
      elim (t.only other (close ∷ after) (close ∷ following) is (shut other after) (inr (following, refl)) same) [
        | inl e ↦ let rest = e.1 in (e.0, cc)
        | inr over ↦ absurd (t.joined over.reported [] (shut part []))
      ];
}

-- a phrase that is determined by its tokens was taken, whatever follows it
pub exact_took : (C : Class) (limit : ℕ) (part : C.Tree) → Exactly C limit part → (next : TokenKind) → Took C limit part next false
exact_took C limit part e next = record {
  is_phrase = e.is_phrase;
  low = e.low;
  only = λ other after following is shut near same. inl (e.exact other after following is same);
  further = λ reported. absurd (false≢true reported);
  joined = λ reported more none. false≢true reported;
}

-- the end of a phrase: none of its tokens remain
abbrev pub Ended : Class
Ended = record { Tree = Unit {0}; spell = λ tree after. after; tall = λ tree. 0; Is = λ tree. Unit {0}; Shut = λ tree after. Unit {0} }

pub ended_law : Lawful Ended
ended_law = λ tree x y. refl

pub ended_exact : (limit : ℕ) → Exactly Ended limit tt
ended_exact limit = record { is_phrase = tt; low = omega arith; exact = λ other after following is same. (refl, same) }

-- a name of any kind
abbrev pub AnyName : Class
AnyName = record {
  Tree = List ℕ;
  spell = λ name after. token.Name name ∷ after;
  tall = λ name. 0;
  Is = λ name. Unit {0};
  Shut = λ tree after. Unit {0};
}

pub name_law : Lawful AnyName
name_law = λ tree x y. refl

pub name_exact : (limit : ℕ) (name : List ℕ) → Exactly AnyName limit name
name_exact limit name = record { is_phrase = tt; low = omega arith; exact = λ other after following is same. (cc, cc) }

-- another token comes where a name is expected
pub name_refused : (limit : ℕ) (next : TokenKind) → ((name : List ℕ) → next ≡ token.Name name → ⊥) → Refused AnyName limit [] next false
name_refused limit next none = record {
  begun = inl refl;
  never = λ other after following is shut near same.
      absurd (elim near [ inl e ↦ cc | inr m ↦ let e = m.1 in none other cc ]);
  further = λ reported. absurd (false≢true reported);
}
