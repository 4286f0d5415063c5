-- Chains that grow on the left, such as `a + b + c` or `a [ b ] . c`: for the loops of the parser of expressions.
use Rattle.std.proofs.Common.{◌≡◌, ℕ, suc, ◌<◌, ◌≤◌, ◌⊎◌, inl, inr, Bool, true, [], ◌∷◌, ◌++◌, refl, sym, ap, ◌∙◌}
use Rattle.std.proofs.Common.{subst, arith}
use Rattle.std.proofs.lemmas.Bool.{cases_lt, cases_eq}
use Rattle.cs_ast.specs.declared.token.TokenKind.{TokenKind}
use Rattle.cs_ast.specs.declared.token.TokenKind.TheVariants as token
use Rattle.cs_ast.specs.declared.token.Punctuator.TheVariants as punctuator
use Rattle.cs_ast.specs.RawTree.{Written, Named, Numeral, Character, Literal, Enclosed, Index, Call, Member, Arrow, StepAfter, StepBefore, Prefix, SizeOf}
use Rattle.cs_ast.specs.RawTree.{SizeOfType, Cast, Infix, Choice, Assign, Comma}
use Rattle.cs_ast.specs.RawHeight.{height}
use Rattle.cs_grammar.specs.TypeWords.{Names}
use Rattle.cs_grammar.specs.Levels.{level_of}
use Rattle.cs_grammar.specs.Punctuators.{step_punctuator, infix_punctuator}
use Rattle.cs_grammar.specs.Text.{Kinds, text, listed}
use Rattle.cs_grammar.specs.Phrases.{IsPhrase}
use Rattle.cs_grammar.specs.Continuing.{join, join_of}
use Rattle.cs_grammar.specs.Parsing.{Class, Expressions, Near, IsOver, Begins, BeginsLow, Took, Refused}
use Rattle.cs_grammar.specs.Chains.{Suffix, indexed, called, selected, followed_by, stepped, joined, continued, Stem, bare, grown, Grows}
use Rattle.cs_grammar.proofs.Levels.{infix_join, step_join, looser}
use Rattle.cs_grammar.proofs.Texts.{text_append}
use Rattle.cs_grammar.proofs.Holes.{Lawful, Hole, hole_refused}

-- the levels of expressions that begin with another one of their level
pub record IsChain (level : ℕ) : Type 0 where
  pub not_assign : level ≡ 1 → ⊥
  pub not_choice : level ≡ 2 → ⊥
  pub not_cast : level ≡ 13 → ⊥
  pub not_unary : level ≡ 14 → ⊥
  pub most : level ≤ 15

pub suffix_join : (level : ℕ) (whole : Written) (after : Kinds) (left : Written) (following : Kinds) → Suffix level whole after left following
    → join_of following ≡ suc level
suffix_join level whole after left following (indexed n l w b) = ap join_of b ∙ ap suc (sym l)
suffix_join level whole after left following (called es l w b) = ap join_of b ∙ ap suc (sym l)
suffix_join level whole after left following (selected n l w b) = ap join_of b ∙ ap suc (sym l)
suffix_join level whole after left following (followed_by n l w b) = ap join_of b ∙ ap suc (sym l)
suffix_join level whole after left following (stepped s l w b) = ap join_of b ∙ step_join s ∙ ap suc (sym l)
suffix_join level whole after left following (joined op r l w b) = ap join_of b ∙ infix_join op ∙ ap suc (sym l)
suffix_join level whole after left following (continued s l w b) = ap join_of b ∙ ap suc (sym l)

pub suffix_height : (level : ℕ) (whole : Written) (after : Kinds) (left : Written) (following : Kinds) → Suffix level whole after left following
    → height left < height whole
suffix_height level whole after left following (indexed n l w b) = subst (λ (e : Written). height left < height e) (sym w) (omega arith)
suffix_height level whole after left following (called es l w b) = subst (λ (e : Written). height left < height e) (sym w) (omega arith)
suffix_height level whole after left following (selected n l w b) = subst (λ (e : Written). height left < height e) (sym w) (omega arith)
suffix_height level whole after left following (followed_by n l w b) = subst (λ (e : Written). height left < height e) (sym w) (omega arith)
suffix_height level whole after left following (stepped s l w b) = subst (λ (e : Written). height left < height e) (sym w) (omega arith)
suffix_height level whole after left following (joined op r l w b) = subst (λ (e : Written). height left < height e) (sym w) (omega arith)
suffix_height level whole after left following (continued s l w b) = subst (λ (e : Written). height left < height e) (sym w) (omega arith)

pub suffix_phrase : (names : Names) (level : ℕ) (whole : Written) (after : Kinds) (left : Written) (following : Kinds)
    → Suffix level whole after left following → IsPhrase names level whole → IsPhrase names level left
suffix_phrase names level whole after left following (indexed n l w b) is = let p = subst (IsPhrase names level) w is in (omega (arith, p.1.0), p.1.1)
suffix_phrase names level whole after left following (called es l w b) is = let p = subst (IsPhrase names level) w is in (omega (arith, p.1.0), p.1.1)
suffix_phrase names level whole after left following (selected n l w b) is = let p = subst (IsPhrase names level) w is in (omega (arith, p.1.0), p.1.1)
suffix_phrase names level whole after left following (followed_by n l w b) is = let p = subst (IsPhrase names level) w is in (omega (arith, p.1.0), p.1.1)
suffix_phrase names level whole after left following (stepped s l w b) is = let p = subst (IsPhrase names level) w is in (omega (arith, p.1.0), p.1.1)
suffix_phrase names level whole after left following (joined op r l w b) is = let p = subst (IsPhrase names level) w is in (omega (arith, p.1.0), p.1.1)
suffix_phrase names level whole after left following (continued s l w b) is = let p = subst (IsPhrase names level) w is in (omega arith, p.1.0)

-- what holds for the tree with one suffix, and is kept by each further suffix, holds for all with at least one
pub stem_fold : (names : Names) (level : ℕ) (left : Written) (following : Kinds) (C : Written → Kinds → Type 0)
    → ((whole : Written) (after : Kinds) → IsPhrase names level whole → join_of after ≤ suc level → Suffix level whole after left following
    → C whole after) → ((whole : Written) (after : Kinds) (smaller : Written) (rest : Kinds) → Suffix level whole after smaller rest → C smaller rest
    → C whole after) → (whole : Written) (after : Kinds) → IsPhrase names level whole → join_of after ≤ suc level
    → Stem level left following whole after → ((whole ≡ left) × (after ≡ following)) ⊎ C whole after
stem_fold names level left following C first up whole after is shut (bare w a) = inl (w, a)
stem_fold names level left following C first up whole after is shut (grown smaller rest s stem) =
    let j : join_of rest ≡ suc level = suffix_join level whole after smaller rest s in
    elim (stem_fold names level left following C first up smaller rest (suffix_phrase names level whole after smaller rest s is) (omega arith) stem) [
      | inl e ↦
          inr (first whole after is shut
          (subst (λ (x : Kinds). Suffix level whole after left x) e.1 (subst (λ (x : Written). Suffix level whole after x rest) e.0 s)))
      | inr c ↦ inr (up whole after smaller rest s c)
    ]

over_up : (names : Names) (level tight limit : ℕ) (deep : Bool) (whole smaller : Written) (following : Kinds) → height smaller < height whole
    → IsOver (Expressions names tight) limit deep smaller following → IsOver (Expressions names level) limit deep whole following
over_up names level tight limit deep whole smaller following less over =
    record { reported = over.reported; high = omega (arith, over.high); onward = over.onward }

-- a tighter phrase with this beginning is the first operand
tight : (names : Names) (level limit : ℕ) (e : Written) (next : TokenKind) (deep : Bool) → Took (Expressions names (suc level)) limit e next deep
    → (other : Written) (after following : Kinds) → IsPhrase names level other → suc level ≤ level_of other → join_of after ≤ suc level
    → Near next following → text other after ≡ text e following
    → Stem level e following other after ⊎ IsOver (Expressions names level) limit deep other following
tight names level limit e next deep t other after following is bound shut near same =
    elim (t.only other after following (bound, is.1) shut near same) [
      | inl e ↦ inl (bare e.0 e.1)
      | inr over ↦ inr (record { reported = over.reported; high = over.high; onward = over.onward })
    ]

-- a phrase with this beginning has a suffix of this level, or is tighter
either : (names : Names) (level limit : ℕ) (e : Written) (next : TokenKind) (deep : Bool) → Took (Expressions names (suc level)) limit e next deep
    → (other : Written) (after following : Kinds) → IsPhrase names level other → join_of after ≤ suc level → Near next following
    → text other after ≡ text e following → (smaller : Written) (rest : Kinds) → (level_of other ≡ level → Suffix level other after smaller rest)
    → (IsPhrase names level smaller → join_of rest ≤ suc level
    → Stem level e following smaller rest ⊎ IsOver (Expressions names level) limit deep smaller following)
    → Stem level e following other after ⊎ IsOver (Expressions names level) limit deep other following
either names level limit e next deep t other after following is shut near same smaller rest suffix below =
    elim (cases_eq (level_of other) level) [
      | inl here ↦
          let s = suffix here in
          let j : join_of rest ≡ suc level = suffix_join level other after smaller rest s in
          elim (below (suffix_phrase names level other after smaller rest s is) (omega arith)) [
            | inl stem ↦ inl (grown smaller rest s stem)
            | inr over ↦ inr (over_up names level level limit deep other smaller following (suffix_height level other after smaller rest s) over)
          ]
      | inr higher ↦ tight names level limit e next deep t other after following is (omega (arith, is.0, higher)) shut near same
    ]

mutual
  -- every phrase with this beginning has the first operand as its stem
  pub head_stems : (names : Names) (level limit : ℕ) (e : Written) (next : TokenKind) (deep : Bool) → IsChain level
      → Took (Expressions names (suc level)) limit e next deep → (other : Written) (after following : Kinds) → IsPhrase names level other
      → join_of after ≤ suc level → Near next following → text other after ≡ text e following
      → Stem level e following other after ⊎ IsOver (Expressions names level) limit deep other following
  head_stems names level limit e next deep c t (Named name) after following is shut near same =
      tight names level limit e next deep t (Named name) after following is (omega (arith, c.most)) shut near same
  head_stems names level limit e next deep c t (Numeral n) after following is shut near same =
      tight names level limit e next deep t (Numeral n) after following is (omega (arith, c.most)) shut near same
  head_stems names level limit e next deep c t (Character v) after following is shut near same =
      tight names level limit e next deep t (Character v) after following is (omega (arith, c.most)) shut near same
  head_stems names level limit e next deep c t (Literal b) after following is shut near same =
      tight names level limit e next deep t (Literal b) after following is (omega (arith, c.most)) shut near same
  head_stems names level limit e next deep c t (Enclosed i) after following is shut near same =
      tight names level limit e next deep t (Enclosed i) after following is (omega (arith, c.most)) shut near same
  head_stems names level limit e next deep c t (StepBefore s i) after following is shut near same =
      tight names level limit e next deep t (StepBefore s i) after following is (omega (arith, c.not_unary, is.0)) shut near same
  head_stems names level limit e next deep c t (Prefix o i) after following is shut near same =
      tight names level limit e next deep t (Prefix o i) after following is (omega (arith, c.not_unary, is.0)) shut near same
  head_stems names level limit e next deep c t (SizeOf i) after following is shut near same =
      tight names level limit e next deep t (SizeOf i) after following is (omega (arith, c.not_unary, is.0)) shut near same
  head_stems names level limit e next deep c t (SizeOfType ws ps bs) after following is shut near same =
      tight names level limit e next deep t (SizeOfType ws ps bs) after following is (omega (arith, c.not_unary, is.0)) shut near same
  head_stems names level limit e next deep c t (Cast ws ps bs i) after following is shut near same =
      tight names level limit e next deep t (Cast ws ps bs i) after following is (omega (arith, c.not_cast, is.0)) shut near same
  head_stems names level limit e next deep c t (Choice i l r) after following is shut near same =
      tight names level limit e next deep t (Choice i l r) after following is (omega (arith, c.not_choice, is.0)) shut near same
  head_stems names level limit e next deep c t (Assign o l r) after following is shut near same =
      tight names level limit e next deep t (Assign o l r) after following is (omega (arith, c.not_assign, is.0)) shut near same
  head_stems names level limit e next deep c t (Index a n) after following is shut near same =
      either names level limit e next deep t (Index a n) after following is shut near same a
      (token.Punctuator punctuator.OpenBracket ∷ text n (token.Punctuator punctuator.CloseBracket ∷ after)) (λ l. indexed n (sym l) refl refl)
      (λ p s.
      head_stems names level limit e next deep c t a
      (token.Punctuator punctuator.OpenBracket ∷ text n (token.Punctuator punctuator.CloseBracket ∷ after)) following p s near same)
  head_stems names level limit e next deep c t (Call f es) after following is shut near same =
      either names level limit e next deep t (Call f es) after following is shut near same f
      (token.Punctuator punctuator.OpenParenthesis ∷ listed es (token.Punctuator punctuator.CloseParenthesis ∷ after))
      (λ l. called es (sym l) refl refl)
      (λ p s.
      head_stems names level limit e next deep c t f
      (token.Punctuator punctuator.OpenParenthesis ∷ listed es (token.Punctuator punctuator.CloseParenthesis ∷ after)) following p s near same)
  head_stems names level limit e next deep c t (Member o n) after following is shut near same =
      either names level limit e next deep t (Member o n) after following is shut near same o (token.Punctuator punctuator.Dot ∷ token.Name n ∷ after)
      (λ l. selected n (sym l) refl refl)
      (λ p s. head_stems names level limit e next deep c t o (token.Punctuator punctuator.Dot ∷ token.Name n ∷ after) following p s near same)
  head_stems names level limit e next deep c t (Arrow o n) after following is shut near same =
      either names level limit e next deep t (Arrow o n) after following is shut near same o (token.Punctuator punctuator.Arrow ∷ token.Name n ∷ after)
      (λ l. followed_by n (sym l) refl refl)
      (λ p s. head_stems names level limit e next deep c t o (token.Punctuator punctuator.Arrow ∷ token.Name n ∷ after) following p s near same)
  head_stems names level limit e next deep c t (StepAfter k o) after following is shut near same =
      either names level limit e next deep t (StepAfter k o) after following is shut near same o (token.Punctuator (step_punctuator k) ∷ after)
      (λ l. stepped k (sym l) refl refl)
      (λ p s. head_stems names level limit e next deep c t o (token.Punctuator (step_punctuator k) ∷ after) following p s near same)
  head_stems names level limit e next deep c t (Infix op l r) after following is shut near same =
      either names level limit e next deep t (Infix op l r) after following is shut near same l (token.Punctuator (infix_punctuator op) ∷ text r after)
      (λ x. joined op r (sym x) refl refl)
      (λ p s. head_stems names level limit e next deep c t l (token.Punctuator (infix_punctuator op) ∷ text r after) following p s near same)
  head_stems names level limit e next deep c t (Comma l r) after following is shut near same =
      either names level limit e next deep t (Comma l r) after following is shut near same l (token.Punctuator punctuator.Comma ∷ text r after)
      (λ x. continued r (sym x) refl refl)
      (λ p s. head_stems names level limit e next deep c t l (token.Punctuator punctuator.Comma ∷ text r after) following p s near same)

-- a chain that is only the first operand
pub grows_head : (names : Names) (level limit : ℕ) (e : Written) (next : TokenKind) (deep : Bool) → IsChain level
    → Took (Expressions names (suc level)) limit e next deep → Grows names level limit e next deep
grows_head names level limit e next deep c t = record {
  is_phrase = looser names level (suc level) e (omega arith) t.is_phrase;
  low = t.low;
  stems = λ other after following is shut near same. head_stems names level limit e next deep c t other after following is (omega arith) near same;
  further = λ reported. let b = t.further reported in
      record { phrase = b.phrase; more = b.more; is_phrase = looser names level (suc level) b.phrase (omega arith) b.is_phrase; spelled = b.spelled };
  joined = λ reported.
      elim (cases_lt (suc level) (join next)) [
        | inl more ↦ more
        | inr less ↦ absurd (t.joined reported [] less)
      ];
}

-- the chain ends before a token that adds no suffix
pub grows_exit : (names : Names) (level limit : ℕ) (left : Written) (next : TokenKind) (deep : Bool) → Grows names level limit left next deep
    → (join next ≡ suc level → ⊥) → Took (Expressions names level) limit left next deep
grows_exit names level limit left next deep g other_join = record {
  is_phrase = g.is_phrase;
  low = g.low;
  only = λ other after following is shut near same.
      elim (g.stems other after following is shut near same) [
        | inl stem ↦
            elim (stem_fold names level left following (λ whole rest. ⊥)
            (λ whole rest is' shut' s.
            let j : join_of following ≡ suc level = suffix_join level whole rest left following s in
            elim near [
              | inl none ↦ let z : 0 ≡ suc level = sym (ap join_of none) ∙ j in omega arith
              | inr m ↦ other_join (sym (ap join_of m.1) ∙ j)
            ])
            (λ whole rest smaller rest' s none. none)
            other after is (omega arith) stem) [
              | inl e ↦ inl e
              | inr none ↦ absurd none
            ]
        | inr over ↦ inr over
      ];
  further = g.further;
  joined = λ reported more shut. let j = g.joined reported in omega arith;
}

-- the chain ends before a token that would make it too high
pub grows_deep : (names : Names) (level limit : ℕ) (left : Written) (next : TokenKind) (deep : Bool) → Grows names level limit left next deep
    → join next ≡ suc level → limit ≤ height left → Begins (Expressions names level) (text left (next ∷ []))
    → Took (Expressions names level) limit left next true
grows_deep names level limit left next deep g j full further = record {
  is_phrase = g.is_phrase;
  low = g.low;
  only = λ other after following is shut near same.
      elim (g.stems other after following is shut near same) [
        | inl stem ↦
            elim (stem_fold names level left following (λ whole rest. (limit < height whole) × (following ≡ [] → ⊥))
            (λ whole rest is' shut' s.
            let k : join_of following ≡ suc level = suffix_join level whole rest left following s in
            let h : height left < height whole = suffix_height level whole rest left following s in
            (omega arith, λ none. let z : 0 ≡ suc level = sym (ap join_of none) ∙ k in omega arith))
            (λ whole rest smaller rest' s c. let h : height smaller < height whole = suffix_height level whole rest smaller rest' s in
            (omega (arith, c.0), c.1))
            other after is (omega arith) stem) [
              | inl e ↦ inl e
              | inr c ↦ inr (record { reported = refl; high = c.0; onward = c.1 })
            ]
        | inr over ↦ absurd (let k = g.joined over.reported in omega arith)
      ];
  further = λ reported. further;
  joined = λ reported more shut. omega arith;
}

-- a suffix that begins with this token: the rest of it is a phrase of D, and it ends with the whole
pub record Addition (names : Names) (level : ℕ) (left : Written) (limit : ℕ) (first : TokenKind) (D : Class) (inner : ℕ) (build : D.Tree → Written) :
    Type 0 where
  pub chain : join first ≡ suc level
  pub started : BeginsLow (Expressions names level) limit (text left (first ∷ []))
  pub invert : (whole : Written) (after following : Kinds) → IsPhrase names level whole → Suffix level whole after left (first ∷ following)
      → (part : D.Tree) × (whole ≡ build part) × D.Is part × (following ≡ D.spell part after)
  pub shut : (part : D.Tree) (after : Kinds) → join_of after ≤ suc level → D.Shut part after
  pub spelled : (part : D.Tree) (after : Kinds) → text (build part) after ≡ text left (first ∷ D.spell part after)
  pub is_phrase : (part : D.Tree) → D.Is part → IsPhrase names level (build part)
  pub low : (part : D.Tree) → D.Is part → D.tall part ≤ inner → height (build part) ≤ limit
  pub rises : (part : D.Tree) → inner < D.tall part → limit < height (build part)

addition_hole : (names : Names) (level : ℕ) (left : Written) (limit : ℕ) (first : TokenKind) (D : Class) (inner : ℕ) (build : D.Tree
    → Written) (deep : Bool) → Grows names level limit left first deep → Addition names level left limit first D inner build
    → Hole (Expressions names level) D limit inner (text left (first ∷ [])) (λ rest. Unit {0}) (λ rest. Unit {0})
addition_hole names level left limit first D inner build deep g a = record {
  started = inr a.started;
  invert = λ whole after following is shut fit same.
      elim (g.stems whole after (first ∷ following) is shut (inr (following, refl)) (same ∙ text_append left (first ∷ []) following)) [
        | inl stem ↦
            elim (stem_fold names level left (first ∷ following)
            (λ w rest. (part : D.Tree) × (rest' : Kinds) × D.Is part × (following ≡ D.spell part rest') × D.Shut part rest'
            × (inner < D.tall part → limit < height w))
            (λ w rest is' shut' s.
            let f = a.invert w rest following is' s in
            (f.0, rest, f.2, f.3, a.shut f.0 rest shut', λ high. subst (λ (x : Written). limit < height x) (sym f.1) (a.rises f.0 high)))
            (λ w rest smaller rest' s c.
            let h : height smaller < height w = suffix_height level w rest smaller rest' s in
            (c.0, c.1, c.2, c.3, c.4, λ high. let k : limit < height smaller = c.5 high in omega arith))
            whole after is (omega arith) stem) [
              | inl e ↦ absurd (let j : join_of after ≡ suc level = ap join_of e.1 ∙ a.chain in omega arith)
              | inr c ↦ record { part = c.0; rest = c.1; is_phrase = c.2; spelled = c.3; shut = c.4; after = tt; rises = c.5 }
            ]
        | inr over ↦ absurd (let k = g.joined over.reported in let j = a.chain in omega arith)
      ];
  complete = λ part is. record {
    whole = build part;
    more = [];
    is_phrase = a.is_phrase part is;
    spelled = a.spelled part [] ∙ sym (text_append left (first ∷ []) (D.spell part []));
    low = a.low part is;
  };
}

-- the rest of a suffix was refused
pub addition_refused : (names : Names) (level : ℕ) (left : Written) (limit : ℕ) (first : TokenKind) (D : Class) (inner : ℕ) (build : D.Tree
    → Written) (deep : Bool) → Lawful D → Grows names level limit left first deep → Addition names level left limit first D inner build
    → (front : Kinds) (next : TokenKind) (deep' : Bool) → Refused D inner front next deep'
    → Refused (Expressions names level) limit (text left (first ∷ []) ++ front) next deep'
addition_refused names level left limit first D inner build deep law g a front next deep' r =
    hole_refused (Expressions names level) D limit inner (text left (first ∷ [])) (λ rest. Unit {0}) (λ rest. Unit {0}) law
    (addition_hole names level left limit first D inner build deep g a) front next deep' (λ following near. tt) r

-- a suffix was taken: the chain is longer
pub addition_took : (names : Names) (level : ℕ) (left : Written) (limit : ℕ) (first : TokenKind) (D : Class) (inner : ℕ) (build : D.Tree
    → Written) (deep : Bool) → Grows names level limit left first deep → Addition names level left limit first D inner build
    → (part : D.Tree) (next : TokenKind) (deep' : Bool) → Took D inner part next deep' → Grows names level limit (build part) next deep'
addition_took names level left limit first D inner build deep g a part next deep' t = record {
  is_phrase = a.is_phrase part t.is_phrase;
  low = a.low part t.is_phrase t.low;
  stems = λ other after following is shut near same.
      elim (g.stems other after (first ∷ D.spell part following) is shut (inr (D.spell part following, refl)) (same ∙ a.spelled part following)) [
        | inl stem ↦
            elim (stem_fold names level left (first ∷ D.spell part following)
            (λ w rest. Stem level (build part) following w rest ⊎ IsOver (Expressions names level) limit deep' w following)
            (λ w rest is' shut' s.
            let f = a.invert w rest (D.spell part following) is' s in
            elim (t.only f.0 rest following f.2 (a.shut f.0 rest shut') near (sym f.3)) [
              | inl e ↦ inl (bare (f.1 ∙ ap build e.0) e.1)
              | inr over ↦ inr (record {
                reported = over.reported;
                high = subst (λ (x : Written). limit < height x) (sym f.1) (a.rises f.0 over.high);
                onward = over.onward;
              })
            ])
            (λ w rest smaller rest' s c.
            elim c [
              | inl stem' ↦ inl (grown smaller rest' s stem')
              | inr over ↦ inr (over_up names level level limit deep' w smaller following (suffix_height level w rest smaller rest' s) over)
            ])
            other after is (omega arith) stem) [
              | inl e ↦ absurd (let j : join_of after ≡ suc level = ap join_of e.1 ∙ a.chain in omega arith)
              | inr c ↦ c
            ]
        | inr over ↦ absurd (let k = g.joined over.reported in let j = a.chain in omega arith)
      ];
  further = λ reported.
      let b = t.further reported in
      record {
        phrase = build b.phrase;
        more = b.more;
        is_phrase = a.is_phrase b.phrase b.is_phrase;
        spelled =
            a.spelled b.phrase [] ∙ ap (λ x. text left (first ∷ x)) b.spelled
            ∙ sym (text_append left (first ∷ D.spell part (next ∷ [])) b.more)
            ∙ ap (λ x. x ++ b.more) (sym (a.spelled part (next ∷ [])));
      };
  joined = λ reported.
      elim (cases_lt (suc level) (join next)) [
        | inl more ↦ more
        | inr less ↦ absurd (t.joined reported [] (a.shut part (next ∷ []) less))
      ];
}
