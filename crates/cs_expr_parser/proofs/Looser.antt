-- Conditional expressions and assignments: for the contracts of `choice` and `assign`.
use Rattle.std.proofs.Common.{◌≡◌, ℕ, suc, ◌+◌, ◌-◌, ◌<◌, ◌≤◌, max, ◌⊎◌, inl, inr, Bool, true, false, List, [], ◌∷◌}
use Rattle.std.proofs.Common.{◌++◌, refl, sym, ap, ◌∙◌, subst, arith, append_assoc}
use Rattle.std.proofs.lemmas.Bool.{false≢true, both_ways, cases_lt}
use Rattle.cs_ast.specs.declared.token.TokenKind.{TokenKind}
use Rattle.cs_ast.specs.declared.token.TokenKind.TheVariants as token
use Rattle.cs_ast.specs.declared.token.Punctuator.{Punctuator}
use Rattle.cs_ast.specs.declared.token.Punctuator.TheVariants as punctuator
use Rattle.cs_ast.specs.declared.raw.operator.AssignOp.{AssignOp}
use Rattle.cs_ast.specs.declared.raw.operator.AssignOp.TheVariants as store
use Rattle.cs_ast.specs.RawTree.{Written, WrittenList, Named, Numeral, Character, Literal, Enclosed, Index, Call, Member, Arrow, StepAfter, StepBefore, Prefix}
use Rattle.cs_ast.specs.RawTree.{SizeOf, SizeOfType, Cast, Infix, Choice, Assign, Comma, End, More}
use Rattle.cs_ast.specs.RawHeight.{height}
use Rattle.cs_grammar.specs.TypeWords.{Names}
use Rattle.cs_grammar.specs.Levels.{level_of, infix_level}
use Rattle.cs_grammar.specs.Punctuators.{assign_punctuator}
use Rattle.cs_grammar.specs.Text.{Kinds, text}
use Rattle.cs_grammar.specs.Phrases.{IsPhrase}
use Rattle.cs_grammar.specs.Continuing.{join, punctuator_join, join_of}
use Rattle.cs_grammar.specs.Parsing.{Class, Expressions, Near, IsOver, Begins, BeginsLow, Took, Refused, Exactly}
use Rattle.cs_grammar.proofs.Levels.{infix_levels, text_law, pass_took, pass_refused, deepen, assign_join, looser}
use Rattle.cs_grammar.proofs.Holes.{Lawful, Hole, Filling, Completion, Tail, ClosedBy, closed_law, tail_took, tail_refused, hole_refused, exact_took}
use Rattle.cs_grammar.proofs.Holes.{closed_refused, closed_wrong, closed_exact}
use Rattle.cs_grammar.proofs.Texts.{text_append}
use Rattle.cs_expr_parser.proofs.Closings.{zero, height_some}

abbrev question : TokenKind
question = token.Punctuator punctuator.Question

abbrev colon : TokenKind
colon = token.Punctuator punctuator.Colon

-- a phrase of the level of conditional expressions is one, or tighter
data IsChoice (names : Names) (e : Written) (after tokens : Kinds) : Type 0 where
  tighter : 3 ≤ level_of e → IsChoice names e after tokens
  chosen : (test one other : Written) → e ≡ Choice test one other → IsPhrase names 3 test → IsPhrase names 0 one → IsPhrase names 2 other
      → tokens ≡ text test (question ∷ text one (colon ∷ text other after)) → IsChoice names e after tokens

choice_is : (names : Names) (e : Written) (after : Kinds) → IsPhrase names 2 e → IsChoice names e after (text e after)
choice_is names (Choice t o r) after is = chosen t o r refl (is.1.0, is.1.1) (omega arith, is.1.2) (is.1.3, is.1.4) refl
choice_is names (Infix op l r) after is = tighter (infix_levels op).0
choice_is names (Assign op l r) after is = absurd (omega (arith, is.0))
choice_is names (Comma l r) after is = absurd (omega (arith, is.0))
choice_is names _ after is = tighter (omega arith)

-- what was taken before a token other than a question mark is taken on the level of conditional expressions too
pub choice_passes : (names : Names) (limit : ℕ) (e : Written) (next : TokenKind) (deep : Bool) → (next ≡ question → ⊥)
    → Took (Expressions names 3) limit e next deep → Took (Expressions names 2) limit e next deep
choice_passes names limit e next deep none t =
    pass_took names 2 3 limit e next deep (omega arith) t
    (λ other after following is loose shut near same.
    elim (choice_is names other after is) [
      | tighter l ↦ absurd (omega arith)
      | chosen x o r w ix io ir s ↦
          elim (t.only x (question ∷ text o (colon ∷ text r after)) following ix (omega arith) near (sym s ∙ same)) [
            | inl k ↦ absurd (elim near [ inl n ↦ let z = k.1 ∙ n in cc | inr m ↦ let z = k.1 ∙ m.1 in none cc ])
            | inr over ↦ record {
              reported = over.reported;
              high = subst (λ (y : Written). limit < height y) (sym w) (omega (arith, over.high));
              onward = over.onward;
            }
          ]
    ])

pub choice_deep : (names : Names) (limit : ℕ) (e : Written) (deep : Bool) → limit ≤ height e → Took (Expressions names 3) limit e question deep
    → Took (Expressions names 2) limit e question true
choice_deep names limit e deep full t =
    deepen names 2 3 limit e question deep (omega arith) t (λ more. omega arith) (omega arith)
    (λ other after following is loose shut near same.
    elim (choice_is names other after is) [
      | tighter l ↦ absurd (omega arith)
      | chosen x o r w ix io ir s ↦
          elim (t.only x (question ∷ text o (colon ∷ text r after)) following ix (omega arith) near (sym s ∙ same)) [
            | inl k ↦
                let h : height x ≡ height e = ap height k.0 in
                (subst (λ (y : Written). limit < height y) (sym w) (omega arith), λ n. let z = k.1 ∙ n in cc)
            | inr over ↦ absurd (t.joined over.reported [] (omega arith))
          ]
    ])
    (record {
      phrase = Choice e zero zero;
      more = text zero (colon ∷ text zero []);
      is_phrase = (omega arith, (t.is_phrase.0, t.is_phrase.1, tt, omega arith, tt));
      spelled = sym (text_append e (question ∷ []) (text zero (colon ∷ text zero [])));
    })

-- the test was refused
pub choice_head_refused : (names : Names) (limit : ℕ) (front : Kinds) (next : TokenKind) (deep : Bool) → Refused (Expressions names 3) limit front next deep
    → Refused (Expressions names 2) limit front next deep
choice_head_refused names limit front next deep r =
    pass_refused names 2 3 limit front next deep (omega arith) r
    (λ other after following is loose shut near same.
    elim (choice_is names other after is) [
      | tighter l ↦ absurd (omega arith)
      | chosen x o y w ix io ir s ↦
          let over = r.never x (question ∷ text o (colon ∷ text y after)) following ix (omega arith) near (sym s ∙ same) in
          record { reported = over.reported; high = subst (λ (z : Written). limit < height z) (sym w) (omega (arith, over.high)); onward = over.onward }
    ])

-- a phrase that begins with a test and a question mark is a conditional expression with this test
choice_test : (names : Names) (limit : ℕ) (e : Written) (deep : Bool) → Took (Expressions names 3) limit e question deep
    → (whole : Written) (after following : Kinds) → IsPhrase names 2 whole → join_of after ≤ 2 → text whole after ≡ text e (question ∷ following)
    → (one other : Written) × (whole ≡ Choice e one other) × IsPhrase names 0 one × IsPhrase names 2 other
    × (following ≡ text one (colon ∷ text other after))
choice_test names limit e deep t whole after following is shut same =
    elim (choice_is names whole after is) [
      | tighter l ↦
          absurd (elim (t.only whole after (question ∷ following) (l, is.1) (omega arith) (inr (following, refl)) same) [
            | inl k ↦ let j : join_of after ≡ 3 = ap join_of k.1 in omega arith
            | inr over ↦ t.joined over.reported [] (omega arith)
          ])
      | chosen x o r w ix io ir s ↦
          elim (t.only x (question ∷ text o (colon ∷ text r after)) (question ∷ following) ix (omega arith) (inr (following, refl)) (sym s ∙ same)) [
            | inl k ↦ let z = k.1 in (o, r, w ∙ ap (λ (y : Written). Choice y o r) k.0, io, ir, cc)
            | inr over ↦ absurd (t.joined over.reported [] (omega arith))
          ]
    ]

one_hole : (names : Names) (limit : ℕ) (e : Written) (deep : Bool) → height e < limit → Took (Expressions names 3) limit e question deep
    → Hole (Expressions names 2) (ClosedBy (Expressions names 0) colon) limit (limit - 1) (text e (question ∷ [])) (λ rest. Unit {0}) (λ rest. Unit {0})
one_hole names limit e deep low t = record {
  started =
      let h = height_some e in
      inr (record {
        phrase = Choice e zero zero;
        more = text zero (colon ∷ text zero []);
        is_phrase = (omega arith, (t.is_phrase.0, t.is_phrase.1, tt, omega arith, tt));
        low = omega arith;
        spelled = sym (text_append e (question ∷ []) (text zero (colon ∷ text zero [])));
      });
  invert = λ whole after following is shut fit same.
      let f = choice_test names limit e deep t whole after following is shut (same ∙ text_append e (question ∷ []) following) in
      record {
        part = f.0;
        rest = text f.1 after;
        is_phrase = f.3;
        spelled = f.5;
        shut = tt;
        after = tt;
        rises = λ high. subst (λ (y : Written). limit < height y) (sym f.2) (omega (arith, high));
      };
  complete = λ part is. record {
    whole = Choice e part zero;
    more = text zero [];
    is_phrase = (omega arith, (t.is_phrase.0, t.is_phrase.1, is.1, omega arith, tt));
    spelled = sym (text_append e (question ∷ []) (text part (colon ∷ text zero [])));
    low = λ le. let h = height_some e in omega arith;
  };
}

pub one_refused : (names : Names) (limit : ℕ) (e : Written) (deep : Bool) → height e < limit → Took (Expressions names 3) limit e question deep
    → (front : Kinds) (next : TokenKind) (deep' : Bool) → Refused (Expressions names 0) (limit - 1) front next deep'
    → Refused (Expressions names 2) limit (text e (question ∷ []) ++ front) next deep'
one_refused names limit e deep low t front next deep' r =
    hole_refused (Expressions names 2) (ClosedBy (Expressions names 0) colon) limit (limit - 1) (text e (question ∷ [])) (λ rest. Unit {0})
    (λ rest. Unit {0}) (closed_law (Expressions names 0) colon (text_law names 0)) (one_hole names limit e deep low t) front next deep'
    (λ following near. tt)
    (closed_refused (Expressions names 0) colon (limit - 1) (text_law names 0) (λ part more. omega arith) front next deep' r)

pub one_wrong : (names : Names) (limit : ℕ) (e : Written) (deep : Bool) → height e < limit → Took (Expressions names 3) limit e question deep
    → (part : Written) (next : TokenKind) (deep' : Bool) → Took (Expressions names 0) (limit - 1) part next deep' → (next ≡ colon → ⊥)
    → Refused (Expressions names 2) limit (text e (question ∷ []) ++ text part []) next deep'
one_wrong names limit e deep low t part next deep' t' other =
    hole_refused (Expressions names 2) (ClosedBy (Expressions names 0) colon) limit (limit - 1) (text e (question ∷ [])) (λ rest. Unit {0})
    (λ rest. Unit {0}) (closed_law (Expressions names 0) colon (text_law names 0)) (one_hole names limit e deep low t) (text part []) next deep'
    (λ following near. tt)
    (closed_wrong (Expressions names 0) colon (limit - 1) (text_law names 0) (λ part more. omega arith) part next deep' t' other)

pub one_exact : (names : Names) (limit : ℕ) (part : Written) (deep : Bool) → Took (Expressions names 0) limit part colon deep
    → Exactly (ClosedBy (Expressions names 0) colon) limit part
one_exact names limit part deep t = closed_exact (Expressions names 0) colon limit (λ part more. omega arith) part deep t

other_tail : (names : Names) (limit : ℕ) (e one : Written) (deep : Bool) → height e < limit → Took (Expressions names 3) limit e question deep
    → Exactly (ClosedBy (Expressions names 0) colon) (limit - 1) one
    → Tail (Expressions names 2) (Expressions names 2) limit (limit - 1) (text e (question ∷ text one (colon ∷ []))) (Choice e one) (λ rest. Unit {0})
other_tail names limit e one deep low t x =
    let low' : height one ≤ limit - 1 = x.low in
    let h = height_some e in
    let apart : (following : Kinds) → text e (question ∷ text one (colon ∷ [])) ++ following ≡ text e (question ∷ text one (colon ∷ following)) =
    λ following. text_append e (question ∷ text one (colon ∷ [])) following
    ∙ ap (λ (y : Kinds). text e (question ∷ y)) (text_append one (colon ∷ []) following) in
    record {
      started = inr (record {
        phrase = Choice e one zero;
        more = text zero [];
        is_phrase = (omega arith, (t.is_phrase.0, t.is_phrase.1, x.is_phrase.1, omega arith, tt));
        low = omega arith;
        spelled = sym (apart (text zero []));
      });
      invert = λ whole after following is shut fit same.
          let f = choice_test names limit e deep t whole after (text one (colon ∷ following)) is shut (same ∙ apart following) in
          let k = x.exact f.0 (text f.1 after) following f.3 (sym f.5) in
          (f.1, f.2 ∙ ap (λ (y : Written). Choice e y f.1) k.0, f.4, sym k.1);
      shut = λ part after shut. shut;
      spelled = λ part after. sym (apart (text part after));
      is_phrase = λ part is. (omega arith, (t.is_phrase.0, t.is_phrase.1, x.is_phrase.1, is.0, is.1));
      low = λ part is le. omega arith;
      rises = λ part high. omega arith;
    }

pub other_refused : (names : Names) (limit : ℕ) (e one : Written) (deep : Bool) → height e < limit → Took (Expressions names 3) limit e question deep
    → Exactly (ClosedBy (Expressions names 0) colon) (limit - 1) one
    → (front : Kinds) (next : TokenKind) (deep' : Bool) → Refused (Expressions names 2) (limit - 1) front next deep'
    → Refused (Expressions names 2) limit (text e (question ∷ text one (colon ∷ [])) ++ front) next deep'
other_refused names limit e one deep low t x front next deep' r =
    tail_refused (Expressions names 2) (Expressions names 2) limit (limit - 1) (text e (question ∷ text one (colon ∷ []))) (Choice e one)
    (λ rest. Unit {0}) (text_law names 2) (other_tail names limit e one deep low t x) front next deep' (λ following near. tt) r

pub other_took : (names : Names) (limit : ℕ) (e one : Written) (deep : Bool) → height e < limit → Took (Expressions names 3) limit e question deep
    → Exactly (ClosedBy (Expressions names 0) colon) (limit - 1) one
    → (part : Written) (next : TokenKind) (deep' : Bool) → Took (Expressions names 2) (limit - 1) part next deep'
    → Took (Expressions names 2) limit (Choice e one part) next deep'
other_took names limit e one deep low t x part next deep' r =
    tail_took (Expressions names 2) (Expressions names 2) limit (limit - 1) (text e (question ∷ text one (colon ∷ []))) (Choice e one) (λ rest. Unit {0})
    (text_law names 2) (other_tail names limit e one deep low t x) part next deep' (λ following near. tt) r

-- a phrase of the level of assignments is one, or tighter
data IsStore (names : Names) (e : Written) (after tokens : Kinds) : Type 0 where
  firmer : 2 ≤ level_of e → IsStore names e after tokens
  stored : (op : AssignOp) (object value : Written) → e ≡ Assign op object value → IsPhrase names 14 object → IsPhrase names 1 value
      → tokens ≡ text object (token.Punctuator (assign_punctuator op) ∷ text value after) → IsStore names e after tokens

store_is : (names : Names) (e : Written) (after : Kinds) → IsPhrase names 1 e → IsStore names e after (text e after)
store_is names (Assign op o v) after is = stored op o v refl (is.1.0, is.1.1) (is.1.2, is.1.3) refl
store_is names (Infix op l r) after is = firmer (let i = (infix_levels op).0 in omega arith)
store_is names (Comma l r) after is = absurd (omega (arith, is.0))
store_is names _ after is = firmer (omega arith)

store_shut : (op : AssignOp) (more : Kinds) → join_of (token.Punctuator (assign_punctuator op) ∷ more) ≤ 2
store_shut op more = let j = assign_join op in omega arith

-- what was taken, unless it is an object before an assignment operator, is taken on the level of assignments too
pub assign_passes : (names : Names) (limit : ℕ) (e : Written) (next : TokenKind) (deep : Bool)
    → ((op : AssignOp) → next ≡ token.Punctuator (assign_punctuator op) → 14 ≤ level_of e → ⊥) → Took (Expressions names 2) limit e next deep
    → Took (Expressions names 1) limit e next deep
assign_passes names limit e next deep none t =
    pass_took names 1 2 limit e next deep (omega arith) t
    (λ other after following is loose shut near same.
    elim (store_is names other after is) [
      | firmer l ↦ absurd (omega arith)
      | stored op o v w io iv s ↦
          elim (t.only o (token.Punctuator (assign_punctuator op) ∷ text v after) following (looser names 2 14 o (omega arith) io)
          (store_shut op (text v after)) near (sym s ∙ same)) [
            | inl k ↦
                let bound : 14 ≤ level_of e = subst (λ (y : Written). 14 ≤ level_of y) k.0 io.0 in
                absurd (elim near [ inl n ↦ let z = k.1 ∙ n in cc | inr m ↦ let z = k.1 ∙ m.1 in none op (cc) bound ])
            | inr over ↦ record {
              reported = over.reported;
              high = subst (λ (y : Written). limit < height y) (sym w) (omega (arith, over.high));
              onward = over.onward;
            }
          ]
    ])

-- the object was refused
pub assign_head_refused : (names : Names) (limit : ℕ) (front : Kinds) (next : TokenKind) (deep : Bool) → Refused (Expressions names 2) limit front next deep
    → Refused (Expressions names 1) limit front next deep
assign_head_refused names limit front next deep r =
    pass_refused names 1 2 limit front next deep (omega arith) r
    (λ other after following is loose shut near same.
    elim (store_is names other after is) [
      | firmer l ↦ absurd (omega arith)
      | stored op o v w io iv s ↦
          let over = r.never o (token.Punctuator (assign_punctuator op) ∷ text v after) following (looser names 2 14 o (omega arith) io)
          (store_shut op (text v after)) near (sym s ∙ same) in
          record { reported = over.reported; high = subst (λ (z : Written). limit < height z) (sym w) (omega (arith, over.high)); onward = over.onward }
    ])

pub assign_deep : (names : Names) (limit : ℕ) (e : Written) (op : AssignOp) (deep : Bool) → limit ≤ height e → 14 ≤ level_of e
    → Took (Expressions names 2) limit e (token.Punctuator (assign_punctuator op)) deep
    → Took (Expressions names 1) limit e (token.Punctuator (assign_punctuator op)) true
assign_deep names limit e op deep full bound t =
    deepen names 1 2 limit e (token.Punctuator (assign_punctuator op)) deep (omega arith) t (λ more. store_shut op more) (let j = assign_join op in
    omega arith)
    (λ other after following is loose shut near same.
    elim (store_is names other after is) [
      | firmer l ↦ absurd (omega arith)
      | stored op' o v w io iv s ↦
          elim (t.only o (token.Punctuator (assign_punctuator op') ∷ text v after) following (looser names 2 14 o (omega arith) io)
          (store_shut op' (text v after)) near (sym s ∙ same)) [
            | inl k ↦
                let h : height o ≡ height e = ap height k.0 in
                (subst (λ (y : Written). limit < height y) (sym w) (omega arith), λ n. let z = k.1 ∙ n in cc)
            | inr over ↦ absurd (t.joined over.reported [] (store_shut op []))
          ]
    ])
    (record {
      phrase = Assign op e zero;
      more = text zero [];
      is_phrase = (omega arith, (bound, t.is_phrase.1, omega arith, tt));
      spelled = sym (text_append e (token.Punctuator (assign_punctuator op) ∷ []) (text zero []));
    })

abbrev of_punctuator : Punctuator → AssignOp
of_punctuator punctuator.Equal = store.Plain
of_punctuator punctuator.StarEqual = store.Multiply
of_punctuator punctuator.SlashEqual = store.Divide
of_punctuator punctuator.PercentEqual = store.Remainder
of_punctuator punctuator.PlusEqual = store.Add
of_punctuator punctuator.MinusEqual = store.Subtract
of_punctuator punctuator.ShiftLeftEqual = store.ShiftLeft
of_punctuator punctuator.ShiftRightEqual = store.ShiftRight
of_punctuator punctuator.AmpersandEqual = store.BitAnd
of_punctuator punctuator.CaretEqual = store.BitXor
of_punctuator punctuator.BarEqual = store.BitOr
of_punctuator other = store.Plain

of_punctuator_assign : (op : AssignOp) → of_punctuator (assign_punctuator op) ≡ op
of_punctuator_assign store.Plain = refl
of_punctuator_assign store.Multiply = refl
of_punctuator_assign store.Divide = refl
of_punctuator_assign store.Remainder = refl
of_punctuator_assign store.Add = refl
of_punctuator_assign store.Subtract = refl
of_punctuator_assign store.ShiftLeft = refl
of_punctuator_assign store.ShiftRight = refl
of_punctuator_assign store.BitAnd = refl
of_punctuator_assign store.BitXor = refl
of_punctuator_assign store.BitOr = refl

assign_same : (a b : AssignOp) → assign_punctuator a ≡ assign_punctuator b → a ≡ b
assign_same a b e = sym (of_punctuator_assign a) ∙ ap of_punctuator e ∙ of_punctuator_assign b

value_tail : (names : Names) (limit : ℕ) (e : Written) (op : AssignOp) (deep : Bool) → height e < limit → 14 ≤ level_of e
    → Took (Expressions names 2) limit e (token.Punctuator (assign_punctuator op)) deep
    → Tail (Expressions names 1) (Expressions names 1) limit (limit - 1) (text e (token.Punctuator (assign_punctuator op) ∷ [])) (Assign op e)
    (λ rest. Unit {0})
value_tail names limit e op deep low bound t =
    let h = height_some e in
    let j = assign_join op in
    record {
      started = inr (record {
        phrase = Assign op e zero;
        more = text zero [];
        is_phrase = (omega arith, (bound, t.is_phrase.1, omega arith, tt));
        low = omega arith;
        spelled = sym (text_append e (token.Punctuator (assign_punctuator op) ∷ []) (text zero []));
      });
      invert = λ whole after following is shut fit same'.
          let same : text whole after ≡ text e (token.Punctuator (assign_punctuator op) ∷ following) = same'
          ∙ text_append e (token.Punctuator (assign_punctuator op) ∷ []) following in
          elim (store_is names whole after is) [
            | firmer l ↦
                absurd (elim (t.only whole after (token.Punctuator (assign_punctuator op) ∷ following) (l, is.1) (omega arith) (inr (following, refl)) same) [
                  | inl k ↦ let x : join_of after ≡ punctuator_join (assign_punctuator op) = ap join_of k.1 in omega arith
                  | inr over ↦ t.joined over.reported [] (store_shut op [])
                ])
            | stored op' o v w io iv s ↦
                elim (t.only o (token.Punctuator (assign_punctuator op') ∷ text v after) (token.Punctuator (assign_punctuator op) ∷ following)
                (looser names 2 14 o (omega arith) io) (store_shut op' (text v after)) (inr (following, refl)) (sym s ∙ same)) [
                  | inl k ↦
                      let z = k.1 in
                      let m : assign_punctuator op' ≡ assign_punctuator op = cc in
                      (v, w ∙ ap (λ (y : Written). Assign op' y v) k.0 ∙ ap (λ (y : AssignOp). Assign y e v) (assign_same op' op m), iv, cc)
                  | inr over ↦ absurd (t.joined over.reported [] (store_shut op []))
                ]
          ];
      shut = λ part after shut. shut;
      spelled = λ part after. sym (text_append e (token.Punctuator (assign_punctuator op) ∷ []) (text part after));
      is_phrase = λ part is. (omega arith, (bound, t.is_phrase.1, is.0, is.1));
      low = λ part is le. omega arith;
      rises = λ part high. omega arith;
    }

pub value_refused : (names : Names) (limit : ℕ) (e : Written) (op : AssignOp) (deep : Bool) → height e < limit → 14 ≤ level_of e
    → Took (Expressions names 2) limit e (token.Punctuator (assign_punctuator op)) deep
    → (front : Kinds) (next : TokenKind) (deep' : Bool) → Refused (Expressions names 1) (limit - 1) front next deep'
    → Refused (Expressions names 1) limit (text e (token.Punctuator (assign_punctuator op) ∷ []) ++ front) next deep'
value_refused names limit e op deep low bound t front next deep' r =
    tail_refused (Expressions names 1) (Expressions names 1) limit (limit - 1) (text e (token.Punctuator (assign_punctuator op) ∷ [])) (Assign op e)
    (λ rest. Unit {0}) (text_law names 1) (value_tail names limit e op deep low bound t) front next deep' (λ following near. tt) r

pub value_took : (names : Names) (limit : ℕ) (e : Written) (op : AssignOp) (deep : Bool) → height e < limit → 14 ≤ level_of e
    → Took (Expressions names 2) limit e (token.Punctuator (assign_punctuator op)) deep
    → (part : Written) (next : TokenKind) (deep' : Bool) → Took (Expressions names 1) (limit - 1) part next deep'
    → Took (Expressions names 1) limit (Assign op e part) next deep'
value_took names limit e op deep low bound t part next deep' r =
    tail_took (Expressions names 1) (Expressions names 1) limit (limit - 1) (text e (token.Punctuator (assign_punctuator op) ∷ [])) (Assign op e)
    (λ rest. Unit {0}) (text_law names 1) (value_tail names limit e op deep low bound t) part next deep' (λ following near. tt) r
