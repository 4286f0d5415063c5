-- Expressions of one token and between parentheses: for the contract of `primary`.
use Rattle.std.proofs.Common.{◌≡◌, ℕ, suc, ◌+◌, ◌-◌, ◌<◌, ◌≤◌, ◌⊎◌, inl, inr, Bool, true, false, not, List, [], ◌∷◌}
use Rattle.std.proofs.Common.{◌++◌, refl, sym, ap, ◌∙◌, subst, arith}
use Rattle.std.proofs.lemmas.Bool.{false≢true, not-true, both_ways, not_from_false}
use Rattle.cs_ast.specs.declared.token.TokenKind.{TokenKind}
use Rattle.cs_ast.specs.declared.token.TokenKind.TheVariants as token
use Rattle.cs_ast.specs.declared.token.Punctuator.{Punctuator}
use Rattle.cs_ast.specs.declared.token.Punctuator.TheVariants as punctuator
use Rattle.cs_ast.specs.declared.token.IntegerConstant.{IntegerConstant}
use Rattle.cs_ast.specs.declared.token.Length.TheVariants.{Plain}
use Rattle.cs_ast.specs.RawTree.{Written, WrittenList, Named, Numeral, Character, Literal, Enclosed, Index, Call, Member, Arrow, StepAfter, StepBefore, Prefix}
use Rattle.cs_ast.specs.RawTree.{SizeOf, SizeOfType, Cast, Infix, Choice, Assign, Comma, End, More}
use Rattle.cs_ast.specs.RawHeight.{height}
use Rattle.cs_grammar.specs.TypeWords.{Names, is_among}
use Rattle.cs_grammar.specs.Levels.{level_of, infix_level}
use Rattle.cs_grammar.specs.Text.{Kinds, text}
use Rattle.cs_grammar.specs.Phrases.{IsPhrase, IsWell}
use Rattle.cs_grammar.specs.Continuing.{join_of}
use Rattle.cs_grammar.specs.Parsing.{Class, Expressions, Near, IsOver, Begins, BeginsLow, Took, Refused, Exactly}
use Rattle.cs_grammar.proofs.Levels.{infix_levels, text_law}
use Rattle.cs_grammar.proofs.Holes.{Tail, ClosedBy, closed_law, tail_took, tail_refused, closed_exact, closed_wrong, closed_refused, exact_took}
use Rattle.cs_expr_parser.specs.Leaves.{is_leaf, IsLeaf}

-- the lowest expression
abbrev pub zero : Written
zero = Numeral (record { value = 0; decimal = true; unsigned = false; length = Plain })

abbrev pub open_parenthesis : TokenKind
open_parenthesis = token.Punctuator punctuator.OpenParenthesis

abbrev pub close_parenthesis : TokenKind
close_parenthesis = token.Punctuator punctuator.CloseParenthesis

-- each expression has a height
pub height_some : (e : Written) → 1 ≤ height e
height_some (Named name) = omega arith
height_some (Numeral n) = omega arith
height_some (Character v) = omega arith
height_some (Literal b) = omega arith
height_some (Enclosed i) = omega arith
height_some (Index a n) = omega arith
height_some (Call f es) = omega arith
height_some (Member o n) = omega arith
height_some (Arrow o n) = omega arith
height_some (StepAfter s o) = omega arith
height_some (StepBefore s o) = omega arith
height_some (Prefix op o) = omega arith
height_some (SizeOf o) = omega arith
height_some (SizeOfType ws ps bs) = omega arith
height_some (Cast ws ps bs o) = omega arith
height_some (Infix op l r) = omega arith
height_some (Choice t o e) = omega arith
height_some (Assign op l r) = omega arith
height_some (Comma l r) = omega arith

-- a phrase of the tightest level is a leaf or between parentheses
pub data Tight (names : Names) (e : Written) (after tokens : Kinds) : Type 0 where
  leaf : (kind : TokenKind) → is_leaf names kind ≡ true → IsLeaf kind e → tokens ≡ kind ∷ after → Tight names e after tokens
  around : (inner : Written) → e ≡ Enclosed inner → IsWell names inner → tokens ≡ open_parenthesis ∷ text inner (close_parenthesis ∷ after)
      → Tight names e after tokens

pub primary_is : (names : Names) (e : Written) (after : Kinds) → IsPhrase names 16 e → Tight names e after (text e after)
primary_is names (Named name) after is = leaf (token.Name name) (not_from_false (is_among names name) is.1) refl refl
primary_is names (Numeral n) after is = leaf (token.Number n) refl refl refl
primary_is names (Character v) after is = leaf (token.Character v) refl refl refl
primary_is names (Literal b) after is = leaf (token.Text b) refl refl refl
primary_is names (Enclosed i) after is = around i refl is.1 refl
primary_is names (Index a n) after is = absurd (omega (arith, is.0))
primary_is names (Call f es) after is = absurd (omega (arith, is.0))
primary_is names (Member o n) after is = absurd (omega (arith, is.0))
primary_is names (Arrow o n) after is = absurd (omega (arith, is.0))
primary_is names (StepAfter s o) after is = absurd (omega (arith, is.0))
primary_is names (StepBefore s o) after is = absurd (omega (arith, is.0))
primary_is names (Prefix op o) after is = absurd (omega (arith, is.0))
primary_is names (SizeOf o) after is = absurd (omega (arith, is.0))
primary_is names (SizeOfType ws ps bs) after is = absurd (omega (arith, is.0))
primary_is names (Cast ws ps bs o) after is = absurd (omega (arith, is.0))
primary_is names (Infix op l r) after is = absurd (omega (arith, is.0, (infix_levels op).1))
primary_is names (Choice t o e) after is = absurd (omega (arith, is.0))
primary_is names (Assign op l r) after is = absurd (omega (arith, is.0))
primary_is names (Comma l r) after is = absurd (omega (arith, is.0))

-- a leaf's tree is determined by its token
leaf_same : (kind : TokenKind) (e other : Written) → IsLeaf kind e → IsLeaf kind other → other ≡ e
leaf_same (token.Name n) e other a b = b ∙ sym a
leaf_same (token.Number n) e other a b = b ∙ sym a
leaf_same (token.Character n) e other a b = b ∙ sym a
leaf_same (token.Text n) e other a b = b ∙ sym a
leaf_same (token.Punctuator n) e other a b = absurd a
leaf_same (token.Keyword n) e other a b = absurd a
leaf_same (token.Unsupported n) e other a b = absurd a
leaf_same token.Attribute e other a b = absurd a

pub leaf_text : (kind : TokenKind) (e : Written) (after : Kinds) → IsLeaf kind e → text e after ≡ kind ∷ after
leaf_text (token.Name n) e after a = ap (λ (x : Written). text x after) a
leaf_text (token.Number n) e after a = ap (λ (x : Written). text x after) a
leaf_text (token.Character n) e after a = ap (λ (x : Written). text x after) a
leaf_text (token.Text n) e after a = ap (λ (x : Written). text x after) a
leaf_text (token.Punctuator n) e after a = absurd a
leaf_text (token.Keyword n) e after a = absurd a
leaf_text (token.Unsupported n) e after a = absurd a
leaf_text token.Attribute e after a = absurd a

pub leaf_phrase : (names : Names) (kind : TokenKind) (e : Written) → is_leaf names kind ≡ true → IsLeaf kind e → IsPhrase names 16 e
leaf_phrase names (token.Name n) e k a = subst (IsPhrase names 16) (sym a) (omega arith, not-true (is_among names n) k)
leaf_phrase names (token.Number n) e k a = subst (IsPhrase names 16) (sym a) (omega arith, tt)
leaf_phrase names (token.Character n) e k a = subst (IsPhrase names 16) (sym a) (omega arith, tt)
leaf_phrase names (token.Text n) e k a = subst (IsPhrase names 16) (sym a) (omega arith, tt)
leaf_phrase names (token.Punctuator n) e k a = absurd a
leaf_phrase names (token.Keyword n) e k a = absurd a
leaf_phrase names (token.Unsupported n) e k a = absurd a
leaf_phrase names token.Attribute e k a = absurd a

pub leaf_height : (kind : TokenKind) (e : Written) → IsLeaf kind e → height e ≡ 1
leaf_height (token.Name n) e a = ap height a
leaf_height (token.Number n) e a = ap height a
leaf_height (token.Character n) e a = ap height a
leaf_height (token.Text n) e a = ap height a
leaf_height (token.Punctuator n) e a = absurd a
leaf_height (token.Keyword n) e a = absurd a
leaf_height (token.Unsupported n) e a = absurd a
leaf_height token.Attribute e a = absurd a

leaf_no_parenthesis : (names : Names) (kind : TokenKind) → is_leaf names kind ≡ true → kind ≡ open_parenthesis → ⊥
leaf_no_parenthesis names (token.Name n) k e = cc
leaf_no_parenthesis names (token.Number n) k e = cc
leaf_no_parenthesis names (token.Character n) k e = cc
leaf_no_parenthesis names (token.Text n) k e = cc
leaf_no_parenthesis names (token.Punctuator n) k e = cc
leaf_no_parenthesis names (token.Keyword n) k e = cc
leaf_no_parenthesis names (token.Unsupported n) k e = cc
leaf_no_parenthesis names token.Attribute k e = cc

-- a leaf was taken
pub leaf_took : (names : Names) (limit : ℕ) (kind : TokenKind) (e : Written) → 1 ≤ limit → is_leaf names kind ≡ true → IsLeaf kind e
    → Exactly (Expressions names 16) limit e
leaf_took names limit kind e some k a = record {
  is_phrase = leaf_phrase names kind e k a;
  low = let h = leaf_height kind e a in omega arith;
  exact = λ other after following is same.
      elim (primary_is names other after is) [
        | leaf kind' k' a' t ↦
            let s : kind' ∷ after ≡ kind ∷ following = sym t ∙ same ∙ leaf_text kind e following a in
            let ks : kind' ≡ kind = cc in
            (leaf_same kind e other a (subst (λ (x : TokenKind). IsLeaf x other) ks a'), cc)
        | around inner w well t ↦
            let s : open_parenthesis ∷ text inner (close_parenthesis ∷ after) ≡ kind ∷ following = sym t ∙ same ∙ leaf_text kind e following a in
            absurd (leaf_no_parenthesis names kind k cc)
      ];
}

-- a token that begins no primary expression, or a leaf that the limit doesn't allow
pub leaf_refused : (names : Names) (limit : ℕ) (next : TokenKind) (deep : Bool) → (next ≡ open_parenthesis → ⊥) → is_leaf names next ≡ deep
    → (deep ≡ true → limit < 1) → (deep ≡ true → (e : Written) × IsLeaf next e) → Refused (Expressions names 16) limit [] next deep
leaf_refused names limit next deep closed is full tree = record {
  begun = inl refl;
  never = λ other after following is' shut near same.
      elim near [
        | inl none ↦ absurd (elim (primary_is names other after is') [
          | leaf k' kk a t ↦ let s = sym t ∙ same ∙ none in cc
          | around inner w well t ↦ let s = sym t ∙ same ∙ none in cc
        ])
        | inr m ↦
            elim (primary_is names other after is') [
              | leaf k' kk a t ↦
                  let s : k' ∷ after ≡ next ∷ m.0 = sym t ∙ same ∙ m.1 in
                  let e : k' ≡ next = cc in
                  let reported : deep ≡ true = sym is ∙ ap (is_leaf names) (sym e) ∙ kk in
                  let f = full reported in
                  let h = height_some other in
                  record { reported = reported; high = omega arith; onward = λ none. let z : next ∷ m.0 ≡ [] = sym m.1 ∙ none in cc }
              | around inner w well t ↦ let s = sym t ∙ same ∙ m.1 in absurd (closed cc)
            ]
      ];
  further = λ reported.
      let t = tree reported in
      record { phrase = t.0; more = []; is_phrase = leaf_phrase names next t.0 (is ∙ reported) t.1; spelled = leaf_text next t.0 [] t.1 };
}

-- an expression between parentheses, after the opening one
pub enclosed_tail : (names : Names) (limit : ℕ) → 2 ≤ limit
    → Tail (Expressions names 16) (ClosedBy (Expressions names 0) close_parenthesis) limit (limit - 1) (open_parenthesis ∷ []) Enclosed (λ rest. Unit {0})
enclosed_tail names limit least = record {
  started = inr (record {
    phrase = Enclosed zero;
    more = text zero (close_parenthesis ∷ []);
    is_phrase = (omega arith, tt);
    low = omega arith;
    spelled = refl;
  });
  invert = λ whole after following is shut fit same.
      elim (primary_is names whole after is) [
        | leaf kind k a t ↦ let s = sym t ∙ same in absurd (leaf_no_parenthesis names kind k cc)
        | around inner w well t ↦ let s = sym t ∙ same in (inner, w, (omega arith, well), cc)
      ];
  shut = λ part after shut. tt;
  spelled = λ part after. refl;
  is_phrase = λ part is. (omega arith, is.1);
  low = λ part is low. omega arith;
  rises = λ part high. omega arith;
}

pub closes : (names : Names) (level : ℕ) (m : Punctuator) → join_of (token.Punctuator m ∷ []) ≤ level
    → (more : Kinds) → join_of (token.Punctuator m ∷ more) ≤ level
closes names level m le more = le

-- an opening parenthesis that the limit doesn't allow
pub enclosed_full : (names : Names) (limit : ℕ) → limit < 2 → Refused (Expressions names 16) limit [] open_parenthesis true
enclosed_full names limit full = record {
  begun = inl refl;
  never = λ other after following is shut near same.
      elim near [
        | inl none ↦ absurd (elim (primary_is names other after is) [
          | leaf k' kk a t ↦ let s = sym t ∙ same ∙ none in cc
          | around inner w well t ↦ let s = sym t ∙ same ∙ none in cc
        ])
        | inr m ↦
            elim (primary_is names other after is) [
              | leaf k' kk a t ↦ let s = sym t ∙ same ∙ m.1 in absurd (leaf_no_parenthesis names k' kk cc)
              | around inner w well t ↦
                  let h = height_some inner in
                  record {
                    reported = refl;
                    high = subst (λ (x : Written). limit < height x) (sym w) (omega arith);
                    onward = λ none. let z = sym m.1 ∙ none in cc;
                  }
            ]
      ];
  further = λ reported. record { phrase = Enclosed zero; more = text zero (close_parenthesis ∷ []); is_phrase = (omega arith, tt); spelled = refl };
}

pub enclosed_refused : (names : Names) (limit : ℕ) → 2 ≤ limit
    → (front : Kinds) (next : TokenKind) (deep : Bool) → Refused (Expressions names 0) (limit - 1) front next deep
    → Refused (Expressions names 16) limit (open_parenthesis ∷ front) next deep
enclosed_refused names limit least front next deep r =
    tail_refused (Expressions names 16) (ClosedBy (Expressions names 0) close_parenthesis) limit (limit - 1) (open_parenthesis ∷ []) Enclosed
    (λ rest. Unit {0}) (closed_law (Expressions names 0) close_parenthesis (text_law names 0)) (enclosed_tail names limit least) front next deep
    (λ following near. tt)
    (closed_refused (Expressions names 0) close_parenthesis (limit - 1) (text_law names 0) (λ part more. omega arith) front next deep r)

pub enclosed_wrong : (names : Names) (limit : ℕ) → 2 ≤ limit
    → (part : Written) (next : TokenKind) (deep : Bool) → Took (Expressions names 0) (limit - 1) part next deep → (next ≡ close_parenthesis → ⊥)
    → Refused (Expressions names 16) limit (open_parenthesis ∷ text part []) next deep
enclosed_wrong names limit least part next deep t other =
    tail_refused (Expressions names 16) (ClosedBy (Expressions names 0) close_parenthesis) limit (limit - 1) (open_parenthesis ∷ []) Enclosed
    (λ rest. Unit {0}) (closed_law (Expressions names 0) close_parenthesis (text_law names 0)) (enclosed_tail names limit least) (text part []) next deep
    (λ following near. tt)
    (closed_wrong (Expressions names 0) close_parenthesis (limit - 1) (text_law names 0) (λ part more. omega arith) part next deep t other)

pub enclosed_took : (names : Names) (limit : ℕ) → 2 ≤ limit
    → (part : Written) (deep : Bool) (next : TokenKind) → Took (Expressions names 0) (limit - 1) part close_parenthesis deep
    → Took (Expressions names 16) limit (Enclosed part) next false
enclosed_took names limit least part deep next t =
    tail_took (Expressions names 16) (ClosedBy (Expressions names 0) close_parenthesis) limit (limit - 1) (open_parenthesis ∷ []) Enclosed (λ rest. Unit {0})
    (closed_law (Expressions names 0) close_parenthesis (text_law names 0)) (enclosed_tail names limit least) part next false (λ following near. tt)
    (exact_took (ClosedBy (Expressions names 0) close_parenthesis) (limit - 1) part
    (closed_exact (Expressions names 0) close_parenthesis (limit - 1) (λ part more. omega arith) part deep t) next)
