-- Suffixes of operands: for the contracts of `suffixed`, `infix` and `comma`.
use Rattle.std.proofs.Common.{◌≡◌, ℕ, suc, ◌+◌, ◌-◌, ◌<◌, ◌≤◌, ◌⊎◌, inl, inr, Bool, true, false, List, [], ◌∷◌, ◌++◌}
use Rattle.std.proofs.Common.{refl, sym, ap, ◌∙◌, subst, arith}
use Rattle.cs_ast.specs.declared.token.TokenKind.{TokenKind}
use Rattle.cs_ast.specs.declared.token.TokenKind.TheVariants as token
use Rattle.cs_ast.specs.declared.token.Punctuator.{Punctuator}
use Rattle.cs_ast.specs.declared.token.Punctuator.TheVariants as punctuator
use Rattle.cs_ast.specs.declared.raw.operator.Step.{Step}
use Rattle.cs_ast.specs.declared.raw.operator.Step.TheVariants.{Up, Down}
use Rattle.cs_ast.specs.declared.raw.operator.InfixOp.{InfixOp}
use Rattle.cs_ast.specs.declared.raw.operator.InfixOp.TheVariants as between
use Rattle.cs_ast.specs.RawTree.{Written, WrittenList, Index, Call, Member, Arrow, StepAfter, Infix, Comma, End, More}
use Rattle.cs_ast.specs.RawHeight.{height, highest}
use Rattle.cs_grammar.specs.TypeWords.{Names}
use Rattle.cs_grammar.specs.Levels.{level_of, infix_level}
use Rattle.cs_grammar.specs.Punctuators.{step_punctuator, infix_punctuator}
use Rattle.cs_grammar.specs.Text.{Kinds, text, listed}
use Rattle.cs_grammar.specs.Phrases.{IsPhrase, IsWell, ArePhrases}
use Rattle.cs_grammar.specs.Continuing.{join, join_of}
use Rattle.cs_grammar.specs.Parsing.{Class, Expressions, Begins, BeginsLow}
use Rattle.cs_grammar.specs.Chains.{Suffix, indexed, called, selected, followed_by, stepped, joined, continued}
use Rattle.cs_grammar.proofs.Chains.{Addition}
use Rattle.cs_grammar.proofs.Levels.{infix_levels, infix_join, step_join}
use Rattle.cs_grammar.proofs.Holes.{ClosedBy, Ended, AnyName}
use Rattle.cs_grammar.proofs.Texts.{text_append}
use Rattle.cs_expr_parser.specs.Parts.{Rows, arguments_text}
use Rattle.cs_expr_parser.proofs.Closings.{zero, height_some, close_parenthesis}

abbrev close_bracket : TokenKind
close_bracket = token.Punctuator punctuator.CloseBracket

step_token : (s : Step) (m : Punctuator) → (m ≡ punctuator.Increment → ⊥) → (m ≡ punctuator.Decrement → ⊥) → step_punctuator s ≡ m → ⊥
step_token Up m i d e = i (sym e)
step_token Down m i d e = d (sym e)

-- `left [ number ]`
pub index_addition : (names : Names) (left : Written) (limit : ℕ) → IsPhrase names 15 left → height left < limit
    → Addition names 15 left limit (token.Punctuator punctuator.OpenBracket) (ClosedBy (Expressions names 0) (token.Punctuator punctuator.CloseBracket))
    (limit - 1) (Index left)
index_addition names left limit is low = record {
  chain = refl;
  started =
      let h = height_some left in
      record {
        phrase = Index left zero;
        more = text zero (close_bracket ∷ []);
        is_phrase = (omega arith, (is.0, is.1, tt));
        low = omega arith;
        spelled = sym (text_append left (token.Punctuator punctuator.OpenBracket ∷ []) (text zero (close_bracket ∷ [])));
      };
  invert = λ whole after following is' s.
      elim s [
        | indexed n l w b ↦ let p = subst (IsPhrase names 15) w is' in (n, w, (omega arith, p.1.2), cc)
        | called es l w b ↦ absurd cc
        | selected n l w b ↦ absurd cc
        | followed_by n l w b ↦ absurd cc
        | stepped k l w b ↦ absurd (step_token k punctuator.OpenBracket (λ e. cc) (λ e. cc) cc)
        | joined op r l w b ↦ absurd (let i = (infix_levels op).1 in omega arith)
        | continued f l w b ↦ absurd (omega arith)
      ];
  shut = λ part after shut. tt;
  spelled = λ part after. refl;
  is_phrase = λ part is'. (omega arith, (is.0, is.1, is'.1));
  low = λ part is' le. omega arith;
  rises = λ part high. omega arith;
}

-- `left ( arguments )`
pub call_addition : (names : Names) (left : Written) (limit : ℕ) → IsPhrase names 15 left → height left < limit
    → Addition names 15 left limit (token.Punctuator punctuator.OpenParenthesis) (Rows arguments_text (ArePhrases names 1)) (limit - 2) (Call left)
call_addition names left limit is low = record {
  chain = refl;
  started =
      let h = height_some left in
      record {
        phrase = Call left End;
        more = close_parenthesis ∷ [];
        is_phrase = (omega arith, (is.0, is.1, tt));
        low = omega arith;
        spelled = sym (text_append left (token.Punctuator punctuator.OpenParenthesis ∷ []) (close_parenthesis ∷ []));
      };
  invert = λ whole after following is' s.
      elim s [
        | called es l w b ↦ let p = subst (IsPhrase names 15) w is' in (es, w, p.1.2, cc)
        | indexed n l w b ↦ absurd cc
        | selected n l w b ↦ absurd cc
        | followed_by n l w b ↦ absurd cc
        | stepped k l w b ↦ absurd (step_token k punctuator.OpenParenthesis (λ e. cc) (λ e. cc) cc)
        | joined op r l w b ↦ absurd (let i = (infix_levels op).1 in omega arith)
        | continued f l w b ↦ absurd (omega arith)
      ];
  shut = λ part after shut. tt;
  spelled = λ part after. refl;
  is_phrase = λ part is'. (omega arith, (is.0, is.1, is'));
  low = λ part is' le. let h = height_some left in omega arith;
  rises = λ part high. omega arith;
}

-- `left . name`
pub member_addition : (names : Names) (left : Written) (limit : ℕ) → IsPhrase names 15 left → height left < limit
    → Addition names 15 left limit (token.Punctuator punctuator.Dot) AnyName 0 (Member left)
member_addition names left limit is low = record {
  chain = refl;
  started = record {
    phrase = Member left [];
    more = token.Name [] ∷ [];
    is_phrase = (omega arith, (is.0, is.1));
    low = omega arith;
    spelled = sym (text_append left (token.Punctuator punctuator.Dot ∷ []) (token.Name [] ∷ []));
  };
  invert = λ whole after following is' s.
      elim s [
        | selected n l w b ↦ (n, w, tt, cc)
        | called es l w b ↦ absurd cc
        | indexed n l w b ↦ absurd cc
        | followed_by n l w b ↦ absurd cc
        | stepped k l w b ↦ absurd (step_token k punctuator.Dot (λ e. cc) (λ e. cc) cc)
        | joined op r l w b ↦ absurd (let i = (infix_levels op).1 in omega arith)
        | continued f l w b ↦ absurd (omega arith)
      ];
  shut = λ part after shut. tt;
  spelled = λ part after. refl;
  is_phrase = λ part is'. (omega arith, (is.0, is.1));
  low = λ part is' le. omega arith;
  rises = λ part high. absurd (omega (arith, high));
}

-- `left -> name`
pub arrow_addition : (names : Names) (left : Written) (limit : ℕ) → IsPhrase names 15 left → height left < limit
    → Addition names 15 left limit (token.Punctuator punctuator.Arrow) AnyName 0 (Arrow left)
arrow_addition names left limit is low = record {
  chain = refl;
  started = record {
    phrase = Arrow left [];
    more = token.Name [] ∷ [];
    is_phrase = (omega arith, (is.0, is.1));
    low = omega arith;
    spelled = sym (text_append left (token.Punctuator punctuator.Arrow ∷ []) (token.Name [] ∷ []));
  };
  invert = λ whole after following is' s.
      elim s [
        | followed_by n l w b ↦ (n, w, tt, cc)
        | called es l w b ↦ absurd cc
        | indexed n l w b ↦ absurd cc
        | selected n l w b ↦ absurd cc
        | stepped k l w b ↦ absurd (step_token k punctuator.Arrow (λ e. cc) (λ e. cc) cc)
        | joined op r l w b ↦ absurd (let i = (infix_levels op).1 in omega arith)
        | continued f l w b ↦ absurd (omega arith)
      ];
  shut = λ part after shut. tt;
  spelled = λ part after. refl;
  is_phrase = λ part is'. (omega arith, (is.0, is.1));
  low = λ part is' le. omega arith;
  rises = λ part high. absurd (omega (arith, high));
}

steps_differ : (s t : Step) → step_punctuator s ≡ step_punctuator t → s ≡ t
steps_differ Up Up e = refl
steps_differ Down Down e = refl
steps_differ Up Down e = absurd cc
steps_differ Down Up e = absurd cc

step_tokens : (s : Step) → (step_punctuator s ≡ punctuator.OpenBracket → ⊥) × (step_punctuator s ≡ punctuator.OpenParenthesis → ⊥)
    × (step_punctuator s ≡ punctuator.Dot → ⊥) × (step_punctuator s ≡ punctuator.Arrow → ⊥)
step_tokens Up = (λ e. cc, λ e. cc, λ e. cc, λ e. cc)
step_tokens Down = (λ e. cc, λ e. cc, λ e. cc, λ e. cc)

-- `left ++`
pub step_addition : (names : Names) (left : Written) (limit : ℕ) (by : Step) → IsPhrase names 15 left → height left < limit
    → Addition names 15 left limit (token.Punctuator (step_punctuator by)) Ended 0 (λ (end : Unit {0}). StepAfter by left)
step_addition names left limit by is low = record {
  chain = step_join by;
  started = record {
    phrase = StepAfter by left;
    more = [];
    is_phrase = (omega arith, (is.0, is.1));
    low = omega arith;
    spelled = sym (text_append left (token.Punctuator (step_punctuator by) ∷ []) []);
  };
  invert = λ whole after following is' s.
      let d = step_tokens by in
      elim s [
        | stepped k l w b ↦
            let e : step_punctuator by ≡ step_punctuator k = cc in
            let k' : k ≡ by = sym (steps_differ by k e) in
            (tt, w ∙ ap (λ (x : Step). StepAfter x left) k', tt, cc)
        | called es l w b ↦ absurd (d.1 cc)
        | indexed n l w b ↦ absurd (d.0 cc)
        | selected n l w b ↦ absurd (d.2 cc)
        | followed_by n l w b ↦ absurd (d.3 cc)
        | joined op r l w b ↦ absurd (let i = (infix_levels op).1 in omega arith)
        | continued f l w b ↦ absurd (omega arith)
      ];
  shut = λ part after shut. tt;
  spelled = λ part after. refl;
  is_phrase = λ part is'. (omega arith, (is.0, is.1));
  low = λ part is' le. omega arith;
  rises = λ part high. absurd (omega (arith, high));
}

-- the operator of a punctuator
abbrev of_punctuator : Punctuator → InfixOp
of_punctuator punctuator.BarBar = between.Or
of_punctuator punctuator.AndAnd = between.And
of_punctuator punctuator.Bar = between.BitOr
of_punctuator punctuator.Caret = between.BitXor
of_punctuator punctuator.Ampersand = between.BitAnd
of_punctuator punctuator.EqualEqual = between.Equal
of_punctuator punctuator.Differs = between.Differs
of_punctuator punctuator.Less = between.Less
of_punctuator punctuator.AtMost = between.AtMost
of_punctuator punctuator.More = between.More
of_punctuator punctuator.AtLeast = between.AtLeast
of_punctuator punctuator.ShiftLeft = between.ShiftLeft
of_punctuator punctuator.ShiftRight = between.ShiftRight
of_punctuator punctuator.Plus = between.Add
of_punctuator punctuator.Minus = between.Subtract
of_punctuator punctuator.Star = between.Multiply
of_punctuator punctuator.Slash = between.Divide
of_punctuator punctuator.Percent = between.Remainder
of_punctuator other = between.Or

of_punctuator_infix : (op : InfixOp) → of_punctuator (infix_punctuator op) ≡ op
of_punctuator_infix between.Or = refl
of_punctuator_infix between.And = refl
of_punctuator_infix between.BitOr = refl
of_punctuator_infix between.BitXor = refl
of_punctuator_infix between.BitAnd = refl
of_punctuator_infix between.Equal = refl
of_punctuator_infix between.Differs = refl
of_punctuator_infix between.Less = refl
of_punctuator_infix between.AtMost = refl
of_punctuator_infix between.More = refl
of_punctuator_infix between.AtLeast = refl
of_punctuator_infix between.ShiftLeft = refl
of_punctuator_infix between.ShiftRight = refl
of_punctuator_infix between.Add = refl
of_punctuator_infix between.Subtract = refl
of_punctuator_infix between.Multiply = refl
of_punctuator_infix between.Divide = refl
of_punctuator_infix between.Remainder = refl

-- operators with the same punctuator are equal
pub infix_same : (a b : InfixOp) → infix_punctuator a ≡ infix_punctuator b → a ≡ b
infix_same a b e = sym (of_punctuator_infix a) ∙ ap of_punctuator e ∙ of_punctuator_infix b

-- `left operator right`
pub infix_addition : (names : Names) (left : Written) (limit : ℕ) (op : InfixOp) → IsPhrase names (infix_level op) left → height left < limit
    → Addition names (infix_level op) left limit (token.Punctuator (infix_punctuator op)) (Expressions names (suc (infix_level op))) (limit - 1)
    (Infix op left)
infix_addition names left limit op is low = record {
  chain = infix_join op;
  started =
      let h = height_some left in
      let i = (infix_levels op).1 in
      record {
        phrase = Infix op left zero;
        more = text zero [];
        is_phrase = (omega arith, (is.0, is.1, omega arith, tt));
        low = omega arith;
        spelled = sym (text_append left (token.Punctuator (infix_punctuator op) ∷ []) (text zero []));
      };
  invert = λ whole after following is' s.
      let i = infix_levels op in
      let i1 = i.0 in
      let i2 = i.1 in
      elim s [
        | joined op' r l w b ↦
            let m : infix_punctuator op ≡ infix_punctuator op' = cc in
            let o : op' ≡ op = sym (infix_same op op' m) in
            let p = subst (IsPhrase names (infix_level op)) w is' in
            let bound : suc (infix_level op') ≤ level_of r = p.1.2 in
            (r, w ∙ ap (λ (x : InfixOp). Infix x left r) o, (omega arith, p.1.3), cc)
        | called es l w b ↦ absurd (omega arith)
        | indexed n l w b ↦ absurd (omega arith)
        | selected n l w b ↦ absurd (omega arith)
        | followed_by n l w b ↦ absurd (omega arith)
        | stepped k l w b ↦ absurd (omega arith)
        | continued f l w b ↦ absurd (omega arith)
      ];
  shut = λ part after shut. shut;
  spelled = λ part after. refl;
  is_phrase = λ part is'. (omega arith, (is.0, is.1, is'.0, is'.1));
  low = λ part is' le. omega arith;
  rises = λ part high. omega arith;
}

-- `first , second`
pub comma_addition : (names : Names) (left : Written) (limit : ℕ) → IsPhrase names 0 left → height left < limit
    → Addition names 0 left limit (token.Punctuator punctuator.Comma) (Expressions names 1) (limit - 1) (Comma left)
comma_addition names left limit is low = record {
  chain = refl;
  started =
      let h = height_some left in
      record {
        phrase = Comma left zero;
        more = text zero [];
        is_phrase = (omega arith, (is.1, omega arith, tt));
        low = omega arith;
        spelled = sym (text_append left (token.Punctuator punctuator.Comma ∷ []) (text zero []));
      };
  invert = λ whole after following is' s.
      elim s [
        | continued f l w b ↦ let p = subst (IsPhrase names 0) w is' in (f, w, (p.1.1, p.1.2), cc)
        | joined op r l w b ↦ absurd (let i = (infix_levels op).0 in omega arith)
        | called es l w b ↦ absurd (omega arith)
        | indexed n l w b ↦ absurd (omega arith)
        | selected n l w b ↦ absurd (omega arith)
        | followed_by n l w b ↦ absurd (omega arith)
        | stepped k l w b ↦ absurd (omega arith)
      ];
  shut = λ part after shut. shut;
  spelled = λ part after. refl;
  is_phrase = λ part is'. (omega arith, (is.1, is'.0, is'.1));
  low = λ part is' le. omega arith;
  rises = λ part high. omega arith;
}
