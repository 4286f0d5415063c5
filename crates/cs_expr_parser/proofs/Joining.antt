-- Which tokens continue which chains: for the contracts of `postfix`, `infix` and `comma`.
use Rattle.std.proofs.Common.{◌≡◌, ℕ, suc, ◌+◌, ◌<◌, ◌≤◌, Bool, true, false, List, [], ◌∷◌, Option, Some, None, refl, sym, ap}
use Rattle.std.proofs.Common.{◌∙◌, subst, arith}
use Rattle.cs_ast.specs.declared.token.TokenKind.{TokenKind}
use Rattle.cs_ast.specs.declared.token.TokenKind.TheVariants as token
use Rattle.cs_ast.specs.declared.token.Punctuator.{Punctuator}
use Rattle.cs_ast.specs.declared.token.Punctuator.TheVariants as punctuator
use Rattle.cs_ast.specs.declared.raw.operator.Step.TheVariants.{Up, Down}
use Rattle.cs_ast.specs.declared.raw.operator.InfixOp.{InfixOp}
use Rattle.cs_ast.specs.declared.raw.operator.InfixOp.TheVariants as between
use Rattle.cs_ast.specs.RawTree.{Written}
use Rattle.cs_ast.specs.RawHeight.{height}
use Rattle.cs_grammar.specs.TypeWords.{Names}
use Rattle.cs_grammar.specs.Levels.{infix_level}
use Rattle.cs_grammar.specs.Punctuators.{infix_punctuator}
use Rattle.cs_grammar.specs.Text.{Kinds, text}
use Rattle.cs_grammar.specs.Phrases.{IsPhrase}
use Rattle.cs_grammar.specs.Continuing.{punctuator_join, join}
use Rattle.cs_grammar.specs.Parsing.{Class, Expressions, Begins, BeginsLow}
use Rattle.cs_grammar.proofs.Chains.{IsChain}
use Rattle.cs_expr_parser.specs.Positions.{is_suffix, IsSuffixAt}
use Rattle.cs_expr_parser.specs.Operators.{IsInfixAt}
use Rattle.cs_expr_parser.proofs.Suffixes.{index_addition, call_addition, member_addition, arrow_addition, step_addition, infix_addition, comma_addition}

pub postfix_chain : IsChain 15
postfix_chain = record {
  not_assign = λ e. absurd (omega (arith, e));
  not_choice = λ e. absurd (omega (arith, e));
  not_cast = λ e. absurd (omega (arith, e));
  not_unary = λ e. absurd (omega (arith, e));
  most = omega arith;
}

pub infix_chain : (level : ℕ) → 3 ≤ level → level ≤ 12 → IsChain level
infix_chain level some few = record {
  not_assign = λ e. absurd (omega (arith, e));
  not_choice = λ e. absurd (omega (arith, e));
  not_cast = λ e. absurd (omega (arith, e));
  not_unary = λ e. absurd (omega (arith, e));
  most = omega arith;
}

pub comma_chain : IsChain 0
comma_chain = record {
  not_assign = λ e. absurd (omega (arith, e));
  not_choice = λ e. absurd (omega (arith, e));
  not_cast = λ e. absurd (omega (arith, e));
  not_unary = λ e. absurd (omega (arith, e));
  most = omega arith;
}

suffix_join : (m : Punctuator) → is_suffix m ≡ true → punctuator_join m ≡ 16
suffix_join punctuator.OpenBracket s = refl
suffix_join punctuator.OpenParenthesis s = refl
suffix_join punctuator.Dot s = refl
suffix_join punctuator.Arrow s = refl
suffix_join punctuator.Increment s = refl
suffix_join punctuator.Decrement s = refl
suffix_join _ s = absurd cc

no_suffix_punctuator : (m : Punctuator) → is_suffix m ≡ false → punctuator_join m ≡ 16 → ⊥
no_suffix_punctuator punctuator.OpenBracket s j = cc
no_suffix_punctuator punctuator.OpenParenthesis s j = cc
no_suffix_punctuator punctuator.Dot s j = cc
no_suffix_punctuator punctuator.Arrow s j = cc
no_suffix_punctuator punctuator.Increment s j = cc
no_suffix_punctuator punctuator.Decrement s j = cc
no_suffix_punctuator _ s j = absurd (omega (arith, j))

-- the remaining punctuator
pub last_suffix : (m : Punctuator) → is_suffix m ≡ true → (m ≡ punctuator.OpenBracket → ⊥) → (m ≡ punctuator.OpenParenthesis → ⊥)
    → (m ≡ punctuator.Dot → ⊥) → (m ≡ punctuator.Arrow → ⊥) → (m ≡ punctuator.Increment → ⊥) → m ≡ punctuator.Decrement
last_suffix punctuator.OpenBracket s a b c d e = absurd (a refl)
last_suffix punctuator.OpenParenthesis s a b c d e = absurd (b refl)
last_suffix punctuator.Dot s a b c d e = absurd (c refl)
last_suffix punctuator.Arrow s a b c d e = absurd (d refl)
last_suffix punctuator.Increment s a b c d e = absurd (e refl)
last_suffix punctuator.Decrement s a b c d e = refl
last_suffix _ s a b c d e = absurd cc

-- a punctuator that may follow an operand continues a postfix expression
pub some_suffix : (kind : TokenKind) (m : Punctuator) → IsSuffixAt kind (Some m) → join kind ≡ suc 15
some_suffix kind m s = ap join s.0 ∙ suffix_join m s.1

pub no_suffix : (kind : TokenKind) → IsSuffixAt kind None → join kind ≡ suc 15 → ⊥
no_suffix (token.Punctuator m) none j = no_suffix_punctuator m (none m refl) j
no_suffix (token.Keyword k) none j = absurd (omega (arith, j))
no_suffix (token.Unsupported k) none j = absurd (omega (arith, j))
no_suffix token.Attribute none j = absurd (omega (arith, j))
no_suffix (token.Name k) none j = absurd (omega (arith, j))
no_suffix (token.Number k) none j = absurd (omega (arith, j))
no_suffix (token.Character k) none j = absurd (omega (arith, j))
no_suffix (token.Text k) none j = absurd (omega (arith, j))

-- the operator of a punctuator that continues on its level
abbrev InfixOf : Punctuator → ℕ → Type 0
InfixOf m level = (operator : InfixOp) × (token.Punctuator m ≡ token.Punctuator (infix_punctuator operator)) × (infix_level operator ≡ level)

infix_of_join : (m : Punctuator) (level : ℕ) → punctuator_join m ≡ suc level → 3 ≤ level → level ≤ 12 → InfixOf m level
infix_of_join punctuator.BarBar level j some few = (between.Or, refl, omega arith)
infix_of_join punctuator.AndAnd level j some few = (between.And, refl, omega arith)
infix_of_join punctuator.Bar level j some few = (between.BitOr, refl, omega arith)
infix_of_join punctuator.Caret level j some few = (between.BitXor, refl, omega arith)
infix_of_join punctuator.Ampersand level j some few = (between.BitAnd, refl, omega arith)
infix_of_join punctuator.EqualEqual level j some few = (between.Equal, refl, omega arith)
infix_of_join punctuator.Differs level j some few = (between.Differs, refl, omega arith)
infix_of_join punctuator.Less level j some few = (between.Less, refl, omega arith)
infix_of_join punctuator.AtMost level j some few = (between.AtMost, refl, omega arith)
infix_of_join punctuator.More level j some few = (between.More, refl, omega arith)
infix_of_join punctuator.AtLeast level j some few = (between.AtLeast, refl, omega arith)
infix_of_join punctuator.ShiftLeft level j some few = (between.ShiftLeft, refl, omega arith)
infix_of_join punctuator.ShiftRight level j some few = (between.ShiftRight, refl, omega arith)
infix_of_join punctuator.Plus level j some few = (between.Add, refl, omega arith)
infix_of_join punctuator.Minus level j some few = (between.Subtract, refl, omega arith)
infix_of_join punctuator.Star level j some few = (between.Multiply, refl, omega arith)
infix_of_join punctuator.Slash level j some few = (between.Divide, refl, omega arith)
infix_of_join punctuator.Percent level j some few = (between.Remainder, refl, omega arith)
infix_of_join _ level j some few = absurd (omega arith)

pub no_infix : (level : ℕ) (kind : TokenKind) → 3 ≤ level → level ≤ 12 → IsInfixAt level kind None → join kind ≡ suc level → ⊥
no_infix level (token.Punctuator m) some few none j = let found = infix_of_join m level j some few in none found.0 found.1 found.2
no_infix level (token.Keyword k) some few none j = absurd (omega (arith, j))
no_infix level (token.Unsupported k) some few none j = absurd (omega (arith, j))
no_infix level token.Attribute some few none j = absurd (omega (arith, j))
no_infix level (token.Name k) some few none j = absurd (omega (arith, j))
no_infix level (token.Number k) some few none j = absurd (omega (arith, j))
no_infix level (token.Character k) some few none j = absurd (omega (arith, j))
no_infix level (token.Text k) some few none j = absurd (omega (arith, j))

comma_of_join : (m : Punctuator) → punctuator_join m ≡ 1 → token.Punctuator m ≡ token.Punctuator punctuator.Comma
comma_of_join punctuator.Comma j = refl
comma_of_join _ j = absurd (omega (arith, j))

pub no_comma : (kind : TokenKind) → (kind ≡ token.Punctuator punctuator.Comma → ⊥) → join kind ≡ 1 → ⊥
no_comma (token.Punctuator m) none j = none (comma_of_join m j)
no_comma (token.Keyword k) none j = absurd (omega (arith, j))
no_comma (token.Unsupported k) none j = absurd (omega (arith, j))
no_comma token.Attribute none j = absurd (omega (arith, j))
no_comma (token.Name k) none j = absurd (omega (arith, j))
no_comma (token.Number k) none j = absurd (omega (arith, j))
no_comma (token.Character k) none j = absurd (omega (arith, j))
no_comma (token.Text k) none j = absurd (omega (arith, j))

begins : (names : Names) (level limit : ℕ) (front : Kinds) → BeginsLow (Expressions names level) limit front → Begins (Expressions names level) front
begins names level limit front b = record { phrase = b.phrase; more = b.more; is_phrase = b.is_phrase; spelled = b.spelled }

suffix_begins : (names : Names) (left : Written) (m : Punctuator) → is_suffix m ≡ true → IsPhrase names 15 left
    → Begins (Expressions names 15) (text left (token.Punctuator m ∷ []))
suffix_begins names left punctuator.OpenBracket s is =
    begins names 15 (suc (height left)) (text left (token.Punctuator punctuator.OpenBracket ∷ []))
    (index_addition names left (suc (height left)) is (omega arith)).started
suffix_begins names left punctuator.OpenParenthesis s is =
    begins names 15 (suc (height left)) (text left (token.Punctuator punctuator.OpenParenthesis ∷ []))
    (call_addition names left (suc (height left)) is (omega arith)).started
suffix_begins names left punctuator.Dot s is =
    begins names 15 (suc (height left)) (text left (token.Punctuator punctuator.Dot ∷ []))
    (member_addition names left (suc (height left)) is (omega arith)).started
suffix_begins names left punctuator.Arrow s is =
    begins names 15 (suc (height left)) (text left (token.Punctuator punctuator.Arrow ∷ []))
    (arrow_addition names left (suc (height left)) is (omega arith)).started
suffix_begins names left punctuator.Increment s is =
    begins names 15 (suc (height left)) (text left (token.Punctuator punctuator.Increment ∷ []))
    (step_addition names left (suc (height left)) Up is (omega arith)).started
suffix_begins names left punctuator.Decrement s is =
    begins names 15 (suc (height left)) (text left (token.Punctuator punctuator.Decrement ∷ []))
    (step_addition names left (suc (height left)) Down is (omega arith)).started
suffix_begins names left _ s is = absurd cc

-- some postfix expression begins with another and a punctuator that may follow one
pub postfix_further : (names : Names) (left : Written) (kind : TokenKind) (m : Punctuator) → IsSuffixAt kind (Some m) → IsPhrase names 15 left
    → Begins (Expressions names 15) (text left (kind ∷ []))
postfix_further names left kind m s is =
    subst (λ (k : TokenKind). Begins (Expressions names 15) (text left (k ∷ []))) (sym s.0) (suffix_begins names left m s.1 is)

infix_begins : (names : Names) (level : ℕ) (left : Written) (op : InfixOp) → infix_level op ≡ level → IsPhrase names level left
    → Begins (Expressions names level) (text left (token.Punctuator (infix_punctuator op) ∷ []))
infix_begins names level left op l is =
    subst (λ (n : ℕ). Begins (Expressions names n) (text left (token.Punctuator (infix_punctuator op) ∷ []))) l
    (begins names (infix_level op) (suc (height left)) (text left (token.Punctuator (infix_punctuator op) ∷ []))
    (infix_addition names left (suc (height left)) op (subst (λ (n : ℕ). IsPhrase names n left) (sym l) is) (omega arith)).started)

pub infix_further : (names : Names) (level : ℕ) (left : Written) (kind : TokenKind) (op : InfixOp) → IsInfixAt level kind (Some op)
    → IsPhrase names level left → Begins (Expressions names level) (text left (kind ∷ []))
infix_further names level left kind op s is =
    subst (λ (k : TokenKind). Begins (Expressions names level) (text left (k ∷ []))) (sym s.0) (infix_begins names level left op s.1 is)

pub comma_further : (names : Names) (left : Written) (kind : TokenKind) → kind ≡ token.Punctuator punctuator.Comma → IsPhrase names 0 left
    → Begins (Expressions names 0) (text left (kind ∷ []))
comma_further names left kind k is =
    subst (λ (x : TokenKind). Begins (Expressions names 0) (text left (x ∷ []))) (sym k)
    (begins names 0 (suc (height left)) (text left (token.Punctuator punctuator.Comma ∷ []))
    (comma_addition names left (suc (height left)) is (omega arith)).started)
