-- A first operand that was refused: for the contracts of `postfix`, `infix` and `comma`.
use Rattle.std.proofs.Common.{◌≡◌, ℕ, suc, ◌<◌, ◌≤◌, ◌⊎◌, inl, inr, Bool, List, [], ◌∷◌, ◌++◌, refl, sym, arith}
use Rattle.std.proofs.lemmas.Bool.{cases_eq}
use Rattle.cs_ast.specs.declared.token.TokenKind.{TokenKind}
use Rattle.cs_ast.specs.declared.token.TokenKind.TheVariants as token
use Rattle.cs_ast.specs.declared.token.Punctuator.TheVariants as punctuator
use Rattle.cs_ast.specs.RawTree.{Written, WrittenList, Named, Numeral, Character, Literal, Enclosed, Index, Call, Member, Arrow, StepAfter, StepBefore, Prefix}
use Rattle.cs_ast.specs.RawTree.{SizeOf, SizeOfType, Cast, Infix, Choice, Assign, Comma}
use Rattle.cs_ast.specs.RawHeight.{height}
use Rattle.cs_grammar.specs.TypeWords.{Names}
use Rattle.cs_grammar.specs.Levels.{level_of, infix_level}
use Rattle.cs_grammar.specs.Punctuators.{step_punctuator, infix_punctuator}
use Rattle.cs_grammar.specs.Text.{Kinds, text, listed}
use Rattle.cs_grammar.specs.Phrases.{IsPhrase}
use Rattle.cs_grammar.specs.Continuing.{join_of}
use Rattle.cs_grammar.specs.Parsing.{Expressions, Near, IsOver, Begins, BeginsLow, Refused}
use Rattle.cs_grammar.specs.Chains.{Suffix, indexed, called, selected, followed_by, stepped, joined, continued}
use Rattle.cs_grammar.proofs.Levels.{looser}
use Rattle.cs_grammar.proofs.Chains.{IsChain, suffix_join, suffix_height, suffix_phrase}

-- a tighter phrase with this beginning is too high
tight_never : (names : Names) (level limit : ℕ) (front : Kinds) (next : TokenKind) (deep : Bool)
    → Refused (Expressions names (suc level)) limit front next deep → (other : Written) (after following : Kinds) → IsPhrase names level other
    → suc level ≤ level_of other → join_of after ≤ suc level → Near next following → text other after ≡ front ++ following
    → IsOver (Expressions names level) limit deep other following
tight_never names level limit front next deep r other after following is bound shut near same =
    let over = r.never other after following (bound, is.1) shut near same in
    record { reported = over.reported; high = over.high; onward = over.onward }

-- a phrase with this beginning has a suffix of this level, or is tighter
either_never : (names : Names) (level limit : ℕ) (front : Kinds) (next : TokenKind) (deep : Bool)
    → Refused (Expressions names (suc level)) limit front next deep → (other : Written) (after following : Kinds) → IsPhrase names level other
    → join_of after ≤ suc level → Near next following → text other after ≡ front ++ following
    → (smaller : Written) (rest : Kinds) → (level_of other ≡ level → Suffix level other after smaller rest)
    → (IsPhrase names level smaller → join_of rest ≤ suc level → IsOver (Expressions names level) limit deep smaller following)
    → IsOver (Expressions names level) limit deep other following
either_never names level limit front next deep r other after following is shut near same smaller rest suffix below =
    elim (cases_eq (level_of other) level) [
      | inl here ↦
          let s = suffix here in
          let j : join_of rest ≡ suc level = suffix_join level other after smaller rest s in
          let over = below (suffix_phrase names level other after smaller rest s is) (omega arith) in
          let h : height smaller < height other = suffix_height level other after smaller rest s in
          record { reported = over.reported; high = omega (arith, over.high); onward = over.onward }
      | inr higher ↦ tight_never names level limit front next deep r other after following is (omega (arith, is.0, higher)) shut near same
    ]

-- if the first operand was refused, each phrase with this beginning is too high
head_never : (names : Names) (level limit : ℕ) (front : Kinds) (next : TokenKind) (deep : Bool) → IsChain level
    → Refused (Expressions names (suc level)) limit front next deep → (other : Written) (after following : Kinds) → IsPhrase names level other
    → join_of after ≤ suc level → Near next following → text other after ≡ front ++ following
    → IsOver (Expressions names level) limit deep other following
head_never names level limit front next deep c r (Named name) after following is shut near same =
    tight_never names level limit front next deep r (Named name) after following is (omega (arith, c.most)) shut near same
head_never names level limit front next deep c r (Numeral n) after following is shut near same =
    tight_never names level limit front next deep r (Numeral n) after following is (omega (arith, c.most)) shut near same
head_never names level limit front next deep c r (Character v) after following is shut near same =
    tight_never names level limit front next deep r (Character v) after following is (omega (arith, c.most)) shut near same
head_never names level limit front next deep c r (Literal b) after following is shut near same =
    tight_never names level limit front next deep r (Literal b) after following is (omega (arith, c.most)) shut near same
head_never names level limit front next deep c r (Enclosed i) after following is shut near same =
    tight_never names level limit front next deep r (Enclosed i) after following is (omega (arith, c.most)) shut near same
head_never names level limit front next deep c r (StepBefore s i) after following is shut near same =
    tight_never names level limit front next deep r (StepBefore s i) after following is (omega (arith, c.not_unary, is.0)) shut near same
head_never names level limit front next deep c r (Prefix o i) after following is shut near same =
    tight_never names level limit front next deep r (Prefix o i) after following is (omega (arith, c.not_unary, is.0)) shut near same
head_never names level limit front next deep c r (SizeOf i) after following is shut near same =
    tight_never names level limit front next deep r (SizeOf i) after following is (omega (arith, c.not_unary, is.0)) shut near same
head_never names level limit front next deep c r (SizeOfType ws ps bs) after following is shut near same =
    tight_never names level limit front next deep r (SizeOfType ws ps bs) after following is (omega (arith, c.not_unary, is.0)) shut near same
head_never names level limit front next deep c r (Cast ws ps bs i) after following is shut near same =
    tight_never names level limit front next deep r (Cast ws ps bs i) after following is (omega (arith, c.not_cast, is.0)) shut near same
head_never names level limit front next deep c r (Choice i x y) after following is shut near same =
    tight_never names level limit front next deep r (Choice i x y) after following is (omega (arith, c.not_choice, is.0)) shut near same
head_never names level limit front next deep c r (Assign o x y) after following is shut near same =
    tight_never names level limit front next deep r (Assign o x y) after following is (omega (arith, c.not_assign, is.0)) shut near same
head_never names level limit front next deep c r (Index a n) after following is shut near same =
    either_never names level limit front next deep r (Index a n) after following is shut near same a
    (token.Punctuator punctuator.OpenBracket ∷ text n (token.Punctuator punctuator.CloseBracket ∷ after)) (λ l. indexed n (sym l) refl refl)
    (λ p s.
    head_never names level limit front next deep c r a
    (token.Punctuator punctuator.OpenBracket ∷ text n (token.Punctuator punctuator.CloseBracket ∷ after)) following p s near same)
head_never names level limit front next deep c r (Call f es) after following is shut near same =
    either_never names level limit front next deep r (Call f es) after following is shut near same f
    (token.Punctuator punctuator.OpenParenthesis ∷ listed es (token.Punctuator punctuator.CloseParenthesis ∷ after)) (λ l. called es (sym l) refl refl)
    (λ p s.
    head_never names level limit front next deep c r f
    (token.Punctuator punctuator.OpenParenthesis ∷ listed es (token.Punctuator punctuator.CloseParenthesis ∷ after)) following p s near same)
head_never names level limit front next deep c r (Member o n) after following is shut near same =
    either_never names level limit front next deep r (Member o n) after following is shut near same o
    (token.Punctuator punctuator.Dot ∷ token.Name n ∷ after) (λ l. selected n (sym l) refl refl)
    (λ p s. head_never names level limit front next deep c r o (token.Punctuator punctuator.Dot ∷ token.Name n ∷ after) following p s near same)
head_never names level limit front next deep c r (Arrow o n) after following is shut near same =
    either_never names level limit front next deep r (Arrow o n) after following is shut near same o
    (token.Punctuator punctuator.Arrow ∷ token.Name n ∷ after) (λ l. followed_by n (sym l) refl refl)
    (λ p s. head_never names level limit front next deep c r o (token.Punctuator punctuator.Arrow ∷ token.Name n ∷ after) following p s near same)
head_never names level limit front next deep c r (StepAfter k o) after following is shut near same =
    either_never names level limit front next deep r (StepAfter k o) after following is shut near same o (token.Punctuator (step_punctuator k) ∷ after)
    (λ l. stepped k (sym l) refl refl)
    (λ p s. head_never names level limit front next deep c r o (token.Punctuator (step_punctuator k) ∷ after) following p s near same)
head_never names level limit front next deep c r (Infix op x y) after following is shut near same =
    either_never names level limit front next deep r (Infix op x y) after following is shut near same x
    (token.Punctuator (infix_punctuator op) ∷ text y after) (λ l. joined op y (sym l) refl refl)
    (λ p s. head_never names level limit front next deep c r x (token.Punctuator (infix_punctuator op) ∷ text y after) following p s near same)
head_never names level limit front next deep c r (Comma x y) after following is shut near same =
    either_never names level limit front next deep r (Comma x y) after following is shut near same x (token.Punctuator punctuator.Comma ∷ text y after)
    (λ l. continued y (sym l) refl refl)
    (λ p s. head_never names level limit front next deep c r x (token.Punctuator punctuator.Comma ∷ text y after) following p s near same)

-- the first operand was refused
pub head_refused : (names : Names) (level limit : ℕ) (front : Kinds) (next : TokenKind) (deep : Bool) → IsChain level
    → Refused (Expressions names (suc level)) limit front next deep → Refused (Expressions names level) limit front next deep
head_refused names level limit front next deep c r = record {
  begun = elim r.begun [
    | inl empty ↦ inl empty
    | inr b ↦ inr (record {
      phrase = b.phrase;
      more = b.more;
      is_phrase = looser names level (suc level) b.phrase (omega arith) b.is_phrase;
      low = b.low;
      spelled = b.spelled;
    })
  ];
  never = λ other after following is shut near same. head_never names level limit front next deep c r other after following is (omega arith) near same;
  further = λ reported. let b = r.further reported in
      record { phrase = b.phrase; more = b.more; is_phrase = looser names level (suc level) b.phrase (omega arith) b.is_phrase; spelled = b.spelled };
}
