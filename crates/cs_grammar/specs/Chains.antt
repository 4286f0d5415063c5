-- Chains that grow on the left, such as `a + b + c` or `a [ b ] . c`.
use Rattle.std.specs.Prelude.{◌≡◌, ℕ, suc, ◌≤◌, ◌<◌, ◌⊎◌, Bool, true, List, [], ◌∷◌}
use Rattle.cs_ast.specs.declared.token.TokenKind.{TokenKind}
use Rattle.cs_ast.specs.declared.token.TokenKind.TheVariants as token
use Rattle.cs_ast.specs.declared.token.Punctuator.TheVariants as punctuator
use Rattle.cs_ast.specs.declared.raw.operator.Step.{Step}
use Rattle.cs_ast.specs.declared.raw.operator.InfixOp.{InfixOp}
use Rattle.cs_ast.specs.RawTree.{Written, WrittenList, Index, Call, Member, Arrow, StepAfter, Infix, Comma}
use Rattle.cs_ast.specs.RawHeight.{height}
use Rattle.cs_grammar.specs.TypeWords.{Names}
use Rattle.cs_grammar.specs.Levels.{infix_level}
use Rattle.cs_grammar.specs.Punctuators.{step_punctuator, infix_punctuator}
use Rattle.cs_grammar.specs.Text.{Kinds, text, listed}
use Rattle.cs_grammar.specs.Phrases.{IsPhrase}
use Rattle.cs_grammar.specs.Continuing.{join, join_of}
use Rattle.cs_grammar.specs.Parsing.{Expressions, Near, IsOver, Begins}

-- `whole` before the tokens `after` is the smaller tree `left` of its level with one more suffix
pub data Suffix (level : ℕ) (whole : Written) (after : Kinds) (left : Written) (following : Kinds) : Type 0 where
  indexed : (number : Written) → level ≡ 15 → whole ≡ Index left number
      → following ≡ token.Punctuator punctuator.OpenBracket ∷ text number (token.Punctuator punctuator.CloseBracket ∷ after)
      → Suffix level whole after left following
  called : (arguments : WrittenList) → level ≡ 15 → whole ≡ Call left arguments
      → following ≡ token.Punctuator punctuator.OpenParenthesis ∷ listed arguments (token.Punctuator punctuator.CloseParenthesis ∷ after)
      → Suffix level whole after left following
  selected : (name : List ℕ) → level ≡ 15 → whole ≡ Member left name → following ≡ token.Punctuator punctuator.Dot ∷ token.Name name ∷ after
      → Suffix level whole after left following
  followed_by : (name : List ℕ) → level ≡ 15 → whole ≡ Arrow left name
      → following ≡ token.Punctuator punctuator.Arrow ∷ token.Name name ∷ after → Suffix level whole after left following
  stepped : (step : Step) → level ≡ 15 → whole ≡ StepAfter step left → following ≡ token.Punctuator (step_punctuator step) ∷ after
      → Suffix level whole after left following
  joined : (operator : InfixOp) (right : Written) → level ≡ infix_level operator → whole ≡ Infix operator left right
      → following ≡ token.Punctuator (infix_punctuator operator) ∷ text right after → Suffix level whole after left following
  continued : (second : Written) → level ≡ 0 → whole ≡ Comma left second → following ≡ token.Punctuator punctuator.Comma ∷ text second after
      → Suffix level whole after left following

-- a tree before some tokens is a smaller one, before others, with any number of suffixes
pub data Stem (level : ℕ) (left : Written) (following : Kinds) : Written → Kinds → Type 0 where
  bare : {whole : Written} {after : Kinds} → whole ≡ left → after ≡ following → Stem level left following whole after
  grown : {whole : Written} {after : Kinds} (smaller : Written) (rest : Kinds) → Suffix level whole after smaller rest
      → Stem level left following smaller rest → Stem level left following whole after

-- a chain so far: any phrase of the level with this beginning has the chain at its left, except for phrases above the limit
pub record Grows (names : Names) (level limit : ℕ) (left : Written) (next : TokenKind) (deep : Bool) : Type 0 where
  pub is_phrase : IsPhrase names level left
  pub low : height left ≤ limit
  pub stems : (other : Written) (after following : Kinds) → IsPhrase names level other → join_of after ≤ level → Near next following
      → text other after ≡ text left following → Stem level left following other after ⊎ IsOver (Expressions names level) limit deep other following
  pub further : deep ≡ true → Begins (Expressions names level) (text left (next ∷ []))
  pub joined : deep ≡ true → suc level < join next
