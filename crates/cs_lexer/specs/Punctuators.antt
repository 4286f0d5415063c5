-- The longest punctuator that bytes begin with (C11 6.4.6).
use Rattle.std.specs.Prelude.{◌≡◌, ℕ, ◌≤◌, List, length, take}
use Rattle.cs_ast.specs.declared.token.Punctuator as punctuators
use Rattle.cs_ast.specs.declared.token.TokenKind.{TokenKind}
use Rattle.cs_ast.specs.declared.token.TokenKind.TheVariants.{Punctuator}
use Rattle.cs_lexer.specs.declared.lexeme.Fault.TheVariants.{BadByte}
use Rattle.cs_lexer.specs.declared.lexeme.Lexeme.{Lexeme}
use Rattle.cs_lexer.specs.declared.lexeme.Lexeme.TheVariants.{Token, Refused}
use Rattle.cs_lexer.specs.Spellings.{punctuator_text}

-- the bytes begin with the punctuator
abbrev pub BeginsWithPunctuator : List ℕ → punctuators.Punctuator → Type 0
BeginsWithPunctuator bytes punctuator = take (length (punctuator_text punctuator)) bytes ≡ punctuator_text punctuator

-- no punctuator begins the bytes
abbrev pub NoPunctuator : List ℕ → Type 0
NoPunctuator bytes = (other : punctuators.Punctuator) → BeginsWithPunctuator bytes other → ⊥

-- the bytes begin with the punctuator, and with no longer one
pub record IsLongestPunctuator (bytes : List ℕ) (punctuator : punctuators.Punctuator) : Type 0 where
  pub begins : BeginsWithPunctuator bytes punctuator
  pub longest : (other : punctuators.Punctuator) → BeginsWithPunctuator bytes other → length (punctuator_text other) ≤ length (punctuator_text punctuator)

-- a punctuator's token
abbrev pub IsPunctuatorToken : List ℕ → ℕ → TokenKind → Type 0
IsPunctuatorToken bytes size (Punctuator punctuator) = (size ≡ length (punctuator_text punctuator)) × IsLongestPunctuator bytes punctuator
IsPunctuatorToken bytes size _ = ⊥

-- the token is the longest punctuator; a byte that begins no punctuator is a fault
abbrev pub PunctuatorGives : List ℕ → Lexeme → Type 0
PunctuatorGives bytes (Token size kind) = IsPunctuatorToken bytes size kind
PunctuatorGives bytes (Refused fault size) = (fault ≡ BadByte) × (size ≡ 0) × NoPunctuator bytes
PunctuatorGives bytes _ = ⊥
