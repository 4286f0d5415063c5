-- The tokens of a text, or why it has none (C11 6.4).
use Rattle.std.specs.Prelude.{◌≡◌, ℕ, ◌<◌, ◌≤◌, List, length, slice_get, Some}
use Rattle.cs_limits.specs.declared.TheConstants.{MOST_TOKENS}
use Rattle.cs_ast.specs.declared.place.Place.{Place}
use Rattle.cs_ast.specs.declared.token.Token.{Token}
use Rattle.cs_lexer.specs.declared.lexeme.Fault.{Fault}
use Rattle.cs_lexer.specs.declared.lexeme.Fault.TheVariants as faults
use Rattle.cs_lexer.specs.declared.cut.End.{End}
use Rattle.cs_lexer.specs.declared.refusal.LexRefusal.{LexRefusal}
use Rattle.cs_lexer.specs.declared.refusal.LexRefusal.TheVariants.{BadByte, Unclosed, WideNumber, BadLine, TooManyTokens, Memory}
use Rattle.cs_lexer.specs.declared.lexer.Lexed.{Lexed}
use Rattle.cs_lexer.specs.Attributes.{without_attributes}
use Rattle.cs_lexer.specs.Texts.{joined}
use Rattle.cs_lexer.specs.Cuttings.{IsWhole, IsRefusedAt, EndsAs}

-- the tokens of a cutting: attributes are removed, then adjacent string literals are joined
abbrev pub tokens_of : List Token → List Token
tokens_of pieces = joined (without_attributes 0 pieces)

-- the whole text is cut, and these are its tokens, its files and its end
pub record Lexes (text : List ℕ) (lexed : Lexed) : Type 0 where
  pub pieces : List Token
  pub whole : IsWhole text lexed.files.items pieces lexed.end
  pub tokens_are : lexed.list.items ≡ tokens_of pieces
  pub few : length lexed.list.items ≤ MOST_TOKENS

-- the first fault of the text is at this position in the file of this name, and at most `MOST_TOKENS` tokens begin before it
pub record IsFirstFault (text : List ℕ) (fault : Fault) (place : Place) (file : List ℕ) : Type 0 where
  pub files : List (List ℕ)
  pub pieces : List Token
  pub refused : IsRefusedAt text files pieces place fault
  pub named : slice_get files place.file ≡ Some file
  pub few : length (tokens_of pieces) ≤ MOST_TOKENS

-- more than `MOST_TOKENS` tokens begin before the end of the text or its first fault
pub record HasTooMany (text : List ℕ) : Type 0 where
  pub files : List (List ℕ)
  pub pieces : List Token
  pub place : Place
  pub end : End
  pub cut : EndsAs text files pieces place end
  pub many : MOST_TOKENS < length (tokens_of pieces)

abbrev pub refusal_of : Fault → Place → List ℕ → LexRefusal
refusal_of faults.BadByte place file = BadByte place file
refusal_of faults.Unclosed place file = Unclosed place file
refusal_of faults.WideNumber place file = WideNumber place file
refusal_of faults.BadLine place file = BadLine place file

-- why a text has no tokens; nothing is stated about when memory runs out
abbrev pub IsRefused : List ℕ → LexRefusal → Type 0
IsRefused text (BadByte place file) = IsFirstFault text faults.BadByte place file
IsRefused text (Unclosed place file) = IsFirstFault text faults.Unclosed place file
IsRefused text (WideNumber place file) = IsFirstFault text faults.WideNumber place file
IsRefused text (BadLine place file) = IsFirstFault text faults.BadLine place file
IsRefused text TooManyTokens = HasTooMany text
IsRefused text Memory = Unit {0}
