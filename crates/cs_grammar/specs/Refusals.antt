-- Why the next token is refused after the tokens of an expression that were taken so far.
use Rattle.std.specs.Prelude.{◌≡◌, ℕ, ◌⊎◌, IsTrue, List, [], ◌∷◌, ◌++◌, Option, Some, None}
use Rattle.cs_ast.specs.declared.token.TokenKind.{TokenKind}
use Rattle.cs_ast.specs.declared.token.TokenKind.TheVariants as token
use Rattle.cs_ast.specs.declared.token.Keyword.TheVariants as keyword
use Rattle.cs_ast.specs.declared.token.Punctuator.TheVariants as punctuator
use Rattle.cs_ast.specs.declared.raw.written_type.TypeWord.{TypeWord}
use Rattle.cs_ast.specs.declared.raw.written_type.PointerWord.{PointerWord}
use Rattle.cs_ast.specs.RawTree.{WrittenList}
use Rattle.cs_grammar.specs.declared.refusal.Reason.{Reason}
use Rattle.cs_grammar.specs.declared.refusal.Reason.TheVariants.{Syntax, Unsupported, TooDeep}
use Rattle.cs_grammar.specs.TypeWords.{Names, is_type, is_pointer}
use Rattle.cs_grammar.specs.Levels.{CHOICE}
use Rattle.cs_grammar.specs.Text.{Kinds, type_text}
use Rattle.cs_grammar.specs.Phrases.{BeginsPhrase, ArePhrases}

-- the tokens end with `struct` or `enum`, with or without a tag
pub data EndsWithTag : Kinds → Type 0 where
  struct_after : (before : Kinds) → EndsWithTag (before ++ token.Keyword keyword.Struct ∷ [])
  enum_after : (before : Kinds) → EndsWithTag (before ++ token.Keyword keyword.Enum ∷ [])
  struct_tag_after : (before : Kinds) (tag : List ℕ) → EndsWithTag (before ++ token.Keyword keyword.Struct ∷ token.Name tag ∷ [])
  enum_tag_after : (before : Kinds) (tag : List ℕ) → EndsWithTag (before ++ token.Keyword keyword.Enum ∷ token.Name tag ∷ [])

-- the tokens end with a type between parentheses
pub record EndsWithType (names : Names) (front : Kinds) : Type 0 where
  pub before : Kinds
  pub words : List TypeWord
  pub pointers : List PointerWord
  pub bounds : WrittenList
  pub type : IsTrue (is_type names words)
  pub pointer : IsTrue (is_pointer pointers)
  pub phrases : ArePhrases names CHOICE bounds
  pub spelled : front ≡ before ++ token.Punctuator punctuator.OpenParenthesis
      ∷ type_text words pointers bounds (token.Punctuator punctuator.CloseParenthesis ∷ [])

-- the token is a word or punctuator of C that is unsupported after these tokens of an expression: an unsupported word, an
-- ellipsis, `static` or `typedef` anywhere; a brace after `struct` or `enum`, after its tag, or after a type between parentheses
abbrev pub IsUnsupported : Names → Kinds → TokenKind → Type 0
IsUnsupported names front (token.Unsupported word) = Unit {0}
IsUnsupported names front (token.Punctuator punctuator.Ellipsis) = Unit {0}
IsUnsupported names front (token.Keyword keyword.Static) = Unit {0}
IsUnsupported names front (token.Keyword keyword.Typedef) = Unit {0}
IsUnsupported names front (token.Punctuator punctuator.OpenBrace) = EndsWithTag front ⊎ EndsWithType names front
IsUnsupported names front next = ⊥

-- why the next token is refused after these tokens, if no expression of the level within the limit continues with it: too deep if
-- a phrase of the level, of any height, begins with them all; the end of input isn't an unsupported word
abbrev pub IsReason : Names → ℕ → Kinds → Option TokenKind → Reason → Type 0
IsReason names level front (Some next) TooDeep = BeginsPhrase names level (front ++ next ∷ [])
IsReason names level front (Some next) Unsupported = (BeginsPhrase names level (front ++ next ∷ []) → ⊥) × IsUnsupported names front next
IsReason names level front (Some next) Syntax = (BeginsPhrase names level (front ++ next ∷ []) → ⊥) × (IsUnsupported names front next → ⊥)
IsReason names level front None Syntax = Unit {0}
IsReason names level front None Unsupported = ⊥
IsReason names level front None TooDeep = ⊥
