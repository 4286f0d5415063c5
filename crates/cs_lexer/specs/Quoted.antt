-- Character constants and string literals (C11 6.4.4.4, 6.4.5).
use Rattle.std.specs.Prelude.{◌≡◌, ℕ, ℤ, pos, negsuc, ◌+◌, ◌-◌, ◌<◌, Bool, false, not, ◌&&◌, ◌==◌, nat_lt, List, [], ◌∷◌}
use Rattle.std.specs.Prelude.{◌++◌, length, take, drop, Option, Some, None, option_map, if◌then◌else◌}
use Rattle.cs_ast.specs.declared.token.TokenKind.{TokenKind}
use Rattle.cs_ast.specs.declared.token.TokenKind.TheVariants.{Character, Text}
use Rattle.cs_lexer.specs.declared.lexeme.Fault.{Fault}
use Rattle.cs_lexer.specs.declared.lexeme.Fault.TheVariants.{BadByte, Unclosed}
use Rattle.cs_lexer.specs.declared.lexeme.Lexeme.{Lexeme}
use Rattle.cs_lexer.specs.declared.lexeme.Lexeme.TheVariants.{Token, Refused}
use Rattle.cs_lexer.specs.declared.escape.Item.{Item}
use Rattle.cs_lexer.specs.declared.escape.Item.TheVariants as items
use Rattle.cs_lexer.specs.Escapes.{item_at}

-- the number of bytes before the first quote that isn't escaped by a backslash, if there is no line feed before it; `escaped`:
-- such a backslash is before the first byte
abbrev pub closing : ℕ → Bool → List ℕ → Option ℕ
closing quote escaped [] = None
closing quote escaped (b ∷ bytes) =
    if b == 10 then None
    else (if (b == quote) && not escaped then Some 0
    else option_map (λ n. n + 1) (closing quote ((b == 92) && not escaped) bytes))

-- the value of a byte as a signed char
abbrev pub signed : ℕ → ℤ
signed byte = if nat_lt byte 128 then pos byte else negsuc (255 - byte)

-- the constant with this item, if the item takes all bytes between its quotes
abbrev pub character_with : Item → ℕ → Lexeme
character_with (items.Refused fault) count = Refused fault 1
character_with (items.Byte byte size) count = if nat_lt size count then Refused BadByte (size + 1) else Token (count + 2) (Character (signed byte))

-- the character constant with these bytes between its quotes
abbrev pub character_of : List ℕ → Lexeme
character_of [] = Refused BadByte 0
character_of (b ∷ bytes) = character_with (item_at (b ∷ bytes)) (length (b ∷ bytes))

abbrev pub character_in : List ℕ → Option ℕ → Lexeme
character_in bytes None = Refused Unclosed 0
character_in bytes (Some count) = character_of (take count bytes)

-- the character constant that bytes begin with; the first is its quote
abbrev pub character_at : List ℕ → Lexeme
character_at bytes = character_in (drop 1 bytes) (closing 39 false (drop 1 bytes))

-- the part of the body before this rest represents these bytes
pub data Reads (body : List ℕ) : List ℕ → List ℕ → Type 0 where
  begins : Reads body [] body
  item : {values rest : List ℕ} {byte size : ℕ} → Reads body values rest → 0 < length rest → item_at rest ≡ items.Byte byte size
      → Reads body (values ++ byte ∷ []) (drop size rest)

-- the first faulty item of a body
pub record BadItem (body : List ℕ) (fault : Fault) (size : ℕ) : Type 0 where
  pub values : List ℕ
  pub rest : List ℕ
  pub reads : Reads body values rest
  pub some : 0 < length rest
  pub refused : item_at rest ≡ items.Refused fault
  pub place : size + length rest ≡ length body + 1

-- a literal's token
abbrev pub IsTextToken : List ℕ → ℕ → TokenKind → Type 0
IsTextToken body size (Text values) = (size ≡ length body + 2) × Reads body values []
IsTextToken body size _ = ⊥

-- a literal has the bytes that its whole body represents, or is refused at its first faulty item
abbrev pub TextBodyGives : List ℕ → Lexeme → Type 0
TextBodyGives body (Token size kind) = IsTextToken body size kind
TextBodyGives body (Refused fault size) = BadItem body fault size
TextBodyGives body _ = ⊥

abbrev pub TextIn : List ℕ → Option ℕ → Lexeme → Type 0
TextIn bytes None found = found ≡ Refused Unclosed 0
TextIn bytes (Some count) found = TextBodyGives (take count bytes) found

-- the string literal that bytes begin with; the first is its quote
abbrev pub TextGives : List ℕ → Lexeme → Type 0
TextGives bytes found = TextIn (drop 1 bytes) (closing 34 false (drop 1 bytes)) found
