-- The ends of comments (C11 6.4.9).
use Rattle.std.specs.Prelude.{◌≡◌, ℕ, ◌+◌, ◌<◌, Bool, not, ◌==◌, List, length, slice_index}
use Rattle.cs_lexer.specs.declared.lexeme.Fault.TheVariants.{Unclosed}
use Rattle.cs_lexer.specs.declared.lexeme.Lexeme.{Lexeme}
use Rattle.cs_lexer.specs.declared.lexeme.Lexeme.TheVariants.{Gap, Refused}

-- a byte other than a line feed
abbrev pub is_inside : ℕ → Bool
is_inside b = not (b == 10)

-- a `*` followed by a `/` is here
pub record IsEnd (bytes : List ℕ) (k : ℕ) : Type 0 where
  pub within : k + 1 < length bytes
  pub star : slice_index bytes k ≡ 42
  pub slash : slice_index bytes (k + 1) ≡ 47

-- the first `*/` is here
pub record IsFirstEnd (bytes : List ℕ) (count : ℕ) : Type 0 where
  pub here : IsEnd bytes count
  pub first : (k : ℕ) → k < count → IsEnd bytes k → ⊥

-- a comment extends to the first `*/` after its `/*`; if there is none, it is refused at its first byte
abbrev pub CommentGives : List ℕ → Lexeme → Type 0
CommentGives inside (Gap size) = (count : ℕ) × (size ≡ count + 4) × IsFirstEnd inside count
CommentGives inside (Refused fault size) = (fault ≡ Unclosed) × (size ≡ 0) × ((k : ℕ) → IsEnd inside k → ⊥)
CommentGives inside _ = ⊥
