-- The size of a text: its tokens, and the bytes of its string literals.
use Rattle.std.specs.Prelude.{ℕ, ◌+◌, [], ◌∷◌}
use Rattle.cs_ast.specs.TokenSizes.{token_size}
use Rattle.cs_grammar.specs.Text.{Kinds}

abbrev pub text_size : Kinds → ℕ
text_size [] = 0
text_size (t ∷ ts) = token_size t + text_size ts

-- the size of what is written so, with nothing after it
abbrev pub size_of : (Kinds → Kinds) → ℕ
size_of spell = text_size (spell [])
