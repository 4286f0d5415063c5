-- The size of a token, as a part of a text's size.
use Rattle.std.specs.Prelude.{ℕ, suc, length}
use Rattle.cs_ast.specs.declared.token.TokenKind.{TokenKind}
use Rattle.cs_ast.specs.declared.token.TokenKind.TheVariants as token

-- one, plus the bytes of a string literal
abbrev pub token_size : TokenKind → ℕ
token_size (token.Text bytes) = suc (length bytes)
token_size other = 1
