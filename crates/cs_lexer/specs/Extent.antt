-- Bounds of a lexed text: its files, the positions of its tokens, and the size of its tokens.
use Rattle.std.specs.Prelude.{ℕ, ◌+◌, ◌<◌, ◌≤◌, List, length}
use Rattle.std.specs.List.{All, sum_by}
use Rattle.cs_ast.specs.declared.token.Token.{Token}
use Rattle.cs_ast.specs.TokenSizes.{token_size}
use Rattle.cs_lexer.specs.declared.lexer.Lexed.{Lexed}
use Rattle.cs_lexer.specs.Lexing.{Lexes}

abbrev pub token_extent : Token → ℕ
token_extent t = token_size t.kind

-- there is a file, and each token is in one of the files
pub record HasFiles (lexed : Lexed) : Type 0 where
  pub some_file : 0 < length lexed.files.items
  pub each : All (λ (t : Token). t.place.file < length lexed.files.items) lexed.list.items

-- the tokens of a text are in its files
abbrev pub LexedTokensHaveFiles : Type 0
LexedTokensHaveFiles = (text : List ℕ) (lexed : Lexed) → Lexes text lexed → HasFiles lexed

-- there is at most one file more than the text has bytes
abbrev pub LexedFilesAreFew : Type 0
LexedFilesAreFew = (text : List ℕ) (lexed : Lexed) → Lexes text lexed → length lexed.files.items ≤ length text + 1

-- the tokens plus the bytes of their string literals are no more than the bytes of the text
abbrev pub LexedTokensAreShort : Type 0
LexedTokensAreShort = (text : List ℕ) (lexed : Lexed) → Lexes text lexed → sum_by token_extent lexed.list.items ≤ length text
