-- No constant of a lexed text is too wide for the types of its list (C11 6.4.4, paragraph 2).
use Rattle.std.specs.Prelude.{ℕ, List}
use Rattle.cs_ast.specs.HeldTokens.{AreHeld}
use Rattle.cs_lexer.specs.declared.lexer.Lexed.{Lexed}
use Rattle.cs_lexer.specs.Lexing.{Lexes}

-- no constant of a lexed text is too wide
abbrev pub LexedTokensAreHeld : Type 0
LexedTokensAreHeld = (text : List ℕ) (lexed : Lexed) → Lexes text lexed → AreHeld lexed.list.items
