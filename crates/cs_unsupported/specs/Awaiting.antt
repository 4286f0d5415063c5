-- Where the tokens of a file await an initializer: after `=` or a comma, and after opening braces there.
use Rattle.std.specs.Prelude.{Bool, true, false, [], ◌∷◌}
use Rattle.cs_ast.specs.declared.token.TokenKind.{TokenKind}
use Rattle.cs_ast.specs.declared.token.TokenKind.TheVariants as token
use Rattle.cs_ast.specs.declared.token.Punctuator.TheVariants as punctuator
use Rattle.cs_grammar.specs.Text.{Kinds}

-- after one more token
abbrev pub step : TokenKind → Bool → Bool
step (token.Punctuator punctuator.Equal) awaits = true
step (token.Punctuator punctuator.Comma) awaits = true
step (token.Punctuator punctuator.OpenBrace) awaits = awaits
step other awaits = false

-- after some more tokens
abbrev pub run : Kinds → Bool → Bool
run [] awaits = awaits
run (kind ∷ kinds) awaits = run kinds (step kind awaits)
