-- Which tokens begin a statement, and an item of a block or of a `switch`.
use Rattle.std.specs.Prelude.{Bool, true, false, ◌||◌}
use Rattle.cs_ast.specs.declared.token.TokenKind.{TokenKind}
use Rattle.cs_ast.specs.declared.token.TokenKind.TheVariants as token
use Rattle.cs_ast.specs.declared.token.Keyword.{Keyword}
use Rattle.cs_ast.specs.declared.token.Keyword.TheVariants as keyword
use Rattle.cs_ast.specs.declared.token.Punctuator.{Punctuator}
use Rattle.cs_ast.specs.declared.token.Punctuator.TheVariants as punctuator
use Rattle.cs_grammar.specs.TypeWords.{Names}
use Rattle.cs_grammar.specs.FirstTokens.{opens_expression, begins_type}

-- the keyword begins a statement
abbrev pub keyword_begins_sentence : Keyword → Bool
keyword_begins_sentence keyword.Break = true
keyword_begins_sentence keyword.Continue = true
keyword_begins_sentence keyword.Do = true
keyword_begins_sentence keyword.For = true
keyword_begins_sentence keyword.Goto = true
keyword_begins_sentence keyword.If = true
keyword_begins_sentence keyword.Return = true
keyword_begins_sentence keyword.Sizeof = true
keyword_begins_sentence keyword.Switch = true
keyword_begins_sentence keyword.While = true
keyword_begins_sentence other = false

-- the punctuator begins a statement
abbrev pub punctuator_begins_sentence : Punctuator → Bool
punctuator_begins_sentence punctuator.OpenBrace = true
punctuator_begins_sentence punctuator.Semicolon = true
punctuator_begins_sentence other = opens_expression other

-- the token begins a statement: a name does, as a label or in an expression
abbrev pub begins_sentence : TokenKind → Bool
begins_sentence (token.Name name) = true
begins_sentence (token.Number constant) = true
begins_sentence (token.Character value) = true
begins_sentence (token.Text bytes) = true
begins_sentence (token.Punctuator punctuator) = punctuator_begins_sentence punctuator
begins_sentence (token.Keyword keyword) = keyword_begins_sentence keyword
begins_sentence other = false

-- the token begins an item of a block
abbrev pub begins_item : Names → TokenKind → Bool
begins_item names next = begins_sentence next || begins_type names next

-- the token is `case` or `default`
abbrev pub is_case : TokenKind → Bool
is_case (token.Keyword keyword.Case) = true
is_case (token.Keyword keyword.Default) = true
is_case other = false

-- the token begins an item of a `switch`
abbrev pub begins_switch_part : Names → TokenKind → Bool
begins_switch_part names next = is_case next || begins_item names next
