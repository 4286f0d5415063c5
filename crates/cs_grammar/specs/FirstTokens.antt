-- Which tokens begin an expression, and which begin a type between parentheses.
use Rattle.std.specs.Prelude.{Bool, true, false, not}
use Rattle.cs_ast.specs.declared.token.TokenKind.{TokenKind}
use Rattle.cs_ast.specs.declared.token.TokenKind.TheVariants as token
use Rattle.cs_ast.specs.declared.token.Keyword.{Keyword}
use Rattle.cs_ast.specs.declared.token.Keyword.TheVariants as keyword
use Rattle.cs_ast.specs.declared.token.Punctuator.{Punctuator}
use Rattle.cs_ast.specs.declared.token.Punctuator.TheVariants as punctuator
use Rattle.cs_grammar.specs.TypeWords.{Names, is_among}

-- the punctuator begins a primary expression
abbrev pub opens_primary : Punctuator → Bool
opens_primary punctuator.OpenParenthesis = true
opens_primary other = false

-- the token begins a primary expression
abbrev pub begins_primary : Names → TokenKind → Bool
begins_primary names (token.Name name) = not (is_among names name)
begins_primary names (token.Number constant) = true
begins_primary names (token.Character value) = true
begins_primary names (token.Text bytes) = true
begins_primary names (token.Punctuator punctuator) = opens_primary punctuator
begins_primary names other = false

-- the punctuator begins an expression
abbrev pub opens_expression : Punctuator → Bool
opens_expression punctuator.OpenParenthesis = true
opens_expression punctuator.Increment = true
opens_expression punctuator.Decrement = true
opens_expression punctuator.Ampersand = true
opens_expression punctuator.Star = true
opens_expression punctuator.Plus = true
opens_expression punctuator.Minus = true
opens_expression punctuator.Tilde = true
opens_expression punctuator.Exclamation = true
opens_expression other = false

-- the keyword begins an expression
abbrev pub is_sizeof : Keyword → Bool
is_sizeof keyword.Sizeof = true
is_sizeof other = false

-- the token begins an expression
abbrev pub begins_expression : Names → TokenKind → Bool
begins_expression names (token.Name name) = not (is_among names name)
begins_expression names (token.Number constant) = true
begins_expression names (token.Character value) = true
begins_expression names (token.Text bytes) = true
begins_expression names (token.Punctuator punctuator) = opens_expression punctuator
begins_expression names (token.Keyword keyword) = is_sizeof keyword
begins_expression names other = false

-- the keyword begins a type
abbrev pub keyword_begins_type : Keyword → Bool
keyword_begins_type keyword.Const = true
keyword_begins_type keyword.Void = true
keyword_begins_type keyword.Struct = true
keyword_begins_type keyword.Enum = true
keyword_begins_type keyword.Char = true
keyword_begins_type keyword.Short = true
keyword_begins_type keyword.Int = true
keyword_begins_type keyword.Long = true
keyword_begins_type keyword.Signed = true
keyword_begins_type keyword.Unsigned = true
keyword_begins_type other = false

-- the token begins a type
abbrev pub begins_type : Names → TokenKind → Bool
begins_type names (token.Name name) = is_among names name
begins_type names (token.Keyword keyword) = keyword_begins_type keyword
begins_type names other = false
