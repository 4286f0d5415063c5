-- Tokens by their indices; after the last one, the end of input counts as a token that no expression takes.
use Rattle.std.specs.Prelude.{◌≡◌, ℕ, List, [], ◌∷◌, Option, Some, None, Bool, true, false, drop, map}
use Rattle.cs_ast.specs.declared.token.Token.{Token}
use Rattle.cs_ast.specs.declared.token.TokenKind.{TokenKind}
use Rattle.cs_ast.specs.declared.token.TokenKind.TheVariants as token
use Rattle.cs_ast.specs.declared.token.Keyword.{Keyword}
use Rattle.cs_ast.specs.declared.token.Keyword.TheVariants as keyword
use Rattle.cs_ast.specs.declared.token.Punctuator.{Punctuator}
use Rattle.cs_ast.specs.declared.token.Punctuator.TheVariants as punctuator
use Rattle.cs_grammar.specs.Text.{Kinds}

-- the kinds of tokens
abbrev pub kinds : List Token → Kinds
kinds tokens = map (λ (token : Token). token.kind) tokens

-- the kind of the first token
abbrev pub first_kind : List Token → TokenKind
first_kind [] = token.Attribute
first_kind (first ∷ others) = first.kind

-- the kind of the token with this index, or of the end of input
abbrev pub kind_or_end : List Token → ℕ → TokenKind
kind_or_end tokens at = first_kind (drop at tokens)

-- the punctuator that a token is
abbrev pub punctuator_of : TokenKind → Option Punctuator
punctuator_of (token.Punctuator punctuator) = Some punctuator
punctuator_of other = None

-- the keyword that a token is
abbrev pub keyword_of : TokenKind → Option Keyword
keyword_of (token.Keyword keyword) = Some keyword
keyword_of other = None

-- the name that a token is
abbrev pub name_of : TokenKind → Option (List ℕ)
name_of (token.Name name) = Some name
name_of other = None

-- the token is a word or punctuator that is unsupported everywhere in an expression
abbrev pub is_unsupported : TokenKind → Bool
is_unsupported (token.Unsupported word) = true
is_unsupported (token.Punctuator punctuator.Ellipsis) = true
is_unsupported (token.Keyword keyword.Static) = true
is_unsupported (token.Keyword keyword.Typedef) = true
is_unsupported other = false

-- the token is an opening brace
abbrev pub is_brace : TokenKind → Bool
is_brace (token.Punctuator punctuator.OpenBrace) = true
is_brace other = false

-- the punctuator begins a suffix of an operand
abbrev pub is_suffix : Punctuator → Bool
is_suffix punctuator.OpenBracket = true
is_suffix punctuator.OpenParenthesis = true
is_suffix punctuator.Dot = true
is_suffix punctuator.Arrow = true
is_suffix punctuator.Increment = true
is_suffix punctuator.Decrement = true
is_suffix other = false

-- the result for a token: its punctuator, if that begins a suffix of an operand
abbrev pub IsSuffixAt : TokenKind → Option Punctuator → Type 0
IsSuffixAt kind (Some punctuator) = (kind ≡ token.Punctuator punctuator) × (is_suffix punctuator ≡ true)
IsSuffixAt kind None = (punctuator : Punctuator) → kind ≡ token.Punctuator punctuator → is_suffix punctuator ≡ false
