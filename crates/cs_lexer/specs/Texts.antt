-- Adjacent string literals are joined (C11 5.1.1.2, 6.4.5).
use Rattle.std.specs.Prelude.{◌≡◌, ℕ, List, [], ◌∷◌, ◌++◌, Option, Some, None, is_some, unwrap_or, if◌then◌else◌}
use Rattle.cs_ast.specs.declared.place.Place.{Place}
use Rattle.cs_ast.specs.declared.token.Token.{Token}
use Rattle.cs_ast.specs.declared.token.TokenKind.{TokenKind}
use Rattle.cs_ast.specs.declared.token.TokenKind.TheVariants.{Text}

-- the bytes of a string literal
abbrev pub text_of_kind : TokenKind → Option (List ℕ)
text_of_kind (Text bytes) = Some bytes
text_of_kind _ = None

-- the bytes of the first token, if it is a string literal
abbrev pub first_text : List Token → Option (List ℕ)
first_text [] = None
first_text (token ∷ tokens) = text_of_kind token.kind

abbrev pub after_text : List Token → List Token
after_text [] = []
after_text (token ∷ tokens) = if is_some (text_of_kind token.kind) then tokens else token ∷ tokens

-- a string literal with these bytes and those of the literal that the tokens begin with, if they do
abbrev pub text_before : List ℕ → Place → List Token → List Token
text_before bytes place tokens = (record { kind = Text (bytes ++ unwrap_or (first_text tokens) []); place = place }) ∷ after_text tokens

abbrev pub joined_to : Option (List ℕ) → Token → List Token → List Token
joined_to None token tokens = token ∷ tokens
joined_to (Some bytes) token tokens = text_before bytes token.place tokens

-- each string literal directly after another one is appended to it
abbrev pub joined : List Token → List Token
joined [] = []
joined (token ∷ tokens) = joined_to (text_of_kind token.kind) token (joined tokens)

-- a string literal before tokens is joined with those of them that it is adjacent to; the others remain
abbrev pub IsWholeText : List ℕ → List Token → List ℕ → List Token → Type 0
IsWholeText first tokens bytes others = (place : Place)
    → text_before first place (joined tokens) ≡ (record { kind = Text bytes; place = place }) ∷ joined others

-- the same for a token of any kind, whether a string literal or not
abbrev pub IsWholeKind : TokenKind → List Token → TokenKind → List Token → Type 0
IsWholeKind kind tokens whole others = (place : Place)
    → joined_to (text_of_kind kind) (record { kind = kind; place = place }) (joined tokens) ≡ (record { kind = whole; place = place }) ∷ joined others
