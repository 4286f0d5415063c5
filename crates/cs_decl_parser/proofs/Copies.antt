-- A clone of a token equals the token: for the contract of `file_goes_on`.
use Rattle.std.proofs.Common.{◌≡◌, ap, ◌∙◌, refl}
use Rattle.cs_ast.specs.declared.place.Place.{Place}
use Rattle.cs_ast.specs.declared.token.Token.{Token}
use Rattle.cs_ast.specs.declared.token.TokenKind.{TokenKind}
use Rattle.cs_ast.specs.declared.token.TokenKind.TheVariants as token

-- each part of a clone is the same
abbrev pub IsCopy : TokenKind → TokenKind → Type 0
IsCopy (token.Keyword a) (token.Keyword b) = b ≡ a
IsCopy (token.Unsupported a) (token.Unsupported b) = b ≡ a
IsCopy token.Attribute token.Attribute = Unit {0}
IsCopy (token.Name a) (token.Name b) = b ≡ a
IsCopy (token.Number a) (token.Number b) = b ≡ a
IsCopy (token.Character a) (token.Character b) = b ≡ a
IsCopy (token.Text a) (token.Text b) = b ≡ a
IsCopy (token.Punctuator a) (token.Punctuator b) = b ≡ a
IsCopy _ _ = ⊥

kind_same : (a b : TokenKind) → IsCopy a b → b ≡ a
kind_same (token.Keyword a) (token.Keyword b) e = ap token.Keyword e
kind_same (token.Unsupported a) (token.Unsupported b) e = ap token.Unsupported e
kind_same token.Attribute token.Attribute e = refl
kind_same (token.Name a) (token.Name b) e = ap token.Name e
kind_same (token.Number a) (token.Number b) e = ap token.Number e
kind_same (token.Character a) (token.Character b) e = ap token.Character e
kind_same (token.Text a) (token.Text b) e = ap token.Text e
kind_same (token.Punctuator a) (token.Punctuator b) e = ap token.Punctuator e
kind_same _ _ e = absurd e

pub token_same : (x y : Token) → IsCopy x.kind y.kind × (y.place ≡ x.place) → y ≡ x
token_same x y k =
    let first : y ≡ record { kind = x.kind; place = y.place } = ap (λ (z : TokenKind). record { kind = z; place = y.place }) (kind_same x.kind y.kind k.0) in
    first ∙ ap (λ (z : Place). record { kind = x.kind; place = z }) k.1
