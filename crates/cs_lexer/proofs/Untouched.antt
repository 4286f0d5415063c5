-- Lists of tokens that remain unchanged: those without attributes, and those without string literals.
use Rattle.std.proofs.Common.{◌≡◌, ℕ, false, cond, List, [], ◌∷◌, Option, Some, None, refl, ap, ◌∙◌}
use Rattle.std.specs.Prelude.{◌&&◌, is_some}
use Rattle.std.specs.List.{list_any}
use Rattle.std.proofs.lemmas.Bool.{or_parts}
use Rattle.cs_ast.specs.declared.token.Token.{Token}
use Rattle.cs_lexer.specs.Attributes.{is_attribute, begins_group, group_length, without_attributes}
use Rattle.cs_lexer.specs.Texts.{text_of_kind, joined_to, joined}

-- if no token begins an attribute, nothing is dropped
pub none_dropped : (tokens : List Token) → list_any (λ token. is_attribute token.kind) tokens ≡ false → without_attributes 0 tokens ≡ tokens
none_dropped [] none = refl
none_dropped (token ∷ tokens) none =
    let parts = or_parts (is_attribute token.kind) (list_any (λ t. is_attribute t.kind) tokens) none in
    ap (λ b. cond (b && begins_group tokens) (without_attributes (group_length tokens) tokens) (token ∷ without_attributes 0 tokens)) parts.0
    ∙ ap (λ ts. token ∷ ts) (none_dropped tokens parts.1)

no_text : (o : Option (List ℕ)) → is_some o ≡ false → o ≡ None
no_text None none = refl
no_text (Some bytes) none = absurd cc

-- if no token is a string literal, nothing is joined
pub none_joined : (tokens : List Token) → list_any (λ token. is_some (text_of_kind token.kind)) tokens ≡ false → joined tokens ≡ tokens
none_joined [] none = refl
none_joined (token ∷ tokens) none =
    let parts = or_parts (is_some (text_of_kind token.kind)) (list_any (λ t. is_some (text_of_kind t.kind)) tokens) none in
    ap (λ o. joined_to o token (joined tokens)) (no_text (text_of_kind token.kind) parts.0)
    ∙ ap (λ ts. token ∷ ts) (none_joined tokens parts.1)
