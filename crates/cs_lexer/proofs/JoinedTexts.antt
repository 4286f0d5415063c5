-- Adjacent string literals are joined one by one: for `whole_text` and `joined`.
use Rattle.std.proofs.Common.{◌≡◌, ℕ, ◌-◌, ◌≤◌, List, [], ◌∷◌, ◌++◌, length, length-take, append_assoc, take, reverse, cond, Some}
use Rattle.std.proofs.Common.{None, refl, sym, ap, ◌∙◌, subst, arith}
use Rattle.cs_ast.specs.declared.place.Place.{Place}
use Rattle.cs_ast.specs.declared.token.Token.{Token}
use Rattle.cs_ast.specs.declared.token.TokenKind.{TokenKind}
use Rattle.cs_ast.specs.declared.token.TokenKind.TheVariants.{Text}
use Rattle.cs_lexer.specs.Texts.{text_of_kind, first_text, after_text, text_before, joined_to, joined, IsWholeText, IsWholeKind}
use Rattle.std.specs.Prelude.{is_some, unwrap_or}
use Rattle.std.proofs.lemmas.List.{append-nil}
use Rattle.cs_lexer.proofs.Turned.{front_turned}

abbrev text_at : List ℕ → Place → Token
text_at bytes place = record { kind = Text bytes; place = place }

-- the first literal joined with all tokens after it is the same as the bytes so far joined with the remaining tokens
pub record Gathered (first : List ℕ) (before : List Token) (bytes : List ℕ) (left : List Token) : Type 0 where
  pub same : (place : Place) → text_before first place (joined (reverse before)) ≡ text_before bytes place (joined (reverse left))
  pub fewer : length left ≤ length before

step_on : (bytes more : List ℕ) (place : Place) (token : Token) (tokens : List Token) → text_of_kind token.kind ≡ Some more
    → text_before bytes place (joined_to (text_of_kind token.kind) token tokens) ≡ text_before (bytes ++ more) place tokens
step_on bytes more place token tokens is =
    ap (λ o. text_before bytes place (joined_to o token tokens)) is
    ∙ ap (λ bs. text_at bs place ∷ after_text tokens) (sym (append_assoc bytes more (unwrap_or (first_text tokens) [])))

next_text : (bytes more : List ℕ) (place : Place) (left list : List Token) → reverse left ≡ list → first_text list ≡ Some more
    → text_before bytes place (joined (reverse left)) ≡ text_before (bytes ++ more) place (joined (reverse (take (length left - 1) left)))
next_text bytes more place left [] is text = absurd cc
next_text bytes more place left (token ∷ tokens) is text =
    ap (λ ts. text_before bytes place (joined ts)) is ∙ step_on bytes more place token (joined tokens) text
    ∙ ap (λ ts. text_before (bytes ++ more) place (joined ts)) (sym (front_turned left tokens token is))

-- a literal continues with the next token's bytes
pub gather_next : (first : List ℕ) (before : List Token) (bytes more whole : List ℕ) (left inner : List Token) → Gathered first before bytes left
    → first_text (reverse left) ≡ Some more → whole ≡ bytes ++ more → inner ≡ take (length left - 1) left → Gathered first before whole inner
gather_next first before bytes more whole left inner so_far text pushed cut = record {
  same = λ place. so_far.same place ∙ next_text bytes more place left (reverse left) refl text
      ∙ ap (λ bs. text_before bs place (joined (reverse (take (length left - 1) left)))) (sym pushed)
      ∙ ap (λ ts. text_before whole place (joined (reverse ts))) (sym cut);
  fewer = omega (arith, so_far.fewer, ap length cut, length-take (length left - 1) left);
}

-- and ends if no literal follows
ended : (bytes : List ℕ) (place : Place) (list : List Token) → first_text list ≡ None
    → text_before bytes place (joined list) ≡ text_at bytes place ∷ joined list
ended bytes place [] none = ap (λ bs. text_at bs place ∷ []) (append-nil bytes)
ended bytes place (token ∷ tokens) none =
    ap (λ o. text_before bytes place (joined_to o token (joined tokens))) none
    ∙ ap (λ o. text_at (bytes ++ unwrap_or o []) place ∷ cond (is_some o) (joined tokens) (token ∷ joined tokens)) none
    ∙ ap (λ bs. text_at bs place ∷ token ∷ joined tokens) (append-nil bytes)
    ∙ sym (ap (λ o. text_at bytes place ∷ joined_to o token (joined tokens)) none)

pub gathered_all : (first : List ℕ) (before : List Token) (bytes made : List ℕ) (left : List Token) → Gathered first before bytes left
    → first_text (reverse left) ≡ None → made ≡ bytes → IsWholeText first (reverse before) made (reverse left)
gathered_all first before bytes made left so_far none is = λ place.
    so_far.same place ∙ ended bytes place (reverse left) none ∙ ap (λ bs. text_at bs place ∷ joined (reverse left)) (sym is)

-- what holds for a string literal holds for its kind
pub text_kind : (kind : TokenKind) (first : List ℕ) (tokens : List Token) (bytes : List ℕ) (others : List Token) → kind ≡ Text first
    → IsWholeText first tokens bytes others → IsWholeKind kind tokens (Text bytes) others
text_kind kind first tokens bytes others is whole = subst (λ k. IsWholeKind k tokens (Text bytes) others) (sym is) whole
