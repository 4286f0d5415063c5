-- Tokens without attributes: without the word of an attribute and the parenthesis after it.
use Rattle.std.specs.Prelude.{◌≡◌, ℕ, zero, suc, pred, ◌≤◌, Bool, true, false, ◌&&◌, List, [], ◌∷◌, length, reverse, take, Option, Some}
use Rattle.std.specs.Prelude.{None, is_some, option_map, unwrap_or, slice_index_or, if◌then◌else◌}
use Rattle.cs_ast.specs.declared.token.Token.{Token}
use Rattle.cs_ast.specs.declared.token.Punctuator.{Punctuator}
use Rattle.cs_ast.specs.declared.token.Punctuator.TheVariants as punctuators
use Rattle.cs_ast.specs.declared.token.TokenKind.{TokenKind}
use Rattle.cs_ast.specs.declared.token.TokenKind.TheVariants as kinds

abbrev pub is_attribute : TokenKind → Bool
is_attribute kinds.Attribute = true
is_attribute _ = false

abbrev pub is_opening : Punctuator → Bool
is_opening punctuators.OpenParenthesis = true
is_opening _ = false

abbrev pub is_closing : Punctuator → Bool
is_closing punctuators.CloseParenthesis = true
is_closing _ = false

abbrev pub opens : TokenKind → Bool
opens (kinds.Punctuator punctuator) = is_opening punctuator
opens _ = false

abbrev pub closes : TokenKind → Bool
closes (kinds.Punctuator punctuator) = is_closing punctuator
closes _ = false

-- the number of parentheses that are open after a token, from the number before it
abbrev pub depth_after : Token → ℕ → ℕ
depth_after token depth = if opens token.kind then suc depth else (if closes token.kind then pred depth else depth)

-- the number of tokens that close this many open parentheses, if they are closed at all
abbrev pub length_to_close : List Token → ℕ → Option ℕ
length_to_close tokens zero = Some 0
length_to_close [] (suc depth) = None
length_to_close (token ∷ tokens) (suc depth) = option_map suc (length_to_close tokens (depth_after token (suc depth)))

-- whether the first token opens a parenthesis that is closed
abbrev pub begins_group : List Token → Bool
begins_group [] = false
begins_group (token ∷ tokens) = opens token.kind && is_some (length_to_close tokens 1)

-- the number of tokens of such a parenthesis
abbrev pub group_length : List Token → ℕ
group_length [] = 0
group_length (token ∷ tokens) = suc (unwrap_or (length_to_close tokens 1) 0)

-- whether a token is an attribute's word with a closed parenthesis directly after it
abbrev pub has_group : Token → List Token → Bool
has_group token tokens = is_attribute token.kind && begins_group tokens

-- the tokens after the first `skipped` ones, without attributes
abbrev pub without_attributes : ℕ → List Token → List Token
without_attributes skipped [] = []
without_attributes (suc skipped) (token ∷ tokens) = without_attributes skipped tokens
without_attributes zero (token ∷ tokens) =
    if has_group token tokens then without_attributes (group_length tokens) tokens else token ∷ without_attributes 0 tokens

-- the number of parentheses that a token and those after it close and that open before them
abbrev pub surplus_before : Token → ℕ → ℕ
surplus_before token surplus = if opens token.kind then pred surplus else (if closes token.kind then suc surplus else surplus)

abbrev pub surplus_of : List Token → ℕ
surplus_of [] = 0
surplus_of (token ∷ tokens) = surplus_before token (surplus_of tokens)

-- for each number of tokens at the end of a list, which is given in reverse order, whether they close a parenthesis
pub record IsClosings (reversed : List Token) (closings : List Bool) : Type 0 where
  pub enough : suc (length reversed) ≤ length closings
  pub each : (count : ℕ) → count ≤ length reversed → slice_index_or closings count false ≡ is_some (length_to_close (reverse (take count reversed)) 1)
