-- Why a token of a file is refused, if that doesn't depend on what precedes it: for the contract of the parser of files.
use Rattle.std.proofs.Common.{◌≡◌, ℕ, ◌⊎◌, inl, inr, Bool, true, false, List, [], ◌∷◌, ◌++◌, Option, Some, None, refl, sym, ap}
use Rattle.std.proofs.Common.{◌∙◌}
use Rattle.std.proofs.lemmas.Bool.{false≢true}
use Rattle.cs_ast.specs.declared.token.TokenKind.{TokenKind}
use Rattle.cs_ast.specs.declared.token.TokenKind.TheVariants as token
use Rattle.cs_ast.specs.declared.token.Keyword.{Keyword}
use Rattle.cs_ast.specs.declared.token.Keyword.TheVariants as keyword
use Rattle.cs_ast.specs.declared.token.Punctuator.{Punctuator}
use Rattle.cs_ast.specs.declared.token.Punctuator.TheVariants as punctuator
use Rattle.cs_ast.specs.declared.token.Unsupported.{Unsupported}
use Rattle.cs_ast.specs.RawStatements.{External}
use Rattle.cs_grammar.specs.declared.refusal.Reason.TheVariants as reason
use Rattle.cs_grammar.specs.Text.{Kinds}
use Rattle.cs_grammar.specs.FileText.{file_text}
use Rattle.cs_grammar.specs.FilePhrases.{IsFile}
use Rattle.cs_grammar.specs.FileRefusals.{IsUnsupportedOfFile, IsFileReason}
use Rattle.cs_grammar.proofs.FileRules.{FileRefused}

-- the keyword is unsupported at some positions
abbrev pub is_placed_word : Keyword → Bool
is_placed_word keyword.Static = true
is_placed_word keyword.Typedef = true
is_placed_word other = false

-- the punctuator is unsupported at some positions, or everywhere
abbrev pub is_placed_punctuator : Punctuator → Bool
is_placed_punctuator punctuator.Ellipsis = true
is_placed_punctuator punctuator.OpenBrace = true
is_placed_punctuator punctuator.OpenParenthesis = true
is_placed_punctuator punctuator.Colon = true
is_placed_punctuator punctuator.Dot = true
is_placed_punctuator punctuator.OpenBracket = true
is_placed_punctuator other = false

-- the token is unsupported at some positions, or everywhere
abbrev pub is_placed : TokenKind → Bool
is_placed (token.Unsupported word) = true
is_placed (token.Keyword word) = is_placed_word word
is_placed (token.Punctuator punctuator) = is_placed_punctuator punctuator
is_placed other = false

placed_word : (front : Kinds) (k : Keyword) → is_placed_word k ≡ false → IsUnsupportedOfFile front (token.Keyword k) → ⊥
placed_word front keyword.Static e out = false≢true (sym e)
placed_word front keyword.Typedef e out = false≢true (sym e)
placed_word front _ e out = out

placed_punctuator : (front : Kinds) (m : Punctuator) → is_placed_punctuator m ≡ false → IsUnsupportedOfFile front (token.Punctuator m) → ⊥
placed_punctuator front punctuator.Ellipsis e out = false≢true (sym e)
placed_punctuator front punctuator.OpenBrace e out = false≢true (sym e)
placed_punctuator front punctuator.OpenParenthesis e out = false≢true (sym e)
placed_punctuator front punctuator.Colon e out = false≢true (sym e)
placed_punctuator front punctuator.Dot e out = false≢true (sym e)
placed_punctuator front punctuator.OpenBracket e out = false≢true (sym e)
placed_punctuator front _ e out = out

-- a token that is unsupported nowhere
pub not_placed : (front : Kinds) (next : TokenKind) → is_placed next ≡ false → IsUnsupportedOfFile front next → ⊥
not_placed front (token.Unsupported w) e out = false≢true (sym e)
not_placed front (token.Keyword k) e out = placed_word front k e out
not_placed front (token.Punctuator m) e out = placed_punctuator front m e out
not_placed front (token.Name n) e out = out
not_placed front (token.Number n) e out = out
not_placed front (token.Character v) e out = out
not_placed front (token.Text b) e out = out
not_placed front token.Attribute e out = out

-- a higher file continues with the token
pub deep_reason : (limit : ℕ) (front : Kinds) (next : TokenKind) → FileRefused limit front next true → IsFileReason front (Some next) reason.TooDeep
deep_reason limit front next r = r.further refl

-- none does, and the token is unsupported there
pub unsupported_reason : (limit : ℕ) (front : Kinds) (next : TokenKind) → FileRefused limit front next false → IsUnsupportedOfFile front next
    → IsFileReason front (Some next) reason.Unsupported
unsupported_reason limit front next r out = (r.nothing refl, out)

-- none does, and the token isn't unsupported there
pub syntax_reason : (limit : ℕ) (front : Kinds) (next : TokenKind) → FileRefused limit front next false → (IsUnsupportedOfFile front next → ⊥)
    → IsFileReason front (Some next) reason.Syntax
syntax_reason limit front next r kept = (r.nothing refl, kept)

-- none does, and the token is unsupported nowhere
pub plain_reason : (limit : ℕ) (front : Kinds) (next : TokenKind) → FileRefused limit front next false → is_placed next ≡ false
    → IsFileReason front (Some next) reason.Syntax
plain_reason limit front next r e = syntax_reason limit front next r (not_placed front next e)

-- an unsupported word, or an ellipsis
pub word_reason : (limit : ℕ) (front : Kinds) (w : Unsupported) → FileRefused limit front (token.Unsupported w) false
    → IsFileReason front (Some (token.Unsupported w)) reason.Unsupported
word_reason limit front w r = unsupported_reason limit front (token.Unsupported w) r tt

pub dots_reason : (limit : ℕ) (front : Kinds) → FileRefused limit front (token.Punctuator punctuator.Ellipsis) false
    → IsFileReason front (Some (token.Punctuator punctuator.Ellipsis)) reason.Unsupported
dots_reason limit front r = unsupported_reason limit front (token.Punctuator punctuator.Ellipsis) r tt

-- the tokens end, and aren't those of a file
pub end_reason : (front : Kinds) → ((file : List External) → IsFile [] file → file_text file ≡ front → ⊥) → IsFileReason front None reason.Syntax
end_reason front none = (λ f. none f.0 f.1 f.2, λ out. out)
