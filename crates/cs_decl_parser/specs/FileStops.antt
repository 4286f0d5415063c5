-- The results that the parts of the parser of files return to one another.
use Rattle.std.specs.Prelude.{◌≡◌, ℕ, ◌<◌, Bool, true, false, if◌then◌else◌, List, [], ◌∷◌, ◌++◌, Some, length}
use Rattle.cs_ast.specs.declared.token.Token.{Token}
use Rattle.cs_ast.specs.declared.token.TokenKind.{TokenKind}
use Rattle.cs_ast.specs.declared.token.TokenKind.TheVariants as token
use Rattle.cs_ast.specs.declared.token.Keyword.TheVariants as keyword
use Rattle.cs_ast.specs.declared.token.Punctuator.TheVariants as punctuator
use Rattle.cs_ast.specs.RawStatements.{External}
use Rattle.cs_grammar.specs.declared.refusal.Reason.{Reason}
use Rattle.cs_grammar.specs.declared.refusal.Reason.TheVariants.{Syntax, Unsupported}
use Rattle.cs_expr_parser.specs.declared.stop.Stop.{Stop}
use Rattle.cs_expr_parser.specs.declared.stop.Stop.TheVariants as stop
use Rattle.cs_grammar.specs.Text.{Kinds}
use Rattle.cs_grammar.specs.FileText.{file_text}
use Rattle.cs_grammar.specs.FilePhrases.{IsFile, BeginsFile, BeginsLowFile}
use Rattle.cs_grammar.specs.FileRefusals.{IsFileReason}
use Rattle.cs_expr_parser.specs.Positions.{kind_or_end}
use Rattle.cs_expr_parser.specs.Parts.{Spells, is_deep}

-- `static` and `typedef`, which occur in no block and in no expression
abbrev pub is_file_word : TokenKind → Bool
is_file_word (token.Keyword keyword.Static) = true
is_file_word (token.Keyword keyword.Typedef) = true
is_file_word other = false

-- the parts of the parser don't decide whether the token is unsupported: for a colon, `static`, `typedef`, a dot, and an opening
-- bracket, brace and parenthesis, the tokens before it do
abbrev pub is_unsupported_after : TokenKind → Bool
is_unsupported_after (token.Punctuator punctuator.Colon) = true
is_unsupported_after (token.Punctuator punctuator.Dot) = true
is_unsupported_after (token.Punctuator punctuator.OpenBracket) = true
is_unsupported_after (token.Punctuator punctuator.OpenBrace) = true
is_unsupported_after (token.Punctuator punctuator.OpenParenthesis) = true
is_unsupported_after other = is_file_word other

-- the reason, if it is known whether the token is unsupported
abbrev pub unsupported_if : Bool → Reason
unsupported_if out = if out then Unsupported else Syntax

-- a token, or the end of input, is the first that is refused: a file within the limit begins with the tokens before it, and none
-- with the token too; a higher one does exactly if the reason is "too deep". At the end of input the tokens are no file of any
-- height, and the parts may return any reason
pub record IsStoppedAt (tokens : List Token) (at : ℕ) (reason : Reason) : Type 0 where
  pub front : Kinds
  pub spelled : Spells tokens 0 at (λ rest. front ++ rest)
  pub begun : BeginsLowFile 200 front
  pub furthest : at < length tokens → BeginsLowFile 200 (front ++ kind_or_end tokens at ∷ []) → ⊥
  pub deep : at < length tokens → is_deep reason ≡ true → BeginsFile (front ++ kind_or_end tokens at ∷ [])
  pub flat : at < length tokens → is_deep reason ≡ false → BeginsFile (front ++ kind_or_end tokens at ∷ []) → ⊥
  pub unfinished : at ≡ length tokens → (file : List External) → IsFile [] file → file_text file ≡ front → ⊥

-- and if it is a token, the reason is right after those before it
pub record IsTokenRefusedAt (tokens : List Token) (at : ℕ) (reason : Reason) : Type 0 where
  pub stopped : IsStoppedAt tokens at reason
  pub why : at < length tokens → IsFileReason stopped.front (Some (kind_or_end tokens at)) reason

-- a part refuses a token, or the end of input; the reason is right if the parts decide whether the token is unsupported
pub record IsPartRefusedAt (tokens : List Token) (at : ℕ) (reason : Reason) : Type 0 where
  pub stopped : IsStoppedAt tokens at reason
  pub why : at < length tokens → is_unsupported_after (kind_or_end tokens at) ≡ false → IsFileReason stopped.front (Some (kind_or_end tokens at)) reason

-- memory runs out, or a token is refused
abbrev pub FileStops : List Token → Stop → Type 0
FileStops tokens stop.Memory = Unit {0}
FileStops tokens (stop.Refused at reason) = IsPartRefusedAt tokens at reason
