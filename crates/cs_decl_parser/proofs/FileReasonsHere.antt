-- Why a token of a file is refused, as far as the parser reports it: for the contract of the parser of files.
use Rattle.std.proofs.Common.{◌≡◌, true, false, [], ◌∷◌, ◌++◌, Some, refl, sym}
use Rattle.std.proofs.lemmas.Bool.{false≢true}
use Rattle.cs_ast.specs.declared.token.TokenKind.{TokenKind}
use Rattle.cs_ast.specs.declared.token.TokenKind.TheVariants as token
use Rattle.cs_ast.specs.declared.token.Keyword.{Keyword}
use Rattle.cs_ast.specs.declared.token.Keyword.TheVariants as keyword
use Rattle.cs_ast.specs.declared.token.Punctuator.{Punctuator}
use Rattle.cs_ast.specs.declared.token.Punctuator.TheVariants as punctuator
use Rattle.cs_grammar.specs.declared.refusal.Reason.{Reason}
use Rattle.cs_grammar.specs.declared.refusal.Reason.TheVariants.{Syntax, Unsupported, TooDeep}
use Rattle.cs_grammar.specs.Text.{Kinds}
use Rattle.cs_grammar.specs.FilePhrases.{BeginsFile}
use Rattle.cs_grammar.specs.FileRefusals.{IsUnsupportedOfFile, IsFileReason}
use Rattle.cs_expr_parser.specs.Parts.{is_deep}
use Rattle.cs_declarator_parser.specs.declared.source.Scope.TheVariants.{File}
use Rattle.cs_declarator_parser.specs.Aptness.{IsApt}
use Rattle.cs_decl_parser.specs.FileStops.{is_unsupported_after}

-- a token that isn't unsupported because of its position, and for which the reason is possible
punctuator_left : (front : Kinds) (m : Punctuator) → is_unsupported_after (token.Punctuator m) ≡ false → IsApt File (token.Punctuator m) Unsupported
    → IsUnsupportedOfFile front (token.Punctuator m)
punctuator_left front punctuator.Ellipsis e a = tt
punctuator_left front punctuator.OpenBrace e a = absurd (false≢true (sym e))
punctuator_left front punctuator.OpenParenthesis e a = absurd (false≢true (sym e))
punctuator_left front punctuator.Colon e a = absurd (false≢true (sym e))
punctuator_left front punctuator.Dot e a = absurd (false≢true (sym e))
punctuator_left front punctuator.OpenBracket e a = absurd (false≢true (sym e))
punctuator_left front _ e a = absurd (a.kept refl refl)

word_left : (front : Kinds) (k : Keyword) → is_unsupported_after (token.Keyword k) ≡ false → IsApt File (token.Keyword k) Unsupported
    → IsUnsupportedOfFile front (token.Keyword k)
word_left front keyword.Static e a = absurd (false≢true (sym e))
word_left front keyword.Typedef e a = absurd (false≢true (sym e))
word_left front _ e a = absurd (a.kept refl refl)

kind_left : (front : Kinds) (next : TokenKind) → is_unsupported_after next ≡ false → IsApt File next Unsupported → IsUnsupportedOfFile front next
kind_left front (token.Unsupported w) e a = tt
kind_left front (token.Punctuator m) e a = punctuator_left front m e a
kind_left front (token.Keyword k) e a = word_left front k e a
kind_left front _ e a = absurd (a.kept refl refl)

punctuator_kept : (front : Kinds) (m : Punctuator) → is_unsupported_after (token.Punctuator m) ≡ false → IsApt File (token.Punctuator m) Syntax
    → IsUnsupportedOfFile front (token.Punctuator m) → ⊥
punctuator_kept front punctuator.Ellipsis e a o = a.out refl refl
punctuator_kept front punctuator.OpenBrace e a o = false≢true (sym e)
punctuator_kept front punctuator.OpenParenthesis e a o = false≢true (sym e)
punctuator_kept front punctuator.Colon e a o = false≢true (sym e)
punctuator_kept front punctuator.Dot e a o = false≢true (sym e)
punctuator_kept front punctuator.OpenBracket e a o = false≢true (sym e)
punctuator_kept front _ e a o = o

word_kept : (front : Kinds) (k : Keyword) → is_unsupported_after (token.Keyword k) ≡ false → IsUnsupportedOfFile front (token.Keyword k) → ⊥
word_kept front keyword.Static e o = false≢true (sym e)
word_kept front keyword.Typedef e o = false≢true (sym e)
word_kept front _ e o = o

kind_kept : (front : Kinds) (next : TokenKind) → is_unsupported_after next ≡ false → IsApt File next Syntax → IsUnsupportedOfFile front next → ⊥
kind_kept front (token.Unsupported w) e a o = a.out refl refl
kind_kept front (token.Punctuator m) e a o = punctuator_kept front m e a o
kind_kept front (token.Keyword k) e a o = word_kept front k e o
kind_kept front _ e a o = o

pub reason_of_kind : (front : Kinds) (next : TokenKind) (reason : Reason) → (is_deep reason ≡ true → BeginsFile (front ++ next ∷ []))
    → (is_deep reason ≡ false → BeginsFile (front ++ next ∷ []) → ⊥) → IsApt File next reason → is_unsupported_after next ≡ false
    → IsFileReason front (Some next) reason
reason_of_kind front next TooDeep deep flat a e = deep refl
reason_of_kind front next Unsupported deep flat a e = (flat refl, kind_left front next e a)
reason_of_kind front next Syntax deep flat a e = (flat refl, kind_kept front next e a)
