-- Why a token outside expressions is refused if no tree of any height continues with it.
use Rattle.std.specs.Prelude.{◌≡◌, ℕ, Bool, true, false, if◌then◌else◌}
use Rattle.cs_ast.specs.declared.token.TokenKind.{TokenKind}
use Rattle.cs_ast.specs.declared.token.TokenKind.TheVariants as token
use Rattle.cs_ast.specs.declared.token.Keyword.TheVariants as keyword
use Rattle.cs_ast.specs.declared.token.Punctuator.{Punctuator}
use Rattle.cs_ast.specs.declared.token.Punctuator.TheVariants as punctuator
use Rattle.cs_grammar.specs.declared.refusal.Reason.{Reason}
use Rattle.cs_grammar.specs.declared.refusal.Reason.TheVariants.{Syntax, Unsupported}
use Rattle.cs_expr_parser.specs.declared.stop.Stop.{Stop}
use Rattle.cs_expr_parser.specs.declared.stop.Stop.TheVariants as stop
use Rattle.cs_declarator_parser.specs.declared.source.Scope.{Scope}
use Rattle.cs_declarator_parser.specs.declared.source.Scope.TheVariants.{Block}

-- the token is a word or punctuator that is unsupported everywhere in this scope, as `static` and `typedef` are in blocks
abbrev pub is_unsupported : Scope → TokenKind → Bool
is_unsupported scope (token.Unsupported word) = true
is_unsupported scope (token.Punctuator punctuator.Ellipsis) = true
is_unsupported Block (token.Keyword keyword.Static) = true
is_unsupported Block (token.Keyword keyword.Typedef) = true
is_unsupported scope other = false

-- the reason for a token with which no tree continues
abbrev pub plain_reason : Scope → TokenKind → Reason
plain_reason scope next = if is_unsupported scope next then Unsupported else Syntax

-- the refusal of a token where the given punctuator is unsupported as well
pub record RefusesBut (unsupported : Punctuator) (scope : Scope) (at : ℕ) (next : TokenKind) (answer : Stop) : Type 0 where
  pub the_punctuator : next ≡ token.Punctuator unsupported → answer ≡ stop.Refused at Unsupported
  pub another : (next ≡ token.Punctuator unsupported → ⊥) → answer ≡ stop.Refused at (plain_reason scope next)
