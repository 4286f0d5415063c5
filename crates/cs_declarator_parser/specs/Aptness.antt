-- Why a token may be refused, whatever precedes it: what is unsupported everywhere in a scope isn't a syntax error there, and
-- what is supported everywhere in it isn't unsupported.
use Rattle.std.specs.Prelude.{◌≡◌, Bool, true, false, List, Result, Ok, Err}
use Rattle.cs_ast.specs.declared.token.Token.{Token}
use Rattle.cs_ast.specs.declared.token.TokenKind.{TokenKind}
use Rattle.cs_ast.specs.declared.token.TokenKind.TheVariants as token
use Rattle.cs_ast.specs.declared.token.Keyword.TheVariants as keyword
use Rattle.cs_ast.specs.declared.token.Punctuator.TheVariants as punctuator
use Rattle.cs_grammar.specs.declared.refusal.Reason.{Reason}
use Rattle.cs_grammar.specs.declared.refusal.Reason.TheVariants.{Syntax, Unsupported}
use Rattle.cs_expr_parser.specs.Positions.{kind_or_end}
use Rattle.cs_declarator_parser.specs.declared.source.Scope.{Scope}
use Rattle.cs_expr_parser.specs.declared.stop.Stop.{Stop}
use Rattle.cs_expr_parser.specs.declared.stop.Stop.TheVariants as stop
use Rattle.cs_declarator_parser.specs.declared.stop.Unclosed.{Unclosed}
use Rattle.cs_declarator_parser.specs.Reasons.{is_unsupported}

-- the token is unsupported somewhere; whether a colon is unsupported isn't decided by the parts of the parser
abbrev pub may_be_out : TokenKind → Bool
may_be_out (token.Unsupported word) = true
may_be_out (token.Keyword keyword.Static) = true
may_be_out (token.Keyword keyword.Typedef) = true
may_be_out (token.Punctuator punctuator.Ellipsis) = true
may_be_out (token.Punctuator punctuator.OpenBrace) = true
may_be_out (token.Punctuator punctuator.OpenParenthesis) = true
may_be_out (token.Punctuator punctuator.Dot) = true
may_be_out (token.Punctuator punctuator.OpenBracket) = true
may_be_out other = false

-- the reason for a refusal of the token is possible in this scope
pub record IsApt (scope : Scope) (next : TokenKind) (reason : Reason) : Type 0 where
  pub out : is_unsupported scope next ≡ true → reason ≡ Syntax → ⊥
  pub kept : may_be_out next ≡ false → reason ≡ Unsupported → ⊥

-- the same for a refusal by a part of the parser
abbrev pub IsStopApt : Scope → List Token → Stop → Type 0
IsStopApt scope tokens (stop.Refused at reason) = IsApt scope (kind_or_end tokens at) reason
IsStopApt scope tokens other = Unit {0}

abbrev pub IsAnswerApt : {A : Type 0} → Scope → List Token → Result A Stop → Type 0
IsAnswerApt scope tokens (Ok taken) = Unit {0}
IsAnswerApt scope tokens (Err stop) = IsStopApt scope tokens stop

-- the same for the token after what was taken, if the part around it doesn't take that token
abbrev pub IsUnclosedApt : {A : Type 0} → Scope → List Token → Result (Unclosed A) Stop → Type 0
IsUnclosedApt scope tokens (Ok taken) = IsApt scope (kind_or_end tokens taken.next) taken.otherwise
IsUnclosedApt scope tokens (Err stop) = IsStopApt scope tokens stop
