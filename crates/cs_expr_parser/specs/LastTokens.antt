-- What the last of the tokens so far are, since a brace is unsupported after a tag or after a type between parentheses.
use Rattle.std.specs.Prelude.{◌≡◌, ℕ, ◌≤◌, Bool, true, false, List, [], ◌∷◌, ◌++◌, length, Result, Ok, Err}
use Rattle.cs_ast.specs.declared.token.Token.{Token}
use Rattle.cs_ast.specs.declared.token.TokenKind.{TokenKind}
use Rattle.cs_ast.specs.declared.token.TokenKind.TheVariants as token
use Rattle.cs_ast.specs.declared.token.Keyword.TheVariants as keyword
use Rattle.cs_ast.specs.declared.token.Punctuator.TheVariants as punctuator
use Rattle.cs_grammar.specs.declared.refusal.Reason.{Reason}
use Rattle.cs_grammar.specs.declared.refusal.Reason.TheVariants.{Syntax, Unsupported, TooDeep}
use Rattle.cs_grammar.specs.TypeWords.{Names}
use Rattle.cs_grammar.specs.Text.{Kinds}
use Rattle.cs_grammar.specs.FirstTokens.{begins_type}
use Rattle.cs_grammar.specs.Refusals.{IsUnsupported, EndsWithTag}
use Rattle.cs_expr_parser.specs.Positions.{kind_or_end, is_unsupported, is_brace}
use Rattle.cs_expr_parser.specs.Parts.{Spells}
use Rattle.cs_expr_parser.specs.declared.stop.Stop.{Stop}
use Rattle.cs_expr_parser.specs.declared.stop.Stop.TheVariants as stop

-- the last tokens: none of the following, `struct` or `enum`, or a tag or a type between parentheses
pub data Last : Type 0 where
  AnyToken : Last
  TagWord : Last
  TypeEnd : Last

-- the first of the tokens begins a type
abbrev pub begin_type : Names → Kinds → Bool
begin_type names [] = false
begin_type names (first ∷ others) = begins_type names first

-- the last tokens after one more name
abbrev pub named : Last → Last
named TagWord = TypeEnd
named other = AnyToken

-- the last tokens after the innermost open parenthesis is closed; `true` marks those of types
abbrev pub closed_by : List Bool → Last
closed_by (true ∷ opened) = TypeEnd
closed_by other = AnyToken

-- the parentheses that remain open
abbrev pub below : List Bool → List Bool
below [] = []
below (one ∷ opened) = opened

abbrev pub opened_by : Names → List Bool → TokenKind → Kinds → List Bool
opened_by names opened (token.Punctuator punctuator.OpenParenthesis) rest = begin_type names rest ∷ opened
opened_by names opened (token.Punctuator punctuator.CloseParenthesis) rest = below opened
opened_by names opened other rest = opened

abbrev pub last_by : List Bool → Last → TokenKind → Last
last_by opened last (token.Punctuator punctuator.CloseParenthesis) = closed_by opened
last_by opened last (token.Keyword keyword.Struct) = TagWord
last_by opened last (token.Keyword keyword.Enum) = TagWord
last_by opened last (token.Name name) = named last
last_by opened last other = AnyToken

-- the last tokens after these, if these parentheses are open before them
abbrev pub last_of : Names → List Bool → Last → Kinds → Last
last_of names opened last [] = last
last_of names opened last (kind ∷ rest) = last_of names (opened_by names opened kind rest) (last_by opened last kind) rest

-- a brace after these tokens is a syntax error, whatever parentheses are open
abbrev pub IsPlainEnd : Names → Kinds → Type 0
IsPlainEnd names front = (opened : List Bool) → last_of names opened AnyToken front ≡ AnyToken

-- the reason states correctly whether the token is unsupported after these
abbrev pub YieldsUnsupported : Names → Kinds → TokenKind → Reason → Type 0
YieldsUnsupported names front next TooDeep = Unit {0}
YieldsUnsupported names front next Unsupported = IsUnsupported names front next
YieldsUnsupported names front next Syntax = (is_unsupported next ≡ false) × (is_brace next ≡ true → IsPlainEnd names front)

-- the reason of a refusal is right for the tokens from an index on
pub record IsReportedAt (names : Names) (tokens : List Token) (from at : ℕ) (reason : Reason) : Type 0 where
  pub front : Kinds
  pub spelled : Spells tokens from at (λ rest. front ++ rest)
  pub yields : YieldsUnsupported names front (kind_or_end tokens at) reason

abbrev pub IsReported : Names → List Token → ℕ → Stop → Type 0
IsReported names tokens from stop.Memory = Unit {0}
IsReported names tokens from (stop.Refused at reason) = IsReportedAt names tokens from at reason

-- if a part of the parser refuses a token, the reason is right
abbrev pub IsStopReported : {Answer : Type 0} → Names → List Token → ℕ → Result Answer Stop → Type 0
IsStopReported names tokens from (Ok taken) = Unit {0}
IsStopReported names tokens from (Err stop) = IsReported names tokens from stop

-- the tokens end with a tag, or a brace after them isn't unsupported
abbrev pub YieldsAfter : Names → Kinds → Bool → Type 0
YieldsAfter names before true = EndsWithTag before
YieldsAfter names before false = IsPlainEnd names before

-- the reason of a refusal is right for the tokens from an index on, with others before them
pub record IsReportedAfterAt (names : Names) (before : Kinds) (tokens : List Token) (from at : ℕ) (reason : Reason) : Type 0 where
  pub front : Kinds
  pub spelled : Spells tokens from at (λ rest. front ++ rest)
  pub yields : YieldsUnsupported names (before ++ front) (kind_or_end tokens at) reason

abbrev pub IsReportedAfter : Names → Kinds → List Token → ℕ → Stop → Type 0
IsReportedAfter names before tokens from stop.Memory = Unit {0}
IsReportedAfter names before tokens from (stop.Refused at reason) = IsReportedAfterAt names before tokens from at reason

abbrev pub IsStopReportedAfter : {Answer : Type 0} → Names → Kinds → List Token → ℕ → Result Answer Stop → Type 0
IsStopReportedAfter names before tokens from (Ok taken) = Unit {0}
IsStopReportedAfter names before tokens from (Err stop) = IsReportedAfter names before tokens from stop
