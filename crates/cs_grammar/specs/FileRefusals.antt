-- Why the next token is refused after the tokens of a file that were taken so far.
use Rattle.std.specs.Prelude.{◌≡◌, ℕ, suc, ◌⊎◌, List, [], ◌∷◌, ◌++◌, length, Option, Some, None, slice_get}
use Rattle.cs_ast.specs.declared.token.TokenKind.{TokenKind}
use Rattle.cs_ast.specs.declared.token.TokenKind.TheVariants as token
use Rattle.cs_ast.specs.declared.token.Keyword.TheVariants as keyword
use Rattle.cs_ast.specs.declared.token.Punctuator.TheVariants as punctuator
use Rattle.cs_ast.specs.RawDeclarations.{Specs, Head}
use Rattle.cs_ast.specs.RawStatements.{Items, External, Definition}
use Rattle.cs_grammar.specs.declared.refusal.Reason.{Reason}
use Rattle.cs_grammar.specs.declared.refusal.Reason.TheVariants.{Syntax, Unsupported, TooDeep}
use Rattle.cs_grammar.specs.Text.{Kinds}
use Rattle.cs_grammar.specs.FileText.{punctuator_text, specs_text, head_text, items_text, externals_text, file_text}
use Rattle.cs_grammar.specs.FilePhrases.{IsFile, BeginsFile}
use Rattle.cs_grammar.specs.Refusals.{EndsWithTag}
use Rattle.cs_grammar.specs.Roles.{Role, closes_type, in_expression, declared_name, after_member, opens_list, file_roles}

-- a file of any height begins with these tokens, and its token after the first `following` ones has this role
pub record HasRole (front : Kinds) (following : ℕ) (role : Role) : Type 0 where
  pub file : List External
  pub more : Kinds
  pub is_file : IsFile [] file
  pub spelled : file_text file ≡ front ++ more
  pub there : slice_get (file_roles file) following ≡ Some role

-- a file that begins with these tokens has a token of this role next
abbrev pub MayHave : Kinds → Role → Type 0
MayHave front role = HasRole front (length front) role

-- the position after the tokens is inside a block: they contain the brace that opens a function's body, and not the one that
-- closes it
pub record IsInBlock (front : Kinds) : Type 0 where
  pub before : List External
  pub specs : Specs
  pub head : Head
  pub body : Items
  pub inside : Kinds
  pub more : Kinds
  pub is_file : IsFile [] (before ++ Definition specs head body ∷ [])
  pub within : items_text body [] ≡ inside ++ more
  pub spelled : front ≡ externals_text before (specs_text specs (head_text head (punctuator_text punctuator.OpenBrace inside)))

-- the position after the tokens is inside a block or inside an expression
abbrev pub IsInside : Kinds → Type 0
IsInside front = IsInBlock front ⊎ MayHave front in_expression ⊎ MayHave front closes_type

-- the last of the tokens closes the type of a cast or of `sizeof`
pub record IsAfterType (front : Kinds) : Type 0 where
  pub last : ℕ
  pub number : length front ≡ suc last
  pub closes : HasRole front last closes_type

-- the token is a word or punctuator of C that is unsupported after these tokens: an unsupported word or an ellipsis anywhere;
-- inside a block or an expression `static`, `typedef`, and a brace after `struct` or `enum` or its tag; a brace after a type
-- between parentheses; a parenthesis where a declarator's name may be; a colon after a member's declarator; a dot or a bracket
-- where an initializer may begin, and so an initializer list may
abbrev pub IsUnsupportedOfFile : Kinds → TokenKind → Type 0
IsUnsupportedOfFile front (token.Unsupported word) = Unit {0}
IsUnsupportedOfFile front (token.Punctuator punctuator.Ellipsis) = Unit {0}
IsUnsupportedOfFile front (token.Keyword keyword.Static) = IsInside front
IsUnsupportedOfFile front (token.Keyword keyword.Typedef) = IsInside front
IsUnsupportedOfFile front (token.Punctuator punctuator.OpenBrace) = (EndsWithTag front × IsInside front) ⊎ IsAfterType front
IsUnsupportedOfFile front (token.Punctuator punctuator.OpenParenthesis) = MayHave front declared_name
IsUnsupportedOfFile front (token.Punctuator punctuator.Colon) = MayHave front after_member
IsUnsupportedOfFile front (token.Punctuator punctuator.Dot) = MayHave front opens_list
IsUnsupportedOfFile front (token.Punctuator punctuator.OpenBracket) = MayHave front opens_list
IsUnsupportedOfFile front next = ⊥

-- a file of any height begins with the tokens and the next one; if there is no next one, the tokens are a file
abbrev pub GoesOn : Kinds → Option TokenKind → Type 0
GoesOn front (Some next) = BeginsFile (front ++ next ∷ [])
GoesOn front None = (file : List External) × IsFile [] file × (file_text file ≡ front)

-- the same for unsupported tokens: the end of input isn't one
abbrev pub IsUnsupportedNext : Kinds → Option TokenKind → Type 0
IsUnsupportedNext front (Some next) = IsUnsupportedOfFile front next
IsUnsupportedNext front None = ⊥

-- why the next token, or the end of input if there is none, is refused after these tokens, if no file within the limit continues
-- with it: too deep if a higher one does; unsupported if none does and the token is unsupported there
abbrev pub IsFileReason : Kinds → Option TokenKind → Reason → Type 0
IsFileReason front next TooDeep = GoesOn front next
IsFileReason front next Unsupported = (GoesOn front next → ⊥) × IsUnsupportedNext front next
IsFileReason front next Syntax = (GoesOn front next → ⊥) × (IsUnsupportedNext front next → ⊥)
