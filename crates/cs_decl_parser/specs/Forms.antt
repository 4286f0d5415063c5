-- Forms of statements: the height of the least statement of a form, and the number of tokens that determine the form.
use Rattle.std.specs.Prelude.{◌≡◌, ℕ, ◌+◌, ◌≤◌, Bool, true, false, if◌then◌else◌, List, Option, Some, None, length}
use Rattle.cs_ast.specs.declared.token.Token.{Token}
use Rattle.cs_ast.specs.declared.token.TokenKind.{TokenKind}
use Rattle.cs_ast.specs.declared.token.TokenKind.TheVariants as token
use Rattle.cs_ast.specs.declared.token.Keyword.{Keyword}
use Rattle.cs_ast.specs.declared.token.Keyword.TheVariants as keyword
use Rattle.cs_ast.specs.declared.token.Punctuator.{Punctuator}
use Rattle.cs_ast.specs.declared.token.Punctuator.TheVariants as punctuator
use Rattle.cs_ast.specs.RawStatements.{Sentence, Continue, Break}
use Rattle.cs_grammar.specs.TypeWords.{Names, is_among}
use Rattle.cs_decl_parser.specs.declared.form.Form.{Form}
use Rattle.cs_decl_parser.specs.declared.form.Form.TheVariants as form

-- the height of the least statement of the form; that of an expression is determined by its own parser
abbrev pub least : Form → ℕ
least form.Block = 1
least form.Empty = 1
least form.If = 2
least form.While = 2
least form.Do = 2
least form.For = 2
least form.Switch = 2
least form.Goto = 1
least form.Continue = 1
least form.Break = 1
least form.Return = 1
least form.Label = 2
least form.Unlabelled = 2
least form.Run = 0

-- the number of tokens that determine the form
abbrev pub reported_by : Form → ℕ
reported_by form.Label = 2
reported_by form.Run = 0
reported_by other = 1

-- the tokens that determine the form exist
abbrev pub IsFormAt : List Token → ℕ → Form → Type 0
IsFormAt tokens at form = (at ≤ length tokens) → at + reported_by form ≤ length tokens

-- the form of the statements that begin with a keyword
abbrev pub keyword_form : Keyword → Form
keyword_form keyword.If = form.If
keyword_form keyword.While = form.While
keyword_form keyword.Do = form.Do
keyword_form keyword.For = form.For
keyword_form keyword.Switch = form.Switch
keyword_form keyword.Goto = form.Goto
keyword_form keyword.Continue = form.Continue
keyword_form keyword.Break = form.Break
keyword_form keyword.Return = form.Return
keyword_form other = form.Run

abbrev pub word_form : Option Keyword → Form
word_form None = form.Run
word_form (Some k) = keyword_form k

-- the form of the statements that begin with a punctuator
abbrev pub punctuator_form : Punctuator → Form
punctuator_form punctuator.OpenBrace = form.Block
punctuator_form punctuator.Semicolon = form.Empty
punctuator_form other = form.Run

-- the token is a colon
abbrev pub is_colon : TokenKind → Bool
is_colon (token.Punctuator punctuator.Colon) = true
is_colon other = false

-- the form of the statements that begin with a name, which may be a typedef name
abbrev pub name_form : Bool → Bool → Form
name_form colon typedef = if colon then form.Label else (if typedef then form.Unlabelled else form.Run)

-- the form of the statements that begin with a token, determined by the one after it
abbrev pub form_of : Names → TokenKind → TokenKind → Form
form_of names (token.Name name) second = name_form (is_colon second) (is_among names name)
form_of names (token.Punctuator m) second = punctuator_form m
form_of names (token.Keyword k) second = keyword_form k
form_of names other second = form.Run

-- the tokens are a name followed by a colon
abbrev pub is_labelled : TokenKind → TokenKind → Bool
is_labelled (token.Name name) second = is_colon second
is_labelled other second = false

-- the keyword is that of this statement
abbrev pub IsJump : TokenKind → Sentence → Type 0
IsJump (token.Keyword keyword.Continue) statement = statement ≡ Continue
IsJump (token.Keyword keyword.Break) statement = statement ≡ Break
IsJump other statement = ⊥
