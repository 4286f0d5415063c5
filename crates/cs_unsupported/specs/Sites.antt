-- The state after the tokens of a file, as far as it matters for what is inside a block or an expression.
use Rattle.std.specs.Prelude.{Bool, true, false, List, [], ◌∷◌}
use Rattle.cs_ast.specs.declared.token.TokenKind.{TokenKind}
use Rattle.cs_ast.specs.declared.token.TokenKind.TheVariants as token
use Rattle.cs_ast.specs.declared.token.Keyword.{Keyword}
use Rattle.cs_ast.specs.declared.token.Keyword.TheVariants as keyword
use Rattle.cs_ast.specs.declared.token.Punctuator.{Punctuator}
use Rattle.cs_ast.specs.declared.token.Punctuator.TheVariants as punctuator
use Rattle.cs_grammar.specs.Text.{Kinds}
use Rattle.cs_unsupported.specs.declared.inside.Part.{Part}
use Rattle.cs_unsupported.specs.declared.inside.Part.TheVariants as part
use Rattle.cs_unsupported.specs.declared.inside.Where.{Where}
use Rattle.cs_unsupported.specs.declared.inside.Where.TheVariants.{Declaration, ListedValue, Constants, ListedItem, Inside}
use Rattle.cs_unsupported.specs.declared.inside.Tagging.{Tagging}
use Rattle.cs_unsupported.specs.declared.inside.Tagging.TheVariants as tagging

-- the state since the innermost opening bracket, what the last tokens are, and the states around the open brackets, the innermost
-- first
pub record Site : Type 0 where
  pub within : Where
  pub following : Tagging
  pub around : List Where

-- before any token
abbrev pub the_first : Site
the_first = record { within = Declaration; following = tagging.Nothing; around = [] }

-- after a name
abbrev pub tag_after : Tagging → Tagging
tag_after tagging.Struct = tagging.StructTag
tag_after tagging.Enum = tagging.EnumTag
tag_after following = tagging.Nothing

-- after a keyword
abbrev pub tagging_after : Keyword → Tagging
tagging_after keyword.Struct = tagging.Struct
tagging_after keyword.Enum = tagging.Enum
tagging_after other = tagging.Nothing

-- after a bracket or a parenthesis at such a position
abbrev pub deeper : Part → Part
deeper part.Body = part.Body
deeper part.BodyChoice = part.Body
deeper other = part.Nested

-- after `?` at such a position
abbrev pub chosen : Part → Part
chosen part.Body = part.BodyChoice
chosen part.BodyChoice = part.BodyChoice
chosen other = part.Choice

abbrev pub in_parenthesis : Where → Where
in_parenthesis (Inside place) = Inside (deeper place)
in_parenthesis within = within

abbrev pub in_bracket : Where → Where
in_bracket (Inside place) = Inside (deeper place)
in_bracket within = Inside part.Nested

-- after a brace: the members or constants of a type, the body of a function, or an initializer list
abbrev pub in_brace : Where → Tagging → Where
in_brace Declaration tagging.Struct = Declaration
in_brace Declaration tagging.StructTag = Declaration
in_brace Declaration tagging.Enum = Constants
in_brace Declaration tagging.EnumTag = Constants
in_brace Declaration tagging.Nothing = Inside part.Body
in_brace (Inside part.Body) following = Inside part.Body
in_brace (Inside part.BodyChoice) following = Inside part.Body
in_brace within following = Inside part.Item

-- the state around a brace, after the closing one
abbrev pub around_brace : Where → Where
around_brace (Inside part.Value) = ListedValue
around_brace (Inside part.Item) = ListedItem
around_brace within = within

abbrev pub opened : Where → Where → Site → Site
opened inside outside s = record { within = inside; following = tagging.Nothing; around = outside ∷ s.around }

abbrev pub closed : List Where → Site
closed [] = the_first
closed (within ∷ around) = record { within = within; following = tagging.Nothing; around = around }

abbrev pub settled : Where → Site → Site
settled within s = record { within = within; following = tagging.Nothing; around = s.around }

-- after `=`
abbrev pub with_equal : Where → Where
with_equal Declaration = Inside part.Value
with_equal Constants = Inside part.Constant
with_equal within = within

-- after a comma
abbrev pub with_comma : Where → Where
with_comma (Inside part.Value) = Declaration
with_comma ListedValue = Declaration
with_comma (Inside part.Constant) = Constants
with_comma ListedItem = Inside part.Item
with_comma within = within

-- after a semicolon
abbrev pub with_semicolon : Where → Where
with_semicolon (Inside part.Value) = Declaration
with_semicolon ListedValue = Declaration
with_semicolon within = within

-- after `?`
abbrev pub with_question : Where → Site → Site
with_question (Inside place) s = opened (Inside (chosen place)) (Inside place) s
with_question within s = settled within s

-- after a colon
abbrev pub with_colon : Where → Site → Site
with_colon (Inside part.Choice) s = closed s.around
with_colon (Inside part.BodyChoice) s = closed s.around
with_colon within s = settled within s

-- after another punctuator
abbrev pub after_punctuator : Punctuator → Where → Where
after_punctuator punctuator.Equal within = with_equal within
after_punctuator punctuator.Comma within = with_comma within
after_punctuator punctuator.Semicolon within = with_semicolon within
after_punctuator other within = within

abbrev pub punctuator_step : Punctuator → Site → Site
punctuator_step punctuator.OpenBrace s = opened (in_brace s.within s.following) (around_brace s.within) s
punctuator_step punctuator.OpenParenthesis s = opened (in_parenthesis s.within) s.within s
punctuator_step punctuator.OpenBracket s = opened (in_bracket s.within) s.within s
punctuator_step punctuator.CloseBrace s = closed s.around
punctuator_step punctuator.CloseParenthesis s = closed s.around
punctuator_step punctuator.CloseBracket s = closed s.around
punctuator_step punctuator.Question s = with_question s.within s
punctuator_step punctuator.Colon s = with_colon s.within s
punctuator_step other s = settled (after_punctuator other s.within) s

-- after one more token
abbrev pub step : TokenKind → Site → Site
step (token.Name name) s = record { within = s.within; following = tag_after s.following; around = s.around }
step (token.Keyword word) s = record { within = s.within; following = tagging_after word; around = s.around }
step (token.Punctuator punctuator) s = punctuator_step punctuator s
step other s = settled s.within s

-- after some more tokens
abbrev pub run : Kinds → Site → Site
run [] s = s
run (kind ∷ kinds) s = run kinds (step kind s)

-- inside a block or an expression
abbrev pub is_inside : Where → Bool
is_inside (Inside place) = true
is_inside within = false

-- inside a block
abbrev pub is_in_body : Where → Bool
is_in_body (Inside part.Body) = true
is_in_body (Inside part.BodyChoice) = true
is_in_body within = false

-- the last tokens are `struct` or `enum`, with or without a tag
abbrev pub is_tagging : Tagging → Bool
is_tagging tagging.Nothing = false
is_tagging following = true
