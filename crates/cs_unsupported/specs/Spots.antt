-- The state after the tokens of a file, as far as it matters for the members of structures.
use Rattle.std.specs.Prelude.{Bool, true, false, List, [], ◌∷◌}
use Rattle.cs_ast.specs.declared.token.TokenKind.{TokenKind}
use Rattle.cs_ast.specs.declared.token.TokenKind.TheVariants as token
use Rattle.cs_ast.specs.declared.token.Keyword.{Keyword}
use Rattle.cs_ast.specs.declared.token.Keyword.TheVariants as keyword
use Rattle.cs_ast.specs.declared.token.Punctuator.{Punctuator}
use Rattle.cs_ast.specs.declared.token.Punctuator.TheVariants as punctuator
use Rattle.cs_grammar.specs.Text.{Kinds}
use Rattle.cs_unsupported.specs.declared.members.Phase.{Phase}
use Rattle.cs_unsupported.specs.declared.members.Phase.TheVariants.{Outside, Typing, Typed, Declared}
use Rattle.cs_unsupported.specs.declared.members.Last.{Last}
use Rattle.cs_unsupported.specs.declared.members.Last.TheVariants as last

-- the state since the innermost opening bracket, what the last tokens are, and the states around the open brackets, the innermost
-- first
pub record Spot : Type 0 where
  pub phase : Phase
  pub following : Last
  pub around : List Phase

-- before any token
abbrev pub the_start : Spot
the_start = record { phase = Outside; following = last.Other; around = [] }

-- a word that names a type
abbrev pub with_type : Phase → Phase
with_type Typing = Typed
with_type phase = phase

-- a name, which is that of a type or of a declarator, except after `struct` or `enum`
abbrev pub with_name : Phase → Last → Phase
with_name Outside following = Outside
with_name Typing following = Typed
with_name Declared following = Declared
with_name Typed last.Struct = Typed
with_name Typed last.Enum = Typed
with_name Typed following = Declared

-- after a name, in this state of the last tokens
abbrev pub name_after : Last → Last
name_after last.Struct = last.StructTag
name_after following = last.Other

-- a keyword
abbrev pub with_word : Keyword → Phase → Phase
with_word keyword.Char phase = with_type phase
with_word keyword.Short phase = with_type phase
with_word keyword.Int phase = with_type phase
with_word keyword.Long phase = with_type phase
with_word keyword.Signed phase = with_type phase
with_word keyword.Unsigned phase = with_type phase
with_word keyword.Void phase = with_type phase
with_word keyword.Struct phase = with_type phase
with_word keyword.Enum phase = with_type phase
with_word other phase = phase

abbrev pub word_after : Keyword → Last
word_after keyword.Struct = last.Struct
word_after keyword.Enum = last.Enum
word_after other = last.Other

-- after an opening brace
abbrev pub in_braces : Last → Phase
in_braces last.Struct = Typing
in_braces last.StructTag = Typing
in_braces following = Outside

-- after a semicolon
abbrev pub begun_anew : Phase → Phase
begun_anew Outside = Outside
begun_anew phase = Typing

-- after a comma
abbrev pub going_on : Phase → Phase
going_on Declared = Typed
going_on phase = phase

-- after an opening bracket
abbrev pub opened : Phase → Spot → Spot
opened inside s = record { phase = inside; following = last.Other; around = s.phase ∷ s.around }

-- after a closing bracket
abbrev pub closed : List Phase → Spot
closed [] = the_start
closed (phase ∷ around) = record { phase = phase; following = last.Other; around = around }

abbrev pub punctuator_step : Punctuator → Spot → Spot
punctuator_step punctuator.OpenBrace s = opened (in_braces s.following) s
punctuator_step punctuator.OpenParenthesis s = opened Outside s
punctuator_step punctuator.OpenBracket s = opened Outside s
punctuator_step punctuator.CloseBrace s = closed s.around
punctuator_step punctuator.CloseParenthesis s = closed s.around
punctuator_step punctuator.CloseBracket s = closed s.around
punctuator_step punctuator.Semicolon s = record { phase = begun_anew s.phase; following = last.Other; around = s.around }
punctuator_step punctuator.Comma s = record { phase = going_on s.phase; following = last.Other; around = s.around }
punctuator_step other s = record { phase = s.phase; following = last.Other; around = s.around }

-- after one more token
abbrev pub step : TokenKind → Spot → Spot
step (token.Name name) s = record { phase = with_name s.phase s.following; following = name_after s.following; around = s.around }
step (token.Keyword word) s = record { phase = with_word word s.phase; following = word_after word; around = s.around }
step (token.Punctuator punctuator) s = punctuator_step punctuator s
step other s = record { phase = s.phase; following = last.Other; around = s.around }

-- after some more tokens
abbrev pub run : Kinds → Spot → Spot
run [] s = s
run (kind ∷ kinds) s = run kinds (step kind s)

-- a member's declarator is last
abbrev pub is_declared : Phase → Bool
is_declared Declared = true
is_declared phase = false
