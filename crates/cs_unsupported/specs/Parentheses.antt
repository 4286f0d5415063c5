-- The state after the tokens of an external declaration, as far as it matters for types between parentheses.
use Rattle.std.specs.Prelude.{Bool, true, false, List, [], ◌∷◌}
use Rattle.cs_ast.specs.declared.token.TokenKind.{TokenKind}
use Rattle.cs_ast.specs.declared.token.TokenKind.TheVariants as token
use Rattle.cs_ast.specs.declared.token.Keyword.{Keyword}
use Rattle.cs_ast.specs.declared.token.Keyword.TheVariants as keyword
use Rattle.cs_ast.specs.declared.token.Punctuator.{Punctuator}
use Rattle.cs_ast.specs.declared.token.Punctuator.TheVariants as punctuator
use Rattle.cs_grammar.specs.TypeWords.{Names, is_among}
use Rattle.cs_grammar.specs.FirstTokens.{keyword_begins_type}
use Rattle.cs_grammar.specs.Text.{Kinds}
use Rattle.cs_unsupported.specs.declared.types.Following.{Following}
use Rattle.cs_unsupported.specs.declared.types.Following.TheVariants.{Opening, Name, For, Other}

-- the last token, whether the innermost open parenthesis holds a type, and whether those around it do, the innermost first
pub record Parens : Type 0 where
  pub following : Following
  pub holds : Bool
  pub around : List Bool

-- before any token
abbrev pub the_outside : Parens
the_outside = record { following = Other; holds = false; around = [] }

-- after an opening parenthesis: one after a name or `for` doesn't hold a type
abbrev pub opening : Following → Following
opening Name = Other
opening For = Other
opening _ = Opening

-- after a word, from whether it begins a type
abbrev pub begun : Following → Bool → Bool → Bool
begun Opening true holds = true
begun following begins holds = holds

abbrev pub word_after : Keyword → Following
word_after keyword.For = For
word_after other = Other

abbrev pub closed : List Bool → Parens
closed [] = the_outside
closed (holds ∷ around) = record { following = Other; holds = holds; around = around }

abbrev pub punctuator_step : Punctuator → Parens → Parens
punctuator_step punctuator.OpenParenthesis s = record { following = opening s.following; holds = false; around = s.holds ∷ s.around }
punctuator_step punctuator.CloseParenthesis s = closed s.around
punctuator_step other s = record { following = Other; holds = s.holds; around = s.around }

-- after one more token
abbrev pub step : Names → TokenKind → Parens → Parens
step names (token.Name name) s = record { following = Name; holds = begun s.following (is_among names name) s.holds; around = s.around }
step names (token.Keyword word) s = record { following = word_after word; holds = begun s.following (keyword_begins_type word) s.holds; around = s.around }
step names (token.Punctuator punctuator) s = punctuator_step punctuator s
step names other s = record { following = Other; holds = s.holds; around = s.around }

-- the token closes a type
abbrev pub closes : TokenKind → Bool → Bool
closes (token.Punctuator punctuator.CloseParenthesis) holds = holds
closes other holds = false

-- the last of some more tokens closes a type, if there are some
abbrev pub run : Names → Kinds → Parens → Bool → Bool
run names [] s last = last
run names (kind ∷ kinds) s last = run names kinds (step names kind s) (closes kind s.holds)
