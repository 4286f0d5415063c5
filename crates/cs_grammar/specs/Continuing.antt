-- Which tokens continue an expression, and the level of the expression that they form.
use Rattle.std.specs.Prelude.{ℕ, [], ◌∷◌}
use Rattle.cs_ast.specs.declared.token.TokenKind.{TokenKind}
use Rattle.cs_ast.specs.declared.token.TokenKind.TheVariants as token
use Rattle.cs_ast.specs.declared.token.Punctuator.{Punctuator}
use Rattle.cs_ast.specs.declared.token.Punctuator.TheVariants as punctuator
use Rattle.cs_grammar.specs.Text.{Kinds}

-- one more than the level of the expressions that continue with this punctuator after an operand, 0 if there are none
abbrev pub punctuator_join : Punctuator → ℕ
punctuator_join punctuator.Comma = 1
punctuator_join punctuator.Equal = 2
punctuator_join punctuator.StarEqual = 2
punctuator_join punctuator.SlashEqual = 2
punctuator_join punctuator.PercentEqual = 2
punctuator_join punctuator.PlusEqual = 2
punctuator_join punctuator.MinusEqual = 2
punctuator_join punctuator.ShiftLeftEqual = 2
punctuator_join punctuator.ShiftRightEqual = 2
punctuator_join punctuator.AmpersandEqual = 2
punctuator_join punctuator.CaretEqual = 2
punctuator_join punctuator.BarEqual = 2
punctuator_join punctuator.Question = 3
punctuator_join punctuator.BarBar = 4
punctuator_join punctuator.AndAnd = 5
punctuator_join punctuator.Bar = 6
punctuator_join punctuator.Caret = 7
punctuator_join punctuator.Ampersand = 8
punctuator_join punctuator.EqualEqual = 9
punctuator_join punctuator.Differs = 9
punctuator_join punctuator.Less = 10
punctuator_join punctuator.AtMost = 10
punctuator_join punctuator.More = 10
punctuator_join punctuator.AtLeast = 10
punctuator_join punctuator.ShiftLeft = 11
punctuator_join punctuator.ShiftRight = 11
punctuator_join punctuator.Plus = 12
punctuator_join punctuator.Minus = 12
punctuator_join punctuator.Star = 13
punctuator_join punctuator.Slash = 13
punctuator_join punctuator.Percent = 13
punctuator_join punctuator.OpenBracket = 16
punctuator_join punctuator.OpenParenthesis = 16
punctuator_join punctuator.Dot = 16
punctuator_join punctuator.Arrow = 16
punctuator_join punctuator.Increment = 16
punctuator_join punctuator.Decrement = 16
punctuator_join other = 0

-- the same for a token
abbrev pub join : TokenKind → ℕ
join (token.Punctuator punctuator) = punctuator_join punctuator
join other = 0

-- the same for the first of these tokens, 0 if there is none
abbrev pub join_of : Kinds → ℕ
join_of [] = 0
join_of (first ∷ others) = join first
