-- Tokens whose constants aren't too wide for the types of their lists (C11 6.4.4, paragraph 2).
use Rattle.std.specs.Prelude.{◌≡◌, ◌^◌, ◌<◌, true, false, List, FitsSigned}
use Rattle.std.specs.List.{All}
use Rattle.std.specs.Int.{w32}
use Rattle.cs_ast.specs.declared.token.IntegerConstant.{IntegerConstant}
use Rattle.cs_ast.specs.declared.token.Token.{Token}
use Rattle.cs_ast.specs.declared.token.TokenKind.{TokenKind}
use Rattle.cs_ast.specs.declared.token.TokenKind.TheVariants as token

-- an integer constant that a type of its list can represent: a decimal one without `u` has only signed types (C11 6.4.4.1,
-- paragraph 5)
pub record IsHeldConstant (k : IntegerConstant) : Type 0 where
  pub fits : k.value < 2 ^ 64
  pub fits_signed : k.decimal ≡ true → k.unsigned ≡ false → k.value < 2 ^ 63

-- a token that is no constant, or a constant that isn't too wide; the value of a character constant fits `int`
abbrev pub IsHeldToken : TokenKind → Type 0
IsHeldToken (token.Number constant) = IsHeldConstant constant
IsHeldToken (token.Character value) = FitsSigned w32 value
IsHeldToken other = Unit {0}

-- the same for a token with its position, and for each token of a text
abbrev pub IsHeld : Token → Type 0
IsHeld t = IsHeldToken t.kind

abbrev pub AreHeld : List Token → Type 0
AreHeld tokens = All IsHeld tokens
