-- The operator that a token is.
use Rattle.std.specs.Prelude.{◌≡◌, ℕ, Option, Some, None}
use Rattle.cs_ast.specs.declared.token.TokenKind.{TokenKind}
use Rattle.cs_ast.specs.declared.token.TokenKind.TheVariants as token
use Rattle.cs_ast.specs.declared.raw.operator.InfixOp.{InfixOp}
use Rattle.cs_ast.specs.declared.raw.operator.AssignOp.{AssignOp}
use Rattle.cs_grammar.specs.Levels.{infix_level}
use Rattle.cs_grammar.specs.Punctuators.{infix_punctuator, assign_punctuator}

-- the result for a token: its operator of this level, or none if it is none
abbrev pub IsInfixAt : ℕ → TokenKind → Option InfixOp → Type 0
IsInfixAt level kind (Some operator) = (kind ≡ token.Punctuator (infix_punctuator operator)) × (infix_level operator ≡ level)
IsInfixAt level kind None = (operator : InfixOp) → kind ≡ token.Punctuator (infix_punctuator operator) → infix_level operator ≡ level → ⊥

-- the result for a token: its assignment operator, or none if it is none
abbrev pub IsAssignAt : TokenKind → Option AssignOp → Type 0
IsAssignAt kind (Some operator) = kind ≡ token.Punctuator (assign_punctuator operator)
IsAssignAt kind None = (operator : AssignOp) → kind ≡ token.Punctuator (assign_punctuator operator) → ⊥
