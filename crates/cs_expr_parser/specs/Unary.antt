-- What precedes the operand of a unary expression.
use Rattle.std.specs.Prelude.{◌≡◌, Bool, true, false, Option, Some, None}
use Rattle.cs_ast.specs.declared.token.TokenKind.{TokenKind}
use Rattle.cs_ast.specs.declared.token.TokenKind.TheVariants as token
use Rattle.cs_ast.specs.declared.token.Keyword.TheVariants as keyword
use Rattle.cs_ast.specs.declared.token.Punctuator.TheVariants as punctuator
use Rattle.cs_ast.specs.declared.raw.operator.Step.{Step}
use Rattle.cs_ast.specs.declared.raw.operator.PrefixOp.{PrefixOp}
use Rattle.cs_ast.specs.RawTree.{Written, StepBefore, Prefix, SizeOf}
use Rattle.cs_grammar.specs.TypeWords.{Names}
use Rattle.cs_grammar.specs.Punctuators.{step_punctuator, prefix_punctuator}
use Rattle.cs_grammar.specs.FirstTokens.{begins_type}
use Rattle.cs_expr_parser.specs.declared.unary.Before.{Before}
use Rattle.cs_expr_parser.specs.declared.unary.Before.TheVariants as before

-- the first token opens a parenthesis, and the second begins a type
abbrev pub opens_type : Names → TokenKind → TokenKind → Bool
opens_type names (token.Punctuator punctuator.OpenParenthesis) second = begins_type names second
opens_type names other second = false

-- the token of a prefix
abbrev pub before_text : Before → TokenKind
before_text (before.Step by) = token.Punctuator (step_punctuator by)
before_text (before.Operator operator) = token.Punctuator (prefix_punctuator operator)
before_text before.Size = token.Keyword keyword.Sizeof

-- the result for a token: the prefix that it is, or none if it is none
abbrev pub IsOperatorAt : TokenKind → Option Before → Type 0
IsOperatorAt kind (Some found) = kind ≡ before_text found
IsOperatorAt kind None = (found : Before) → kind ≡ before_text found → ⊥

-- the expression of an operand with its prefix
abbrev pub prefixed_tree : Before → Written → Written
prefixed_tree (before.Step by) operand = StepBefore by operand
prefixed_tree (before.Operator operator) operand = Prefix operator operand
prefixed_tree before.Size operand = SizeOf operand
