-- Why a token is refused, depending on what precedes it.
use Rattle.std.specs.Prelude.{Bool, true, false, ◌&&◌, ◌||◌, if◌then◌else◌}
use Rattle.cs_ast.specs.declared.token.TokenKind.{TokenKind}
use Rattle.cs_ast.specs.RawTree.{Written, Named, Numeral, Character, Literal, Enclosed, Index, Call, Member, Arrow, StepAfter, StepBefore, Prefix, SizeOf}
use Rattle.cs_ast.specs.RawTree.{SizeOfType, Cast, Infix, Choice, Assign, Comma}
use Rattle.cs_grammar.specs.declared.refusal.Reason.{Reason}
use Rattle.cs_grammar.specs.declared.refusal.Reason.TheVariants.{Syntax, Unsupported, TooDeep}
use Rattle.cs_expr_parser.specs.Positions.{is_unsupported, is_brace}

-- the last part of an expression is a type between parentheses
abbrev pub ends_in_type : Written → Bool
ends_in_type (SizeOfType words pointers bounds) = true
ends_in_type (StepBefore step object) = ends_in_type object
ends_in_type (Prefix operator operand) = ends_in_type operand
ends_in_type (SizeOf operand) = ends_in_type operand
ends_in_type (Cast words pointers bounds operand) = ends_in_type operand
ends_in_type (Infix operator left right) = ends_in_type right
ends_in_type (Choice test one other) = ends_in_type other
ends_in_type (Assign operator object value) = ends_in_type value
ends_in_type (Comma first second) = ends_in_type second
ends_in_type other = false

-- why a token is refused with which no phrase of any height continues; `after_type`: it follows a type or a tag
abbrev pub plain_reason : TokenKind → Bool → Reason
plain_reason next after_type = if is_unsupported next || (after_type && is_brace next) then Unsupported else Syntax

-- why a token is refused; `deep`: a phrase above the limit continues with it
abbrev pub reason_of : Bool → TokenKind → Bool → Reason
reason_of deep next after_type = if deep then TooDeep else plain_reason next after_type
