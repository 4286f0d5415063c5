-- Operands in the form that arithmetic on terms requires.
use Rattle.std.specs.Prelude.{◌≡◌, ℕ, None}
use Rattle.cs_terms.specs.declared.term.Lin.{Lin}
use Rattle.cs_constraints.specs.Constraints.{Sets, set_of}
use Rattle.cs_eval.specs.declared.question.Question.{Question}
use Rattle.cs_eval.specs.declared.question.Question.TheVariants as question
use Rattle.cs_eval.specs.Operands.{IsTermBetween, HaveSymbol, IsReadyOperand, IsSeveral, LOWEST, HIGHEST}

-- a part of an order test: constant, or over a symbol that can have two numbers, with values within the bounds of these parts
abbrev pub IsReadyPart : Sets → Lin → Type 0
IsReadyPart sets term = IsTermBetween sets LOWEST HIGHEST term × IsSeveral sets term

-- two prepared operands that aren't both constants, and a guess symbol that isn't declared yet
pub record IsBinary (sets : Sets) (guess : ℕ) (left right : Lin) : Type 0 where
  pub left_ready : IsReadyOperand sets left
  pub right_ready : IsReadyOperand sets right
  pub symbol : HaveSymbol left right
  pub fresh : set_of sets guess ≡ None

-- the operands of a question have that form
abbrev pub HasReadyOperands : Sets → Question → Type 0
HasReadyOperands sets (question.Binary op ty left right) = IsReadyOperand sets left × IsReadyOperand sets right
HasReadyOperands sets (question.Unary op ty term) = IsReadyOperand sets term
HasReadyOperands sets (question.Convert ty term) = IsReadyOperand sets term
HasReadyOperands sets (question.Compare op left right) = IsReadyOperand sets left × IsReadyOperand sets right
HasReadyOperands sets (question.Order first second) = IsReadyPart sets first × IsReadyPart sets second
HasReadyOperands sets (question.Product count size) = IsReadyOperand sets count × IsReadyOperand sets size
HasReadyOperands sets (question.Sum offset amount size) = IsReadyOperand sets offset × IsReadyOperand sets amount
HasReadyOperands sets (question.Difference left right size) = IsReadyOperand sets left × IsReadyOperand sets right
HasReadyOperands sets (question.Test tested term) = IsReadyOperand sets term
HasReadyOperands sets (question.Callee function) = Unit {0}
