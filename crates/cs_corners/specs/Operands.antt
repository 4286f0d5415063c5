-- Conditions on the operands of a question, under which it has corners.
use Rattle.std.specs.Prelude.{◌≢◌, ◌≤ℤ◌, ◌≡◌, ℤ, pos, IsTrue, List, Some}
use Rattle.cs_ranges.specs.declared.range_set.Interval.{Interval}
use Rattle.cs_ranges.specs.RangeSet.{contains}
use Rattle.cs_ast.specs.declared.typed.operator.BinOp.{BinOp}
use Rattle.cs_ast.specs.declared.typed.operator.BinOp.TheVariants.{Rem}
use Rattle.cs_terms.specs.declared.symbol.Sym.{Sym}
use Rattle.cs_terms.specs.declared.term.Lin.{Lin}
use Rattle.cs_terms.specs.Term.{Valuation, value_of, value_at, IsTerm}
use Rattle.cs_constraints.specs.Constraints.{Sets, set_of, IsDeclared}
use Rattle.cs_eval.specs.declared.question.Question.{Question}
use Rattle.cs_eval.specs.declared.question.Question.TheVariants as question
use Rattle.cs_eval.specs.Operands.{IsFixed}

-- a term whose symbol, if it has one, is declared
pub record IsOperand (sets : Sets) (term : Lin) : Type 0 where
  pub is_term : IsTerm term
  pub declared : IsDeclared sets term.sym

-- an operand that is a count: its values aren't below 0, nor is its value under this valuation
pub record IsCount (sets : Sets) (v : Valuation) (term : Lin) : Type 0 where
  pub operand : IsOperand sets term
  pub values : (sym : Sym) (set : List Interval) → term.sym ≡ Some sym → set_of sets sym.0 ≡ Some set → (x : ℤ) → IsTrue (contains set x)
      → pos 0 ≤ℤ value_at term x
  pub here : pos 0 ≤ℤ value_of v term

-- all operands of a question are such terms. Only those of the order test of `calloc` have to be counts
abbrev pub HasOperands : Sets → Valuation → Question → Type 0
HasOperands sets v (question.Binary op ty left right) = IsOperand sets left × IsOperand sets right
HasOperands sets v (question.Unary op ty term) = Unit {0}
HasOperands sets v (question.Convert ty term) = IsOperand sets term
HasOperands sets v (question.Compare op left right) = IsOperand sets left × IsOperand sets right
HasOperands sets v (question.Order first second) = IsOperand sets first × IsOperand sets second
HasOperands sets v (question.Product count size) = IsCount sets v count × IsCount sets v size
HasOperands sets v (question.Sum offset amount size) = IsOperand sets offset × IsOperand sets amount
HasOperands sets v (question.Difference left right size) = IsOperand sets left × IsOperand sets right
HasOperands sets v (question.Test tested term) = Unit {0}
HasOperands sets v (question.Callee function) = Unit {0}

-- a constant divisor of a remainder isn't 0
abbrev pub HasDivisorOf : BinOp → Sets → Valuation → Lin → Type 0
HasDivisorOf Rem sets v right = IsFixed sets right → value_of v right ≢ pos 0
HasDivisorOf op sets v right = Unit {0}

abbrev pub HasDivisor : Sets → Valuation → Question → Type 0
HasDivisor sets v (question.Binary op ty left right) = HasDivisorOf op sets v right
HasDivisor sets v asked = Unit {0}
