-- The operands of a noted question have the form that corners require.
use Rattle.cs_ast.specs.declared.typed.operator.BinOp.{BinOp}
use Rattle.cs_ast.specs.declared.typed.operator.BinOp.TheVariants.{Add, Sub, Mul, Div, Rem, Shl, Shr, And, Xor, Or}
use Rattle.cs_terms.specs.declared.term.Lin.{Lin}
use Rattle.cs_terms.specs.Term.{Valuation, value_of}
use Rattle.cs_constraints.specs.Constraints.{Sets}
use Rattle.cs_eval.specs.declared.question.Question.{Question}
use Rattle.cs_eval.specs.declared.question.Question.TheVariants as question
use Rattle.cs_eval.specs.Operands.{IsReadyOperand}
use Rattle.cs_eval.specs.Questions.{operation_of}
use Rattle.cs_eval.specs.Ready.{IsReadyPart, HasReadyOperands}
use Rattle.cs_corners.specs.Operands.{IsOperand, HasOperands, HasDivisorOf, HasDivisor}
use Rattle.cs_successors.specs.Coming.{IsCheckedRight, IsAskedByIntegers}

-- the question isn't the order test of `calloc`, whose operands also have to be numbers from 0
abbrev pub IsNoProduct : Question → Type 0
IsNoProduct (question.Product count size) = ⊥
IsNoProduct other = Unit {0}

module _ (sets : Sets) where
  ready : (term : Lin) → IsReadyOperand sets term → IsOperand sets term
  ready term is = record { is_term = is.prepared.is_term; declared = is.prepared.declared }

  ready_part : (term : Lin) → IsReadyPart sets term → IsOperand sets term
  ready_part term is = record { is_term = is.0.is_term; declared = is.0.declared }

  module _ (v : Valuation) where
    pub operands_of : (asked : Question) → IsNoProduct asked → HasReadyOperands sets asked → HasOperands sets v asked
    operands_of (question.Binary op ty left right) none are = (ready left are.0, ready right are.1)
    operands_of (question.Unary op ty term) none are = tt
    operands_of (question.Convert ty term) none are = ready term are
    operands_of (question.Compare op left right) none are = (ready left are.0, ready right are.1)
    operands_of (question.Order first second) none are = (ready_part first are.0, ready_part second are.1)
    operands_of (question.Product count size) none are = absurd none
    operands_of (question.Sum offset amount size) none are = (ready offset are.0, ready amount are.1)
    operands_of (question.Difference left right size) none are = (ready left are.0, ready right are.1)
    operands_of (question.Test tested term) none are = tt
    operands_of (question.Callee function) none are = tt

    divisor_by : (op : BinOp) (right : Lin) → IsCheckedRight op (value_of v right) → HasDivisorOf op sets v right
    divisor_by Rem right some = λ f. some
    divisor_by Div right some = tt
    divisor_by Add right some = tt
    divisor_by Sub right some = tt
    divisor_by Mul right some = tt
    divisor_by Shl right some = tt
    divisor_by Shr right some = tt
    divisor_by And right some = tt
    divisor_by Xor right some = tt
    divisor_by Or right some = tt

    -- integer code doesn't divide by 0
    pub divisor_of : (asked : Question) → IsAskedByIntegers (operation_of v asked) → HasDivisor sets v asked
    divisor_of (question.Binary op ty left right) is = divisor_by op right is
    divisor_of (question.Unary op ty term) is = tt
    divisor_of (question.Convert ty term) is = tt
    divisor_of (question.Compare op left right) is = tt
    divisor_of (question.Order first second) is = tt
    divisor_of (question.Product count size) is = tt
    divisor_of (question.Sum offset amount size) is = tt
    divisor_of (question.Difference left right size) is = tt
    divisor_of (question.Test tested term) is = tt
    divisor_of (question.Callee function) is = tt

    -- and doesn't ask for the order test of an allocation
    pub no_product : (asked : Question) → IsAskedByIntegers (operation_of v asked) → IsNoProduct asked
    no_product (question.Product count size) is = is
    no_product (question.Binary op ty left right) is = tt
    no_product (question.Unary op ty term) is = tt
    no_product (question.Convert ty term) is = tt
    no_product (question.Compare op left right) is = tt
    no_product (question.Order first second) is = tt
    no_product (question.Sum offset amount size) is = tt
    no_product (question.Difference left right size) is = tt
    no_product (question.Test tested term) is = tt
    no_product (question.Callee function) is = tt
