-- The operands of a question of integer code are integers of C, under each valuation that fits: for `HasReasonAt`.
use Rattle.std.proofs.Common.{◌≡◌, ℤ, pos, List, Option, None, Some, refl, sym, ap, subst, arith}
use Rattle.std.specs.Prelude.{is_some}
use Rattle.cs_types.specs.IntType.{IsIntegerOfC}
use Rattle.cs_ranges.specs.declared.range_set.Interval.{Interval}
use Rattle.cs_ast.specs.declared.typed.operator.BinOp.{BinOp}
use Rattle.cs_ast.specs.declared.typed.operator.BinOp.TheVariants.{Add, Sub, Mul, Div, Rem, Shl, Shr, And, Xor, Or}
use Rattle.cs_terms.specs.declared.symbol.Sym.{Sym}
use Rattle.cs_terms.specs.declared.term.Lin.{Lin}
use Rattle.cs_terms.specs.Term.{Valuation, value_of, value_with}
use Rattle.cs_terms.proofs.Small.{integer_small}
use Rattle.cs_constraints.specs.Constraints.{Sets, set_of, Fits}
use Rattle.cs_constraints.proofs.Assuming.{value_of-symbol}
use Rattle.cs_compared.specs.Computable.{IsShiftedBy, IsComputable}
use Rattle.cs_compared.specs.Wide.{IsSmall}
use Rattle.cs_eval.specs.declared.question.Question.{Question}
use Rattle.cs_eval.specs.declared.question.Question.TheVariants as question
use Rattle.cs_eval.specs.Operands.{IsReadyOperand}
use Rattle.cs_eval.specs.Questions.{operation_of}
use Rattle.cs_eval.specs.Ready.{HasReadyOperands}
use Rattle.cs_corners.specs.Corners.{operands_under}
use Rattle.cs_successors.specs.Coming.{IsCheckedRight, IsAskedByIntegers}

-- integers of C are small
small_one : (x : ℤ) → IsIntegerOfC x → IsSmall (x, pos 0)
small_one x integer = let bound = integer_small x integer in record { left = omega (arith, bound); right = omega arith }

small_both : (x y : ℤ) → IsIntegerOfC x → IsIntegerOfC y → IsSmall (x, y)
small_both x y first second =
    let one = integer_small x first in
    let other = integer_small y second in
    record { left = omega (arith, one); right = omega (arith, other) }

-- a count that was checked
shifted_by : (op : BinOp) (right : ℤ) → IsCheckedRight op right → IsShiftedBy op right
shifted_by Shl right is = is
shifted_by Add right is = tt
shifted_by Sub right is = tt
shifted_by Mul right is = tt
shifted_by Div right is = tt
shifted_by Rem right is = tt
shifted_by Shr right is = tt
shifted_by And right is = tt
shifted_by Xor right is = tt
shifted_by Or right is = tt

module _ (sets : Sets) (v : Valuation) (fits : Fits v sets) where
  integer : (term : Lin) → IsReadyOperand sets term → IsIntegerOfC (value_of v term)
  integer term is = by term.sym refl
    where
      by_set : (s : Sym) → term.sym ≡ Some s → (known : Option (List Interval)) → set_of sets s.0 ≡ known → IsIntegerOfC (value_of v term)
      by_set s over None unknown = absurd (is.integers.declared s over unknown)
      by_set s over (Some set) known =
          subst IsIntegerOfC (sym (value_of-symbol v term s over)) (is.integers.values s set over known (v s.0) (fits s.0 set known))

      by : (symbol : Option Sym) → term.sym ≡ symbol → IsIntegerOfC (value_of v term)
      by None none =
          subst IsIntegerOfC (sym (ap (λ (o : Option Sym). value_with v o term.slope term.at term.value) none)) (is.integers.constant (ap is_some none))
      by (Some s) over = by_set s over (set_of sets s.0) refl

  pub computable : (asked : Question) → HasReadyOperands sets asked → IsAskedByIntegers (operation_of v asked) → IsComputable (operation_of v asked)
  computable (question.Binary op ty left right) are is = (integer left are.0, integer right are.1, shifted_by op (value_of v right) is)
  computable (question.Convert ty term) are is = integer term are
  computable (question.Unary op ty term) are is = tt
  computable (question.Compare op left right) are is = tt
  computable (question.Order first second) are is = tt
  computable (question.Product count size) are is = tt
  computable (question.Sum offset amount size) are is = tt
  computable (question.Difference left right size) are is = tt
  computable (question.Test tested term) are is = tt
  computable (question.Callee function) are is = tt

  pub small : (asked : Question) → HasReadyOperands sets asked → IsAskedByIntegers (operation_of v asked) → IsSmall (operands_under asked v)
  small (question.Binary op ty left right) are is = small_both (value_of v left) (value_of v right) (integer left are.0) (integer right are.1)
  small (question.Unary op ty term) are is = small_one (value_of v term) (integer term are)
  small (question.Convert ty term) are is = small_one (value_of v term) (integer term are)
  small (question.Compare op left right) are is = small_both (value_of v left) (value_of v right) (integer left are.0) (integer right are.1)
  small (question.Order first second) are is = absurd is
  small (question.Product count size) are is = absurd is
  small (question.Sum offset amount size) are is = absurd is
  small (question.Difference left right size) are is = absurd is
  small (question.Test tested term) are is = record { left = omega arith; right = omega arith }
  small (question.Callee function) are is = record { left = omega arith; right = omega arith }
