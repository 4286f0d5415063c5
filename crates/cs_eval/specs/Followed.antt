-- Which operations are followed exactly, and which numbers may be guessed for the others.
use Rattle.std.specs.Prelude.{◌≡◌, ◌⊎◌, ℕ, ◌≤◌, ◌-◌, Bool, true, false, ℤ, pos, neg_ℤ, ◌+ℤ◌, ◌-ℤ◌, ◌*ℤ◌}
use Rattle.std.specs.Prelude.{◌≤ℤ◌, unsigned_abs, int_le}
use Rattle.std.specs.Prelude.{List, Some}
use Rattle.cs_ranges.specs.declared.range_set.Interval.{Interval}
use Rattle.cs_ranges.specs.RangeSet.{IsOnly}
use Rattle.cs_types.specs.declared.data_model.DataModel.{DataModel}
use Rattle.cs_types.specs.declared.int_type.IntType.{IntType}
use Rattle.cs_types.specs.IntType.{InRange, has_sign}
use Rattle.cs_types.specs.DataModel.{difference_type_of, offset_bound_of, product_bound_of}
use Rattle.cs_ast.specs.declared.typed.operator.BinOp.{BinOp}
use Rattle.cs_ast.specs.declared.typed.operator.BinOp.TheVariants.{Add, Sub, Mul, Div, Rem, Shl, Shr, And, Xor, Or}
use Rattle.cs_ast.specs.declared.typed.operator.CmpOp.{CmpOp}
use Rattle.cs_ast.specs.declared.typed.operator.CmpOp.TheVariants.{Less, AtMost, More, AtLeast, Equal, Differs}
use Rattle.cs_terms.specs.declared.symbol.Sym.{Sym}
use Rattle.cs_terms.specs.declared.term.Lin.{Lin}
use Rattle.cs_terms.specs.Pieces.{IsFar}
use Rattle.cs_terms.specs.Term.{Valuation, value_of}
use Rattle.cs_constraints.specs.Constraints.{Sets, set_of, Fits}
use Rattle.cs_events.specs.Operations.{own_quotient, compares}
use Rattle.cs_eval.specs.declared.piece.Piece.{Piece}
use Rattle.cs_eval.specs.declared.question.Question.{Question}
use Rattle.cs_eval.specs.declared.question.Question.TheVariants as question
use Rattle.cs_eval.specs.Operands.{IsBetween, IsFixed, AreOverOne}
use Rattle.cs_eval.specs.Questions.{operation_of}
use Rattle.cs_eval.specs.Splits.{Asking, IsSplit}

-- a number for each valuation
abbrev pub Numbers : Type 0
Numbers = Valuation → ℤ

-- under every valuation that fits, this comparison of the number with 0 has this result
abbrev pub Always : Sets → CmpOp → Numbers → Bool → Type 0
Always sets op number holds = (v : Valuation) → Fits v sets → compares op (number v) (pos 0) ≡ holds

-- a comparison with 0 is decided by the ends of the ranges: it always holds or never does. For an equation, the number is always above 0 or
-- always below it
abbrev pub IsDecided : Sets → CmpOp → Numbers → Type 0
IsDecided sets Equal number = Always sets More number true ⊎ Always sets Less number true
IsDecided sets Differs number = Always sets More number true ⊎ Always sets Less number true
IsDecided sets Less number = Always sets Less number true ⊎ Always sets Less number false
IsDecided sets AtMost number = Always sets AtMost number true ⊎ Always sets AtMost number false
IsDecided sets More number = Always sets More number true ⊎ Always sets More number false
IsDecided sets AtLeast number = Always sets AtLeast number true ⊎ Always sets AtLeast number false

-- the products of any two values of the terms are all at most the bound, or none is; the two greatest or the two least values show which,
-- as no value is below 0
abbrev pub IsProductDecided : DataModel → Sets → Lin → Lin → Type 0
IsProductDecided model sets count size = (holds : Bool) × ((v w : Valuation) → Fits v sets → Fits w sets
    → int_le (value_of v count *ℤ value_of w size) (pos (product_bound_of model)) ≡ holds)

-- both operands are constants
abbrev pub AreFixed : Sets → Lin → Lin → Type 0
AreFixed sets left right = IsFixed sets left × IsFixed sets right

-- the operation's wrap quotient is -1, 0 or 1
abbrev pub IsNear : DataModel → Question → Valuation → Type 0
IsNear model asked v = ¬ IsFar (own_quotient model (operation_of v asked))

-- with which operands an operator of two integers is followed if its quotient is near
abbrev pub IsFollowedNear : Sets → BinOp → Lin → Lin → Type 0
IsFollowedNear sets Add left right = AreOverOne sets left right
IsFollowedNear sets Sub left right = AreOverOne sets left right
IsFollowedNear sets Mul left right = IsFixed sets left ⊎ IsFixed sets right
IsFollowedNear sets Shl left right = IsFixed sets right
IsFollowedNear sets Div left right = AreFixed sets left right
IsFollowedNear sets Rem left right = AreFixed sets left right
IsFollowedNear sets Shr left right = AreFixed sets left right
IsFollowedNear sets And left right = AreFixed sets left right
IsFollowedNear sets Xor left right = AreFixed sets left right
IsFollowedNear sets Or left right = AreFixed sets left right

-- under the valuation, each symbol that can only have one number has it, and the others have any
abbrev pub FitsFixed : Valuation → Sets → Type 0
FitsFixed v sets = (sym : ℕ) (set : List Interval) (number : ℤ) → set_of sets sym ≡ Some set → IsOnly set number → v sym ≡ number

-- the size of the elements divides the difference of the offsets, whatever the numbers of the symbols are: it divides its value and its slope
abbrev pub IsDivided : Sets → Lin → Lin → ℕ → Type 0
IsDivided sets left right size = (v : Valuation) → FitsFixed v sets → (n : ℤ) × (value_of v left -ℤ value_of v right ≡ n *ℤ pos size)

-- whether an operation is followed exactly under a valuation
abbrev pub IsFollowed : DataModel → Sets → Question → Valuation → Type 0
IsFollowed model sets (question.Binary op ty left right) v =
    AreFixed sets left right ⊎ (IsFollowedNear sets op left right × IsNear model (question.Binary op ty left right) v)
IsFollowed model sets (question.Unary op ty term) v = Unit {0}
IsFollowed model sets (question.Convert ty term) v = IsFixed sets term ⊎ IsNear model (question.Convert ty term) v
IsFollowed model sets (question.Compare op left right) v = AreOverOne sets left right ⊎ IsDecided sets op (λ w. value_of w left -ℤ value_of w right)
IsFollowed model sets (question.Order first second) v = AreOverOne sets first second ⊎ IsDecided sets AtLeast (λ w. value_of w first +ℤ value_of w second)
IsFollowed model sets (question.Product count size) v = IsFixed sets count ⊎ (IsFixed sets size ⊎ IsProductDecided model sets count size)
IsFollowed model sets (question.Sum offset amount size) v = AreOverOne sets offset amount ⊎ (size ≡ 0)
IsFollowed model sets (question.Difference left right size) v =
    AreFixed sets left right ⊎ ((AreOverOne sets left right × IsDivided sets left right size) ⊎ (size ≡ 0))
IsFollowed model sets (question.Test tested term) v = Unit {0}
IsFollowed model sets (question.Callee function) v = Unit {0}

-- the numbers of a remainder by a divisor: nearer to 0 than the divisor, and not below 0 in a type without a sign
abbrev pub IsRemainder : IntType → ℤ → ℤ → Type 0
IsRemainder ty divisor number = (unsigned_abs number ≤ unsigned_abs divisor - 1) × (has_sign ty ≡ false → pos 0 ≤ℤ number)

-- which numbers may be guessed for an operator of two integers, depending on which operands are constants
abbrev pub IsBinaryGuess : DataModel → Sets → BinOp → IntType → Lin → Lin → Valuation → ℤ → Type 0
IsBinaryGuess model sets Rem ty left right v number =
    InRange model ty number × (IsFixed sets right → IsRemainder ty (value_of v right) number)
IsBinaryGuess model sets And ty left right v number =
    InRange model ty number
    × (IsFixed sets left → pos 0 ≤ℤ value_of v left → IsBetween (pos 0) (value_of v left) number)
    × (IsFixed sets right → pos 0 ≤ℤ value_of v right → IsBetween (pos 0) (value_of v right) number)
IsBinaryGuess model sets op ty left right v number = InRange model ty number

-- which numbers may be guessed in place of an operation's own result
abbrev pub IsGuess : DataModel → Sets → Question → Valuation → ℤ → Type 0
IsGuess model sets (question.Binary op ty left right) v number = IsBinaryGuess model sets op ty left right v number
IsGuess model sets (question.Convert ty term) v number = InRange model ty number
IsGuess model sets (question.Compare op left right) v number = IsBetween (pos 0) (pos 1) number
IsGuess model sets (question.Order first second) v number = IsBetween (pos 0) (pos 1) number
IsGuess model sets (question.Product count size) v number = IsBetween (pos 0) (pos 1) number
IsGuess model sets (question.Sum offset amount size) v number = IsBetween (neg_ℤ (pos (offset_bound_of model))) (pos (offset_bound_of model)) number
IsGuess model sets (question.Difference left right size) v number = InRange model (difference_type_of model) number
IsGuess model sets (question.Unary op ty term) v number = ⊥
IsGuess model sets (question.Test tested term) v number = ⊥
IsGuess model sets (question.Callee function) v number = ⊥

-- the symbol is one of the question's operands
abbrev pub Mentions : Question → Sym → Type 0
Mentions (question.Binary op ty left right) sym = (left.sym ≡ Some sym) ⊎ (right.sym ≡ Some sym)
Mentions (question.Unary op ty term) sym = term.sym ≡ Some sym
Mentions (question.Convert ty term) sym = term.sym ≡ Some sym
Mentions (question.Compare op left right) sym = (left.sym ≡ Some sym) ⊎ (right.sym ≡ Some sym)
Mentions (question.Order first second) sym = (first.sym ≡ Some sym) ⊎ (second.sym ≡ Some sym)
Mentions (question.Product count size) sym = (count.sym ≡ Some sym) ⊎ (size.sym ≡ Some sym)
Mentions (question.Sum offset amount size) sym = (offset.sym ≡ Some sym) ⊎ (amount.sym ≡ Some sym)
Mentions (question.Difference left right size) sym = (left.sym ≡ Some sym) ⊎ (right.sym ≡ Some sym)
Mentions (question.Test tested term) sym = term.sym ≡ Some sym
Mentions (question.Callee function) sym = ⊥

-- the operation of a question, with what is followed and what may be guessed
abbrev pub asking_of : DataModel → Sets → Question → Asking
asking_of model sets asked = record {
  operation = λ v. operation_of v asked;
  IsFollowed = IsFollowed model sets asked;
  IsGuess = IsGuess model sets asked;
  Mentions = Mentions asked;
}

-- the pieces of a question
abbrev pub AreAnswers : DataModel → Sets → ℕ → Question → List Piece → Type 0
AreAnswers model sets guess asked pieces = IsSplit model sets guess (asking_of model sets asked) pieces
