-- Grounds: two or three runs reach the same operation, and their operands show that terms over one symbol and ranges can't represent its
-- result there. The first of the runs is the one that guesses.
use Rattle.std.specs.Prelude.{ℤ, pos, ◌-ℤ◌, ◌*ℤ◌, ◌+ℤ◌, int_le, int_lt, Bool, true, false, not, ◌&&◌, ◌||◌, is_none}
use Rattle.std.specs.Prelude.{if◌then◌else◌}
use Rattle.std.specs.Ordering.{int_eq}
use Rattle.cs_types.specs.declared.data_model.DataModel.{DataModel}
use Rattle.cs_types.specs.DataModel.{product_bound_of}
use Rattle.cs_types.specs.Wrap.{wrap_quotient, near_quotient}
use Rattle.cs_ast.specs.declared.typed.operator.BinOp.{BinOp}
use Rattle.cs_ast.specs.declared.typed.operator.BinOp.TheVariants.{Add, Sub, Mul, Div, Rem, Shl, Shr, And, Xor, Or}
use Rattle.cs_ast.specs.declared.typed.operator.CmpOp.{CmpOp}
use Rattle.cs_ast.specs.declared.typed.operator.CmpOp.TheVariants.{Less, AtMost, More, AtLeast, Equal, Differs}
use Rattle.cs_events.specs.declared.operation.Operation.{Operation}
use Rattle.cs_events.specs.declared.operation.Operation.TheVariants.{Binary, Unary, Convert, Compare, Order, Product, Sum, Difference, Show}
use Rattle.cs_events.specs.Operations.{exact, compares}
use Rattle.cs_results.specs.declared.run.Others.{Others}
use Rattle.cs_results.specs.declared.run.Others.TheVariants.{One, Two}
use Rattle.cs_findings.specs.Runs.{some_other}

-- the operands of an operation in a run
abbrev pub Pair : Type 0
Pair = ℤ × ℤ

-- whether the left operand differs between two of the runs; then it differs between the first run and another
abbrev pub left_differs : Pair → Others Pair → Bool
left_differs mine others = some_other (λ pair. not (int_eq pair.0 mine.0)) others

-- whether the right operand differs between two of the runs
abbrev pub right_differs : Pair → Others Pair → Bool
right_differs mine others = some_other (λ pair. not (int_eq pair.1 mine.1)) others

-- whether an operand differs between two of the runs
abbrev pub either_differs : Pair → Others Pair → Bool
either_differs mine others = left_differs mine others || right_differs mine others

-- the pairs of operands of three runs don't lie on one line, so the operands aren't terms over one symbol
abbrev pub off_line : Pair → Others Pair → Bool
off_line mine (One first) = false
off_line mine (Two first second) =
    not (int_eq ((first.0 -ℤ mine.0) *ℤ (second.1 -ℤ mine.1)) ((second.0 -ℤ mine.0) *ℤ (first.1 -ℤ mine.1)))

-- each operand differs between two of the runs, and the pairs don't lie on one line
abbrev pub are_spread : Pair → Others Pair → Bool
are_spread mine others = (left_differs mine others && right_differs mine others) && off_line mine others

-- the least and the greatest of some numbers, one for each run
abbrev pub lesser : ℤ → ℤ → ℤ
lesser x y = if int_le x y then x else y

abbrev pub greater : ℤ → ℤ → ℤ
greater x y = if int_le x y then y else x

abbrev pub least : (Pair → ℤ) → Pair → Others Pair → ℤ
least f mine (One first) = lesser (f mine) (f first)
least f mine (Two first second) = lesser (f mine) (lesser (f first) (f second))

abbrev pub greatest : (Pair → ℤ) → Pair → Others Pair → ℤ
greatest f mine (One first) = greater (f mine) (f first)
greatest f mine (Two first second) = greater (f mine) (greater (f first) (f second))

-- whether a truth value differs between two of the runs
abbrev pub disagrees : Bool → Bool → Bool
disagrees true other = not other
disagrees false other = other

abbrev pub truth_differs : (Pair → Bool) → Pair → Others Pair → Bool
truth_differs test mine others = some_other (λ pair. disagrees (test pair) (test mine)) others

-- the difference left minus right differs between two of the runs, is at most 0 in one of these and at least 0 in the other
abbrev pub gap : Pair → ℤ
gap pair = pair.0 -ℤ pair.1

abbrev pub meets_zero : Pair → Others Pair → Bool
meets_zero mine others = (int_le (least gap mine others) (pos 0) && int_le (pos 0) (greatest gap mine others))
    && int_lt (least gap mine others) (greatest gap mine others)

-- a wrap quotient other than -1, 0 and 1
abbrev pub is_far : ℤ → Bool
is_far quotient = is_none (near_quotient quotient)

-- the ground of an operator of two integers
abbrev pub binary_ground : BinOp → Bool → Pair → Others Pair → Bool
binary_ground Add far mine others = are_spread mine others || (either_differs mine others && far)
binary_ground Sub far mine others = are_spread mine others || (either_differs mine others && far)
binary_ground Mul far mine others =
    (left_differs mine others && right_differs mine others) || (either_differs mine others && far)
binary_ground Shl far mine others = right_differs mine others || (left_differs mine others && far)
binary_ground Div far mine others = either_differs mine others
binary_ground Rem far mine others = either_differs mine others
binary_ground Shr far mine others = either_differs mine others
binary_ground And far mine others = either_differs mine others
binary_ground Xor far mine others = either_differs mine others
binary_ground Or far mine others = either_differs mine others

-- the ground of a comparison: its results differ, or for an equality, left minus right is at most 0 in one run and at least 0 in another
abbrev pub comparison_ground : CmpOp → Pair → Others Pair → Bool
comparison_ground Equal mine others = are_spread mine others && meets_zero mine others
comparison_ground Differs mine others = are_spread mine others && meets_zero mine others
comparison_ground Less mine others = are_spread mine others && truth_differs (λ pair. compares Less pair.0 pair.1) mine others
comparison_ground AtMost mine others = are_spread mine others && truth_differs (λ pair. compares AtMost pair.0 pair.1) mine others
comparison_ground More mine others = are_spread mine others && truth_differs (λ pair. compares More pair.0 pair.1) mine others
comparison_ground AtLeast mine others = are_spread mine others && truth_differs (λ pair. compares AtLeast pair.0 pair.1) mine others

-- the ground of the order test of `calloc`: neither the least nor the greatest numbers decide it
abbrev pub product_ground : DataModel → Pair → Others Pair → Bool
product_ground model mine others = (left_differs mine others && right_differs mine others)
    && (int_le (least (λ pair. pair.0) mine others *ℤ least (λ pair. pair.1) mine others) (pos (product_bound_of model))
    && int_lt (pos (product_bound_of model)) (greatest (λ pair. pair.0) mine others *ℤ greatest (λ pair. pair.1) mine others))

-- whether the runs are a ground to guess an operation's result. The operands of the order tests are the two parts of their sum
abbrev pub has_ground : DataModel → Operation → Others Pair → Bool
has_ground model (Binary operator ty left right) others =
    binary_ground operator (is_far (wrap_quotient model ty (exact model operator ty left right))) (left, right) others
has_ground model (Unary operator ty operand) others = false
has_ground model (Convert ty number) others = left_differs (number, pos 0) others && is_far (wrap_quotient model ty number)
has_ground model (Compare operator left right) others = comparison_ground operator (left, right) others
has_ground model (Order first second) others =
    are_spread (first, second) others && truth_differs (λ pair. int_le (pos 0) (pair.0 +ℤ pair.1)) (first, second) others
has_ground model (Product count size) others = product_ground model (count, size) others
has_ground model (Sum offset amount size) others = are_spread (offset, amount) others
has_ground model (Difference left right size) others = either_differs (left, right) others
has_ground model (Show what) others = false
