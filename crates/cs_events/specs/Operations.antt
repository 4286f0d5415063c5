-- The operations that show as events: their own results, the numbers that may be guessed instead, and the labels of their events.
use Rattle.std.specs.Prelude.{ℕ, ◌^◌, ◌%◌, ◌-◌, ◌+◌, zero, suc, Bool, true, false, not, ◌&&◌, ℤ, pos, negsuc, neg_ℤ, ◌+ℤ◌}
use Rattle.std.specs.Prelude.{◌-ℤ◌, ◌*ℤ◌, int_le, int_lt, int_div, bit_and, bit_or, bit_xor, Option, Some, None, if◌then◌else◌}
use Rattle.std.specs.Ordering.{int_eq}
use Rattle.cs_types.specs.declared.data_model.DataModel.{DataModel}
use Rattle.cs_types.specs.declared.int_type.IntType.{IntType}
use Rattle.cs_types.specs.IntType.{least_of, greatest_of, modulus_of}
use Rattle.cs_types.specs.DataModel.{offset_bound_of, difference_type_of, product_bound_of}
use Rattle.cs_types.specs.Wrap.{floor_div, wrap_quotient, wrapped}
use Rattle.cs_ast.specs.declared.typed.operator.BinOp.{BinOp}
use Rattle.cs_ast.specs.declared.typed.operator.BinOp.TheVariants.{Add, Sub, Mul, Div, Rem, Shl, Shr, And, Xor, Or}
use Rattle.cs_ast.specs.declared.typed.operator.UnOp.{UnOp}
use Rattle.cs_ast.specs.declared.typed.operator.UnOp.TheVariants.{Negate, Complement}
use Rattle.cs_ast.specs.declared.typed.operator.CmpOp.{CmpOp}
use Rattle.cs_ast.specs.declared.typed.operator.CmpOp.TheVariants.{Less, AtMost, More, AtLeast, Equal, Differs}
use Rattle.cs_events.specs.declared.event.Label.{Label}
use Rattle.cs_events.specs.declared.event.Label.TheVariants as label
use Rattle.cs_events.specs.declared.event.Wrap as wraps
use Rattle.cs_events.specs.declared.event.Wrap.TheVariants.{Under, Same, Past, Far, Guessed}
use Rattle.cs_events.specs.declared.operation.Operation.{Operation}
use Rattle.cs_events.specs.declared.operation.Operation.TheVariants as operation

-- the bits of a number in a type, read as an unsigned number
abbrev pub bits_of : DataModel → IntType → ℤ → ℕ
bits_of model ty (pos n) = n % modulus_of model ty
bits_of model ty (negsuc n) = modulus_of model ty - (n % modulus_of model ty + 1)

-- two to the power of a number
abbrev pub power : ℤ → ℕ
power (pos n) = 2 ^ n
power (negsuc n) = 1

-- the exact result of a binary integer operator: a division rounds toward zero, a right shift rounds down, and a bitwise operator
-- yields the number of the type with the resulting bits
abbrev pub exact : DataModel → BinOp → IntType → ℤ → ℤ → ℤ
exact model Add ty left right = left +ℤ right
exact model Sub ty left right = left -ℤ right
exact model Mul ty left right = left *ℤ right
exact model Div ty left right = int_div left right
exact model Rem ty left right = left -ℤ int_div left right *ℤ right
exact model Shl ty left right = left *ℤ pos (power right)
exact model Shr ty left right = floor_div left (power right)
exact model And ty left right = wrapped model ty (pos (bit_and (bits_of model ty left) (bits_of model ty right)))
exact model Xor ty left right = wrapped model ty (pos (bit_xor (bits_of model ty left) (bits_of model ty right)))
exact model Or ty left right = wrapped model ty (pos (bit_or (bits_of model ty left) (bits_of model ty right)))

-- the exact result of a unary integer operator
abbrev pub exact_of_one : UnOp → ℤ → ℤ
exact_of_one Negate operand = neg_ℤ operand
exact_of_one Complement operand = negsuc 0 -ℤ operand

-- the number of a truth value (C11 6.5.8, paragraph 6)
abbrev pub truth_number : Bool → ℤ
truth_number true = pos 1
truth_number false = pos 0

-- whether a comparison of two numbers holds
abbrev pub compares : CmpOp → ℤ → ℤ → Bool
compares Less x y = int_lt x y
compares AtMost x y = int_le x y
compares More x y = int_lt y x
compares AtLeast x y = int_le y x
compares Equal x y = int_eq x y
compares Differs x y = not (int_eq x y)

-- the number if it is between -B and B, else 0
abbrev pub within_bound : DataModel → ℤ → ℤ
within_bound model moved =
    if int_le (neg_ℤ (pos (offset_bound_of model))) moved && int_le moved (pos (offset_bound_of model)) then moved else pos 0

-- the number of elements between two offsets, rounded toward zero; 0 for elements of size 0
abbrev pub elements_between : ℤ → ℤ → ℕ → ℤ
elements_between left right zero = pos 0
elements_between left right (suc size) = int_div (left -ℤ right) (pos (suc size))

-- the own result of an operation
abbrev pub own_result : DataModel → Operation → ℤ
own_result model (operation.Binary operator ty left right) = wrapped model ty (exact model operator ty left right)
own_result model (operation.Unary operator ty operand) = wrapped model ty (exact_of_one operator operand)
own_result model (operation.Convert ty number) = wrapped model ty number
own_result model (operation.Compare operator left right) = truth_number (compares operator left right)
own_result model (operation.Order first second) = truth_number (int_le (pos 0) (first +ℤ second))
own_result model (operation.Product count size) = truth_number (int_le (count *ℤ size) (pos (product_bound_of model)))
own_result model (operation.Sum offset amount size) = within_bound model (offset +ℤ amount *ℤ pos size)
own_result model (operation.Difference left right size) = elements_between left right size
own_result model (operation.Show what) = pos 0

-- the least and the greatest number of a type
abbrev pub numbers_of : DataModel → IntType → ℤ × ℤ
numbers_of model ty = (least_of model ty, greatest_of model ty)

-- the range of truth values
abbrev pub TRUTHS : ℤ × ℤ
TRUTHS = (pos 0, pos 1)

-- the least and the greatest number that may be guessed for the result, if any may be
abbrev pub guess_range : DataModel → Operation → Option (ℤ × ℤ)
guess_range model (operation.Binary operator ty left right) = Some (numbers_of model ty)
guess_range model (operation.Unary operator ty operand) = None
guess_range model (operation.Convert ty number) = Some (numbers_of model ty)
guess_range model (operation.Compare operator left right) = Some TRUTHS
guess_range model (operation.Order first second) = Some TRUTHS
guess_range model (operation.Product count size) = Some TRUTHS
guess_range model (operation.Sum offset amount size) = Some (neg_ℤ (pos (offset_bound_of model)), pos (offset_bound_of model))
guess_range model (operation.Difference left right size) = Some (numbers_of model (difference_type_of model))
guess_range model (operation.Show what) = None

-- the wrap quotient of an operation: how many times wrapping subtracts 2^n from its exact result; 0 if it can't wrap
abbrev pub own_quotient : DataModel → Operation → ℤ
own_quotient model (operation.Binary operator ty left right) = wrap_quotient model ty (exact model operator ty left right)
own_quotient model (operation.Unary operator ty operand) = wrap_quotient model ty (exact_of_one operator operand)
own_quotient model (operation.Convert ty number) = wrap_quotient model ty number
own_quotient model (operation.Compare operator left right) = pos 0
own_quotient model (operation.Order first second) = pos 0
own_quotient model (operation.Product count size) = pos 0
own_quotient model (operation.Sum offset amount size) = pos 0
own_quotient model (operation.Difference left right size) = pos 0
own_quotient model (operation.Show what) = pos 0

-- the label of a wrap quotient
abbrev pub wrap_of : ℤ → wraps.Wrap
wrap_of (pos zero) = Same
wrap_of (pos (suc zero)) = Past
wrap_of (pos (suc (suc n))) = Far
wrap_of (negsuc zero) = Under
wrap_of (negsuc (suc n)) = Far

-- whether the number isn't 0
abbrev pub is_true : ℤ → Bool
is_true n = not (int_eq n (pos 0))

-- the label of a result that is, or isn't, guessed
abbrev pub wrap_or_guess : DataModel → Operation → Option ℤ → wraps.Wrap
wrap_or_guess model op None = wrap_of (own_quotient model op)
wrap_or_guess model op (Some guess) = Guessed

-- the number that a run continues with: the guess, or the operation's own result
abbrev pub result_with : DataModel → Operation → Option ℤ → ℤ
result_with model op None = own_result model op
result_with model op (Some guess) = guess

-- the label of the truth value that a run continues with
abbrev pub truth_with : DataModel → Operation → Option ℤ → Label
truth_with model op guess = label.Truth (is_true (result_with model op guess))

-- the label of an operation: by how much its result is outside the type, or its truth value
abbrev pub shows : DataModel → Operation → Option ℤ → Label
shows model (operation.Binary operator ty left right) guess = label.Wrap (wrap_or_guess model (operation.Binary operator ty left right) guess)
shows model (operation.Unary operator ty operand) guess = label.Wrap (wrap_or_guess model (operation.Unary operator ty operand) guess)
shows model (operation.Convert ty number) guess = label.Wrap (wrap_or_guess model (operation.Convert ty number) guess)
shows model (operation.Sum offset amount size) guess = label.Wrap (wrap_or_guess model (operation.Sum offset amount size) guess)
shows model (operation.Difference left right size) guess = label.Wrap (wrap_or_guess model (operation.Difference left right size) guess)
shows model (operation.Compare operator left right) guess = truth_with model (operation.Compare operator left right) guess
shows model (operation.Order first second) guess = truth_with model (operation.Order first second) guess
shows model (operation.Product count size) guess = truth_with model (operation.Product count size) guess
shows model (operation.Show what) guess = what

-- the label of an access: its offset modulo 2^64
abbrev pub offset_shown : ℤ → ℕ
offset_shown (pos n) = n % 2 ^ 64
offset_shown (negsuc n) = 2 ^ 64 - 1 - n % 2 ^ 64
