-- Numbers that may be guessed: those of an operation's range; for `%` and `&` fewer, where an operand is the same in all runs.
use Rattle.std.specs.Prelude.{ℤ, pos, int_le, int_lt, nat_lt, unsigned_abs, Bool, true, false, ◌&&◌, ◌||◌, Option, Some, None}
use Rattle.cs_types.specs.declared.data_model.DataModel.{DataModel}
use Rattle.cs_ast.specs.declared.typed.operator.BinOp.{BinOp}
use Rattle.cs_ast.specs.declared.typed.operator.BinOp.TheVariants.{Rem, And}
use Rattle.cs_events.specs.declared.operation.Operation.{Operation}
use Rattle.cs_events.specs.declared.operation.Operation.TheVariants.{Binary}
use Rattle.cs_events.specs.Operations.{guess_range}
use Rattle.cs_events.specs.InputCells.{lies_in}

-- whether there is a range and the number lies in it
abbrev pub lies_in_some : Option (ℤ × ℤ) → ℤ → Bool
lies_in_some None number = false
lies_in_some (Some range) number = lies_in range number

-- whether a run may use the number in place of the operation's own result
abbrev pub may_be_used : DataModel → Operation → ℤ → Bool
may_be_used model operation number = lies_in_some (guess_range model operation) number

-- whether a mask that isn't negative allows the number as a result: it is between 0 and the mask
abbrev pub fits_mask : ℤ → ℤ → Bool
fits_mask mask number = int_lt mask (pos 0) || (int_le (pos 0) number && int_le number mask)

-- whether a number could be the result with this left operand; only the mask of `&` limits it
abbrev pub fits_left_of : BinOp → ℤ → ℤ → Bool
fits_left_of And left number = fits_mask left number
fits_left_of operator left number = true

-- whether a number could be the result with this right operand; the absolute value of a remainder is less than that of the divisor
abbrev pub fits_right_of : BinOp → ℤ → ℤ → Bool
fits_right_of And right number = fits_mask right number
fits_right_of Rem right number = nat_lt (unsigned_abs number) (unsigned_abs right)
fits_right_of operator right number = true

abbrev pub fits_left : Operation → ℤ → Bool
fits_left (Binary operator ty left right) number = fits_left_of operator left number
fits_left operation number = true

abbrev pub fits_right : Operation → ℤ → Bool
fits_right (Binary operator ty left right) number = fits_right_of operator right number
fits_right operation number = true
