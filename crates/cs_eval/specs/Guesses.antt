-- The numbers that may be guessed, and the piece of a guess.
use Rattle.std.specs.Prelude.{◌≡◌, ◌&&◌, ◌≤ℤ◌, ℕ, ℤ, pos, negsuc, neg_ℤ, ◌-ℤ◌, int_le, unsigned_abs, if◌then◌else◌, List}
use Rattle.std.specs.Prelude.{Option, None, Some}
use Rattle.std.specs.Option.{option_or}
use Rattle.cs_ranges.specs.declared.range_set.Interval.{Interval}
use Rattle.cs_ranges.specs.RangeSet.{contains}
use Rattle.cs_types.specs.declared.data_model.DataModel.{DataModel}
use Rattle.cs_types.specs.declared.int_type.IntType.{IntType}
use Rattle.cs_types.specs.IntType.{least_of, greatest_of, has_sign}
use Rattle.cs_types.specs.DataModel.{difference_type_of, offset_bound_of}
use Rattle.cs_ast.specs.declared.typed.operator.BinOp.{BinOp}
use Rattle.cs_ast.specs.declared.typed.operator.BinOp.TheVariants.{Add, Sub, Mul, Div, Rem, Shl, Shr, And, Xor, Or}
use Rattle.cs_terms.specs.declared.symbol.Sym.{Sym}
use Rattle.cs_terms.specs.declared.term.Lin.{Lin}
use Rattle.cs_constraints.specs.Constraints.{Sets, AreInhabited, IsNarrowed}
use Rattle.cs_events.specs.declared.event.Label.{Label}
use Rattle.cs_state.specs.declared.asked.Asks.{Asks}
use Rattle.cs_state.specs.declared.asked.Asks.TheVariants as asks
use Rattle.cs_eval.specs.declared.guesses.Inexact.{Inexact}
use Rattle.cs_eval.specs.declared.piece.Guessed.{Guessed}
use Rattle.cs_eval.specs.declared.piece.Piece.{Piece}
use Rattle.cs_eval.specs.Operands.{constant_of}

-- the numbers of a type, from the least to the greatest
pub record AreOfType (model : DataModel) (ty : IntType) (numbers : Interval) : Type 0 where
  pub low : numbers.low ≡ least_of model ty
  pub high : numbers.high ≡ greatest_of model ty

-- the numbers from one number to another
pub record AreFromTo (low high : ℤ) (numbers : Interval) : Type 0 where
  pub low_is : numbers.low ≡ low
  pub high_is : numbers.high ≡ high

-- the remainders by a divisor
pub record AreRemainders (ty : IntType) (divisor : ℤ) (numbers : Interval) : Type 0 where
  pub high : numbers.high ≡ pos (unsigned_abs divisor) -ℤ pos 1
  pub low : numbers.low ≡ (if has_sign ty then neg_ℤ numbers.high else pos 0)

-- the remainders by a divisor, or the numbers of the type if it isn't a constant
abbrev pub AreOfRemainder : DataModel → IntType → Option ℤ → Interval → Type 0
AreOfRemainder model ty None numbers = AreOfType model ty numbers
AreOfRemainder model ty (Some divisor) numbers = AreRemainders ty divisor numbers

-- the numbers up to a mask, or those of the type if there is no constant mask or it is below 0
abbrev pub AreOfMask : DataModel → IntType → Option ℤ → Interval → Type 0
AreOfMask model ty None numbers = AreOfType model ty numbers
AreOfMask model ty (Some (negsuc n)) numbers = AreOfType model ty numbers
AreOfMask model ty (Some (pos n)) numbers = AreFromTo (pos 0) (pos n) numbers

-- the numbers that may be guessed for an operator of two integers, whose constants are in the type's range
abbrev pub AreOfBinary : DataModel → BinOp → IntType → Lin → Lin → Interval → Type 0
AreOfBinary model Add ty left right numbers = AreOfType model ty numbers
AreOfBinary model Sub ty left right numbers = AreOfType model ty numbers
AreOfBinary model Mul ty left right numbers = AreOfType model ty numbers
AreOfBinary model Div ty left right numbers = AreOfType model ty numbers
AreOfBinary model Rem ty left right numbers = AreOfRemainder model ty (constant_of right) numbers
AreOfBinary model Shl ty left right numbers = AreOfType model ty numbers
AreOfBinary model Shr ty left right numbers = AreOfType model ty numbers
AreOfBinary model And ty left right numbers = AreOfMask model ty (option_or (constant_of left) (constant_of right)) numbers
AreOfBinary model Xor ty left right numbers = AreOfType model ty numbers
AreOfBinary model Or ty left right numbers = AreOfType model ty numbers

-- the numbers that may be guessed for an operation
abbrev pub AreNumbers : DataModel → Asks → Lin → Lin → Interval → Type 0
AreNumbers model (asks.Binary op ty) left right numbers = AreOfBinary model op ty left right numbers
AreNumbers model (asks.Convert ty) left right numbers = AreOfType model ty numbers
AreNumbers model (asks.Compare op) left right numbers = AreFromTo (pos 0) (pos 1) numbers
AreNumbers model asks.Order left right numbers = AreFromTo (pos 0) (pos 1) numbers
AreNumbers model asks.Product left right numbers = AreFromTo (pos 0) (pos 1) numbers
AreNumbers model asks.Sum left right numbers = AreFromTo (neg_ℤ (pos (offset_bound_of model))) (pos (offset_bound_of model)) numbers
AreNumbers model asks.Difference left right numbers = AreOfType model (difference_type_of model) numbers

-- the numbers that may be guessed for an operation; there are some
pub record HasNumbers (model : DataModel) (inexact : Inexact) (numbers : Interval) : Type 0 where
  pub are : AreNumbers model inexact.asks inexact.left inexact.right numbers
  pub some : numbers.low ≤ℤ numbers.high

-- a symbol as a term
abbrev pub symbol_term : Sym → Lin
symbol_term sym = record { sym = Some sym; slope = pos 1; at = pos 0; value = pos 0 }

-- the piece of a guess between the ends: it also declares the guess symbol with these numbers, and the operation continues with it
pub record IsGuessPiece (constraints : Sets) (guess : ℕ) (label : Label) (numbers : Interval) (piece : Piece) : Type 0 where
  pub shown : piece.label ≡ label
  pub what : Guessed
  pub guessed : piece.guessed ≡ Some what
  pub answer : piece.answer ≡ symbol_term (record { 0 = guess })
  pub set : List Interval
  pub numbers_are : (x : ℤ) → contains set x ≡ (int_le numbers.low x && int_le x numbers.high)
  pub declared : IsNarrowed constraints guess set piece.constraints
  pub inhabited : AreInhabited piece.constraints
