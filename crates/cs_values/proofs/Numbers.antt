-- Remainders: for the contracts of `binary` and `bits`.
use Rattle.std.proofs.Common.{◌≡◌, ℤ, pos, negsuc, ◌-ℤ◌, ◌*ℤ◌, refl, arith}
use Rattle.std.proofs.lemmas.Int.{ints, quot-rem}
use Rattle.std.specs.Int.{int_rem_euclid}
use Rattle.std.specs.Int.RustNames.{int_div, int_rem, unsigned_abs}
use Rattle.cs_types.specs.declared.data_model.DataModel.{DataModel}
use Rattle.cs_types.specs.declared.int_type.IntType.{IntType}
use Rattle.cs_types.specs.IntType.{modulus_of}
use Rattle.cs_events.specs.Operations.{bits_of}

-- a remainder is the difference to the product of quotient and divisor
pub rem_is_rest : (x y : ℤ) → int_rem x y ≡ x -ℤ int_div x y *ℤ y
rem_is_rest x y = omega (arith, ints, quot-rem x y)

-- the bits of a number in a type are its Euclidean remainder
pub bits_are_rest : (model : DataModel) (ty : IntType) (z : ℤ) → unsigned_abs (int_rem_euclid z (pos (modulus_of model ty))) ≡ bits_of model ty z
bits_are_rest model ty (pos a) = refl
bits_are_rest model ty (negsuc a) = omega arith
