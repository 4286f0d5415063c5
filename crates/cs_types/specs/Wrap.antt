-- The wrap quotient of a number, and the number converted to a type (C11 6.3.1.3; modulo for signed types too).
use Rattle.std.specs.Prelude.{ℕ, ◌*◌, ◌/◌, ◌^◌, ◌-◌, ℤ, pos, negsuc, suc, zero, ◌+ℤ◌, ◌-ℤ◌, ◌*ℤ◌, Option, Some, None}
use Rattle.std.specs.Prelude.{if◌then◌else◌}
use Rattle.cs_types.specs.declared.data_model.DataModel.{DataModel}
use Rattle.cs_types.specs.declared.int_type.IntType.{IntType}
use Rattle.cs_types.specs.IntType.{bytes_of, has_sign, modulus_of}

-- the greatest integer whose product with n is at most the number
abbrev pub floor_div : ℤ → ℕ → ℤ
floor_div (pos a) n = pos (a / n)
floor_div (negsuc a) n = negsuc (a / n)

-- how many times the type's modulus fits between the number and the type's range, rounded down
abbrev pub wrap_quotient : DataModel → IntType → ℤ → ℤ
wrap_quotient model ty number = if has_sign ty then floor_div (number +ℤ pos (2 ^ (8 * bytes_of model ty - 1))) (modulus_of model ty)
    else floor_div number (modulus_of model ty)

-- the number converted to the type
abbrev pub wrapped : DataModel → IntType → ℤ → ℤ
wrapped model ty number = number -ℤ wrap_quotient model ty number *ℤ pos (modulus_of model ty)

-- a quotient of -1, 0 or 1; none for any other
abbrev pub near_quotient : ℤ → Option ℤ
near_quotient (pos zero) = Some (pos 0)
near_quotient (pos (suc zero)) = Some (pos 1)
near_quotient (pos (suc (suc n))) = None
near_quotient (negsuc zero) = Some (negsuc 0)
near_quotient (negsuc (suc n)) = None
