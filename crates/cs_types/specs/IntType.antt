-- The integer types: sizes, signs, ranks and ranges, as the two data models and C11 6.2.5 and 6.3.1.1 determine them.
use Rattle.std.specs.Prelude.{ℕ, ◌*◌, ◌-◌, ◌^◌, ℤ, pos, ◌-ℤ◌, ◌≤ℤ◌, Bool, true, false, if◌then◌else◌}
use Rattle.cs_types.specs.declared.data_model.DataModel.{DataModel}
use Rattle.cs_types.specs.declared.data_model.DataModel.TheVariants.{Lp64, Ilp32}
use Rattle.cs_types.specs.declared.int_type.IntType.{IntType}
use Rattle.cs_types.specs.declared.int_type.IntType.TheVariants.{Char, SChar, UChar, Short, UShort, Int, UInt, Long, ULong, LLong, ULLong}

-- the number of bytes of `long` and of a pointer
abbrev pub word_bytes : DataModel → ℕ
word_bytes Lp64 = 8
word_bytes Ilp32 = 4

-- the number of bytes of the type
abbrev pub bytes_of : DataModel → IntType → ℕ
bytes_of model Char = 1
bytes_of model SChar = 1
bytes_of model UChar = 1
bytes_of model Short = 2
bytes_of model UShort = 2
bytes_of model Int = 4
bytes_of model UInt = 4
bytes_of model Long = word_bytes model
bytes_of model ULong = word_bytes model
bytes_of model LLong = 8
bytes_of model ULLong = 8

-- whether the type has numbers below 0
abbrev pub has_sign : IntType → Bool
has_sign Char = true
has_sign SChar = true
has_sign UChar = false
has_sign Short = true
has_sign UShort = false
has_sign Int = true
has_sign UInt = false
has_sign Long = true
has_sign ULong = false
has_sign LLong = true
has_sign ULLong = false

-- the conversion rank
abbrev pub rank_of : IntType → ℕ
rank_of Char = 1
rank_of SChar = 1
rank_of UChar = 1
rank_of Short = 2
rank_of UShort = 2
rank_of Int = 3
rank_of UInt = 3
rank_of Long = 4
rank_of ULong = 4
rank_of LLong = 5
rank_of ULLong = 5

-- the number of values of the type
abbrev pub modulus_of : DataModel → IntType → ℕ
modulus_of model ty = 2 ^ (8 * bytes_of model ty)

-- the number of values below 0
abbrev pub negatives_of : DataModel → IntType → ℕ
negatives_of model ty = if has_sign ty then 2 ^ (8 * bytes_of model ty - 1) else 0

-- the least number of the type
abbrev pub least_of : DataModel → IntType → ℤ
least_of model ty = pos 0 -ℤ pos (negatives_of model ty)

-- the greatest number of the type
abbrev pub greatest_of : DataModel → IntType → ℤ
greatest_of model ty = pos (modulus_of model ty - negatives_of model ty - 1)

-- the number is in the range of the type
pub record InRange (model : DataModel) (ty : IntType) (number : ℤ) : Type 0 where
  pub from_least : least_of model ty ≤ℤ number
  pub to_greatest : number ≤ℤ greatest_of model ty

-- the number is in the range of some integer type of C
pub record IsIntegerOfC (number : ℤ) : Type 0 where
  pub from_least : (pos 0 -ℤ pos (2 ^ 63)) ≤ℤ number
  pub to_greatest : number ≤ℤ pos (2 ^ 64 - 1)
