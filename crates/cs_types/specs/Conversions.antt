-- Promotion and the usual arithmetic conversions, by the rules of C11 6.3.1.1 and 6.3.1.8.
use Rattle.std.specs.Prelude.{Bool, ◌&&◌, nat_lt, nat_le, if◌then◌else◌}
use Rattle.std.specs.Prelude.{int_le}
use Rattle.cs_types.specs.declared.data_model.DataModel.{DataModel}
use Rattle.cs_types.specs.declared.int_type.IntType.{IntType}
use Rattle.cs_types.specs.declared.int_type.IntType.TheVariants.{Char, SChar, UChar, Short, UShort, Int, UInt, Long, ULong, LLong, ULLong}
use Rattle.cs_types.specs.IntType.{has_sign, rank_of, least_of, greatest_of}

-- whether the first type can represent every number of the second
abbrev pub holds_all_of : DataModel → IntType → IntType → Bool
holds_all_of model wide narrow = int_le (least_of model wide) (least_of model narrow) && int_le (greatest_of model narrow) (greatest_of model wide)

-- a type of lower rank than `int` becomes `int` if `int` can represent all its numbers, else `unsigned int`
abbrev pub promoted : DataModel → IntType → IntType
promoted model ty = if nat_lt (rank_of ty) (rank_of Int) then (if holds_all_of model Int ty then Int else UInt) else ty

-- the unsigned type that corresponds to a type
abbrev pub unsigned_of : IntType → IntType
unsigned_of Char = UChar
unsigned_of SChar = UChar
unsigned_of UChar = UChar
unsigned_of Short = UShort
unsigned_of UShort = UShort
unsigned_of Int = UInt
unsigned_of UInt = UInt
unsigned_of Long = ULong
unsigned_of ULong = ULong
unsigned_of LLong = ULLong
unsigned_of ULLong = ULLong

-- two types, both signed or both unsigned: the one of higher rank
abbrev pub of_higher_rank : IntType → IntType → IntType
of_higher_rank left right = if nat_lt (rank_of left) (rank_of right) then right else left

-- a signed and an unsigned type: the unsigned one unless its rank is lower; then the signed one if it can represent all numbers
-- of the other, else the unsigned type that corresponds to the signed one
abbrev pub common_of_mixed : DataModel → IntType → IntType → IntType
common_of_mixed model signed unsigned = if nat_le (rank_of signed) (rank_of unsigned) then unsigned
    else (if holds_all_of model signed unsigned then signed else unsigned_of signed)

-- the common type of two promoted types
abbrev pub common_of_promoted : DataModel → IntType → IntType → IntType
common_of_promoted model left right = if has_sign left then (if has_sign right then of_higher_rank left right else common_of_mixed model left right)
    else (if has_sign right then common_of_mixed model right left else of_higher_rank left right)

-- the common type of two types
abbrev pub common_type : DataModel → IntType → IntType → IntType
common_type model left right = common_of_promoted model (promoted model left) (promoted model right)
