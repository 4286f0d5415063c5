-- What the two data models determine besides the sizes of the types.
use Rattle.std.specs.Prelude.{ℕ, ◌*◌, ◌/◌, ◌-◌, ◌^◌, nat_lt, if◌then◌else◌}
use Rattle.cs_types.specs.declared.data_model.DataModel.{DataModel}
use Rattle.cs_types.specs.declared.data_model.DataModel.TheVariants.{Lp64, Ilp32}
use Rattle.cs_types.specs.declared.int_type.IntType.{IntType}
use Rattle.cs_types.specs.declared.int_type.IntType.TheVariants.{Int, UInt, Long, ULong}

-- the type of `sizeof`
abbrev pub size_type_of : DataModel → IntType
size_type_of Lp64 = ULong
size_type_of Ilp32 = UInt

-- the type of a pointer difference
abbrev pub difference_type_of : DataModel → IntType
difference_type_of Lp64 = Long
difference_type_of Ilp32 = Int

-- the greatest absolute value of a pointer's offset, in bytes from its object's start
abbrev pub offset_bound_of : DataModel → ℕ
offset_bound_of Lp64 = 2 ^ 40
offset_bound_of Ilp32 = 2 ^ 29

-- the greatest size of one `calloc`
abbrev pub product_bound_of : DataModel → ℕ
product_bound_of Lp64 = 2 ^ 64 - 1
product_bound_of Ilp32 = 2 ^ 32 - 1

-- the greatest multiple of n up to the limit
abbrev pub greatest_multiple : ℕ → ℕ → ℕ
greatest_multiple n limit = limit / n * n

-- the number of bytes of the block that an unknown pointer to a type of this size points to
abbrev pub start_extent_of : DataModel → ℕ → ℕ
start_extent_of Lp64 size = 2 ^ 20 * size
start_extent_of Ilp32 size = if nat_lt (2 ^ 28) (2 ^ 20 * size) then greatest_multiple size (2 ^ 28) else 2 ^ 20 * size
