-- C types without the boxes that hold their parts.
use Rattle.std.specs.Prelude.{ℕ, Bool, true, false, ◌&&◌, ◌==◌}
use Rattle.cs_types.specs.declared.int_type.IntType.{IntType}
use Rattle.cs_types.specs.declared.int_type.IntType.TheVariants.{Char, SChar, UChar, Short, UShort, Int as PlainInt, UInt, Long, ULong, LLong, ULLong}
use Rattle.cs_types.specs.declared.ctype.CType.{CType, Void, Int, Pointer', Array', Struct}

-- a type of C; a struct is its number in the table
pub data Shape : Type 0 where
  void : Shape
  integer : IntType → Shape
  pointer : Shape → Shape
  array : Shape → ℕ → Shape
  struct : ℕ → Shape

-- the shape of a type
abbrev pub shape_of : CType → Shape
shape_of Void = void
shape_of (Int ty) = integer ty
shape_of (Pointer' p target) = pointer (shape_of target)
shape_of (Array' p element count) = array (shape_of element) count
shape_of (Struct number) = struct number

-- the index of an integer type among the integer types
abbrev pub place_of : IntType → ℕ
place_of Char = 0
place_of SChar = 1
place_of UChar = 2
place_of Short = 3
place_of UShort = 4
place_of PlainInt = 5
place_of UInt = 6
place_of Long = 7
place_of ULong = 8
place_of LLong = 9
place_of ULLong = 10

-- whether two types are the same
abbrev pub same_shape : Shape → Shape → Bool
same_shape void void = true
same_shape (integer left) (integer right) = place_of left == place_of right
same_shape (pointer left) (pointer right) = same_shape left right
same_shape (array left count) (array right other) = (count == other) && same_shape left right
same_shape (struct left) (struct right) = left == right
same_shape left right = false
