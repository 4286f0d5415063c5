-- Kinds of types (C11 6.2.5).
use Rattle.std.specs.Prelude.{Bool, true, false, List, is_some}
use Rattle.cs_types.specs.declared.structs.StructType.{StructType}
use Rattle.cs_types.specs.Shape.{Shape, void, integer, pointer, array, struct}
use Rattle.cs_types.specs.Layout.{members_of}

-- the type is `void`
abbrev pub is_void : Shape → Bool
is_void void = true
is_void other = false

-- the type is an array
abbrev pub is_array : Shape → Bool
is_array (array element count) = true
is_array other = false

-- the type is an integer or a pointer
abbrev pub is_scalar : Shape → Bool
is_scalar (integer ty) = true
is_scalar (pointer target) = true
is_scalar other = false

-- the type has a size: it isn't `void`, and contains no struct without members
abbrev pub is_complete : List StructType → Shape → Bool
is_complete table void = false
is_complete table (integer ty) = true
is_complete table (pointer target) = true
is_complete table (array element count) = is_complete table element
is_complete table (struct number) = is_some (members_of table number)
