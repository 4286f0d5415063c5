-- How many scalars an object has, if one store may write so many.
use Rattle.std.specs.Prelude.{ℕ, zero, suc, ◌+◌, ◌*◌, Bool, nat_le, is_some, if◌then◌else◌, List, [], ◌∷◌, Option, Some, None, length}
use Rattle.std.specs.Option.{option_and_then}
use Rattle.cs_types.specs.declared.structs.StructType.{StructType}
use Rattle.cs_types.specs.Layout.{members_of}
use Rattle.cs_types.specs.Members.{Member}
use Rattle.cs_types.specs.Shape.{Shape, void, integer, pointer, array, struct}

-- a number of scalars, if one store may write so many
abbrev pub few : ℕ → Option ℕ
few n = if nat_le n 4096 then Some n else None

-- the number of scalars of a type, given those of the structs: an array of elements with too many has too many
abbrev pub scalars_with : (ℕ → Option ℕ) → Shape → Option ℕ
scalars_with of_struct void = Some 0
scalars_with of_struct (integer ty) = Some 1
scalars_with of_struct (pointer target) = Some 1
scalars_with of_struct (array element count) = option_and_then (λ n. few (n * count)) (scalars_with of_struct element)
scalars_with of_struct (struct number) = of_struct number

-- the number of scalars of members, added to those before them
abbrev pub scalars_after : (Shape → Option ℕ) → ℕ → List Member → Option ℕ
scalars_after of_type before [] = Some before
scalars_after of_type before (m ∷ ms) = option_and_then (λ n. option_and_then (λ all. scalars_after of_type all ms) (few (before + n))) (of_type m.ty)

-- the number of scalars of a struct's members: 0 without a body
abbrev pub scalars_of_members : (Shape → Option ℕ) → Option (List Member) → Option ℕ
scalars_of_members of_type (Some members) = scalars_after of_type 0 members
scalars_of_members of_type None = Some 0

-- the number of scalars of a struct in which structs are nested at most `depth` deep
abbrev pub struct_scalars : List StructType → ℕ → ℕ → Option ℕ
struct_scalars table zero number = Some 0
struct_scalars table (suc depth) number = scalars_of_members (scalars_with (struct_scalars table depth)) (members_of table number)

-- how many scalars a type has, if they are few; as no struct contains itself, they are nested at most as deep as there are structs
abbrev pub scalars_in : List StructType → Shape → Option ℕ
scalars_in table ty = scalars_with (struct_scalars table (length table)) ty

-- the type has so few scalars that one store may write them
unfoldable pub has_few_scalars : List StructType → Shape → Bool
has_few_scalars table ty = is_some (scalars_in table ty)

-- the element type of an array, without all array types in it
abbrev pub innermost : Shape → Shape
innermost (array element count) = innermost element
innermost ty = ty

-- the number of scalars of a type that isn't an array
abbrev pub scalars_alone : (ℕ → Option ℕ) → Shape → Option ℕ
scalars_alone of_struct void = Some 0
scalars_alone of_struct (integer ty) = Some 1
scalars_alone of_struct (pointer target) = Some 1
scalars_alone of_struct (array element count) = Some 0
scalars_alone of_struct (struct number) = of_struct number

-- the number of scalars of an array, given that of its innermost element
abbrev pub scalars_times : Option ℕ → Shape → Option ℕ
scalars_times inner (array element count) = option_and_then (λ n. few (n * count)) (scalars_times inner element)
scalars_times inner ty = inner
