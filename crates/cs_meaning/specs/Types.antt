-- The layout of types in memory: sizes, and the objects that begin at an offset of an object.
use Rattle.std.specs.Prelude.{ℕ, zero, suc, ◌-◌, ◌*◌, ◌%◌, ◌==◌, nat_lt, nat_le, Bool, true, false, ◌&&◌, ◌||◌, List, [], ◌∷◌}
use Rattle.std.specs.Prelude.{map, Option, Some, None, option_map, unwrap_or, slice_get}
use Rattle.cs_types.specs.declared.int_type.IntType.{IntType}
use Rattle.cs_types.specs.declared.int_type.IntType.TheVariants.{Int, UChar}
use Rattle.cs_types.specs.Members.{Member}
use Rattle.cs_types.specs.Shape.{Shape, void, integer, pointer, array, struct, same_shape}
use Rattle.cs_types.specs.Layout.{Layout, Leaf, layout_of, leaf_of, members_of, complete_count}
use Rattle.cs_ast.specs.TypedTree.{Typed, Of}
use Rattle.cs_ast.specs.TypedProgram.{TypedProgram}

-- the size of a type; 0 for an incomplete one (C11 6.5.3.4)
abbrev pub size_of : TypedProgram → Shape → ℕ
size_of program shape = unwrap_or (option_map (λ (layout : Layout). layout.size) (layout_of program.model program.table shape)) 0

-- the offsets of a type's scalars, in order (C11 6.7.2.1)
abbrev pub scalar_offsets : TypedProgram → Shape → List ℕ
scalar_offsets program shape =
    unwrap_or (option_map (λ (layout : Layout). map (λ (leaf : Leaf). leaf.offset) layout.leaves) (layout_of program.model program.table shape)) []

-- the scalar that begins at an offset of a type
abbrev pub scalar_of : TypedProgram → Shape → ℕ → Option Shape
scalar_of program shape offset = leaf_of program.model program.table shape offset

-- the type of an expression
abbrev pub type_of : Typed → Shape
type_of (Of at ty form) = ty

-- the type that a pointer points to (C11 6.2.5, paragraph 20)
abbrev pub target_of : Shape → Shape
target_of (pointer target) = target
target_of other = void

-- the element type of the block that a pointer to a type points to; for `void *` the elements are bytes (C11 6.3.2.3)
abbrev pub element_of : Shape → Shape
element_of void = integer UChar
element_of other = other

-- a type as an integer type
abbrev pub integer_of : Shape → IntType
integer_of (integer ty) = ty
integer_of other = Int

-- whether a type is a scalar (C11 6.2.5, paragraph 21)
abbrev pub is_scalar : Shape → Bool
is_scalar (integer ty) = true
is_scalar (pointer target) = true
is_scalar other = false

-- whether a test holds of a member of a list
abbrev pub some_member : (Member → Bool) → List Member → Bool
some_member test [] = false
some_member test (m ∷ ms) = test m || some_member test ms

-- whether a struct begins at an offset of a type, given where it begins in each struct
abbrev pub begins_in : TypedProgram → (ℕ → ℕ → Bool) → Shape → ℕ → Bool
begins_in program in_struct void offset = false
begins_in program in_struct (integer ty) offset = false
begins_in program in_struct (pointer target) offset = false
begins_in program in_struct (array element count) offset =
    nat_lt offset (count * size_of program element) && begins_in program in_struct element (offset % size_of program element)
begins_in program in_struct (struct number) offset = in_struct number offset

-- whether a struct begins at an offset of another: at its beginning if they are the same, or in the type of a member
abbrev pub begins_in_struct : TypedProgram → ℕ → ℕ → ℕ → ℕ → Bool
begins_in_struct program wanted zero number offset = false
begins_in_struct program wanted (suc depth) number offset =
    ((number == wanted) && (offset == 0)) || some_member (λ (m : Member).
    nat_le m.offset offset && begins_in program (begins_in_struct program wanted depth) (m.ty) (offset - m.offset))
    (unwrap_or (members_of program.table number) [])

-- whether there is a scalar, and it has a type
abbrev pub is_of : Shape → Option Shape → Bool
is_of ty None = false
is_of ty (Some found) = same_shape ty found

-- whether an object of the first type begins at an offset of one of the second: a scalar of exactly that type, or that struct
abbrev pub begins : TypedProgram → Shape → Shape → ℕ → Bool
begins program (struct wanted) shape offset = begins_in program (begins_in_struct program wanted (complete_count program.table)) shape offset
begins program scalar shape offset = is_of scalar (scalar_of program shape offset)

-- the type of a part of an array or of a struct, by its number, and its offset (C11 6.7.9, paragraph 17)
abbrev pub part_type : TypedProgram → Shape → ℕ → Shape
part_type program (array element count) number = element
part_type program (struct tag) number = unwrap_or (option_map (λ (m : Member). m.ty) (slice_get (unwrap_or (members_of program.table tag) []) number)) void
part_type program other number = other

abbrev pub part_offset : TypedProgram → Shape → ℕ → ℕ
part_offset program (array element count) number = number * size_of program element
part_offset program (struct tag) number = unwrap_or (option_map (λ (m : Member). m.offset) (slice_get (unwrap_or (members_of program.table tag) []) number)) 0
part_offset program other number = 0

-- the number of elements of an array (C11 6.7.6.2)
abbrev pub count_of : Shape → ℕ
count_of (array element count) = count
count_of other = 0
