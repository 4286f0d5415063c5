-- The positions of the scalars of a type (C11 6.2.8, 6.5.3.4, 6.7.2.1): a scalar is aligned to its size, and the members of a
-- struct follow each other, each at the next offset that its alignment divides.
use Rattle.std.specs.Prelude.{◌≡◌, ℕ, zero, suc, ◌+◌, ◌*◌, ◌/◌, ◌-◌, ◌^◌, ◌≤◌, ◌==◌, max, if◌then◌else◌, List, []}
use Rattle.std.specs.Prelude.{◌∷◌, ◌++◌, map, count_by, is_some, slice_get, Option, Some, None, IfSome}
use Rattle.std.specs.Option.{option_map, option_and_then}
use Rattle.std.specs.List.{All}
use Rattle.cs_types.specs.declared.data_model.DataModel.{DataModel}
use Rattle.cs_types.specs.Members.{Member}
use Rattle.cs_types.specs.declared.structs.StructType.{StructType}
use Rattle.cs_types.specs.IntType.{bytes_of, word_bytes}
use Rattle.cs_types.specs.Shape.{Shape, void, integer, pointer, array, struct}

-- a scalar with its offset
pub record Leaf : Type 0 where
  pub offset : ℕ
  pub scalar : Shape

-- the size of a type, and the scalars in it in order
pub record Layout : Type 0 where
  pub size : ℕ
  pub align : ℕ
  pub leaves : List Leaf

-- the least multiple of n that isn't less than the number
abbrev pub round_up : ℕ → ℕ → ℕ
round_up number n = (number + (n - 1)) / n * n

-- the same scalars, moved by a number of bytes
abbrev pub moved : ℕ → List Leaf → List Leaf
moved by leaves = map (λ (leaf : Leaf). record { offset = by + leaf.offset; scalar = leaf.scalar }) leaves

-- one scalar, aligned to its size
abbrev pub alone : ℕ → Shape → Layout
alone bytes scalar = record { size = bytes; align = bytes; leaves = record { offset = 0; scalar = scalar } ∷ [] }

-- the scalars of `count` elements, one after the other
abbrev pub row : ℕ → Layout → List Leaf
row zero element = []
row (suc count) element = element.leaves ++ moved element.size (row count element)

-- `count` elements, one after the other
abbrev pub repeated : ℕ → Layout → Layout
repeated count element = record { size = count * element.size; align = element.align; leaves = row count element }

-- members one after the other, from an offset on
abbrev pub side_by_side : ℕ → List Layout → Layout
side_by_side from [] = record { size = from; align = 1; leaves = [] }
side_by_side from (first ∷ rest) = let at = round_up from first.align in let following = side_by_side (at + first.size) rest in
    record { size = following.size; align = max first.align following.align; leaves = moved at first.leaves ++ following.leaves }

-- the offsets of members that are placed one after the other from an offset on
abbrev pub offsets : ℕ → List Layout → List ℕ
offsets from [] = []
offsets from (first ∷ rest) = let at = round_up from first.align in at ∷ offsets (at + first.size) rest

-- the layout with padding at its end, so that its size is a multiple of its alignment
abbrev pub padded : Layout → Layout
padded layout = record { size = round_up layout.size layout.align; align = layout.align; leaves = layout.leaves }

-- the layout of a type, given those of the structs; `void` and incomplete types have none
abbrev pub layout_with : DataModel → (ℕ → Option Layout) → Shape → Option Layout
layout_with model of_struct void = None
layout_with model of_struct (integer ty) = Some (alone (bytes_of model ty) (integer ty))
layout_with model of_struct (pointer target) = Some (alone (word_bytes model) (pointer target))
layout_with model of_struct (array element count) = option_map (repeated count) (layout_with model of_struct element)
layout_with model of_struct (struct number) = of_struct number

-- the layouts of members, if each has one
abbrev pub member_layouts : (Shape → Option Layout) → List Member → Option (List Layout)
member_layouts of_type [] = Some []
member_layouts of_type (m ∷ ms) = option_and_then (λ first. option_map (λ rest. first ∷ rest) (member_layouts of_type ms)) (of_type m.ty)

-- the struct with this number, if it has its members
abbrev pub complete_of : List StructType → ℕ → Option StructType
complete_of table number = option_and_then (λ (s : StructType). option_map (λ _. s) s.members) (slice_get table number)

-- the members of a struct of the table, if it is complete
abbrev pub members_of : List StructType → ℕ → Option (List Member)
members_of table number = option_and_then (λ (s : StructType). s.members) (slice_get table number)

-- the layout of a struct, if structs are nested in it at most `depth` deep
abbrev pub struct_layout : DataModel → List StructType → ℕ → ℕ → Option Layout
struct_layout model table zero number = None
struct_layout model table (suc depth) number =
    option_and_then (λ ms. option_map (λ ls. padded (side_by_side 0 ls)) (member_layouts (layout_with model (struct_layout model table depth)) ms))
    (members_of table number)

-- the number of complete structs of the table
abbrev pub complete_count : List StructType → ℕ
complete_count table = count_by (λ (s : StructType). is_some s.members) table

-- the layout of a type: if no struct contains itself, structs are nested at most as deep as there are complete structs
abbrev pub layout_of : DataModel → List StructType → Shape → Option Layout
layout_of model table shape = layout_with model (struct_layout model table (complete_count table)) shape

-- the scalar that begins at an offset
abbrev pub scalar_at : ℕ → List Leaf → Option Shape
scalar_at offset [] = None
scalar_at offset (leaf ∷ leaves) = if leaf.offset == offset then Some leaf.scalar else scalar_at offset leaves

-- the scalar that begins at an offset of a type
abbrev pub leaf_of : DataModel → List StructType → Shape → ℕ → Option Shape
leaf_of model table shape offset = option_and_then (λ (layout : Layout). scalar_at offset layout.leaves) (layout_of model table shape)

-- a type has a layout of at most 2^40 bytes, or none
abbrev pub IsSmall : DataModel → List StructType → Shape → Type 0
IsSmall model table shape = IfSome (layout_of model table shape) (λ layout. layout.size ≤ 2 ^ 40)

-- no size in a type exceeds 2^40
abbrev pub HasSmallSizes : DataModel → List StructType → Shape → Type 0
HasSmallSizes model table void = Unit {0}
HasSmallSizes model table (integer ty) = Unit {0}
HasSmallSizes model table (pointer target) = Unit {0}
HasSmallSizes model table (array element count) = HasSmallSizes model table element × IsSmall model table (array element count)
HasSmallSizes model table (struct number) = IsSmall model table (struct number)

-- a struct of the table has the size, the alignment and the offsets that follow from its members' layouts
pub record IsLaid (model : DataModel) (table : List StructType) (number : ℕ) (laid : StructType) (members : List Member) : Type 0 where
  pub size : option_map (λ (layout : Layout). layout.size) (layout_of model table (struct number)) ≡ Some laid.size
  pub align : option_map (λ (layout : Layout). layout.align) (layout_of model table (struct number)) ≡ Some laid.align
  pub offsets : option_map (offsets 0) (member_layouts (layout_of model table) members) ≡ Some (map (λ (m : Member). m.offset) members)
  pub small : All (λ (m : Member). HasSmallSizes model table m.ty) members

-- every complete struct of the table is laid out, so that none contains itself, and no size exceeds 2^40
abbrev pub IsLaidOut : DataModel → List StructType → Type 0
IsLaidOut model table = (number : ℕ) (laid : StructType) (members : List Member) → slice_get table number ≡ Some laid → laid.members ≡ Some members
    → HasSmallSizes model table (struct number) × IsLaid model table number laid members

-- the table is laid out, and no size in the type exceeds 2^40
pub record Fits (model : DataModel) (table : List StructType) (shape : Shape) : Type 0 where
  pub laid_out : IsLaidOut model table
  pub small : HasSmallSizes model table shape
