-- The alignments of layouts are at most 8, so that the padding of a struct is smaller: for the sizes of structs that bodies complete.
use Rattle.std.proofs.Common.{◌≡◌, ℕ, zero, suc, ◌+◌, ◌≤◌, List, [], ◌∷◌, sym, ap, subst, arith, lit≤}
use Rattle.std.specs.Prelude.{Option, Some}
use Rattle.std.specs.Option.{option_map}
use Rattle.cs_types.specs.declared.data_model.DataModel.{DataModel}
use Rattle.cs_types.specs.declared.data_model.DataModel.TheVariants.{Lp64, Ilp32}
use Rattle.cs_types.specs.declared.int_type.IntType.{IntType}
use Rattle.cs_types.specs.declared.int_type.IntType.TheVariants.{Char, SChar, UChar, Short, UShort, Int, UInt, Long, ULong, LLong, ULLong}
use Rattle.cs_types.specs.declared.structs.StructType.{StructType}
use Rattle.cs_types.specs.Members.{Member}
use Rattle.cs_types.specs.IntType.{bytes_of, word_bytes}
use Rattle.cs_types.specs.Shape.{Shape, void, integer, pointer, array, struct}
use Rattle.cs_types.specs.Layout.{Layout, round_up, alone, repeated, side_by_side, padded, layout_with, member_layouts, members_of, struct_layout}
use Rattle.cs_types.specs.Layout.{complete_count, layout_of}
use Rattle.cs_types.specs.LeafSearch.{layout_within}
use Rattle.cs_types.proofs.Nesting.{mapped, chained, first_member}

-- the alignment of a layout is at most 8
abbrev pub IsLow : Layout → Type 0
IsLow l = l.align ≤ 8

-- a function that returns only such layouts
abbrev pub GivesLow : {K : Type 0} → (K → Option Layout) → Type 0
GivesLow {K} f = (k : K) (l : Layout) → f k ≡ Some l → IsLow l

-- each layout of a list has such an alignment
abbrev pub AllLow : List Layout → Type 0
AllLow [] = Unit {0}
AllLow (l ∷ ls) = IsLow l × AllLow ls

low_as : (l m : Layout) → Some m ≡ Some l → IsLow m → IsLow l
low_as l m e h = let P : Layout → Type 0 = λ x. IsLow x in subst P (let f : m ≡ l = cc in f) h

word_bytes-low : (model : DataModel) → word_bytes model ≤ 8
word_bytes-low Lp64 = lit≤ tt
word_bytes-low Ilp32 = lit≤ tt

bytes_of-low : (model : DataModel) (ty : IntType) → bytes_of model ty ≤ 8
bytes_of-low model Char = lit≤ tt
bytes_of-low model SChar = lit≤ tt
bytes_of-low model UChar = lit≤ tt
bytes_of-low model Short = lit≤ tt
bytes_of-low model UShort = lit≤ tt
bytes_of-low model Int = lit≤ tt
bytes_of-low model UInt = lit≤ tt
bytes_of-low model Long = word_bytes-low model
bytes_of-low model ULong = word_bytes-low model
bytes_of-low model LLong = lit≤ tt
bytes_of-low model ULLong = lit≤ tt

layout_with-low : (model : DataModel) (f : ℕ → Option Layout) → GivesLow f → GivesLow (layout_with model f)
layout_with-low model f low void l h = absurd (cc)
layout_with-low model f low (integer ty) l h = low_as l (alone (bytes_of model ty) (integer ty)) h (bytes_of-low model ty)
layout_with-low model f low (pointer target) l h = low_as l (alone (word_bytes model) (pointer target)) h (word_bytes-low model)
layout_with-low model f low (array element count) l h =
    let parts = mapped (repeated count) (layout_with model f element) l h in
    low_as l (repeated count parts.0) (ap Some (sym parts.2)) (layout_with-low model f low element parts.0 parts.1)
layout_with-low model f low (struct number) l h = low number l h

member_layouts-low : (f : Shape → Option Layout) → GivesLow f → (ms : List Member) (ls : List Layout) → member_layouts f ms ≡ Some ls → AllLow ls
member_layouts-low f low [] ls h = subst AllLow (let e : [] ≡ ls = cc in e) tt
member_layouts-low f low (m ∷ ms) ls h =
    let parts = first_member f m ms ls h in
    subst AllLow (sym parts.whole) (low m.ty parts.first parts.laid, member_layouts-low f low ms parts.rest parts.others)

side_by_side-low : (from : ℕ) (ls : List Layout) → AllLow ls → IsLow (side_by_side from ls)
side_by_side-low from [] h = lit≤ tt
side_by_side-low from (l ∷ ls) h = omega (arith, h.0, side_by_side-low (round_up from l.align + l.size) ls h.1)

struct_layout-low : (model : DataModel) (table : List StructType) (depth : ℕ) → GivesLow (struct_layout model table depth)
struct_layout-low model table zero k l h = absurd (cc)
struct_layout-low model table (suc depth) k l h =
    let members = chained (λ ms. option_map (λ ls. padded (side_by_side 0 ls)) (member_layouts (layout_within model table depth) ms)) (members_of table k) l
    h in
    let layouts = mapped (λ ls. padded (side_by_side 0 ls)) (member_layouts (layout_within model table depth) members.0) l members.2 in
    let inner = layout_with-low model (struct_layout model table depth) (struct_layout-low model table depth) in
    low_as l (padded (side_by_side 0 layouts.0)) (ap Some (sym layouts.2))
    (side_by_side-low 0 layouts.0 (member_layouts-low (layout_within model table depth) inner members.0 layouts.0 layouts.1))

-- no layout of a type has a greater alignment
pub layout_of-low : (model : DataModel) (table : List StructType) → GivesLow (layout_of model table)
layout_of-low model table = layout_with-low model (struct_layout model table (complete_count table)) (struct_layout-low model table (complete_count table))

-- nor has the layout of members side by side
pub members-low : (model : DataModel) (table : List StructType) (ms : List Member) (ls : List Layout) → member_layouts (layout_of model table) ms ≡ Some ls
    → (side_by_side 0 ls).align ≤ 8
members-low model table ms ls h = side_by_side-low 0 ls (member_layouts-low (layout_of model table) (layout_of-low model table) ms ls h)
