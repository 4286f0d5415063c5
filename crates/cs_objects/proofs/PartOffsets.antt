-- The scalars of a type are those of its parts, in order: for the contract of `type_offsets`.
use Rattle.std.proofs.Common.{◌≡◌, ℕ, zero, suc, ◌+◌, ◌-◌, ◌<◌, List, [], ◌∷◌, ◌++◌, map, length, Option, Some, None, refl, sym}
use Rattle.std.proofs.Common.{ap, ◌∙◌}
use Rattle.std.proofs.Common.{append_assoc, arith}
use Rattle.std.specs.Prelude.{option_map, unwrap_or, slice_get}
use Rattle.std.proofs.lemmas.List.{map-append}
use Rattle.cs_types.specs.declared.structs.StructType.{StructType}
use Rattle.cs_types.specs.Members.{Member}
use Rattle.cs_types.specs.Shape.{Shape, array, struct}
use Rattle.cs_types.specs.Layout.{Layout, Leaf, moved, row, repeated, round_up, offsets, side_by_side, member_layouts, members_of, complete_count}
use Rattle.cs_types.specs.Layout.{struct_layout, layout_of, IsLaidOut}
use Rattle.cs_types.specs.LeafSearch.{layout_within}
use Rattle.cs_types.proofs.Nesting.{mapped, chained, first_member, Extends, layout_within-Extends}
use Rattle.cs_types.proofs.StructTables.{IsComplete}
use Rattle.cs_types.proofs.Entering.{members_in}
use Rattle.cs_ast.specs.TypedProgram.{TypedProgram}
use Rattle.cs_meaning.specs.Types.{size_of, scalar_offsets}
use Rattle.cs_objects.specs.TypeView.{offsets_from, member_offsets}

-- the offsets of scalars, and the same from an offset on
abbrev places : List Leaf → List ℕ
places leaves = map (λ (leaf : Leaf). leaf.offset) leaves

abbrev places_from : ℕ → List Leaf → List ℕ
places_from from leaves = map (λ (offset : ℕ). from + offset) (places leaves)

-- scalars that were moved
places-moved : (from by : ℕ) (leaves : List Leaf) → places_from from (moved by leaves) ≡ places_from (from + by) leaves
places-moved from by [] = refl
places-moved from by (leaf ∷ leaves) =
    let here : from + (by + leaf.offset) ≡ from + by + leaf.offset = omega arith in
    ap (λ (n : ℕ). n ∷ places_from from (moved by leaves)) here ∙ ap (λ (ns : List ℕ). (from + by + leaf.offset) ∷ ns) (places-moved from by leaves)

-- two lists of scalars joined
places-append : (from : ℕ) (xs ys : List Leaf) → places_from from (xs ++ ys) ≡ places_from from xs ++ places_from from ys
places-append from xs ys =
    ap (map (λ (offset : ℕ). from + offset)) (map-append (λ (leaf : Leaf). leaf.offset) xs ys)
    ∙ map-append (λ (offset : ℕ). from + offset) (places xs) (places ys)

module _ (program : TypedProgram) where
  abbrev layout_in : Shape → Option Layout
  layout_in ty = layout_of program.model program.table ty

  -- the scalars of a type that has a layout
  laid_from : (from : ℕ) (ty : Shape) (layout : Layout) → layout_in ty ≡ Some layout → offsets_from program from ty ≡ places_from from layout.leaves
  laid_from from ty layout is =
      ap (λ (found : Option Layout). map (λ (offset : ℕ). from + offset) (unwrap_or (option_map (λ (l : Layout). places l.leaves) found) [])) is

  -- ---- arrays

  -- the scalars of an array are those of its first element, then those of the others
  first_element : (from : ℕ) (element : Shape) (count : ℕ)
      → offsets_from program from (array element (suc count))
      ≡ offsets_from program from element ++ offsets_from program (from + size_of program element) (array element count)
  first_element from element count = by_layout (layout_in element)
    where
      by_layout : (found : Option Layout)
          → map (λ (offset : ℕ). from + offset) (unwrap_or (option_map (λ (l : Layout). places l.leaves) (option_map (repeated (suc count)) found)) [])
          ≡ map (λ (offset : ℕ). from + offset) (unwrap_or (option_map (λ (l : Layout). places l.leaves) found) [])
          ++ map (λ (offset : ℕ). from + unwrap_or (option_map (λ (l : Layout). l.size) found) 0 + offset)
          (unwrap_or (option_map (λ (l : Layout). places l.leaves) (option_map (repeated count) found)) [])
      by_layout None = refl
      by_layout (Some l) = places-append from l.leaves (moved l.size (row count l))
          ∙ ap (λ (ns : List ℕ). places_from from l.leaves ++ ns) (places-moved from l.size (row count l))

  -- an array without elements has no scalars
  no_elements : (from : ℕ) (element : Shape) → offsets_from program from (array element 0) ≡ []
  no_elements from element = by_layout (layout_in element)
    where
      by_layout : (found : Option Layout)
          → map (λ (offset : ℕ). from + offset) (unwrap_or (option_map (λ (l : Layout). places l.leaves) (option_map (repeated 0) found)) []) ≡ []
      by_layout None = refl
      by_layout (Some l) = refl

  -- a type without scalars at one offset has none at any other
  none_from : (at from : ℕ) (ty : Shape) → offsets_from program at ty ≡ [] → offsets_from program from ty ≡ []
  none_from at from ty none = by_list (scalar_offsets program ty) none
    where
      by_list : (ns : List ℕ) → map (λ (offset : ℕ). at + offset) ns ≡ [] → map (λ (offset : ℕ). from + offset) ns ≡ []
      by_list [] h = refl
      by_list (n ∷ ns) h = absurd (cc)

  -- an array of elements without scalars has none
  pub none_in_array : (at from : ℕ) (element : Shape) (count : ℕ) → offsets_from program at element ≡ []
      → offsets_from program from (array element count) ≡ []
  none_in_array at from element zero none = no_elements from element
  none_in_array at from element (suc count) none =
      first_element from element count
      ∙ (ap (λ (ns : List ℕ). ns ++ offsets_from program (from + size_of program element) (array element count)) (none_from at from element none)
      ∙ none_in_array at (from + size_of program element) element count none)

  -- elements without scalars add nothing
  pub nothing_added : (at left : ℕ) (element : Shape) (made more all : List ℕ) → length more ≡ length made
      → more ≡ made ++ offsets_from program at element
      → made ++ offsets_from program at (array element left) ≡ all → more ≡ all
  nothing_added at left element made more all same is before =
      let none : offsets_from program at element ≡ [] = no_more made (offsets_from program at element) (ap length (sym is) ∙ same) in
      is ∙ (ap (λ (ns : List ℕ). made ++ ns) (none ∙ sym (none_in_array at at element left none)) ∙ before)
    where
      no_more : (xs ys : List ℕ) → length (xs ++ ys) ≡ length xs → ys ≡ []
      no_more xs [] h = refl
      no_more [] (y ∷ ys) h = absurd (omega (arith, h))
      no_more (x ∷ xs) (y ∷ ys) h = no_more xs (y ∷ ys) (omega (arith, h))

  -- one more element was added
  pub element_added : (at after left : ℕ) (element : Shape) (made more all : List ℕ) → 0 < left → after ≡ at + size_of program element
      → more ≡ made ++ offsets_from program at element → made ++ offsets_from program at (array element left) ≡ all
      → more ++ offsets_from program after (array element (left - 1)) ≡ all
  element_added at after zero element made more all above next is before = absurd (omega arith)
  element_added at after (suc left) element made more all above next is before =
      let less : suc left - 1 ≡ left = omega arith in
      let here = offsets_from program at element in
      let others = offsets_from program (at + size_of program element) (array element left) in
      rw (less, next, is)
      (append_assoc made here others ∙ (ap (λ (ns : List ℕ). made ++ ns) (sym (first_element at element left)) ∙ before))

  -- ---- structs

  -- members side by side
  side_by_side_from : (of_type : Shape → Option Layout) → Extends of_type layout_in → (from low : ℕ) (ms : List Member) (ls : List Layout)
      → member_layouts of_type ms ≡ Some ls → map (λ (m : Member). m.offset) ms ≡ offsets low ls
      → places_from from (side_by_side low ls).leaves ≡ member_offsets program from ms
  side_by_side_from of_type extends from low [] ls laid placed =
      let none : ls ≡ [] = cc in rw none refl
  side_by_side_from of_type extends from low (m ∷ ms) ls laid placed =
      let parts = first_member of_type m ms ls laid in
      let first = parts.first in
      let at : ℕ = round_up low first.align in
      let there = rw parts.whole at placed in
      let here : m.offset ≡ at = cc in
      let others : map (λ (m : Member). m.offset) ms ≡ offsets (at + first.size) parts.rest = cc in
      let one : places_from from (moved at first.leaves) ≡ offsets_from program (from + m.offset) m.ty = places-moved from at first.leaves
      ∙ (ap (λ (n : ℕ). places_from (from + n) first.leaves) (sym here)
      ∙ sym (laid_from (from + m.offset) m.ty first (extends m.ty first parts.laid))) in
      let rest = side_by_side_from of_type extends from (at + first.size) ms parts.rest parts.others others in
      rw parts.whole
      (places-append from (moved at first.leaves) (side_by_side (at + first.size) parts.rest).leaves
      ∙ (ap (λ (ns : List ℕ). ns ++ places_from from (side_by_side (at + first.size) parts.rest).leaves) one
      ∙ ap (λ (ns : List ℕ). offsets_from program (from + m.offset) m.ty ++ ns) rest))

  -- the scalars of a struct are those of its members
  pub struct_from : (from tag : ℕ) (ms : List Member) → IsLaidOut program.model program.table → members_of program.table tag ≡ Some ms
      → offsets_from program from (struct tag) ≡ member_offsets program from ms
  struct_from from tag ms laid_out is =
      let found = chained (λ (s : StructType). s.members) (slice_get program.table tag) ms is in
      let laid = (laid_out tag found.0 ms found.1 found.2).1 in
      let layout = mapped (λ (l : Layout). l.size) (layout_in (struct tag)) found.0.size laid.size in
      let complete : IsComplete program.table tag found.0 = record { members = ms; stands = found.1; has_members = found.2 } in
      laid_from from (struct tag) layout.0 layout.1 ∙ by_depth (complete_count program.table) refl found.0 layout.0 layout.1 complete
    where
      by_depth : (depth : ℕ) → complete_count program.table ≡ depth → (s : StructType) (layout : Layout)
          → struct_layout program.model program.table (complete_count program.table) tag ≡ Some layout → (at : IsComplete program.table tag s)
          → places_from from layout.leaves ≡ member_offsets program from at.members
      by_depth zero deep s layout laid at =
          let none = rw deep at laid in absurd (cc)
      by_depth (suc depth) deep s layout laid at =
          let built = members_in program.model program.table tag depth s layout laid_out at (omega arith) (rw deep at laid) in
          ap (λ (l : Layout). places_from from l.leaves) built.whole
          ∙ side_by_side_from (layout_within program.model program.table depth)
          (layout_within-Extends program.model program.table depth (complete_count program.table) (omega arith)) from 0 at.members built.layouts built.laid
          built.placed
