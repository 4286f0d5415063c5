-- What has a layout in a table of structs has it in each table that grew out of it: for what is typed after a part of a file.
use Rattle.std.proofs.Common.{◌≡◌, ℕ, zero, suc, ◌≤◌, ◌^◌, List, [], ◌∷◌, sym, ◌∙◌, ap, subst}
use Rattle.std.specs.Prelude.{Option, Some, IfSome}
use Rattle.std.specs.Option.{option_map, option_and_then}
use Rattle.std.specs.List.{All}
use Rattle.std.proofs.lemmas.List.Elements.{All-nil, All-cons, All-head, All-tail}
use Rattle.cs_types.specs.declared.data_model.DataModel.{DataModel}
use Rattle.cs_types.specs.declared.structs.StructType.{StructType}
use Rattle.cs_types.specs.Members.{Member}
use Rattle.cs_types.specs.Shape.{Shape, void, integer, pointer, array, struct}
use Rattle.cs_types.specs.Layout.{Layout, repeated, side_by_side, padded, offsets, member_layouts, members_of, struct_layout, complete_count, layout_of}
use Rattle.cs_types.specs.Layout.{IsSmall, HasSmallSizes, IsLaid}
use Rattle.cs_types.specs.LeafSearch.{layout_within}
use Rattle.cs_types.proofs.Nesting.{Extends, mapped, chained, first_member, layout_with-Extends, member_layouts-Extends, struct_layout-Extends}

-- complete structs keep their members, and no fewer are complete
pub record Grows (before after : List StructType) : Type 0 where
  pub members : (number : ℕ) (ms : List Member) → members_of before number ≡ Some ms → members_of after number ≡ Some ms
  pub count : complete_count before ≤ complete_count after

module _ (model : DataModel) (before after : List StructType) (grows : Grows before after) where
  pub struct_layout-Grows : (depth : ℕ) → Extends (struct_layout model before depth) (struct_layout model after depth)
  struct_layout-Grows zero k l h = absurd (cc)
  struct_layout-Grows (suc depth) k l h =
      let outer = layout_with-Extends model (struct_layout model before depth) (struct_layout model after depth) (struct_layout-Grows depth) in
      let was : List Member → Option Layout = λ ms. option_map (λ ls. padded (side_by_side 0 ls)) (member_layouts (layout_within model before depth) ms) in
      let is : List Member → Option Layout = λ ms. option_map (λ ls. padded (side_by_side 0 ls)) (member_layouts (layout_within model after depth) ms) in
      let members = chained was (members_of before k) l h in
      let layouts = mapped (λ ls. padded (side_by_side 0 ls)) (member_layouts (layout_within model before depth) members.0) l members.2 in
      let lifted = member_layouts-Extends (layout_within model before depth) (layout_within model after depth) outer members.0 layouts.0 layouts.1 in
      ap (option_and_then is) (grows.members k members.0 members.1) ∙ ap (option_map (λ ls. padded (side_by_side 0 ls))) lifted ∙ ap Some (sym layouts.2)

  -- a type that has a layout keeps it
  pub layout_of-Grows : Extends (layout_of model before) (layout_of model after)
  layout_of-Grows =
      layout_with-Extends model (struct_layout model before (complete_count before)) (struct_layout model after (complete_count after))
      (λ k l h.
      struct_layout-Extends model after (complete_count before) (complete_count after) grows.count k l (struct_layout-Grows (complete_count before) k l h))

  small-kept : (shape : Shape) (l : Layout) → layout_of model before shape ≡ Some l → IsSmall model before shape → IsSmall model after shape
  small-kept shape l e h =
      let P : Option Layout → Type 0 = λ o. IfSome o (λ layout. layout.size ≤ 2 ^ 40) in
      subst P (e ∙ sym (layout_of-Grows shape l e)) h

  -- and its bound on sizes
  pub HasSmallSizes-Grows : (shape : Shape) (l : Layout) → layout_of model before shape ≡ Some l → HasSmallSizes model before shape
      → HasSmallSizes model after shape
  HasSmallSizes-Grows void l e h = tt
  HasSmallSizes-Grows (integer ty) l e h = tt
  HasSmallSizes-Grows (pointer target) l e h = tt
  HasSmallSizes-Grows (array element count) l e h =
      let parts = mapped (repeated count) (layout_of model before element) l e in
      (HasSmallSizes-Grows element parts.0 parts.1 h.0, small-kept (array element count) l e h.1)
  HasSmallSizes-Grows (struct number) l e h = small-kept (struct number) l e h

  pub AllSmall-Grows : (ms : List Member) (ls : List Layout) → member_layouts (layout_of model before) ms ≡ Some ls
      → All (λ (m : Member). HasSmallSizes model before m.ty) ms → All (λ (m : Member). HasSmallSizes model after m.ty) ms
  AllSmall-Grows [] ls e h = All-nil (λ (m : Member). HasSmallSizes model after m.ty)
  AllSmall-Grows (m ∷ ms) ls e h =
      let parts = first_member (layout_of model before) m ms ls e in
      All-cons (λ (m : Member). HasSmallSizes model after m.ty) m ms
      (HasSmallSizes-Grows m.ty parts.first parts.laid (All-head (λ (m : Member). HasSmallSizes model before m.ty) m ms h))
      (AllSmall-Grows ms parts.rest parts.others (All-tail (λ (m : Member). HasSmallSizes model before m.ty) m ms h))

  pub layouts-Grows : (ms : List Member) (ls : List Layout) → member_layouts (layout_of model before) ms ≡ Some ls
      → member_layouts (layout_of model after) ms ≡ Some ls
  layouts-Grows = member_layouts-Extends (layout_of model before) (layout_of model after) layout_of-Grows

  -- a struct that has a layout keeps it
  pub IsLaid-Grows : (number : ℕ) (laid : StructType) (ms : List Member) → HasSmallSizes model before (struct number) × IsLaid model before number laid ms
      → HasSmallSizes model after (struct number) × IsLaid model after number laid ms
  IsLaid-Grows number laid ms h =
      let was = h.1 in
      let whole = mapped (λ (layout : Layout). layout.size) (layout_of model before (struct number)) laid.size was.size in
      let aligned = mapped (λ (layout : Layout). layout.align) (layout_of model before (struct number)) laid.align was.align in
      let parts = mapped (offsets 0) (member_layouts (layout_of model before) ms) _ was.offsets in (
        HasSmallSizes-Grows (struct number) whole.0 whole.1 h.0,
        record {
          size = ap (option_map (λ (layout : Layout). layout.size)) (layout_of-Grows (struct number) whole.0 whole.1) ∙ ap Some (sym whole.2);
          align = ap (option_map (λ (layout : Layout). layout.align)) (layout_of-Grows (struct number) aligned.0 aligned.1) ∙ ap Some (sym aligned.2);
          offsets = ap (option_map (offsets 0)) (layouts-Grows ms parts.0 parts.1) ∙ ap Some (sym parts.2);
          small = AllSmall-Grows ms parts.0 parts.1 was.small;
        },
      )
