-- The member that contains an offset of a struct has the struct's scalar there: for the step of `leaf_at` into a struct.
use Rattle.std.proofs.Common.{◌≡◌, ℕ, suc, ◌-◌, ◌≤◌, List, sym, ◌∙◌, ap, subst, arith, map}
use Rattle.std.specs.Prelude.{Option, Some, None}
use Rattle.std.specs.Option.{option_map, option_and_then}
use Rattle.cs_types.specs.declared.data_model.DataModel.{DataModel}
use Rattle.cs_types.specs.Members.{Member}
use Rattle.cs_types.specs.declared.structs.StructType.{StructType}
use Rattle.cs_types.specs.Layout.{Layout, complete_count, side_by_side, offsets, padded, member_layouts, members_of, struct_layout, layout_of, scalar_at}
use Rattle.cs_types.specs.Layout.{HasSmallSizes, IsLaidOut}
use Rattle.cs_types.specs.LeafSearch.{layout_within, last_at, IsHeld}
use Rattle.cs_types.proofs.Nesting.{mapped, chained, member_layouts-Extends, layout_within-Extends, layout_within-GivesSound, member_layouts-AllSound}
use Rattle.cs_types.proofs.MemberSearch.{at_member, scalar_at-members, last_at-All, last_at-laid}
use Rattle.cs_types.proofs.StructTables.{IsComplete, laid}

-- the members of a struct that has a layout, with their layouts
pub record Members (model : DataModel) (table : List StructType) (depth : ℕ) (layout : Layout) (members : List Member) : Type 0 where
  pub layouts : List Layout
  pub laid : member_layouts (layout_within model table depth) members ≡ Some layouts
  pub whole : layout ≡ padded (side_by_side 0 layouts)
  pub placed : map (λ (m : Member). m.offset) members ≡ offsets 0 layouts

pub members_in : (model : DataModel) (table : List StructType) (number depth : ℕ) (found : StructType) (layout : Layout) → IsLaidOut model table
    → (at : IsComplete table number found) → suc depth ≤ complete_count table → struct_layout model table (suc depth) number ≡ Some layout
    → Members model table depth layout at.members
members_in model table number depth found layout h at d e =
    let built : List Member → Option Layout = λ ms. option_map (λ ls. padded (side_by_side 0 ls)) (member_layouts (layout_within model table depth) ms) in
    let parts = chained built (members_of table number) layout e in
    let own : members_of table number ≡ Some at.members = ap (option_and_then (λ (s : StructType). s.members)) at.stands ∙ at.has_members in
    let same : parts.0 ≡ at.members = cc in
    let here = subst (λ (ms : List Member). built ms ≡ Some layout) same parts.2 in
    let layouts = mapped (λ ls. padded (side_by_side 0 ls)) (member_layouts (layout_within model table depth) at.members) layout here in
    let less : depth ≤ complete_count table = omega arith in
    let full = member_layouts-Extends (layout_within model table depth) (layout_of model table)
    (layout_within-Extends model table depth (complete_count table) less) at.members layouts.0 layouts.1 in
    let put = laid model table number found h at in
    let offsets_are : Some (offsets 0 layouts.0) ≡ Some (map (λ (m : Member). m.offset) at.members) = sym (ap (option_map (offsets 0)) full)
    ∙ put.offsets in
    record { layouts = layouts.0; laid = layouts.1; whole = layouts.2; placed = cc }

at_members : (model : DataModel) (table : List StructType) (depth offset : ℕ) (layout : Layout) (members : List Member)
    → Members model table depth layout members
    → scalar_at offset layout.leaves ≡ at_member (layout_within model table depth) offset (last_at offset members)
at_members model table depth offset layout members m =
    ap (λ (l : Layout). scalar_at offset l.leaves) m.whole
    ∙ scalar_at-members (layout_within model table depth) offset 0 members m.layouts m.laid m.placed
    (member_layouts-AllSound (layout_within model table depth) (layout_within-GivesSound model table depth) members m.layouts m.laid)

-- no scalar begins before the first member
pub before_members : (model : DataModel) (table : List StructType) (number depth offset : ℕ) (found : StructType) (layout : Layout) → IsLaidOut model table
    → (at : IsComplete table number found) → suc depth ≤ complete_count table → struct_layout model table (suc depth) number ≡ Some layout
    → last_at offset at.members ≡ None → scalar_at offset layout.leaves ≡ None
before_members model table number depth offset found layout h at d e none =
    let members = members_in model table number depth found layout h at d e in
    at_members model table depth offset layout at.members members ∙ ap (at_member (layout_within model table depth) offset) none

-- the last member that begins at or before the offset has the scalar that the struct has
pub in_member : (model : DataModel) (table : List StructType) (number depth offset : ℕ) (found : StructType) (layout : Layout) (member : Member)
    → IsLaidOut model table → (at : IsComplete table number found) → suc depth ≤ complete_count table
    → struct_layout model table (suc depth) number ≡ Some layout → last_at offset at.members ≡ Some member
    → IsHeld model table depth layout offset member.ty (offset - member.offset)
in_member model table number depth offset found layout member h at d e last =
    let members = members_in model table number depth found layout h at d e in
    let inner = last_at-laid (layout_within model table depth) offset at.members members.layouts member members.laid last in
    let put = laid model table number found h at in
    record {
      inner = inner.0;
      laid = inner.1;
      same = at_members model table depth offset layout at.members members ∙ ap (at_member (layout_within model table depth) offset) last
          ∙ ap (option_and_then (λ (l : Layout). scalar_at (offset - member.offset) l.leaves)) inner.1;
      small = last_at-All (λ (m : Member). HasSmallSizes model table m.ty) offset at.members member put.small last;
    }
