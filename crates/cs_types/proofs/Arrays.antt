-- The scalar at an offset of an array is the one at the offset in its element: for the array step of `leaf_at`.
use Rattle.std.proofs.Common.{◌≡◌, ℕ, ◌*◌, ◌/◌, ◌%◌, ◌<◌, ◌≤◌, ◌⊎◌, inl, inr, List, sym, ◌∙◌, ap, subst, arith}
use Rattle.std.proofs.Common.{mul-le-mul_right}
use Rattle.std.specs.Prelude.{Option, Some, None, MatchOption}
use Rattle.std.specs.Option.{option_map}
use Rattle.cs_types.specs.declared.data_model.DataModel.{DataModel}
use Rattle.cs_types.specs.declared.layout.Base.{Base}
use Rattle.cs_types.specs.declared.layout.Base.TheVariants.{Scalar, Inside}
use Rattle.cs_types.specs.declared.structs.StructType.{StructType}
use Rattle.cs_types.specs.Shape.{Shape, array}
use Rattle.cs_types.specs.Layout.{Layout, complete_count, repeated, layout_of, scalar_at}
use Rattle.cs_types.specs.LeafSearch.{layout_within, IsBase}
use Rattle.cs_types.proofs.Leaves.{scalar_at-row, scalar_at-row_end}
use Rattle.cs_types.proofs.Nesting.{mapped, layout_within-Extends, layout_within-GivesSound}

-- an array's layout is that of its element, repeated
pub record ArrayParts (model : DataModel) (table : List StructType) (depth : ℕ) (element : Shape) (count : ℕ) (layout : Layout) : Type 0 where
  pub inner : Layout
  pub laid : layout_within model table depth element ≡ Some inner
  pub whole : layout ≡ repeated count inner
  pub full : layout_of model table element ≡ Some inner

pub array_parts : (model : DataModel) (table : List StructType) (depth : ℕ) (element : Shape) (count : ℕ) (layout : Layout)
    → depth ≤ complete_count table → layout_within model table depth (array element count) ≡ Some layout
    → ArrayParts model table depth element count layout
array_parts model table depth element count layout d h =
    let parts = mapped (repeated count) (layout_within model table depth element) layout h in
    record { inner = parts.0; laid = parts.1; whole = parts.2; full = layout_within-Extends model table depth (complete_count table) d element parts.0 parts.1 }

-- an element of an array with a layout has a size
pub no_size : (model : DataModel) (table : List StructType) (depth : ℕ) (element : Shape) (count : ℕ) (layout : Layout) → depth ≤ complete_count table
    → layout_within model table depth (array element count) ≡ Some layout → None ≡ option_map (λ (l : Layout). l.size) (layout_of model table element)
    → ⊥
no_size model table depth element count layout d h none =
    let parts = array_parts model table depth element count layout d h in
    let there = ap (option_map (λ (l : Layout). l.size)) parts.full in
    cc

element_size : (model : DataModel) (table : List StructType) (depth : ℕ) (element : Shape) (count : ℕ) (layout : Layout) (size : ℕ)
    (parts : ArrayParts model table depth element count layout) → Some size ≡ option_map (λ (l : Layout). l.size) (layout_of model table element)
    → size ≡ parts.inner.size
element_size model table depth element count layout size parts e =
    let there = ap (option_map (λ (l : Layout). l.size)) parts.full in
    cc

-- no scalar begins past the elements
pub past_elements : (model : DataModel) (table : List StructType) (depth : ℕ) (element : Shape) (count : ℕ) (layout : Layout) (size offset : ℕ)
    → depth ≤ complete_count table → layout_within model table depth (array element count) ≡ Some layout
    → Some size ≡ option_map (λ (l : Layout). l.size) (layout_of model table element) → (size ≡ 0) ⊎ (count ≤ offset / size)
    → scalar_at offset layout.leaves ≡ None
past_elements model table depth element count layout size offset d h e past =
    let parts = array_parts model table depth element count layout d h in
    let own = element_size model table depth element count layout size parts e in
    let sound = layout_within-GivesSound model table depth element parts.inner parts.laid in
    let end : count * size ≤ offset = elim past [
      | inl none ↦ (let zeros = ap (λ x. count * x) none in omega (arith, zeros))
      | inr far ↦ omega (arith, mul-le-mul_right size far)
    ] in
    let same = ap (λ x. count * x) own in
    ap (λ (l : Layout). scalar_at offset l.leaves) parts.whole ∙ scalar_at-row_end count offset parts.inner sound.within (omega arith)

-- within the elements, it is the element's scalar at the remainder
pub in_element : (model : DataModel) (table : List StructType) (depth : ℕ) (element : Shape) (count : ℕ) (layout : Layout) (size offset : ℕ)
    (parts : ArrayParts model table depth element count layout) → Some size ≡ option_map (λ (l : Layout). l.size) (layout_of model table element)
    → (size ≡ 0 → ⊥) → offset / size < count → scalar_at offset layout.leaves ≡ scalar_at (offset % size) parts.inner.leaves
in_element model table depth element count layout size offset parts e some near =
    let own = element_size model table depth element count layout size parts e in
    let sound = layout_within-GivesSound model table depth element parts.inner parts.laid in
    let above : 0 < parts.inner.size = omega arith in
    let quotient : offset / parts.inner.size < count = subst (λ (x : ℕ). offset / x < count) own near in
    ap (λ (l : Layout). scalar_at offset l.leaves) parts.whole ∙ scalar_at-row count offset parts.inner sound.within above quotient
    ∙ ap (λ x. scalar_at (offset % x) parts.inner.leaves) (sym own)

-- a result for one offset is also one for another with the same scalar
pub same_base : (model : DataModel) (table : List StructType) (depth : ℕ) (outer inner : Layout) (o rest : ℕ) (answer : Option Base)
    → scalar_at o outer.leaves ≡ scalar_at rest inner.leaves
    → MatchOption answer (scalar_at rest inner.leaves ≡ None) (IsBase model table depth inner rest)
    → MatchOption answer (scalar_at o outer.leaves ≡ None) (IsBase model table depth outer o)
same_base model table depth outer inner o rest None e h = e ∙ h
same_base model table depth outer inner o rest (Some (Scalar found)) e h = e ∙ h
same_base model table depth outer inner o rest (Some (Inside number further)) e h = (h.0, h.1, e ∙ h.2)
