-- The members of a struct with a layout have complete types: for the initializers of its objects.
use Rattle.std.proofs.Common.{◌≡◌, ℕ, zero, suc, true, List, [], ◌∷◌, map, slice_get, Option, Some, None, is_some, refl, ap}
use Rattle.std.specs.Option.{option_map}
use Rattle.std.proofs.lemmas.Option.{option_and_then_some}
use Rattle.cs_types.specs.declared.data_model.DataModel.{DataModel}
use Rattle.cs_types.specs.declared.structs.StructType.{StructType}
use Rattle.cs_types.specs.Layout.{Layout, padded, side_by_side, offsets, layout_with, member_layouts, members_of, struct_layout, complete_count, layout_of}
use Rattle.cs_types.specs.Layout.{IsLaidOut}
use Rattle.cs_types.specs.Members.{Member}
use Rattle.cs_types.specs.Shape.{Shape, void, integer, pointer, array, struct}
use Rattle.cs_types.specs.Kinds.{is_complete}
use Rattle.cs_ast.specs.TypedProgram.{TypedProgram}
use Rattle.cs_well_formed.specs.Expressions.{IsWhole}

-- each of these types is complete
abbrev pub AreWhole : TypedProgram → List Shape → Type 0
AreWhole p [] = Unit {0}
AreWhole p (ty ∷ types) = IsWhole p ty × AreWhole p types

there : {A : Type 0} (o : Option A) (x : A) → o ≡ Some x → is_some o ≡ true
there o x h = ap is_some h

pub option_map-there : {A B : Type 0} (f : A → B) (o : Option A) (y : B) → option_map f o ≡ Some y → (x : A) × (o ≡ Some x)
option_map-there f (Some x) y h = (x, refl)
option_map-there f None y h = absurd cc

module _ (model : DataModel) (table : List StructType) where
  struct-complete : (depth number : ℕ) (l : Layout) → struct_layout model table depth number ≡ Some l → is_some (members_of table number) ≡ true
  struct-complete zero number l h = absurd cc
  struct-complete (suc depth) number l h =
      option_and_then_some (λ ms. option_map (λ ls. padded (side_by_side 0 ls)) (member_layouts (layout_with model (struct_layout model table depth)) ms))
      (members_of table number) l h
      (λ ms is _. there (members_of table number) ms is)

  -- a type with a layout is complete
  laid-complete : (depth : ℕ) (ty : Shape) (l : Layout) → layout_with model (struct_layout model table depth) ty ≡ Some l
      → is_complete table ty ≡ true
  laid-complete depth void l h = absurd cc
  laid-complete depth (integer ty) l h = refl
  laid-complete depth (pointer target) l h = refl
  laid-complete depth (array element count) l h =
      let found = option_map-there _ (layout_with model (struct_layout model table depth) element) l h in laid-complete depth element found.0 found.1
  laid-complete depth (struct number) l h = struct-complete depth number l h

module _ (p : TypedProgram) where
  each-whole : (depth : ℕ) (ms : List Member) (ls : List Layout) → member_layouts (layout_with p.model (struct_layout p.model p.table depth)) ms ≡ Some ls
      → AreWhole p (map (λ (m : Member). m.ty) ms)
  each-whole depth [] ls h = tt
  each-whole depth (m ∷ ms) ls h =
      option_and_then_some (λ first. option_map (λ rest. first ∷ rest) (member_layouts (layout_with p.model (struct_layout p.model p.table depth)) ms))
      (layout_with p.model (struct_layout p.model p.table depth) m.ty) ls h
      (λ first is rest.
      let found = option_map-there _ (member_layouts (layout_with p.model (struct_layout p.model p.table depth)) ms) ls rest in
      (laid-complete p.model p.table depth m.ty first is, each-whole depth ms found.0 found.1))

  -- the members of a struct have complete types
  pub members-whole : (number : ℕ) (members : List Member) → IsLaidOut p.model p.table → members_of p.table number ≡ Some members
      → AreWhole p (map (λ (m : Member). m.ty) members)
  members-whole number members laid_out is =
      option_and_then_some (λ (laid : StructType). laid.members) (slice_get p.table number) members is
      (λ laid at has.
      let found = option_map-there (offsets 0) (member_layouts (layout_of p.model p.table) members) _ (laid_out number laid members at has).1.offsets in
      each-whole (complete_count p.table) members found.0 found.1)
