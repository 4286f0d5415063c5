-- Members that rules put one after another have the offsets of layouts: for the bodies of structs.
use Rattle.std.proofs.Common.{◌≡◌, ℕ, ◌+◌, ◌≤◌, ◌^◌, max, nat_le, List, [], ◌∷◌, ◌++◌, map, sym, ◌∙◌, ap₂, refl}
use Rattle.std.proofs.Common.{leb-true, lit≤}
use Rattle.std.specs.Prelude.{Option, Some, None}
use Rattle.std.specs.List.{All}
use Rattle.std.proofs.lemmas.List.{map-append}
use Rattle.std.proofs.lemmas.List.Elements.{All-nil, All-push}
use Rattle.cs_types.specs.declared.data_model.DataModel.{DataModel}
use Rattle.cs_types.specs.declared.structs.StructType.{StructType}
use Rattle.cs_types.specs.Members.{Member}
use Rattle.cs_types.specs.Shape.{Shape}
use Rattle.cs_types.specs.Layout.{Layout, round_up, side_by_side, offsets, member_layouts, layout_of, HasSmallSizes, IsLaidOut}
use Rattle.cs_ast.specs.declared.place.Place.{Place}
use Rattle.cs_ast.specs.declared.raw.declaration.RawDeclarator.{RawDeclarator}
use Rattle.cs_scopes.specs.declared.context.Context.{Context}
use Rattle.cs_scopes.specs.declared.refusal.TypeCode.TheVariants.{Size, DeclaredTwice}
use Rattle.cs_scopes.specs.Verdicts.{Verdict, Fine, Fault, lift}
use Rattle.cs_scopes.specs.Sizes.{bytes_in}
use Rattle.cs_scopes.specs.TypeNames.{complete_at}
use Rattle.cs_declarations.specs.Bodies.{Laying, nothing_laid, align_in, has_member, placed, placed_if, member_added, declarator_type, member_declared}
use Rattle.cs_declarations.specs.Bodies.{members_declared}
use Rattle.cs_declarations.proofs.AddedMembers.{offsets-push, size-push, align-push, layouts-push}
use Rattle.cs_declarations.proofs.FineVerdicts.{IfFine, IfFine-lift, IfFine-lift_any, IfFine-cond}
use Rattle.cs_declarations.proofs.GrownTables.{Grows, layouts-Grows, AllSmall-Grows}
use Rattle.cs_declarations.proofs.TypeSizes.{HasLayout, bytes_in-HasLayout}

-- the members so far are side by side, with the bytes and the alignment that the laying has
pub record IsLaying (model : DataModel) (table : List StructType) (l : Laying) : Type 0 where
  pub layouts : List Layout
  pub laid : member_layouts (layout_of model table) l.members ≡ Some layouts
  pub put : offsets 0 layouts ≡ map (λ (m : Member). m.offset) l.members
  pub size : l.size ≡ (side_by_side 0 layouts).size
  pub align : l.align ≡ (side_by_side 0 layouts).align
  pub small : All (λ (m : Member). HasSmallSizes model table m.ty) l.members
  pub few : l.size ≤ 2 ^ 20

pub nothing_laid-IsLaying : (model : DataModel) (table : List StructType) → IsLaying model table nothing_laid
nothing_laid-IsLaying model table = record {
  layouts = [];
  laid = refl;
  put = refl;
  size = refl;
  align = refl;
  small = All-nil (λ (m : Member). HasSmallSizes model table m.ty);
  few = lit≤ tt;
}

-- the same in a table that grew
pub IsLaying-Grows : (model : DataModel) (before after : List StructType) → Grows before after → (l : Laying) → IsLaying model before l
    → IsLaying model after l
IsLaying-Grows model before after grows l h = record {
  layouts = h.layouts;
  laid = layouts-Grows model before after grows l.members h.layouts h.laid;
  put = h.put;
  size = h.size;
  align = h.align;
  small = AllSmall-Grows model before after grows l.members h.layouts h.laid h.small;
  few = h.few;
}

-- one more member
module _ (c : Context) (at : Place) (name : List ℕ) (before : Laying) (laying : IsLaying c.model c.table.list before) where
  placed-IsLaying : (ty : Shape) (bytes : ℕ) → HasLayout c.model c.table.list ty bytes
      → IfFine (placed at name ty bytes (align_in c.model c.table.list ty) before) (IsLaying c.model c.table.list)
  placed-IsLaying ty bytes h =
      let align = align_in c.model c.table.list ty in
      let begins = round_up before.size align in
      let member : Member = record { name = name; ty = ty; offset = begins } in
      let after : Laying = record { members = before.members ++ member ∷ []; size = begins + bytes; align = max before.align align } in
      let P : Laying → Type 0 = IsLaying c.model c.table.list in
      IfFine-cond (nat_le (begins + bytes) (2 ^ 20)) (Fine after) (Fault Size at) P
      (λ fits. at_end ty bytes h (leb-true (begins + bytes) (2 ^ 20) fits))
      (λ past. tt)
    where
      at_end : (ty : Shape) (bytes : ℕ) → HasLayout c.model c.table.list ty bytes
          → round_up before.size (align_in c.model c.table.list ty) + bytes ≤ 2 ^ 20 →
          IsLaying c.model c.table.list (record {
            members = before.members ++ record { name = name; ty = ty; offset = round_up before.size (align_in c.model c.table.list ty) } ∷ [];
            size = round_up before.size (align_in c.model c.table.list ty) + bytes;
            align = max before.align (align_in c.model c.table.list ty);
          })
      at_end ty bytes h fits =
          let align = align_in c.model c.table.list ty in
          let member : Member = record { name = name; ty = ty; offset = round_up before.size align } in
          let begins : round_up (side_by_side 0 laying.layouts).size h.layout.align ≡ round_up before.size align = ap₂ round_up (sym laying.size) h.align in
          record {
            layouts = laying.layouts ++ h.layout ∷ [];
            laid = layouts-push (layout_of c.model c.table.list) before.members member laying.layouts h.layout laying.laid h.laid;
            put = offsets-push 0 laying.layouts h.layout ∙ ap₂ (λ os o. os ++ o ∷ []) laying.put begins
                ∙ sym (map-append (λ (m : Member). m.offset) before.members (member ∷ []));
            size = ap₂ (λ m n. m + n) (sym begins) (sym h.size) ∙ sym (size-push 0 laying.layouts h.layout);
            align = ap₂ max laying.align (sym h.align) ∙ sym (align-push 0 laying.layouts h.layout);
            small = All-push (λ (m : Member). HasSmallSizes c.model c.table.list m.ty) before.members member laying.small h.small;
            few = fits;
          }

  placed_if-IsLaying : IsLaidOut c.model c.table.list → (ty : Shape) (size : Option ℕ) → bytes_in c.model c.table.list ty ≡ size
      → IfFine (placed_if c at name ty size before) (IsLaying c.model c.table.list)
  placed_if-IsLaying sound ty (Some bytes) e = placed-IsLaying ty bytes (bytes_in-HasLayout c.model c.table.list sound ty bytes e)
  placed_if-IsLaying sound ty None e = tt

  pub member_added-IsLaying : IsLaidOut c.model c.table.list → (ty : Shape) → IfFine (member_added c at name before ty) (IsLaying c.model c.table.list)
  member_added-IsLaying sound ty =
      IfFine-lift_any (λ whole. placed_if c at name whole (bytes_in c.model c.table.list whole) before) (complete_at c.table.list at ty)
      (IsLaying c.model c.table.list)
      (λ whole. placed_if-IsLaying sound whole (bytes_in c.model c.table.list whole) refl)

member_declared-IsLaying : (c : Context) (base : Shape) (d : RawDeclarator) (before : Laying) → IsLaidOut c.model c.table.list
    → IsLaying c.model c.table.list before → IfFine (member_declared c base d before) (IsLaying c.model c.table.list)
member_declared-IsLaying c base d before sound h =
    let rule : Shape → Verdict Laying = member_added c d.place d.name before in
    IfFine-cond (has_member d.name before.members) (Fault DeclaredTwice d.place) (lift rule (declarator_type c base None d)) (IsLaying c.model c.table.list)
    (λ twice. tt)
    (λ new.
    IfFine-lift_any rule (declarator_type c base None d) (IsLaying c.model c.table.list) (λ ty. member_added-IsLaying c d.place d.name before h sound ty))

-- members after others
pub members_declared-IsLaying : (c : Context) (base : Shape) (ds : List RawDeclarator) (before : Laying) → IsLaidOut c.model c.table.list
    → IsLaying c.model c.table.list before → IfFine (members_declared c base ds before) (IsLaying c.model c.table.list)
members_declared-IsLaying c base [] before sound h = h
members_declared-IsLaying c base (d ∷ ds) before sound h =
    IfFine-lift (members_declared c base ds) (member_declared c base d before) (IsLaying c.model c.table.list) (IsLaying c.model c.table.list)
    (member_declared-IsLaying c base d before sound h)
    (λ so_far g. members_declared-IsLaying c base ds so_far sound g)
