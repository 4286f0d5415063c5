-- A table of structs with one more, and with one of them completed, has layouts: for struct tags and bodies.
use Rattle.std.proofs.Common.{◌≡◌, ℕ, zero, suc, ◌<◌, ◌≤◌, ◌^◌, ◌≢◌, inl, inr, cond, List, [], ◌∷◌, ◌++◌, length, map}
use Rattle.std.proofs.Common.{get_or, slice_get, slice_set, is_some, sym, ◌∙◌, ap, refl, subst, arith}
use Rattle.std.specs.Prelude.{Option, Some, None, IfSome}
use Rattle.std.specs.Option.{option_map, option_and_then}
use Rattle.std.specs.List.{All}
use Rattle.std.proofs.lemmas.Bool.{cases_eq}
use Rattle.std.proofs.lemmas.List.Sums.{sum_by_push, sum_by-set}
use Rattle.std.proofs.lemmas.Option.{slice_get-get_or}
use Rattle.cs_types.specs.declared.data_model.DataModel.{DataModel}
use Rattle.cs_types.specs.declared.structs.StructType.{StructType}
use Rattle.cs_types.specs.Members.{Member}
use Rattle.cs_types.specs.Shape.{struct}
use Rattle.cs_types.specs.Layout.{Layout, round_up, side_by_side, padded, offsets, member_layouts, members_of, struct_layout, complete_count, layout_of}
use Rattle.cs_types.specs.Layout.{HasSmallSizes, IsLaid, IsLaidOut}
use Rattle.cs_types.specs.LeafSearch.{layout_within}
use Rattle.cs_types.proofs.Nesting.{layout_with-Extends, member_layouts-Extends}
use Rattle.cs_declarations.proofs.GrownTables.{Grows, struct_layout-Grows, layouts-Grows, AllSmall-Grows, IsLaid-Grows}

-- whether a struct counts as complete
abbrev counted : StructType → ℕ
counted s = cond (is_some s.members) 1 0

-- ---- one more struct
module _ (added : StructType) (open_yet : added.members ≡ None) where
  pub members_of-push : (table : List StructType) (number : ℕ) → members_of (table ++ added ∷ []) number ≡ members_of table number
  members_of-push [] zero = open_yet
  members_of-push [] (suc number) = refl
  members_of-push (s ∷ ss) zero = refl
  members_of-push (s ∷ ss) (suc number) = members_of-push ss number

  stands_before : (table : List StructType) (number : ℕ) (s : StructType) (ms : List Member) → slice_get (table ++ added ∷ []) number ≡ Some s
      → s.members ≡ Some ms → slice_get table number ≡ Some s
  stands_before [] zero s ms h has =
      let same : added ≡ s = cc in
      let none : s.members ≡ None = ap (λ (x : StructType). x.members) (sym same) ∙ open_yet in
      absurd (cc)
  stands_before [] (suc number) s ms h has = absurd (cc)
  stands_before (x ∷ xs) zero s ms h has = h
  stands_before (x ∷ xs) (suc number) s ms h has = stands_before xs number s ms h has

  count-push : (table : List StructType) → complete_count (table ++ added ∷ []) ≡ complete_count table
  count-push table =
      let none : counted added ≡ 0 = ap (λ ms. cond (is_some ms) 1 0) open_yet in
      let whole = sum_by_push counted table added in
      omega arith

  pub Grows-push : (table : List StructType) → Grows table (table ++ added ∷ [])
  Grows-push table = record { members = λ number ms e. members_of-push table number ∙ e; count = (let same = count-push table in omega arith) }

  -- a table with one more struct that has no members yet
  pub pushed : (model : DataModel) (table : List StructType) → IsLaidOut model table → IsLaidOut model (table ++ added ∷ [])
  pushed model table h = λ number laid ms stands has.
      IsLaid-Grows model table (table ++ added ∷ []) (Grows-push table) number laid ms (h number laid ms (stands_before table number laid ms stands has) has)

-- ---- a struct replaced by another
pub set-here : (table : List StructType) (number : ℕ) (s : StructType) → number < length table → slice_get (slice_set table number s) number ≡ Some s
set-here [] number s h = absurd (omega arith)
set-here (x ∷ xs) zero s h = refl
set-here (x ∷ xs) (suc number) s h = set-here xs number s (omega arith)

pub set-elsewhere : (table : List StructType) (number other : ℕ) (s : StructType) → other ≢ number
    → slice_get (slice_set table number s) other ≡ slice_get table other
set-elsewhere [] number other s h = refl
set-elsewhere (x ∷ xs) zero zero s h = absurd (h refl)
set-elsewhere (x ∷ xs) zero (suc other) s h = refl
set-elsewhere (x ∷ xs) (suc number) zero s h = refl
set-elsewhere (x ∷ xs) (suc number) (suc other) s h = set-elsewhere xs number other s (λ e. h (ap suc e))

-- ---- a struct gets its members
module _ (model : DataModel) (table : List StructType) (number : ℕ) (within : number < length table) (open_yet : members_of table number ≡ None)
    (s : StructType) (ms : List Member) (has : s.members ≡ Some ms) where
  abbrev after : List StructType
  after = slice_set table number s

  own : members_of after number ≡ Some ms
  own = ap (option_and_then (λ (x : StructType). x.members)) (set-here table number s within) ∙ has

  pub others_keep : (other : ℕ) → other ≢ number → members_of (slice_set table number s) other ≡ members_of table other
  others_keep other apart = ap (option_and_then (λ (x : StructType). x.members)) (set-elsewhere table number other s apart)

  count-set : complete_count after ≡ suc (complete_count table)
  count-set =
      let was = get_or table number s in
      let none : was.members ≡ None = sym (ap (option_and_then (λ (x : StructType). x.members)) (slice_get-get_or table number s within)) ∙ open_yet in
      let without : counted was ≡ 0 = ap (λ o. cond (is_some o) 1 0) none in
      let with' : counted s ≡ 1 = ap (λ o. cond (is_some o) 1 0) has in
      let whole = sum_by-set counted table number s s within in
      omega arith

  pub Grows-set : Grows table (slice_set table number s)
  Grows-set = record {
    members =
        λ other xs e.
        (elim (cases_eq other number) [
          | inl same ↦ absurd (let here : members_of table other ≡ None = ap (members_of table) same ∙ open_yet in cc)
          | inr apart ↦ others_keep other apart ∙ e
        ]);
    count = (let one = count-set in omega arith);
  }

  module _ (ls : List Layout) (laid : member_layouts (layout_of model table) ms ≡ Some ls) where
    -- the layout of the struct after that
    struct-laid : layout_of model after (struct number) ≡ Some (padded (side_by_side 0 ls))
    struct-laid =
        let inner = layout_with-Extends model (struct_layout model table (complete_count table)) (struct_layout model after (complete_count table))
        (struct_layout-Grows model table after Grows-set (complete_count table)) in
        let within_it = member_layouts-Extends (layout_of model table) (layout_within model after (complete_count table)) inner ms ls laid in
        let deep : List Member → Option Layout = λ xs.
        option_map (λ ys. padded (side_by_side 0 ys)) (member_layouts (layout_within model after (complete_count table)) xs) in
        ap (λ depth. struct_layout model after depth number) count-set ∙ ap (option_and_then deep) own
        ∙ ap (option_map (λ ys. padded (side_by_side 0 ys))) within_it

    module _ (put : offsets 0 ls ≡ map (λ (m : Member). m.offset) ms) (size : s.size ≡ round_up (side_by_side 0 ls).size (side_by_side 0 ls).align)
        (align : s.align ≡ (side_by_side 0 ls).align) (few : s.size ≤ 2 ^ 40) (small : All (λ (m : Member). HasSmallSizes model table m.ty) ms) where
      here-laid : HasSmallSizes model after (struct number) × IsLaid model after number s ms
      here-laid = (
        (let P : Option Layout → Type 0 = λ o. IfSome o (λ layout. layout.size ≤ 2 ^ 40) in
            subst P (sym struct-laid) (let fits : (padded (side_by_side 0 ls)).size ≤ 2 ^ 40 = subst (λ (n : ℕ). n ≤ 2 ^ 40) size few in fits)),
        record {
          size = ap (option_map (λ (layout : Layout). layout.size)) struct-laid ∙ ap Some (sym size);
          align = ap (option_map (λ (layout : Layout). layout.align)) struct-laid ∙ ap Some (sym align);
          offsets = ap (option_map (offsets 0)) (layouts-Grows model table after Grows-set ms ls laid) ∙ ap Some put;
          small = AllSmall-Grows model table after Grows-set ms ls laid small;
        },
      )

      -- a table in which a struct has got its members
      pub completed : IsLaidOut model table → IsLaidOut model (slice_set table number s)
      completed h other found xs stands with' = elim (cases_eq other number) [
        | inl same ↦ at_number other found xs same stands with'
        | inr apart ↦ IsLaid-Grows model table after Grows-set other found xs
            (h other found xs (sym (set-elsewhere table number other s apart) ∙ stands) with')
      ]
        where
          at_number : (other : ℕ) (found : StructType) (xs : List Member) → other ≡ number → slice_get after other ≡ Some found
              → found.members ≡ Some xs → HasSmallSizes model after (struct other) × IsLaid model after other found xs
          at_number other found xs same stands with' =
              let own_place : slice_get after other ≡ Some s = ap (slice_get after) same ∙ set-here table number s within in
              let is : s ≡ found = cc in
              let same_members : ms ≡ xs = (let e : Some ms ≡ Some xs = sym has ∙ ap (λ (x : StructType). x.members) is ∙ with' in cc) in
              subst (λ (n : ℕ). HasSmallSizes model after (struct n) × IsLaid model after n found xs) (sym same)
              (subst (λ (x : StructType). HasSmallSizes model after (struct number) × IsLaid model after number x xs) is
              (subst (λ (ys : List Member). HasSmallSizes model after (struct number) × IsLaid model after number s ys) same_members here-laid))
