-- The sizes of types, if the structs of the table have layouts: for the contracts of `size_of` and `is_small`.
use Rattle.std.proofs.Common.{◌≡◌, arith, ℕ, zero, suc, ◌*◌, ◌^◌, ◌≤◌, List, Option, Some, None, refl, sym, ap, ◌∙◌, subst}
use Rattle.std.specs.Prelude.{slice_get, IfSome, nat_lt, if◌then◌else◌}
use Rattle.std.proofs.lemmas.Bool.Decides.{nat_tests}
use Rattle.cs_types.specs.declared.int_type.IntType.TheVariants.{Char}
use Rattle.cs_types.proofs.Leaves.{scalar_at-moved}
use Rattle.std.specs.Option.{option_map, option_and_then}
use Rattle.cs_types.specs.declared.data_model.DataModel.{DataModel}
use Rattle.cs_types.specs.declared.structs.StructType.{StructType}
use Rattle.cs_types.specs.Members.{Member}
use Rattle.cs_types.specs.Shape.{Shape, array, struct, integer}
use Rattle.cs_types.specs.Layout.{Layout, alone, row, scalar_at, leaf_of, layout_of, struct_layout, member_layouts, layout_with, padded, side_by_side, repeated}
use Rattle.cs_types.specs.Layout.{members_of, complete_count, IsSmall, HasSmallSizes, IsLaidOut}

-- a struct without members has no layout
no_layout : (model : DataModel) (table : List StructType) (number : ℕ) (depth : ℕ) → members_of table number ≡ None
    → struct_layout model table depth number ≡ None
no_layout model table number zero none = refl
no_layout model table number (suc depth) none =
    ap (option_and_then (λ ms. option_map (λ ls. padded (side_by_side 0 ls)) (member_layouts (layout_with model (struct_layout model table depth)) ms))) none

-- a struct is small, if the structs of the table have layouts
pub struct_is_small : (model : DataModel) (table : List StructType) (number : ℕ) → IsLaidOut model table → HasSmallSizes model table (struct number)
struct_is_small model table number laid = by_entry (slice_get table number) refl
  where
    none : members_of table number ≡ None → HasSmallSizes model table (struct number)
    none e = subst (λ (o : Option Layout). IfSome o (λ (layout : Layout). layout.size ≤ 2 ^ 40))
        (sym (no_layout model table number (complete_count table) e)) tt

    by_members : (s : StructType) → slice_get table number ≡ Some s → (members : Option (List Member)) → s.members ≡ members
        → HasSmallSizes model table (struct number)
    by_members s e (Some ms) f = (laid number s ms e f).0
    by_members s e None f = none (ap (option_and_then (λ (x : StructType). x.members)) e ∙ f)

    by_entry : (found : Option StructType) → slice_get table number ≡ found → HasSmallSizes model table (struct number)
    by_entry (Some s) e = by_members s e s.members refl
    by_entry None e = none (ap (option_and_then (λ (x : StructType). x.members)) e)

-- an array is small if its elements together are
pub array_is_small : (model : DataModel) (table : List StructType) (element : Shape) (count : ℕ) (bytes : Option ℕ)
    → bytes ≡ option_map (λ (layout : Layout). layout.size) (layout_of model table element) → IfSome bytes (λ b. count * b ≤ 2 ^ 40)
    → IsSmall model table (array element count)
array_is_small model table element count bytes is small =
    by_layout (layout_of model table element) (subst (λ (o : Option ℕ). IfSome o (λ b. count * b ≤ 2 ^ 40)) is small)
  where
    by_layout : (found : Option Layout) → IfSome (option_map (λ (layout : Layout). layout.size) found) (λ b. count * b ≤ 2 ^ 40)
        → IfSome (option_map (repeated count) found) (λ (layout : Layout). layout.size ≤ 2 ^ 40)
    by_layout (Some layout) h = h
    by_layout None h = tt

-- the scalar at an offset of an array of characters
pub char_at : (model : DataModel) (table : List StructType) (count offset : ℕ)
    → leaf_of model table (array (integer Char) count) offset ≡ (if nat_lt offset count then Some (integer Char) else None)
char_at model table count offset = at_index count offset
  where
    at_index : (n o : ℕ) → scalar_at o (row n (alone 1 (integer Char))) ≡ (if nat_lt o n then Some (integer Char) else None)
    at_index zero o = grind arith
    at_index (suc n) zero = grind (arith, nat_tests)
    at_index (suc n) (suc o) = grind (arith, nat_tests, scalar_at-moved 1 (suc o) (row n (alone 1 (integer Char))) (omega arith), at_index n o)
