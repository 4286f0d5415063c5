-- Rules on initializer lists by their items: for the forms and the values of initializers.
use Rattle.std.proofs.Common.{◌≡◌, ℕ, suc, ◌<◌, ◌≤◌, List, [], ◌∷◌, length, drop, get_or, drop-cons, Bool, true, false, refl, sym, ap}
use Rattle.std.proofs.Common.{◌∙◌, Vec, Global, Some, None}
use Rattle.std.proofs.Math.ListN.{drop_of_length-le}
use Rattle.std.specs.Prelude.{◌&&◌, slice_get}
use Rattle.cs_types.specs.Shape.{Shape}
use Rattle.cs_types.specs.declared.structs.StructType.{StructType}
use Rattle.cs_ast.specs.declared.raw.declaration.RawInitial as first_value
use Rattle.cs_ast.specs.declared.raw.declaration.RawInitial.{RawInitial}
use Rattle.cs_declarations.specs.Initializers.{Storage, has_form, have_forms, list_has_forms, row_count, elements_given}
use Rattle.cs_scopes.specs.Parts.{part_types}
use Rattle.cs_declarations.proofs.PartTypes.{types_from, types_past}
use mathlib.Core.Former.{Count}

-- the items of an initializer list as a row
abbrev pub items_of : RawInitial → (n : Count) × first_value.Row_of-RawInitial n
items_of (first_value.TheVariants.List' shape row comma) = (_, row)
items_of _ = (_, first_value.end_of-RawInitial)

count-row : (n : _) (row : first_value.Row_of-RawInitial n) → length (first_value.items-the_row-RawInitial n row) ≡ row_count row
count-row n first_value.end_of-RawInitial = refl
count-row n (first_value.more_of-RawInitial first others) = ap suc (count-row _ others)

pub elements_given-List : (v : RawInitial) (list : Vec RawInitial Global) (comma : Bool) → v ≡ first_value.TheVariants.List list comma
    → elements_given v ≡ length list.items
elements_given-List v list comma is =
    let row = items_of (first_value.TheVariants.List list comma) in
    ap elements_given is ∙ sym (count-row row.0 row.1) ∙ ap length (first_value.items_hidden-the_row-RawInitial-0 list)

forms-row : (table : List StructType) (storage : Storage) (types : List Shape) (n : _) (row : first_value.Row_of-RawInitial n)
    → list_has_forms table storage types (first_value.items-the_row-RawInitial n row) ≡ have_forms table storage (Some types) row
forms-row table storage types n first_value.end_of-RawInitial = refl
forms-row table storage [] n (first_value.more_of-RawInitial first others) = refl
forms-row table storage (ty ∷ types) n (first_value.more_of-RawInitial first others) =
    ap (λ b. has_form table storage ty first && b) (forms-row table storage types _ others)

-- a list has the form of a type that has parts
pub has_form-List : (table : List StructType) (storage : Storage) (ty : Shape) (types : List Shape) (v : RawInitial) (list : Vec RawInitial Global)
    (comma : Bool) → part_types table ty ≡ Some types → v ≡ first_value.TheVariants.List list comma
    → has_form table storage ty v ≡ list_has_forms table storage types list.items
has_form-List table storage ty types v list comma parts is =
    let row = items_of (first_value.TheVariants.List list comma) in
    ap (has_form table storage ty) is ∙ ap (λ p. have_forms table storage p row.1) parts ∙ sym (forms-row table storage types row.0 row.1)
    ∙ ap (list_has_forms table storage types) (first_value.items_hidden-the_row-RawInitial-0 list)

-- an item at its index, before those after it
pub item_there : {A : Type 0} (items : List A) (i : ℕ) (item : A) → i < length items → item ≡ get_or items i item
    → drop i items ≡ item ∷ drop (suc i) items
item_there items i item within read = drop-cons items i item within ∙ ap (λ x. x ∷ drop (suc i) items) (sym read)

module _ (table : List StructType) (storage : Storage) (types : List Shape) (items : List RawInitial) (i : ℕ) (item : RawInitial)
    (there : drop i items ≡ item ∷ drop (suc i) items) where
  -- an item of the form that its part requires
  pub item_forms : (ty : Shape) → slice_get types i ≡ Some ty
      → list_has_forms table storage (drop i types) (drop i items)
      ≡ (has_form table storage ty item && list_has_forms table storage (drop (suc i) types) (drop (suc i) items))
  item_forms ty part = ap (λ ts. list_has_forms table storage ts (drop i items)) (types_from types i ty part)
      ∙ ap (list_has_forms table storage (ty ∷ drop (suc i) types)) there

  -- an item too many
  pub item_too_many : slice_get types i ≡ None → list_has_forms table storage (drop i types) (drop i items) ≡ false
  item_too_many part = ap (λ ts. list_has_forms table storage ts (drop i items)) (types_past types i part) ∙ ap (list_has_forms table storage []) there

-- no items remain
pub no_item_left : (table : List StructType) (storage : Storage) (types : List Shape) (items : List RawInitial) (i : ℕ) → length items ≤ i
    → list_has_forms table storage (drop i types) (drop i items) ≡ true
no_item_left table storage types items i h = ap (list_has_forms table storage (drop i types)) (drop_of_length-le items h) ∙ no_items (drop i types) where
  no_items : (types : List Shape) → list_has_forms table storage types [] ≡ true
  no_items types = refl
