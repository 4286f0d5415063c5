-- How many scalars items store, before those of the remaining items: for the number that an initializer stores.
use Rattle.std.proofs.Common.{◌≡◌, ℕ, suc, ◌+◌, ◌<◌, ◌≤◌, arith, ◌⊎◌, inl, inr, List, [], ◌∷◌, drop, length, Bool, true}
use Rattle.std.proofs.Common.{false, Option, Some, None, refl, sym, ap, ◌∙◌, Vec, Global}
use Rattle.std.proofs.Math.ListN.{drop_of_length-le}
use Rattle.std.specs.Prelude.{slice_get, nat_le, if◌then◌else◌}
use Rattle.std.proofs.lemmas.Bool.{leb-true, leb-false}
use Rattle.std.proofs.lemmas.Bool.Decides.{nat_tests}
use Rattle.cs_types.specs.Shape.{Shape}
use Rattle.cs_types.specs.declared.structs.StructType.{StructType}
use Rattle.cs_ast.specs.declared.raw.declaration.RawInitial as first_value
use Rattle.cs_ast.specs.declared.raw.declaration.RawInitial.{RawInitial}
use Rattle.cs_scopes.specs.Scalars.{few}
use Rattle.cs_declarations.specs.Initializers.{types_or_none, together, stored, row_stored, list_stored}
use Rattle.cs_scopes.specs.Parts.{part_types}
use Rattle.cs_declarations.proofs.PartTypes.{types_from, types_past}
use Rattle.cs_declarations.proofs.WrittenLists.{items_of}

few-within : (n : ℕ) → n ≤ 4096 → few n ≡ Some n
few-within n h = ap (λ (b : Bool). if b then Some n else None) (let e : nat_le n 4096 ≡ true = grind (arith, nat_tests) in e)

few-past : (n : ℕ) → 4096 < n → few n ≡ None
few-past n h = ap (λ (b : Bool). if b then Some n else None) (let e : nat_le n 4096 ≡ false = grind (arith, nat_tests) in e)

few_cases : (n : ℕ) → ((n ≤ 4096) × (few n ≡ Some n)) ⊎ ((4096 < n) × (few n ≡ None))
few_cases n = by_test (nat_le n 4096) refl where
  by_test : (b : Bool) → nat_le n 4096 ≡ b → ((n ≤ 4096) × (few n ≡ Some n)) ⊎ ((4096 < n) × (few n ≡ None))
  by_test true e = inl (leb-true n 4096 e, few-within n (leb-true n 4096 e))
  by_test false e = inr (leb-false n 4096 e, few-past n (leb-false n 4096 e))

-- a sum that is returned is within the bound
pub few_is : (n m : ℕ) → few n ≡ Some m → (n ≤ 4096) × (n ≡ m)
few_is n m e = elim (few_cases n) [
  | inl c ↦ (c.0, (let same : Some n ≡ Some m = sym c.1 ∙ e in cc))
  | inr c ↦ absurd (let wrong : None ≡ Some m = sym c.1 ∙ e in cc)
]

few_passed : (n : ℕ) → few n ≡ None → 4096 < n
few_passed n e = elim (few_cases n) [
  | inl c ↦ absurd (let wrong : None ≡ Some n = sym e ∙ c.1 in cc)
  | inr c ↦ c.0
]

-- sums that agree within the bound, and exceed it together
pub few_same : (kept sum : ℕ) → (sum ≤ 4096 → kept ≡ sum) → (4096 < sum → 4096 < kept) → few kept ≡ few sum
few_same kept sum small large = elim (few_cases sum) [
  | inl c ↦ ap few (small c.0)
  | inr c ↦ few-past kept (large c.0) ∙ sym c.1
]

part_more : (all n : ℕ) (rest : Option ℕ) → all + n ≤ 4096 → together (Some all) (together (Some n) rest) ≡ together (Some (all + n)) rest
part_more all n None h = refl
part_more all n (Some m) h = elim (few_cases (n + m)) [
  | inl c ↦ ap (together (Some all)) c.1 ∙ ap few (let e : all + (n + m) ≡ all + n + m = omega arith in e)
  | inr c ↦ ap (together (Some all)) c.1 ∙ sym (few-past (all + n + m) (omega (arith, c.0)))
]

part_past : (all n : ℕ) (rest : Option ℕ) → 4096 < all + n → together (Some all) (together (Some n) rest) ≡ None
part_past all n None h = refl
part_past all n (Some m) h = elim (few_cases (n + m)) [
  | inl c ↦ ap (together (Some all)) c.1 ∙ few-past (all + (n + m)) (omega arith)
  | inr c ↦ ap (together (Some all)) c.1
]

-- zero before sums
none_before : (a b : Option ℕ) → together (Some 0) (together a b) ≡ together a b
none_before None b = refl
none_before (Some n) None = refl
none_before (Some n) (Some m) = elim (few_cases (n + m)) [
  | inl c ↦ ap (together (Some 0)) c.1 ∙ ap few (let e : 0 + (n + m) ≡ n + m = omega arith in e)
  | inr c ↦ ap (together (Some 0)) c.1 ∙ sym c.1
]

pub nothing_yet : (table : List StructType) (types : List Shape) (items : List RawInitial)
    → together (Some 0) (list_stored table types items) ≡ list_stored table types items
nothing_yet table [] [] = refl
nothing_yet table (ty ∷ types) [] = refl
nothing_yet table [] (first ∷ others) = refl
nothing_yet table (ty ∷ types) (first ∷ others) = none_before (stored table ty first) (list_stored table types others)

-- an item without a part to store to stores nothing
no_types : (table : List StructType) (items : List RawInitial) → list_stored table [] items ≡ Some 0
no_types table [] = refl
no_types table (first ∷ others) = refl

no_items : (table : List StructType) (types : List Shape) → list_stored table types [] ≡ Some 0
no_items table [] = refl
no_items table (ty ∷ types) = refl

stored-row : (table : List StructType) (types : List Shape) (n : _) (row : first_value.Row_of-RawInitial n)
    → list_stored table types (first_value.items-the_row-RawInitial n row) ≡ row_stored table types row
stored-row table [] n first_value.end_of-RawInitial = refl
stored-row table (ty ∷ types) n first_value.end_of-RawInitial = refl
stored-row table [] n (first_value.more_of-RawInitial first others) = refl
stored-row table (ty ∷ types) n (first_value.more_of-RawInitial first others) = ap (together (stored table ty first)) (stored-row table types _ others)

pub stored-List : (table : List StructType) (ty : Shape) (found : Option (List Shape)) (v : RawInitial) (list : Vec RawInitial Global) (comma : Bool)
    → part_types table ty ≡ found → v ≡ first_value.TheVariants.List list comma
    → stored table ty v ≡ list_stored table (types_or_none found) list.items
stored-List table ty found v list comma parts is =
    let row = items_of (first_value.TheVariants.List list comma) in
    ap (stored table ty) is ∙ ap (λ p. row_stored table (types_or_none p) row.1) parts ∙ sym (stored-row table (types_or_none found) row.0 row.1)
    ∙ ap (list_stored table (types_or_none found)) (first_value.items_hidden-the_row-RawInitial-0 list)

pub stored-none : (table : List StructType) (ty : Shape) (v : RawInitial) (list : Vec RawInitial Global) (comma : Bool) → part_types table ty ≡ None
    → v ≡ first_value.TheVariants.List list comma → stored table ty v ≡ Some 0
stored-none table ty v list comma parts is = stored-List table ty None v list comma parts is ∙ no_types table list.items

-- the count is complete
counted : (all : ℕ) (left whole : Option ℕ) → all ≤ 4096 → left ≡ Some 0 → together (Some all) left ≡ whole → whole ≡ Some all
counted all left whole h e so_far = sym so_far ∙ ap (together (Some all)) e ∙ ap few (let f : all + 0 ≡ all = omega arith in f) ∙ few-within all h

module _ (table : List StructType) (types : List Shape) (items : List RawInitial) (all i : ℕ) (whole : Option ℕ)
    (so_far : together (Some all) (list_stored table (drop i types) (drop i items)) ≡ whole) where
  pub stored_over : all ≤ 4096 → slice_get types i ≡ None → whole ≡ Some all
  stored_over h part = counted all _ whole h (ap (λ ts. list_stored table ts (drop i items)) (types_past types i part)
      ∙ no_types table (drop i items)) so_far

  pub stored_end : all ≤ 4096 → length items ≤ i → whole ≡ Some all
  stored_end h past = counted all _ whole h (ap (list_stored table (drop i types)) (drop_of_length-le items past) ∙ no_items table (drop i types)) so_far

  module _ (item : RawInitial) (there : drop i items ≡ item ∷ drop (suc i) items) (ty : Shape) (part : slice_get types i ≡ Some ty) where
    next : together (Some all) (together (stored table ty item) (list_stored table (drop (suc i) types) (drop (suc i) items)))
        ≡ whole
    next = sym (ap (λ ts. together (Some all) (list_stored table ts (drop i items))) (types_from types i ty part)
        ∙ ap (λ xs. together (Some all) (list_stored table (ty ∷ drop (suc i) types) xs)) there) ∙ so_far

    pub stored_stops : stored table ty item ≡ None → whole ≡ None
    stored_stops e = sym next ∙ ap (λ s. together (Some all) (together s (list_stored table (drop (suc i) types) (drop (suc i) items)))) e

    pub stored_past : (n : ℕ) → stored table ty item ≡ Some n → few (all + n) ≡ None → whole ≡ None
    stored_past n e f = sym next ∙ ap (λ s. together (Some all) (together s (list_stored table (drop (suc i) types) (drop (suc i) items)))) e
        ∙ part_past all n _ (few_passed (all + n) f)

    pub stored_more : (n more : ℕ) → stored table ty item ≡ Some n → few (all + n) ≡ Some more
        → together (Some more) (list_stored table (drop (suc i) types) (drop (suc i) items)) ≡ whole
    stored_more n more e f =
        let sum = few_is (all + n) more f in
        ap (λ k. together (Some k) (list_stored table (drop (suc i) types) (drop (suc i) items))) (sym sum.1)
        ∙ sym (ap (λ s. together (Some all) (together s (list_stored table (drop (suc i) types) (drop (suc i) items)))) e
        ∙ part_more all n _ sum.0)
        ∙ next
