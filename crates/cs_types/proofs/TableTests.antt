-- A computable test of whether a table of structs is laid out, with which the condition of `size`, `align` and `leaf_at` can be
-- shown for a given table.
use Rattle.std.proofs.Common.{◌≡◌, ℕ, ◌+◌, ◌≤◌, ◌^◌, zero, suc, Bool, true, false, ◌&&◌, List, [], ◌∷◌, map, nat_eq, nat_le}
use Rattle.std.proofs.Common.{sym, ap, refl, subst, eqb-true, arith}
use Rattle.std.specs.Prelude.{Option, Some, None, IfSome, slice_get}
use Rattle.std.specs.Option.{option_map}
use Rattle.std.specs.List.{All}
use Rattle.std.specs.Cmp.Lexicographic.{pointwise}
use Rattle.std.proofs.lemmas.Bool.Decides.{nat_tests}
use Rattle.std.proofs.lemmas.List.Elements.{All-nil, All-cons}
use Rattle.cs_names.proofs.Comparisons.{same_bytes}
use Rattle.cs_types.specs.declared.data_model.DataModel.{DataModel}
use Rattle.cs_types.specs.Members.{Member}
use Rattle.cs_types.specs.declared.structs.StructType.{StructType}
use Rattle.cs_types.specs.Shape.{Shape, void, integer, pointer, array, struct}
use Rattle.cs_types.specs.Layout.{Layout, layout_of, member_layouts, offsets, HasSmallSizes, IsLaid, IsLaidOut, Fits}

both : (a b : Bool) → (a && b) ≡ true → (a ≡ true) × (b ≡ true)
both true b h = (refl, h)
both false b h = absurd (cc)

-- ---- the parts of the test
abbrev is_number : Option ℕ → ℕ → Bool
is_number None n = false
is_number (Some m) n = nat_eq m n

is_number-true : (o : Option ℕ) (n : ℕ) → is_number o n ≡ true → o ≡ Some n
is_number-true None n h = absurd (cc)
is_number-true (Some m) n h = ap Some (eqb-true m n h)

abbrev are_numbers : Option (List ℕ) → List ℕ → Bool
are_numbers None ns = false
are_numbers (Some ms) ns = pointwise nat_eq ms ns

are_numbers-true : (o : Option (List ℕ)) (ns : List ℕ) → are_numbers o ns ≡ true → o ≡ Some ns
are_numbers-true None ns h = absurd (cc)
are_numbers-true (Some ms) ns h = ap Some (same_bytes ms ns h)

abbrev is_small : Option Layout → Bool
is_small None = true
is_small (Some layout) = nat_le layout.size (2 ^ 40)

is_small-true : (o : Option Layout) → is_small o ≡ true → IfSome o (λ layout. layout.size ≤ 2 ^ 40)
is_small-true None h = tt
is_small-true (Some layout) h = grind (arith, nat_tests)

abbrev has_small_sizes : DataModel → List StructType → Shape → Bool
has_small_sizes model table void = true
has_small_sizes model table (integer ty) = true
has_small_sizes model table (pointer target) = true
has_small_sizes model table (array element count) = has_small_sizes model table element && is_small (layout_of model table (array element count))
has_small_sizes model table (struct number) = is_small (layout_of model table (struct number))

pub has_small_sizes-true : (model : DataModel) (table : List StructType) (shape : Shape) → has_small_sizes model table shape ≡ true
    → HasSmallSizes model table shape
has_small_sizes-true model table void h = tt
has_small_sizes-true model table (integer ty) h = tt
has_small_sizes-true model table (pointer target) h = tt
has_small_sizes-true model table (array element count) h =
    let parts = both (has_small_sizes model table element) (is_small (layout_of model table (array element count))) h in
    (has_small_sizes-true model table element parts.0, is_small-true (layout_of model table (array element count)) parts.1)
has_small_sizes-true model table (struct number) h = is_small-true (layout_of model table (struct number)) h

abbrev are_small : DataModel → List StructType → List Member → Bool
are_small model table [] = true
are_small model table (m ∷ ms) = has_small_sizes model table m.ty && are_small model table ms

are_small-true : (model : DataModel) (table : List StructType) (ms : List Member) → are_small model table ms ≡ true
    → All (λ (m : Member). HasSmallSizes model table m.ty) ms
are_small-true model table [] h = All-nil (λ (m : Member). HasSmallSizes model table m.ty)
are_small-true model table (m ∷ ms) h =
    let parts = both (has_small_sizes model table m.ty) (are_small model table ms) h in
    All-cons (λ (m : Member). HasSmallSizes model table m.ty) m ms (has_small_sizes-true model table m.ty parts.0) (are_small-true model table ms parts.1)

-- ---- one struct, and all of a table
abbrev is_laid : DataModel → List StructType → ℕ → StructType → List Member → Bool
is_laid model table number laid members =
    has_small_sizes model table (struct number)
    && (is_number (option_map (λ (layout : Layout). layout.size) (layout_of model table (struct number))) laid.size
    && (is_number (option_map (λ (layout : Layout). layout.align) (layout_of model table (struct number))) laid.align
    && (are_numbers (option_map (offsets 0) (member_layouts (layout_of model table) members)) (map (λ (m : Member). m.offset) members)
    && are_small model table members)))

is_laid-true : (model : DataModel) (table : List StructType) (number : ℕ) (laid : StructType) (members : List Member)
    → is_laid model table number laid members ≡ true → HasSmallSizes model table (struct number) × IsLaid model table number laid members
is_laid-true model table number laid members h =
    let one = both (has_small_sizes model table (struct number)) _ h in
    let two = both (is_number (option_map (λ (layout : Layout). layout.size) (layout_of model table (struct number))) laid.size) _ one.1 in
    let three = both (is_number (option_map (λ (layout : Layout). layout.align) (layout_of model table (struct number))) laid.align) _ two.1 in
    let four = both (are_numbers (option_map (offsets 0) (member_layouts (layout_of model table) members)) (map (λ (m : Member). m.offset) members))
    (are_small model table members) three.1 in (
      has_small_sizes-true model table (struct number) one.0,
      record {
        size = is_number-true (option_map (λ (layout : Layout). layout.size) (layout_of model table (struct number))) laid.size two.0;
        align = is_number-true (option_map (λ (layout : Layout). layout.align) (layout_of model table (struct number))) laid.align three.0;
        offsets = are_numbers-true (option_map (offsets 0) (member_layouts (layout_of model table) members)) (map (λ (m : Member). m.offset) members) four.0;
        small = are_small-true model table members four.1;
      },
    )

abbrev is_laid_if : DataModel → List StructType → ℕ → StructType → Option (List Member) → Bool
is_laid_if model table number laid None = true
is_laid_if model table number laid (Some members) = is_laid model table number laid members

-- whether the structs from a number on are laid out
abbrev are_laid : DataModel → List StructType → ℕ → List StructType → Bool
are_laid model table number [] = true
are_laid model table number (s ∷ ss) = is_laid_if model table number s s.members && are_laid model table (suc number) ss

are_laid-true : (model : DataModel) (table : List StructType) (from : ℕ) (structs : List StructType) → are_laid model table from structs ≡ true
    → (number : ℕ) (laid : StructType) (members : List Member) → slice_get structs number ≡ Some laid → laid.members ≡ Some members
    → (at : ℕ) → at ≡ from + number → HasSmallSizes model table (struct at) × IsLaid model table at laid members
are_laid-true model table from [] h number laid members stands has at is = absurd (cc)
are_laid-true model table from (s ∷ ss) h zero laid members stands has at is =
    let same : s ≡ laid = cc in
    let here : at ≡ from = omega arith in
    let first = (both (is_laid_if model table from s s.members) (are_laid model table (suc from) ss) h).0 in
    let tested : is_laid_if model table at laid laid.members ≡ true =
    subst (λ (t : StructType). is_laid_if model table at t t.members ≡ true) same
    (subst (λ (n : ℕ). is_laid_if model table n s s.members ≡ true) (sym here) first) in
    is_laid-true model table at laid members (subst (λ (ms : Option (List Member)). is_laid_if model table at laid ms ≡ true) has tested)
are_laid-true model table from (s ∷ ss) h (suc number) laid members stands has at is =
    are_laid-true model table (suc from) ss (both (is_laid_if model table from s s.members) (are_laid model table (suc from) ss) h).1 number laid members stands
    has at (omega arith)

pub laid_out_by_test : (model : DataModel) (table : List StructType) → are_laid model table 0 table ≡ true → IsLaidOut model table
laid_out_by_test model table h = λ number laid members stands has. are_laid-true model table 0 table h number laid members stands has number (omega arith)

pub fits_by_test : (model : DataModel) (table : List StructType) (shape : Shape) → are_laid model table 0 table ≡ true
    → has_small_sizes model table shape ≡ true → Fits model table shape
fits_by_test model table shape h small = record { laid_out = laid_out_by_test model table h; small = has_small_sizes-true model table shape small }
