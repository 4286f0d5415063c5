-- The contents of one base region: its fill, and the values that were bound at offsets since.
use Rattle.std.specs.Prelude.{◌≡◌, ◌↔◌, ℕ, nat_eq, List, [], ◌∷◌, map, Option, None, Some, refl, is_some, IsTrue, if◌then◌else◌}
use Rattle.std.specs.FinMap as finite
use Rattle.std.specs.Option.{option_map_or, option_or}
use Rattle.std.specs.List.{Contains}
use Rattle.std.specs.List.Sorted.{IsStrictlyIncreasing}
use Rattle.std.specs.Coded.{Coded, code_by, coded×, coded_ℕ}
use Rattle.cs_pmap.specs.Keys.{key_cmp, EntryList}
use Rattle.cs_store.specs.declared.value.Fill.{Fill}
use Rattle.cs_store.specs.declared.value.Fill.TheVariants.{Unset}
use Rattle.cs_store.specs.declared.value.Value.{Value}
use Rattle.cs_store.specs.declared.value.Binding.{Binding}
use Rattle.cs_store.specs.declared.value.Binding.TheVariants as found

-- a fill, and direct bindings, keyed by the offset and 0
pub record Contents : Type 0 where
  pub fill : Fill
  pub direct : finite.FinMap key_cmp Value

-- contents are stored as the pair of their parts
abbrev pub contents_code : Coded Fill → Coded Value → Coded Contents
contents_code fill value =
    code_by (Fill × finite.FinMap key_cmp Value) (coded× fill (finite.code (coded× coded_ℕ coded_ℕ) value)) (λ c. (c.fill, c.direct))
    (λ p. record { fill = p.0; direct = p.1 }) (λ _. refl)

-- the second number of each key is 0
abbrev pub HasOffsets : finite.FinMap key_cmp Value → Type 0
HasOffsets direct = (key : ℕ × ℕ) → IsTrue (is_some (finite.get direct key)) → key.1 ≡ 0

-- only a fill
abbrev pub filled : Fill → Contents
filled fill = record { fill = fill; direct = finite.empty }

-- what is held at an offset: what was bound there, or else the fill
abbrev pub held_in : Contents → ℕ → Binding
held_in contents offset =
    option_map_or (λ value. found.Direct value) (finite.get contents.direct (offset, 0)) (found.Fill contents.fill)

-- the contents with one more binding
abbrev pub with_binding : Contents → ℕ → Value → Contents
with_binding contents offset value =
    record { fill = contents.fill; direct = finite.insert contents.direct (offset, 0) value }

-- leaves as entries, keyed by the offset and 0
abbrev pub keyed : List (ℕ × Value) → EntryList Value
keyed leaves = map (λ leaf. ((leaf.0, 0), leaf.1)) leaves

-- the value of the last leaf at an offset
abbrev pub last_leaf : List (ℕ × Value) → ℕ → Option Value
last_leaf [] offset = None
last_leaf (leaf ∷ leaves) offset =
    option_or (last_leaf leaves offset) (if nat_eq leaf.0 offset then Some leaf.1 else None)

-- what is held at an offset after leaves were bound: the last leaf there, or what was held before
abbrev pub after_leaves : List (ℕ × Value) → ℕ → Binding → Binding
after_leaves leaves offset before = option_map_or (λ value. found.Direct value) (last_leaf leaves offset) before

-- nothing is held: no cell was bound since the fill, and the fill is unset
abbrev pub HoldsNothing : Contents → Type 0
HoldsNothing contents = (offset : ℕ) → held_in contents offset ≡ found.Fill Unset

-- entries with only the first numbers of their keys
abbrev pub by_number : {V : Type 0} → EntryList V → List (ℕ × V)
by_number entries = map (λ entry. (entry.0.0, entry.1)) entries

-- the values that were bound since the fill, with their offsets
abbrev pub bindings_of : Contents → List (ℕ × Value)
bindings_of contents = by_number (finite.entries contents.direct)

-- the list has exactly the values that were bound since the fill, in ascending order of offset
pub record IsListing (contents : Contents) (bindings : List (ℕ × Value)) : Type 0 where
  pub rising : IsStrictlyIncreasing (map (λ binding. binding.0) bindings)
  pub exact : (offset : ℕ) (value : Value) → Contains bindings (offset, value) ↔ (held_in contents offset ≡ found.Direct value)
