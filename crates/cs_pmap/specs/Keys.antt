-- The order of the keys, and the entries of a map.
use Rattle.std.specs.Prelude.{◌≡◌, ℕ, not, filter, List}
use Rattle.std.specs.declared.cmp.Ordering.{Ordering}
use Rattle.std.specs.Ordering.{nat_cmp, ordering_then, eq_by_cmp}

-- by the first number, and by the second if these are equal
abbrev pub key_cmp : ℕ × ℕ → ℕ × ℕ → Ordering
key_cmp x y = ordering_then (nat_cmp x.0 y.0) (nat_cmp x.1 y.1)

-- keys with their values
abbrev pub EntryList : Type 0 → Type 0
EntryList V = List ((ℕ × ℕ) × V)

-- a clone equals its original
abbrev pub ClonesAreEqual : {V : Type 0} → (V → V → Type 0) → Type 0
ClonesAreEqual {V} IsClone = (original clone : V) → IsClone original clone → clone ≡ original

-- the entries whose keys differ from this one
abbrev pub without : {V : Type 0} → ℕ × ℕ → EntryList V → EntryList V
without key entries = filter (λ entry. not (eq_by_cmp key_cmp key entry.0)) entries
