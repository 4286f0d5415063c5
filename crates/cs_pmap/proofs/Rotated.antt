-- The entries around a rotation: for `rotated_right` and `rotated_left`.
use Rattle.std.proofs.Common.{◌≡◌, ℕ, ◌∷◌, ◌++◌, subst, append_assoc}
use Rattle.cs_pmap.specs.Keys.{EntryList, key_cmp}
use Rattle.cs_pmap.proofs.AtBranch.{key_cmp_total}
use Rattle.cs_pmap.proofs.SortedEntries.{Sorted, sorted_inner_right, sorted_inner_left}

module _ {V : Type 0} where
  -- `low` and `high` are the inner side's own sides, and `copy` is a copy of one of the sides
  pub sorted_past_left : {tree copy : EntryList V} (x : EntryList V) (e : (ℕ × ℕ) × V) (y : EntryList V) (f : (ℕ × ℕ) × V) (z : EntryList V)
      → tree ≡ x ++ e ∷ y → copy ≡ y → Sorted key_cmp (tree ++ f ∷ z) → Sorted key_cmp (copy ++ f ∷ z)
  sorted_past_left x e y f z is same s =
      rw same (sorted_inner_right key_cmp key_cmp_total x e y f z (subst (λ t. Sorted key_cmp (t ++ f ∷ z)) is s))

  pub sorted_past_right : {tree copy : EntryList V} (x : EntryList V) (e : (ℕ × ℕ) × V) (y : EntryList V) (f : (ℕ × ℕ) × V) (z : EntryList V)
      → tree ≡ y ++ f ∷ z → copy ≡ y → Sorted key_cmp (x ++ e ∷ tree) → Sorted key_cmp (x ++ e ∷ copy)
  sorted_past_right x e y f z is same s =
      rw same (sorted_inner_left key_cmp key_cmp_total x e y f z (subst (λ t. Sorted key_cmp (x ++ e ∷ t)) is s))

  -- the right side is `inner ++ g ∷ x`, and its inner side is `u ++ e ∷ v`
  pub regrouped_left : {right inner low high : EntryList V} (l : EntryList V) (f : (ℕ × ℕ) × V) (u : EntryList V) (e : (ℕ × ℕ) × V)
      (v : EntryList V) (g : (ℕ × ℕ) × V) (x : EntryList V) → right ≡ inner ++ g ∷ x → inner ≡ u ++ e ∷ v → low ≡ l ++ f ∷ u
      → high ≡ v ++ g ∷ x → low ++ e ∷ high ≡ l ++ f ∷ right
  regrouped_left l f u e v g x right_is inner_is low_is high_is = rw (low_is, high_is, right_is, inner_is) (simp append_assoc)
