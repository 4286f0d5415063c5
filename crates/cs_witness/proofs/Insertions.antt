-- Lists in the order of a key: where an item belongs, and what an insertion preserves. For the contracts of `findings` and `cuts`.
use Rattle.std.proofs.Common.{◌≡◌, ℕ, zero, suc, ◌+◌, ◌<◌, ◌≤◌, false, List, [], ◌∷◌, ◌++◌, length, map, take, drop, get_or}
use Rattle.std.proofs.Common.{refl, sym, ◌∙◌, ap, subst, arith, inl, inr, ◌⊎◌}
use Rattle.std.specs.Prelude.{All, Contains}
use Rattle.std.specs.List.{AllByRecursion, insert}
use Rattle.std.specs.List.Sorted.{IsStrictlySortedBy, IsPartitionPoint, IsNonDecreasingBy}
use Rattle.std.specs.Cmp.{IsTotalOrder}
use Rattle.std.specs.Ordering.{ordering_index, is_lt}
use Rattle.std.specs.declared.cmp.Ordering.{Ordering}
use Rattle.std.specs.declared.cmp.Ordering.TheVariants.{Less, Greater}
use Rattle.std.proofs.lemmas.List.{get_or-map, length-map, take-append-drop, map-append, take-map, drop-map}
use Rattle.std.proofs.lemmas.List.Elements.{All-append, All-cons, All-take, All-drop, All-contains_itself}
use Rattle.std.proofs.lemmas.List.Elements.{Contains-append_left, Contains-append_right, Contains-append_cases}
use Rattle.std.proofs.lemmas.List.Sorted.{searchable_from_sorted}
use Rattle.std.proofs.lemmas.Map.Keys.{Less-from_sorted}
use Rattle.cs_inputs.proofs.SortedEntries.{flip-Less, flip-Greater}

-- what holds for all items before an insertion, and for the inserted one, holds for all after it
pub all_inserted : {A : Type 0} (P : A → Type 0) (xs : List A) (i : ℕ) (x : A) → All P xs → P x → All P (insert xs i x)
all_inserted P xs i x all one = All-append P (take i xs) (x ∷ drop i xs) (All-take P i xs all) (All-cons P x (drop i xs) one (All-drop P i xs all))

module _ {A : Type 0} (xs : List A) (i : ℕ) (x : A) where
  -- after an insertion the list contains the item, and all that it contained
  pub inserted_there : Contains (insert xs i x) x
  inserted_there = Contains-append_right (take i xs) (x ∷ drop i xs) x (0, omega arith, refl)

  kept_apart : (y : A) → (Contains (take i xs) y ⊎ Contains (drop i xs) y) → Contains (insert xs i x) y
  kept_apart y (inl here) = Contains-append_left (take i xs) (x ∷ drop i xs) y here
  kept_apart y (inr here) =
      Contains-append_right (take i xs) (x ∷ drop i xs) y (suc here.0, let before = here.1 in omega arith, here.2)

  pub inserted_keeps : All (Contains (insert xs i x)) xs
  inserted_keeps k d before =
      let there : Contains (take i xs ++ drop i xs) (get_or xs k d) =
      subst (λ l. Contains l (get_or xs k d)) (sym (take-append-drop i xs)) (All-contains_itself xs k d before) in
      kept_apart (get_or xs k d) (Contains-append_cases (take i xs) (drop i xs) (get_or xs k d) there)

  pub map-insert : {B : Type 0} (f : A → B) → map f (insert xs i x) ≡ insert (map f xs) i (f x)
  map-insert f =
      map-append f (take i xs) (x ∷ drop i xs) ∙ (λ j. sym (take-map f i xs) j ++ f x ∷ sym (drop-map f i xs) j)

module _ {A K : Type 0} {R : K → K → Ordering} (o : IsTotalOrder R) (key : A → K) where
  through : (x y : K) (ks : List K) → R x y ≡ Less → AllByRecursion (λ z. R y z ≡ Less) ks → AllByRecursion (λ z. R x z ≡ Less) ks
  through x y [] e h = tt
  through x y (z ∷ zs) e h = (o.trans x y z e h.0, through x y zs e h.1)

  adjacent : (xs : List A) (k : ℕ) (d : A) → IsStrictlySortedBy R (map key xs) → k + 1 < length xs
      → is_lt (R (key (get_or xs (k + 1) d)) (key (get_or xs k d))) ≡ false
  adjacent xs k d h p =
      let fits : k + 1 < length (map key xs) = omega (arith, length-map xs key) in
      let keys = Less-from_sorted R (map key xs) k (k + 1) (key d) h (omega arith) fits in
      let low = get_or-map key xs k d (key d) (omega arith) in
      let high = get_or-map key xs (k + 1) d (key d) p in
      let less : R (key (get_or xs k d)) (key (get_or xs (k + 1) d)) ≡ Less = (λ i. R (sym low i) (sym high i)) ∙ keys in
      ap is_lt (flip-Less o (key (get_or xs k d)) (key (get_or xs (k + 1) d)) less)

  -- such a list can be searched by its key
  pub searchable : (xs : List A) (k : K) → IsStrictlySortedBy R (map key xs) → IsNonDecreasingBy (λ (x : A). ordering_index (R (key x) k)) xs
  searchable xs k h = searchable_from_sorted o key xs k (λ j d low high. adjacent xs j d h high)

  -- a key below all items and below the inserted one is below all after the insertion
  above : (least : K) (x : A) (xs : List A) (i : ℕ) → R least (key x) ≡ Less → AllByRecursion (λ z. R least z ≡ Less) (map key xs)
      → AllByRecursion (λ z. R least z ≡ Less) (map key (take i xs ++ x ∷ drop i xs))
  above least x [] zero e h = (e, tt)
  above least x [] (suc i) e h = (e, tt)
  above least x (y ∷ ys) zero e h = (e, h)
  above least x (y ∷ ys) (suc i) e h = (h.0, above least x ys i e h.1)

  -- inserting an item at its position keeps the order
  pub inserted_in_order : (xs : List A) (x : A) (i : ℕ) → i ≤ length xs
      → IsPartitionPoint (λ (y : A). R (key y) (key x) ≡ Less) (λ (y : A). R (key y) (key x) ≡ Greater) xs i
      → IsStrictlySortedBy R (map key xs) → IsStrictlySortedBy R (map key (insert xs i x))
  unfolding IsStrictlySortedBy
  inserted_in_order [] x zero p h sorted = (tt, tt)
  inserted_in_order [] x (suc i) p h sorted = absurd (omega arith)
  inserted_in_order (y ∷ ys) x zero p h sorted =
      let less : R (key x) (key y) ≡ Less = flip-Greater o (key y) (key x) (h.1 0 y (omega arith) (omega arith)) in
      ((less, through (key x) (key y) (map key ys) less sorted.0), (sorted.0, sorted.1))
  inserted_in_order (y ∷ ys) x (suc i) p h sorted = (
    above (key y) x ys i (h.0 0 y (omega arith) (omega arith)) sorted.0,
    inserted_in_order ys x i (omega arith) (
      λ j d low high. h.0 (suc j) d (omega arith) (omega arith),
      λ j d low high. h.1 (suc j) d (omega arith) (omega arith),
    ) sorted.1,
  )
