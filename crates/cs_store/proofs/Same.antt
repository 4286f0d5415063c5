-- Listing the bindings of regions doesn't change a store: for the contract of `listed`.
use Rattle.std.proofs.Common.{◌≡◌, ℕ, Bool, true, false, cond, [], ◌∷◌, ◌++◌, refl, sym, ap, ◌∙◌, subst, append_assoc}
use Rattle.std.specs.Prelude.{Some}
use Rattle.std.specs.Ordering.{eq_by_cmp}
use Rattle.std.specs.FinMap as finite
use Rattle.std.specs.FinMap.Entries.{find}
use Rattle.std.specs.List.{AllByRecursion}
use Rattle.cs_pmap.specs.Keys.{key_cmp, EntryList}
use Rattle.cs_pmap.proofs.SortedEntries.{Sorted, IsTrue-T, find_middle}
use Rattle.cs_pmap.proofs.AtBranch.{key_cmp_total}
use Rattle.cs_pmap.proofs.FiniteMap.{key_cmp_exact}
use Rattle.cs_store.proofs.Keys.{same_key, key_itself, equal_from_eq}

module _ {V : Type 0} (m : finite.FinMap key_cmp V) where
  -- each entry of the list is in the map
  abbrev pub AreFound : EntryList V → Type 0
  AreFound es = AllByRecursion (λ e. finite.get m e.0 ≡ Some e.1) es

  found_after : (front es : EntryList V) (e : (ℕ × ℕ) × V) → front ++ e ∷ es ≡ finite.entries m → finite.get m e.0 ≡ Some e.1
  found_after front es e split =
      finite.get-entries m e.0
      ∙ subst (λ (l : EntryList V). find key_cmp e.0 l ≡ Some e.1) split
      (find_middle key_cmp key_cmp_total e.0 front e es (equal_from_eq (key_cmp e.0 e.0) (key_itself e.0))
      (subst (Sorted key_cmp) (sym split) (IsTrue-T _ (finite.entries_sorted m))))

  all_after : (front es : EntryList V) → front ++ es ≡ finite.entries m → AreFound es
  all_after front [] split = tt
  all_after front (e ∷ es) split =
      (found_after front es e split, all_after (front ++ e ∷ []) es (append_assoc front (e ∷ []) es ∙ split))

  pub all_found : AreFound (finite.entries m)
  all_found = all_after [] (finite.entries m) refl

  -- inserting an entry again changes nothing
  pub same_insert : (key : ℕ × ℕ) (v : V) → finite.get m key ≡ Some v → finite.insert m key v ≡ m
  same_insert key v there =
      finite.same_map key_cmp_total key_cmp_exact (finite.insert m key v) m
      (λ q. finite.get-insert key_cmp_total m key v q ∙ by q (eq_by_cmp key_cmp q key) refl)
    where
      by : (q : ℕ × ℕ) (t : Bool) → eq_by_cmp key_cmp q key ≡ t → cond t (Some v) (finite.get m q) ≡ finite.get m q
      by q true t = sym there ∙ ap (finite.get m) (sym (same_key q key t))
      by q false t = refl
