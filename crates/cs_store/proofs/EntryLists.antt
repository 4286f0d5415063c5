-- The direct bindings of a region in order of offset, and the regions of a store in order: for the contracts of `bindings` and `regions`.
use Rattle.std.proofs.Common.{◌≡◌, ℕ, Bool, true, false, cond, ◌&&◌, [], ◌∷◌, ◌++◌, length, get_or, take, drop, map, T, refl, sym, ap}
use Rattle.std.proofs.Common.{◌∙◌, subst, ◌<◌, ◌+◌, arith}
use Rattle.std.specs.Prelude.{Option, None, Some, is_some, IsTrue}
use Rattle.std.specs.Option.{option_map_or, unwrap_or}
use Rattle.std.specs.Ordering.{eq_by_cmp, is_lt, nat_cmp, ordering_then}
use Rattle.std.specs.declared.cmp.Ordering.{Ordering}
use Rattle.std.specs.declared.cmp.Ordering.TheVariants.{Less, Equal, Greater}
use Rattle.std.specs.FinMap as finite
use Rattle.std.specs.FinMap.Entries.{find, is_sorted, below_all}
use Rattle.std.specs.List.{Contains, AllByRecursion}
use Rattle.std.specs.List.Sorted.{IsStrictlySortedBy}
use Rattle.std.proofs.lemmas.List.{drop_more, take-append-drop, length-map}
use Rattle.std.proofs.lemmas.Option.{same_Some}
use Rattle.std.proofs.Math.ListN.{get_or-map}
use Rattle.std.proofs.lemmas.List.Elements.{Contains-append_right, Contains-get_or}
use Rattle.std.proofs.lemmas.Map.Keys.{IsStrictlyIncreasing-from_sorted}
use Rattle.cs_pmap.specs.Keys.{key_cmp, EntryList}
use Rattle.cs_pmap.proofs.SortedEntries.{Sorted, IsTrue-T, find_middle}
use Rattle.cs_pmap.proofs.AtBranch.{key_cmp_total}
use Rattle.cs_store.specs.declared.value.Value.{Value}
use Rattle.cs_store.specs.declared.value.Fill.{Fill}
use Rattle.cs_store.specs.declared.value.Binding.TheVariants as found
use Rattle.cs_store.specs.declared.value.Fill.TheVariants.{Unset}
use Rattle.cs_store.specs.Contents.{Contents, HasOffsets, HoldsNothing, IsListing, by_number, filled}
use Rattle.cs_store.specs.Held.{Regions, AreInUse, IsRegionListing}
use Rattle.cs_store.proofs.Regions.{held_filled}
use Rattle.cs_store.proofs.Keys.{same_key, key_itself, equal_from_eq}

first_less : (o : Ordering) → T (is_lt (ordering_then o Equal)) → o ≡ Less
first_less Less h = refl
first_less Equal h = absurd h
first_less Greater h = absurd h

less_number : (k q : ℕ × ℕ) → k.1 ≡ 0 → q.1 ≡ 0 → T (is_lt (key_cmp k q)) → nat_cmp k.0 q.0 ≡ Less
less_number k q zero_k zero_q less =
    first_less (nat_cmp k.0 q.0) (subst (λ (r : Ordering). T (is_lt (ordering_then (nat_cmp k.0 q.0) r))) (λ i. nat_cmp (zero_k i) (zero_q i)) less)

and_first : (a b : Bool) → T (a && b) → T a
and_first true b h = tt
and_first false b h = absurd h

and_second : (a b : Bool) → T (a && b) → T b
and_second true b h = h
and_second false b h = absurd h

module _ {V : Type 0} where
  -- each key that is found is a number beside a zero
  abbrev pub Keyed : EntryList V → Type 0
  Keyed es = (key : ℕ × ℕ) → IsTrue (is_some (find key_cmp key es)) → key.1 ≡ 0

  keyed_first : (e : (ℕ × ℕ) × V) (es : EntryList V) → Keyed (e ∷ es) → e.0.1 ≡ 0
  keyed_first e es keyed = keyed e.0 (ap (λ t. is_some (cond t (Some e.1) (find key_cmp e.0 es))) (key_itself e.0))

  some_either : (t : Bool) (v : V) (o : Option V) → IsTrue (is_some o) → IsTrue (is_some (cond t (Some v) o))
  some_either true v o h = refl
  some_either false v o h = h

  keyed_rest : (e : (ℕ × ℕ) × V) (es : EntryList V) → Keyed (e ∷ es) → Keyed es
  keyed_rest e es keyed key there = keyed key (some_either (eq_by_cmp key_cmp key e.0) e.1 (find key_cmp key es) there)

  below_numbers : (k : ℕ × ℕ) (es : EntryList V) → k.1 ≡ 0 → Keyed es → T (below_all key_cmp k es)
      → AllByRecursion (λ y. nat_cmp k.0 y ≡ Less) (map (λ b. b.0) (by_number es))
  below_numbers k [] zero keyed below = tt
  below_numbers k (e ∷ es) zero keyed below = (
    less_number k e.0 zero (keyed_first e es keyed) (and_first _ _ below),
    below_numbers k es zero (keyed_rest e es keyed) (and_second _ _ below),
  )

  pub rising_numbers : (es : EntryList V) → Keyed es → T (is_sorted key_cmp es) → IsStrictlySortedBy nat_cmp (map (λ b. b.0) (by_number es))
  unfolding IsStrictlySortedBy
  rising_numbers [] keyed sorted = tt
  rising_numbers (e ∷ es) keyed sorted = (
    below_numbers e.0 es (keyed_first e es keyed) (keyed_rest e es keyed) (and_first _ _ sorted),
    rising_numbers es (keyed_rest e es keyed) (and_second _ _ sorted),
  )

  -- looking up an entry's key finds the entry
  found_entry : (es : EntryList V) (k : ℕ) (d : (ℕ × ℕ) × V) → T (is_sorted key_cmp es) → k < length es
      → find key_cmp (get_or es k d).0 es ≡ Some (get_or es k d).1
  found_entry es k d sorted within =
      let e = get_or es k d in
      let split : take k es ++ e ∷ drop (k + 1) es ≡ es = ap (λ rest. take k es ++ rest) (sym (drop_more es k d within)) ∙ take-append-drop k es in
      subst (λ (l : EntryList V). find key_cmp e.0 l ≡ Some e.1) split
      (find_middle key_cmp key_cmp_total e.0 (take k es) e (drop (k + 1) es) (equal_from_eq (key_cmp e.0 e.0) (key_itself e.0))
      (subst (Sorted key_cmp) (sym split) (IsTrue-T _ sorted)))

  by_number_at : (es : EntryList V) (k : ℕ) (d : (ℕ × ℕ) × V)
      → get_or (by_number es) k (d.0.0, d.1) ≡ ((get_or es k d).0.0, (get_or es k d).1)
  by_number_at es k d = get_or-map (λ (x : (ℕ × ℕ) × V). (x.0.0, x.1)) es k d

  pub listed_found : (es : EntryList V) (o : ℕ) (v : V) → T (is_sorted key_cmp es) → Keyed es → Contains (by_number es) (o, v)
      → find key_cmp (o, 0) es ≡ Some v
  listed_found es o v sorted keyed (k, within, at) =
      let d : (ℕ × ℕ) × V = ((o, 0), v) in
      let e = get_or es k d in
      let same = sym (by_number_at es k d) ∙ at in
      let inside : k < length es = omega (arith, length-map {B = ℕ × V} es (λ x. (x.0.0, x.1))) in
      let here = found_entry es k d sorted inside in
      let zero = keyed e.0 (ap is_some here) in
      let key : e.0 ≡ (o, 0) = λ i. ((same i).0, zero i) in
      ap (λ q. find key_cmp q es) (sym key) ∙ here ∙ ap (λ (x : ℕ × V). Some x.1) same

  pub found_listed : (es : EntryList V) (o : ℕ) (v : V) → find key_cmp (o, 0) es ≡ Some v → Contains (by_number es) (o, v)
  found_listed [] o v h = cc
  found_listed (e ∷ es) o v h = by (eq_by_cmp key_cmp (o, 0) e.0) refl h (found_listed es o v)
    where
      by : (t : Bool) → eq_by_cmp key_cmp (o, 0) e.0 ≡ t → cond t (Some e.1) (find key_cmp (o, 0) es) ≡ Some v
          → (find key_cmp (o, 0) es ≡ Some v → Contains (by_number es) (o, v)) → Contains (by_number (e ∷ es)) (o, v)
      by true t here rest =
          let key = same_key (o, 0) e.0 t in
          let value = same_Some e.1 v here in
          let lit : 0 < length (by_number (e ∷ es)) = omega arith in
          let entry : (e.0.0, e.1) ≡ (o, v) = λ i. ((sym key i).0, value i) in
          subst (Contains (by_number (e ∷ es))) entry (Contains-get_or (by_number (e ∷ es)) 0 (e.0.0, e.1) lit)
      by false t here rest = Contains-append_right ((e.0.0, e.1) ∷ []) (by_number es) (o, v) (rest here)

direct_held : (b : Option Value) (fill : Fill) (v : Value) → option_map_or (λ value. found.Direct value) b (found.Fill fill) ≡ found.Direct v
    → b ≡ Some v
direct_held None fill v h = absurd (cc)
direct_held (Some w) fill v h = cc

-- the direct bindings of a region
pub listing : (contents : Contents) → HasOffsets contents.direct → IsListing contents (by_number (finite.entries contents.direct))
listing contents offsets =
    let m = contents.direct in
    let fill = contents.fill in
    let es = finite.entries m in
    let sorted = finite.entries_sorted m in
    let keyed : Keyed es = λ key there. offsets key (subst (λ (o : Option Value). IsTrue (is_some o)) (sym (finite.get-entries m key)) there) in
    record {
      rising = IsStrictlyIncreasing-from_sorted _ (rising_numbers es keyed sorted);
      exact =
          λ o v. (
            λ there. ap (λ b. option_map_or (λ value. found.Direct value) b (found.Fill fill))
                (finite.get-entries m (o, 0) ∙ listed_found es o v sorted keyed there),
            λ held. found_listed es o v (sym (finite.get-entries m (o, 0)) ∙ direct_held (finite.get m (o, 0)) fill v held),
          );
    }

-- a region that holds something is in the store
kept_contents : (o : Option Contents) (contents : Contents) → unwrap_or o (filled Unset) ≡ contents → ¬ HoldsNothing contents → o ≡ Some contents
kept_contents None contents e h = absurd (h (subst (λ (z : Contents). HoldsNothing z) e (held_filled Unset)))
kept_contents (Some c) contents e h = ap (λ z. Some z) e

-- the regions of a store
pub region_listing : (store : Regions) → AreInUse store → IsRegionListing store (by_number (finite.entries store))
region_listing store in_use =
    let es = finite.entries store in
    let sorted = finite.entries_sorted store in
    let keyed : Keyed es = λ key there. by key (find key_cmp key es) (finite.get-entries store key) there in
    record {
      rising = IsStrictlyIncreasing-from_sorted _ (rising_numbers es keyed sorted);
      exact =
          λ b contents. (
            λ there.
                let kept = finite.get-entries store (b, 0) ∙ listed_found es b contents sorted keyed there in
                (ap (λ o. unwrap_or o (filled Unset)) kept, (in_use (b, 0) contents kept).1),
            λ both. found_listed es b contents
                (sym (finite.get-entries store (b, 0)) ∙ kept_contents (finite.get store (b, 0)) contents both.0 both.1),
          );
    }
  where
    by : (key : ℕ × ℕ) (o : Option Contents) → finite.get store key ≡ o → IsTrue (is_some o) → key.1 ≡ 0
    by key None e there = absurd (cc)
    by key (Some c) e there = (in_use key c e).0
