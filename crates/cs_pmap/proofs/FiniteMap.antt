-- The map of a tree's entries, after each change of the entries: for the calls of `PMap`.
use Rattle.std.proofs.Common.{◌≡◌, ℕ, Bool, true, false, cond, not, [], length, refl, sym, ap, ◌∙◌}
use Rattle.std.specs.Prelude.{Option, None, Some, is_some}
use Rattle.std.specs.Borrow.{Bor}
use Rattle.std.specs.Option.{option_copied}
use Rattle.std.specs.Ordering.{eq_by_cmp, is_eq}
use Rattle.std.specs.declared.cmp.Ordering.TheVariants.{Equal}
use Rattle.std.specs.Cmp.{alike_right, eq_by_cmp_equiv}
use Rattle.std.specs.FinMap.{FinMap, find, put, empty, get, insert, remove, entries, from_sorted, empty_of_len, len-entries, entries-from_sorted}
use Rattle.std.specs.FinMap.{get-from_sorted, entries-insert, get-remove, same_entries_map, same_map}
use Rattle.std.specs.FinMap.Entries.{is_sorted-put, is_sorted-where_key, find-where_key}
use Rattle.std.proofs.lemmas.Map.Lookups.{exact_pairs, exact_unsigned}
use Rattle.std.specs.Ordering.{nat_cmp}
use Rattle.cs_pmap.specs.Keys.{EntryList, key_cmp, without}
use Rattle.cs_pmap.proofs.AtBranch.{key_cmp_total}
use Rattle.cs_pmap.proofs.SortedEntries.{Sorted, T-IsTrue, IsTrue-T, without_missing}

pub key_cmp_exact : (x y : ℕ × ℕ) → key_cmp x y ≡ Equal → x ≡ y
key_cmp_exact = exact_pairs nat_cmp nat_cmp exact_unsigned exact_unsigned

turned : {A : Type 0} (b : Bool) (x y : A) → cond (not b) x y ≡ cond b y x
turned true x y = refl
turned false x y = refl

module _ {V : Type 0} where
  abbrev pub map_of : EntryList V → FinMap key_cmp V
  map_of es = from_sorted es

  pub map_of-none : map_of [] ≡ empty
  map_of-none = empty_of_len (map_of []) (len-entries (map_of []) ∙ ap length (entries-from_sorted key_cmp [] tt))

  pub entries-map_of : (es : EntryList V) → Sorted key_cmp es → entries (map_of es) ≡ es
  entries-map_of es s = entries-from_sorted key_cmp es (T-IsTrue _ s)

  pub get-map_of : (es : EntryList V) (k : ℕ × ℕ) → Sorted key_cmp es → get (map_of es) k ≡ find key_cmp k es
  get-map_of es k s = get-from_sorted key_cmp es k (T-IsTrue _ s)

  pub Sorted-put : (es new : EntryList V) (k : ℕ × ℕ) (v : V) → Sorted key_cmp es → new ≡ put key_cmp k v es → Sorted key_cmp new
  Sorted-put es new k v s e = rw e (IsTrue-T _ (is_sorted-put key_cmp key_cmp_total k v es (T-IsTrue _ s)))

  pub Sorted-without : (es new : EntryList V) (k : ℕ × ℕ) → Sorted key_cmp es → new ≡ without k es → Sorted key_cmp new
  Sorted-without es new k s e = rw e (IsTrue-T _ (is_sorted-where_key key_cmp (λ x. not (eq_by_cmp key_cmp k x)) es (T-IsTrue _ s)))

  pub map_of-put : (es new : EntryList V) (k : ℕ × ℕ) (v : V) → Sorted key_cmp es → new ≡ put key_cmp k v es
      → map_of new ≡ insert (map_of es) k v
  map_of-put es new k v s e =
      same_entries_map (map_of new) (insert (map_of es) k v)
      (entries-map_of new (Sorted-put es new k v s e) ∙ e ∙ ap (put key_cmp k v) (sym (entries-map_of es s))
      ∙ sym (entries-insert key_cmp_total (map_of es) k v))

  find-without : (es : EntryList V) (k q : ℕ × ℕ) → find key_cmp q (without k es) ≡ cond (eq_by_cmp key_cmp q k) None (find key_cmp q es)
  find-without es k q =
      find-where_key key_cmp (λ x. not (eq_by_cmp key_cmp k x)) q (λ x t. ap (λ r. not (is_eq r)) (sym (alike_right key_cmp_total q x k t))) es
      ∙ turned (eq_by_cmp key_cmp k q) (find key_cmp q es) None
      ∙ ap (λ b. cond b None (find key_cmp q es)) ((eq_by_cmp_equiv key_cmp_total).symm k q)

  pub map_of-without : (es new : EntryList V) (k : ℕ × ℕ) → Sorted key_cmp es → new ≡ without k es → map_of new ≡ remove (map_of es) k
  map_of-without es new k s e =
      same_map key_cmp_total key_cmp_exact (map_of new) (remove (map_of es) k)
      (λ q. get-map_of new q (Sorted-without es new k s e) ∙ ap (find key_cmp q) e ∙ find-without es k q
      ∙ ap (cond (eq_by_cmp key_cmp q k) None) (sym (get-map_of es q s)) ∙ sym (get-remove key_cmp_total (map_of es) k q))

  -- if a look-up finds nothing, there is nothing to remove
  pub map_of-absent : (es : EntryList V) (k : ℕ × ℕ) (found : Option (Bor V)) → Sorted key_cmp es → option_copied found ≡ find key_cmp k es
      → is_some found ≡ false → map_of es ≡ remove (map_of es) k
  map_of-absent es k None s e n = map_of-without es es k s (sym (without_missing key_cmp k es (sym e)))
  map_of-absent es k (Some v) s e n = cc
