-- Entries inserted among those of a tree, and where a key divides a list in ascending order: for `merged`, `with_each`, `built` and `split_around`.
use Rattle.std.proofs.Common.{◌≡◌, ℕ, ◌+◌, ◌<◌, ◌≤◌, arith, Bool, true, false, ◌&&◌, List, [], ◌∷◌, ◌++◌, length, take, drop, get_or}
use Rattle.std.proofs.Common.{inl, inr, refl, sym, ap, subst, ◌∙◌, append_assoc}
use Rattle.std.proofs.lemmas.List.{append-nil, take-append-drop, take_more, drop_more, drop_all}
use Rattle.std.specs.Prelude.{IsTrue}
use Rattle.std.specs.declared.cmp.Ordering.{Ordering}
use Rattle.std.specs.declared.cmp.Ordering.TheVariants.{Less, Equal, Greater}
use Rattle.std.specs.Ordering.{is_lt, ordering_reverse}
use Rattle.std.specs.FinMap.{put, is_sorted}
use Rattle.std.specs.FinMap.Entries.{by_order, below_all}
use Rattle.cs_pmap.specs.Keys.{EntryList, key_cmp}
use Rattle.cs_pmap.specs.Tree.{branch_entries, IsBalanced}
use Rattle.cs_pmap.specs.Many.{put_all, insert_all, AllCompare, IsSplitAround}
use Rattle.cs_pmap.specs.declared.tree.Branch.{Branch}
use Rattle.cs_pmap.specs.declared.merge.Around.{Around}
use Rattle.cs_pmap.proofs.AtBranch.{key_cmp_total}
use Rattle.cs_pmap.proofs.FiniteMap.{key_cmp_exact, Sorted-put, map_of, map_of-put}
use Rattle.cs_pmap.proofs.SortedEntries.{Sorted, first_part, second_part, less_from_lt, sorted_front, sorted_back, rises_past}
use Rattle.cs_pmap.proofs.SortedEntries.{sorted_cons, sorted_tail, next_above, put_left, put_middle, put_right}

ties : (r : Ordering) → r ≡ ordering_reverse r → r ≡ Equal
ties Less e = cc
ties Equal e = refl
ties Greater e = cc

and_false : (b : Bool) → (b && false) ≡ false
and_false true = refl
and_false false = refl

itself : (k : ℕ × ℕ) → key_cmp k k ≡ Equal
itself k = ties (key_cmp k k) (key_cmp_total.antisymm k k)

-- a reversed comparison
turned_less : (x y : ℕ × ℕ) → key_cmp x y ≡ Less → key_cmp y x ≡ Greater
turned_less x y p = key_cmp_total.antisymm y x ∙ ap ordering_reverse p

turned_greater : (x y : ℕ × ℕ) → key_cmp x y ≡ Greater → key_cmp y x ≡ Less
turned_greater x y p = key_cmp_total.antisymm y x ∙ ap ordering_reverse p

module _ {V : Type 0} where
  -- entries inserted before and after one
  pub put_all-sorted : (es l : EntryList V) → Sorted key_cmp l → Sorted key_cmp (put_all es l)
  put_all-sorted [] l s = s
  put_all-sorted (e ∷ es) l s = put_all-sorted es (put key_cmp e.0 e.1 l) (Sorted-put l _ e.0 e.1 s refl)

  put_all-append : (es fs l : EntryList V) → put_all (es ++ fs) l ≡ put_all fs (put_all es l)
  put_all-append [] fs l = refl
  put_all-append (e ∷ es) fs l = put_all-append es fs (put key_cmp e.0 e.1 l)

  put_all-left : (es l : EntryList V) (m : (ℕ × ℕ) × V) (r : EntryList V) → AllCompare Less m.0 es
      → put_all es (l ++ m ∷ r) ≡ put_all es l ++ m ∷ r
  put_all-left [] l m r c = refl
  put_all-left (e ∷ es) l m r c =
      ap (put_all es) (put_left key_cmp e.0 e.1 l m r c.0) ∙ put_all-left es (put key_cmp e.0 e.1 l) m r c.1

  put_all-right : (es l : EntryList V) (m : (ℕ × ℕ) × V) (r : EntryList V) → AllCompare Greater m.0 es → Sorted key_cmp (l ++ m ∷ r)
      → put_all es (l ++ m ∷ r) ≡ l ++ m ∷ put_all es r
  put_all-right [] l m r c s = refl
  put_all-right (e ∷ es) l m r c s =
      let step = put_right key_cmp key_cmp_total e.0 e.1 l m r c.0 s in
      ap (put_all es) step
      ∙ put_all-right es l m (put key_cmp e.0 e.1 r) c.1 (Sorted-put (l ++ m ∷ r) (l ++ m ∷ put key_cmp e.0 e.1 r) e.0 e.1 s (sym step))

  -- entries in ascending order, inserted into an empty list
  put_last : (k : ℕ × ℕ) (v : V) (l : EntryList V) → Sorted key_cmp (l ++ (k, v) ∷ []) → put key_cmp k v l ≡ l ++ (k, v) ∷ []
  put_last k v [] s = refl
  put_last k v (y ∷ t) s =
      ap (λ w. by_order w ((k, v) ∷ y ∷ t) ((y.0, v) ∷ t) (y ∷ put key_cmp k v t))
      (turned_less y.0 k (rises_past key_cmp key_cmp_total y (k, v) t [] s))
      ∙ ap (λ w. y ∷ w) (put_last k v t (sorted_tail key_cmp y (t ++ (k, v) ∷ []) s))

  put_all-after : (es l : EntryList V) → Sorted key_cmp (l ++ es) → put_all es l ≡ l ++ es
  put_all-after [] l s = sym (append-nil l)
  put_all-after (e ∷ es) l s =
      let regrouped : (l ++ e ∷ []) ++ es ≡ l ++ e ∷ es = append_assoc l (e ∷ []) es in
      let whole : Sorted key_cmp ((l ++ e ∷ []) ++ es) = rw regrouped s in
      ap (put_all es) (put_last e.0 e.1 l (sorted_front key_cmp key_cmp_total (l ++ e ∷ []) es whole))
      ∙ put_all-after es (l ++ e ∷ []) whole ∙ regrouped

  pub put_into_nothing : (es l : EntryList V) → l ≡ [] → Sorted key_cmp es → put_all es l ≡ es
  put_into_nothing es l e s = ap (put_all es) e ∙ put_all-after es [] s

  pub put_one_more : (es l : EntryList V) (i : ℕ) (e : (ℕ × ℕ) × V) → i < length es → e ≡ get_or es i e
      → put_all (take (i + 1) es) l ≡ put key_cmp e.0 e.1 (put_all (take i es) l)
  put_one_more es l i e b is =
      ap (λ w. put_all w l) (take_more es i e b ∙ ap (λ w. take i es ++ w ∷ []) (sym is)) ∙ put_all-append (take i es) (e ∷ []) l

  put_over : (l : EntryList V) (k : ℕ × ℕ) (v w : V) (r : EntryList V) → Sorted key_cmp (l ++ (k, w) ∷ r)
      → put key_cmp k v (l ++ (k, w) ∷ r) ≡ l ++ (k, v) ∷ r
  put_over l k v w r s = put_middle key_cmp key_cmp_total k v l (k, w) r (itself k) s

  -- the entries of the merged sides, if a key divides the entries
  divided : (es : EntryList V) (root : Branch V) (around : Around V) → Sorted key_cmp (branch_entries root)
      → IsSplitAround es root.key root.value around
      → put_all es (branch_entries root)
      ≡ put_all around.before.now root.left.0 ++ (root.key, around.value.now) ∷ put_all around.after.now root.right.0
  divided es root around s split =
      let before = around.before.now in
      let after = around.after.now in
      let low = put_all before root.left.0 in
      let left_is = put_all-left before root.left.0 (root.key, root.value) root.right.0 split.before in
      let low_sorted : Sorted key_cmp (low ++ (root.key, root.value) ∷ root.right.0) = rw (sym left_is) (put_all-sorted before _ s) in
      let over = put_over low root.key around.value.now root.value root.right.0 low_sorted in
      elim split.whole as (λ _. put_all es (branch_entries root) ≡ low ++ (root.key, around.value.now) ∷ put_all after root.right.0) [
        | inl w ↦ ap (λ x. put_all x (branch_entries root)) w.0 ∙ put_all-append before after (branch_entries root) ∙ ap (put_all after) left_is
            ∙ put_all-right after low (root.key, root.value) root.right.0 split.after low_sorted
            ∙ ap (λ x. low ++ (root.key, x) ∷ put_all after root.right.0) (sym w.1)
        | inr w ↦ ap (λ x. put_all x (branch_entries root)) w ∙ put_all-append before ((root.key, around.value.now) ∷ after) (branch_entries root)
            ∙ ap (λ x. put_all after (put key_cmp root.key around.value.now x)) left_is
            ∙ ap (put_all after) over
            ∙ put_all-right after low (root.key, around.value.now) root.right.0 split.after
            (Sorted-put (low ++ (root.key, root.value) ∷ root.right.0) _ root.key around.value.now low_sorted (sym over))
      ]

  -- the parts around a key ascend, too
  pub ascending_before : (es : EntryList V) (k : ℕ × ℕ) (kept : V) (around : Around V) → Sorted key_cmp es → IsSplitAround es k kept around
      → Sorted key_cmp around.before.now
  ascending_before es k kept around s split =
      elim split.whole as (λ _. Sorted key_cmp around.before.now) [
        | inl w ↦ sorted_front key_cmp key_cmp_total around.before.now around.after.now (subst (Sorted key_cmp) w.0 s)
        | inr w ↦ sorted_front key_cmp key_cmp_total around.before.now ((k, around.value.now) ∷ around.after.now) (subst (Sorted key_cmp) w s)
      ]

  pub ascending_after : (es : EntryList V) (k : ℕ × ℕ) (kept : V) (around : Around V) → Sorted key_cmp es → IsSplitAround es k kept around
      → Sorted key_cmp around.after.now
  ascending_after es k kept around s split =
      elim split.whole as (λ _. Sorted key_cmp around.after.now) [
        | inl w ↦ sorted_back key_cmp around.before.now around.after.now (subst (Sorted key_cmp) w.0 s)
        | inr w ↦ sorted_tail key_cmp (k, around.value.now) around.after.now
            (sorted_back key_cmp around.before.now ((k, around.value.now) ∷ around.after.now) (subst (Sorted key_cmp) w s))
      ]

  -- `is` states that the tree is the branch `root`; `left`, `value` and `right` are the parts of the new branch
  pub merged_is : {tree : EntryList V × ℕ} {left right : EntryList V} {value : V} (root : Branch V) (es : EntryList V) (around : Around V)
      → (tree ≡ (branch_entries root, root.height)) × IsBalanced root → IsSplitAround es root.key root.value around
      → left ≡ put_all around.before.now root.left.0 → value ≡ around.value.now → right ≡ put_all around.after.now root.right.0
      → left ++ (root.key, value) ∷ right ≡ put_all es tree.0
  merged_is root es around is split l v r = rw (l, v, r, is.0) (sym (divided es root around is.1.sorted split))

  pub merged_sorted : {tree : EntryList V × ℕ} {new : EntryList V} (root : Branch V) (es : EntryList V)
      → (tree ≡ (branch_entries root, root.height)) × IsBalanced root → new ≡ put_all es tree.0 → Sorted key_cmp new
  merged_sorted root es is e = rw (e, is.0) (put_all-sorted es (branch_entries root) is.1.sorted)

  -- the entries before and after one of a list in ascending order
  at_place : (es : EntryList V) (i : ℕ) (e : (ℕ × ℕ) × V) → i < length es → e ≡ get_or es i e → es ≡ take i es ++ e ∷ drop (i + 1) es
  at_place es i e b is =
      sym (take-append-drop i es) ∙ ap (λ w. take i es ++ w) (drop_more es i e b) ∙ ap (λ x. take i es ++ x ∷ drop (i + 1) es) (sym is)

  less_up_to : (t : EntryList V) (e : (ℕ × ℕ) × V) (r : EntryList V) → Sorted key_cmp (t ++ e ∷ r) → AllCompare Less e.0 t
  less_up_to [] e r s = tt
  less_up_to (y ∷ t) e r s =
      (rises_past key_cmp key_cmp_total y e t r s, less_up_to t e r (sorted_tail key_cmp y (t ++ e ∷ r) s))

  below_compare : (k : ℕ × ℕ) (r : EntryList V) → IsTrue (below_all key_cmp k r) → AllCompare Greater k r
  below_compare k [] h = tt
  below_compare k (y ∷ r) h = (turned_less k y.0 (less_from_lt _ (first_part _ _ h)), below_compare k r (second_part _ _ h))

  greater_from : (t : EntryList V) (e : (ℕ × ℕ) × V) (r : EntryList V) → Sorted key_cmp (t ++ e ∷ r) → AllCompare Greater e.0 r
  greater_from t e r s = below_compare e.0 r (first_part _ _ (sorted_back key_cmp t (e ∷ r) s))

  less_through : (x k : ℕ × ℕ) (t : EntryList V) → key_cmp x k ≡ Less → AllCompare Less x t → AllCompare Less k t
  less_through x k [] p c = tt
  less_through x k (y ∷ t) p c = (key_cmp_total.trans y.0 x k c.0 p, less_through x k t p c.1)

  greater_through : (x k : ℕ × ℕ) (t : EntryList V) → key_cmp x k ≡ Greater → AllCompare Greater x t → AllCompare Greater k t
  greater_through x k [] p c = tt
  greater_through x k (y ∷ t) p c =
      (turned_less k y.0 (key_cmp_total.trans k x y.0 (turned_greater x k p) (turned_greater y.0 x c.0)), greater_through x k t p c.1)

  less_then : (k : ℕ × ℕ) (t : EntryList V) (e : (ℕ × ℕ) × V) → AllCompare Less k t → key_cmp e.0 k ≡ Less → AllCompare Less k (t ++ e ∷ [])
  less_then k [] e c p = (p, tt)
  less_then k (y ∷ t) e c p = (c.0, less_then k t e c.1 p)

  -- a binary search has narrowed the position of the key's entry to `low` up to `high`
  pub record Searched (es : EntryList V) (k : ℕ × ℕ) (low high : ℕ) : Type 0 where
    pub ordered : low ≤ high
    pub inside : high ≤ length es
    pub before : AllCompare Less k (take low es)
    pub after : AllCompare Greater k (drop high es)

  pub searched_all : (es : EntryList V) (k : ℕ × ℕ) (n : ℕ) → n ≡ length es → Searched es k 0 n
  searched_all es k n is =
      record { ordered = omega arith; inside = omega (arith, is); before = tt; after = rw (drop_all n es (omega (arith, is))) tt }

  pub search_up : (es : EntryList V) (k : ℕ × ℕ) (low high middle : ℕ) (e : (ℕ × ℕ) × V) → Searched es k low high → middle < high
      → Sorted key_cmp es → e ≡ get_or es middle e → key_cmp e.0 k ≡ Less → Searched es k (middle + 1) high
  search_up es k low high middle e now b s is p =
      let there : middle < length es = omega (arith, now.inside) in
      let place = at_place es middle e there is in
      let sorted = subst (Sorted key_cmp) place s in
      let up = less_then k (take middle es) e (less_through e.0 k (take middle es) p (less_up_to (take middle es) e (drop (middle + 1) es) sorted)) p in
      record {
        ordered = omega arith;
        inside = now.inside;
        before = subst (AllCompare Less k) (sym (take_more es middle e there ∙ ap (λ x. take middle es ++ x ∷ []) (sym is))) up;
        after = now.after;
      }

  pub search_down : (es : EntryList V) (k : ℕ × ℕ) (low high middle : ℕ) (e : (ℕ × ℕ) × V) → Searched es k low high → low ≤ middle
      → middle < high → Sorted key_cmp es → e ≡ get_or es middle e → key_cmp e.0 k ≡ Greater → Searched es k low middle
  search_down es k low high middle e now a b s is p =
      let there : middle < length es = omega (arith, now.inside) in
      let place = at_place es middle e there is in
      let sorted = subst (Sorted key_cmp) place s in
      let above : AllCompare Greater k (e ∷ drop (middle + 1) es) =
      (p, greater_through e.0 k (drop (middle + 1) es) p (greater_from (take middle es) e (drop (middle + 1) es) sorted)) in
      record {
        ordered = a;
        inside = omega arith;
        before = now.before;
        after = subst (AllCompare Greater k) (sym (drop_more es middle e there ∙ ap (λ x. x ∷ drop (middle + 1) es) (sym is))) above;
      }

  pub search_found : (es : EntryList V) (k : ℕ × ℕ) (kept : V) (middle : ℕ) (e : (ℕ × ℕ) × V) (around : Around V) → middle < length es
      → Sorted key_cmp es → e ≡ get_or es middle e → key_cmp e.0 k ≡ Equal → around.before.now ≡ take middle es → around.value.now ≡ e.1
      → around.after.now ≡ drop (middle + 1) es → IsSplitAround es k kept around
  search_found es k kept middle e around there s is p before_is value_is after_is =
      let same : e.0 ≡ k = key_cmp_exact e.0 k p in
      let place = at_place es middle e there is in
      let sorted = subst (Sorted key_cmp) place s in
      record {
        whole = inr (rw (before_is, value_is, after_is, sym same) place);
        before = rw (before_is, sym same) (less_up_to (take middle es) e (drop (middle + 1) es) sorted);
        after = rw (after_is, sym same) (greater_from (take middle es) e (drop (middle + 1) es) sorted);
      }

  pub search_missed : (es : EntryList V) (k : ℕ × ℕ) (kept : V) (low high : ℕ) (around : Around V) → Searched es k low high → high ≤ low
      → around.before.now ≡ take low es → around.value.now ≡ kept → around.after.now ≡ drop low es → IsSplitAround es k kept around
  search_missed es k kept low high around now b before_is value_is after_is =
      let met : high ≡ low = omega (arith, now.ordered) in
      record {
        whole = inl (rw (before_is, after_is) (sym (take-append-drop low es)), value_is);
        before = rw before_is now.before;
        after = rw after_is (subst (λ n. AllCompare Greater k (drop n es)) met now.after);
      }

  -- whether entries ascend, from the second on
  below_after : (e f : (ℕ × ℕ) × V) (es : EntryList V) → key_cmp e.0 f.0 ≡ Less
      → (below_all key_cmp e.0 es && is_sorted key_cmp (f ∷ es)) ≡ is_sorted key_cmp (f ∷ es)
  below_after e f es p =
      elim (is_sorted key_cmp (f ∷ es)) as (λ s. is_sorted key_cmp (f ∷ es) ≡ s → (below_all key_cmp e.0 es && s) ≡ s) [
        | true ↦ λ q. ap (λ b. b && true) (second_part _ _ (first_part _ _ (sorted_cons key_cmp key_cmp_total e f es p q)))
        | false ↦ λ q. and_false (below_all key_cmp e.0 es)
      ] refl

  pub sorted_next : (e f : (ℕ × ℕ) × V) (es : EntryList V)
      → is_sorted key_cmp (e ∷ f ∷ es) ≡ (is_lt (key_cmp e.0 f.0) && is_sorted key_cmp (f ∷ es))
  sorted_next e f es =
      elim (is_lt (key_cmp e.0 f.0)) as (λ b. is_lt (key_cmp e.0 f.0) ≡ b
      → ((b && below_all key_cmp e.0 es) && is_sorted key_cmp (f ∷ es)) ≡ (b && is_sorted key_cmp (f ∷ es))) [
        | true ↦ λ p. below_after e f es (less_from_lt _ p)
        | false ↦ λ p. refl
      ] refl

  -- the map of the entries
  pub map_of-put_all : (more es new : EntryList V) → Sorted key_cmp es → new ≡ put_all more es → map_of new ≡ insert_all (map_of es) more
  map_of-put_all [] es new s e = ap map_of e
  map_of-put_all (x ∷ more) es new s e =
      map_of-put_all more (put key_cmp x.0 x.1 es) new (Sorted-put es _ x.0 x.1 s refl) e
      ∙ ap (λ m. insert_all m more) (map_of-put es (put key_cmp x.0 x.1 es) x.0 x.1 s refl)

  -- each half of a list in ascending order ascends, and is shorter if there is an entry between them
  pub front_ascends : (es front : EntryList V) (n : ℕ) → Sorted key_cmp es → front ≡ take n es → Sorted key_cmp front
  front_ascends es front n s e =
      rw e (sorted_front key_cmp key_cmp_total (take n es) (drop n es) (rw (take-append-drop n es) s))

  pub back_ascends : (es rest after : EntryList V) (n : ℕ) (e : (ℕ × ℕ) × V) → Sorted key_cmp es → rest ≡ drop n es → rest ≡ e ∷ after
      → Sorted key_cmp after
  back_ascends es rest after n e s d is =
      sorted_tail key_cmp e after (subst (Sorted key_cmp) (sym d ∙ is) (sorted_back key_cmp (take n es) (drop n es) (rw (take-append-drop n es) s)))

  pub halves : (es front rest after : EntryList V) (n : ℕ) (e : (ℕ × ℕ) × V) → front ≡ take n es → rest ≡ drop n es → rest ≡ e ∷ after
      → front ++ e ∷ after ≡ es
  halves es front rest after n e f d is = rw (f, sym is, d) (take-append-drop n es)
