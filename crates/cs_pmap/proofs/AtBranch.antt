-- What a look-up, an insertion and a removal find at a branch, depending on how the key compares: for `get`, `inserted` and `removed` of the tree.
use Rattle.std.proofs.Common.{◌≡◌, ℕ, ◌∷◌, ◌++◌, sym, rules}
use Rattle.std.specs.Prelude.{Some, not}
use Rattle.std.specs.declared.cmp.Ordering.TheVariants.{Less, Equal, Greater}
use Rattle.std.specs.Cmp.{IsTotalOrder}
use Rattle.std.specs.Cmp.Rules.{comparing}
use Rattle.std.specs.Ordering.{eq_by_cmp}
use Rattle.std.specs.FinMap.{find, put}
use Rattle.std.specs.FinMap.Entries.{is_sorted-put, is_sorted-where_key}
use Rattle.cs_pmap.specs.Keys.{EntryList, key_cmp, without}
use Rattle.cs_pmap.specs.Tree.{IsBalanced, branch_entries}
use Rattle.cs_pmap.specs.declared.tree.Branch.{Branch}
use Rattle.cs_pmap.proofs.SortedEntries.{Sorted, T-IsTrue, IsTrue-T, find_left, find_middle, find_right, put_left, put_middle, put_right, without_left}
use Rattle.cs_pmap.proofs.SortedEntries.{without_middle, without_right}

pub key_cmp_total : IsTotalOrder key_cmp
key_cmp_total = search (comparing, rules)

module _ {V : Type 0} where
  pub find_in_left : (k : ℕ × ℕ) (b : Branch V) → IsBalanced b → key_cmp k b.key ≡ Less
      → find key_cmp k (branch_entries b) ≡ find key_cmp k b.left.0
  find_in_left k b balanced p = find_left key_cmp key_cmp_total k b.left.0 (b.key, b.value) b.right.0 p balanced.sorted

  pub find_here : (k : ℕ × ℕ) (b : Branch V) → IsBalanced b → key_cmp k b.key ≡ Equal → find key_cmp k (branch_entries b) ≡ Some b.value
  find_here k b balanced p = find_middle key_cmp key_cmp_total k b.left.0 (b.key, b.value) b.right.0 p balanced.sorted

  pub find_in_right : (k : ℕ × ℕ) (b : Branch V) → IsBalanced b → key_cmp k b.key ≡ Greater
      → find key_cmp k (branch_entries b) ≡ find key_cmp k b.right.0
  find_in_right k b balanced p = find_right key_cmp key_cmp_total k b.left.0 (b.key, b.value) b.right.0 p balanced.sorted

-- `is` states that the tree is the branch b; `left`, `value` and `right` are the parts of the new branch
module _ {V : Type 0} {tree : EntryList V × ℕ} {b : Branch V} where
  pub sorted_put : {new : EntryList V} (k : ℕ × ℕ) (v : V) → (tree ≡ (branch_entries b, b.height)) × IsBalanced b → new ≡ put key_cmp k v tree.0
      → Sorted key_cmp new
  sorted_put k v is e =
      rw (e, is.0) (IsTrue-T _ (is_sorted-put key_cmp key_cmp_total k v (branch_entries b) (T-IsTrue _ is.1.sorted)))

  pub sorted_without : {new : EntryList V} (k : ℕ × ℕ) → (tree ≡ (branch_entries b, b.height)) × IsBalanced b → new ≡ without k tree.0
      → Sorted key_cmp new
  sorted_without k is e =
      rw (e, is.0) (IsTrue-T _ (is_sorted-where_key key_cmp (λ x. not (eq_by_cmp key_cmp k x)) (branch_entries b) (T-IsTrue _ is.1.sorted)))

  pub put_in_left : {left : EntryList V} {value : V} {right : EntryList V × ℕ} (k : ℕ × ℕ) (v : V)
      → (tree ≡ (branch_entries b, b.height)) × IsBalanced b → Less ≡ key_cmp k b.key → left ≡ put key_cmp k v b.left.0 → value ≡ b.value
      → right ≡ b.right → left ++ (b.key, value) ∷ right.0 ≡ put key_cmp k v tree.0
  put_in_left k v is p l w r =
      rw (l, w, r, is.0) (sym (put_left key_cmp k v b.left.0 (b.key, b.value) b.right.0 (sym p)))

  pub put_here : {left right : EntryList V × ℕ} (k : ℕ × ℕ) (v : V) → (tree ≡ (branch_entries b, b.height)) × IsBalanced b
      → Equal ≡ key_cmp k b.key → left ≡ b.left → right ≡ b.right → left.0 ++ (b.key, v) ∷ right.0 ≡ put key_cmp k v tree.0
  put_here k v is p l r =
      rw (l, r, is.0) (sym (put_middle key_cmp key_cmp_total k v b.left.0 (b.key, b.value) b.right.0 (sym p) is.1.sorted))

  pub put_in_right : {left : EntryList V × ℕ} {value : V} {right : EntryList V} (k : ℕ × ℕ) (v : V)
      → (tree ≡ (branch_entries b, b.height)) × IsBalanced b → Greater ≡ key_cmp k b.key → left ≡ b.left → value ≡ b.value
      → right ≡ put key_cmp k v b.right.0 → left.0 ++ (b.key, value) ∷ right ≡ put key_cmp k v tree.0
  put_in_right k v is p l w r =
      rw (l, w, r, is.0) (sym (put_right key_cmp key_cmp_total k v b.left.0 (b.key, b.value) b.right.0 (sym p) is.1.sorted))

  pub removed_in_left : {left : EntryList V} {value : V} {right : EntryList V × ℕ} (k : ℕ × ℕ)
      → (tree ≡ (branch_entries b, b.height)) × IsBalanced b → Less ≡ key_cmp k b.key → left ≡ without k b.left.0 → value ≡ b.value
      → right ≡ b.right → left ++ (b.key, value) ∷ right.0 ≡ without k tree.0
  removed_in_left k is p l w r =
      rw (l, w, r, is.0) (sym (without_left key_cmp key_cmp_total k b.left.0 (b.key, b.value) b.right.0 (sym p) is.1.sorted))

  pub removed_here : (k : ℕ × ℕ) → (tree ≡ (branch_entries b, b.height)) × IsBalanced b → Equal ≡ key_cmp k b.key
      → b.left.0 ++ b.right.0 ≡ without k tree.0
  removed_here k is p = rw is.0 (sym (without_middle key_cmp key_cmp_total k b.left.0 (b.key, b.value) b.right.0 (sym p) is.1.sorted))

  pub removed_in_right : {left : EntryList V × ℕ} {value : V} {right : EntryList V} (k : ℕ × ℕ)
      → (tree ≡ (branch_entries b, b.height)) × IsBalanced b → Greater ≡ key_cmp k b.key → left ≡ b.left → value ≡ b.value
      → right ≡ without k b.right.0 → left.0 ++ (b.key, value) ∷ right ≡ without k tree.0
  removed_in_right k is p l w r =
      rw (l, w, r, is.0) (sym (without_right key_cmp key_cmp_total k b.left.0 (b.key, b.value) b.right.0 (sym p) is.1.sorted))
