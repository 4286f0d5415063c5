-- The entries of a branch, one side of which was joined with an entry and another tree: for `join_to_right` and `join_to_left`.
use Rattle.std.proofs.Common.{◌≡◌, ℕ, ◌∷◌, ◌++◌, ◌<◌, ◌+◌, length, ap, arith, sym, append_assoc, length-append}
use Rattle.cs_pmap.specs.Keys.{EntryList, key_cmp}
use Rattle.cs_pmap.specs.Tree.{branch_entries}
use Rattle.cs_pmap.specs.declared.tree.Branch.{Branch}
use Rattle.cs_pmap.proofs.SortedEntries.{Sorted}

module _ {V : Type 0} where
  pub sorted_as : {new old : EntryList V} → new ≡ old → Sorted key_cmp old → Sorted key_cmp new
  sorted_as e s = rw e s

  -- `kept` and `value` are copies of the branch's outer side and of its value
  pub joined_right : {tree kept joined : EntryList V} {value : V} (root : Branch V) (e : (ℕ × ℕ) × V) (right : EntryList V)
      → tree ≡ branch_entries root → kept ≡ root.left.0 → value ≡ root.value → joined ≡ root.right.0 ++ e ∷ right
      → kept ++ (root.key, value) ∷ joined ≡ tree ++ e ∷ right
  joined_right root e right is k v j =
      rw (k, v, j, is) (sym (append_assoc root.left.0 ((root.key, root.value) ∷ root.right.0) (e ∷ right)))

  pub joined_left : {tree kept joined : EntryList V} {value : V} (root : Branch V) (left : EntryList V) (e : (ℕ × ℕ) × V)
      → tree ≡ branch_entries root → kept ≡ root.right.0 → value ≡ root.value → joined ≡ left ++ e ∷ root.left.0
      → joined ++ (root.key, value) ∷ kept ≡ left ++ e ∷ tree
  joined_left root left e is k v j = rw (k, v, j, is) (append_assoc left (e ∷ root.left.0) ((root.key, root.value) ∷ root.right.0))

  -- the sides of a branch have fewer entries than its tree
  pub right_is_shorter : {tree : EntryList V} (root : Branch V) → tree ≡ branch_entries root → length root.right.0 < length tree
  right_is_shorter root is = rw is (omega (arith, length-append root.left.0 ((root.key, root.value) ∷ root.right.0)))

  pub left_is_shorter : {tree : EntryList V} (root : Branch V) → tree ≡ branch_entries root → length root.left.0 < length tree
  left_is_shorter root is = rw is (omega (arith, length-append root.left.0 ((root.key, root.value) ∷ root.right.0)))
