-- How contracts see a node of the search tree, and its invariant.
use Rattle.std.specs.Prelude.{◌≡◌, ℕ, ◌+◌, ◌≤◌, max, Option, None, Some, [], ◌∷◌, ◌++◌, IsTrue}
use Rattle.std.specs.Borrow.{Bor}
use Rattle.std.specs.FinMap.{is_sorted}
use Rattle.cs_pmap.specs.Keys.{EntryList, key_cmp}
use Rattle.cs_pmap.specs.declared.tree.Branch.{Branch}
use Rattle.cs_pmap.specs.declared.tree.Node.{Node}
use Rattle.cs_pmap.specs.declared.tree.Node.TheVariants.{Leaf, Fork}

-- neither height is more than this above the other
abbrev pub DifferByAtMost : ℕ → ℕ → ℕ → Type 0
DifferByAtMost by l r = (l ≤ r + by) × (r ≤ l + by)

module _ {V : Type 0} where
  -- the entries of a branch in order: those of its left side, its own, and those of its right side
  abbrev pub branch_entries : Branch V → EntryList V
  branch_entries b = b.left.0 ++ (b.key, b.value) ∷ b.right.0

  -- the keys ascend, the stored height is right, and the heights of the sides differ by at most one
  pub record IsBalanced (b : Branch V) : Type 0 where
    pub sorted : IsTrue (is_sorted key_cmp (branch_entries b))
    pub height : b.height ≡ max b.left.1 b.right.1 + 1
    pub sides : DifferByAtMost 1 b.left.1 b.right.1

  -- the entries in order, and the height that the node stores
  abbrev pub entries_and_height : Node V → EntryList V × ℕ
  entries_and_height Leaf = ([], 0)
  entries_and_height (Fork b) = (branch_entries b.value, b.value.height)

  -- an inner node is balanced
  abbrev pub IsBalancedNode : Node V → Type 0
  IsBalancedNode Leaf = Unit {0}
  IsBalancedNode (Fork b) = IsBalanced b.value

  -- the tree is this balanced branch, or empty
  abbrev pub IsBranchOf : EntryList V × ℕ → Option (Bor (Branch V)) → Type 0
  IsBranchOf tree None = tree ≡ ([], 0)
  IsBranchOf tree (Some b) = (tree ≡ (branch_entries b.now, b.now.height)) × IsBalanced b.now

-- the height of a balanced tree made of an entry and two sides of these heights: a rotation may save one level
abbrev pub IsHeightOver : ℕ → ℕ → ℕ → Type 0
IsHeightOver l r h = (max l r ≤ h) × (h ≤ max l r + 1) × (DifferByAtMost 1 l r → h ≡ max l r + 1)
