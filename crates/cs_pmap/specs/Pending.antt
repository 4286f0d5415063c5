-- The stack of an iterator: branches whose own entry and right side remain, the next one last.
use Rattle.std.specs.Prelude.{ℕ, ◌-◌, ◌≤◌, List, [], ◌∷◌, ◌++◌, Option, None, Some}
use Rattle.std.specs.Borrow.{Bor}
use Rattle.cs_pmap.specs.Keys.{EntryList}
use Rattle.cs_pmap.specs.Tree.{IsBalanced}
use Rattle.cs_pmap.specs.declared.tree.Branch.{Branch}

module _ {V : Type 0} where
  -- the remaining entries
  abbrev pub pending : List (Option (Bor (Branch V))) → EntryList V
  pending [] = []
  pending (None ∷ bs) = pending bs
  pending (Some b ∷ bs) = pending bs ++ (b.now.key, b.now.value) ∷ b.now.right.0

  -- each place has a balanced branch, whose height is at most the capacity less the number of branches under it
  abbrev pub FitsCapacity : ℕ → List (Option (Bor (Branch V))) → Type 0
  FitsCapacity capacity [] = Unit {0}
  FitsCapacity capacity (None ∷ bs) = ⊥
  FitsCapacity capacity (Some b ∷ bs) = (b.now.height ≤ capacity) × IsBalanced b.now × FitsCapacity (capacity - 1) bs
