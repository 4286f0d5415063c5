-- How insertions and removals change the height of a tree, and the results of a split.
use Rattle.std.specs.Prelude.{◌≡◌, ℕ, ◌+◌, ◌≤◌, Option, None, Some, [], ◌∷◌}
use Rattle.cs_pmap.specs.Keys.{EntryList}
use Rattle.cs_pmap.specs.declared.update.FirstAndRest.{FirstAndRest}

-- the height after an insertion: the same, or one more
abbrev pub IsInsertedHeight : ℕ → ℕ → Type 0
IsInsertedHeight old new = (old ≤ new) × (new ≤ old + 1)

-- the height after a removal: the same, or one less
abbrev pub IsRemovedHeight : ℕ → ℕ → Type 0
IsRemovedHeight old new = (new ≤ old) × (old ≤ new + 1)

-- the tree is empty, or it has this first entry, followed by the rest
abbrev pub SplitsFirst : {V : Type 0} → EntryList V × ℕ → Option (FirstAndRest V) → Type 0
SplitsFirst tree None = tree ≡ ([], 0)
SplitsFirst tree (Some first) = (tree.0 ≡ (first.key, first.value) ∷ first.rest.0) × IsRemovedHeight tree.1 first.rest.1
