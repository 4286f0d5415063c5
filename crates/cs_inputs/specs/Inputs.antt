-- Inputs: paths with numbers, in path order.
use Rattle.std.specs.Prelude.{◌≡◌, ℕ, ℤ, pos, List, Result, MatchResult, unwrap_or}
use Rattle.std.specs.List.{HoldsAt}
use Rattle.std.specs.List.Sorted.{IsStrictlySortedBy, IsPartitionPoint}
use Rattle.std.specs.Map.{lookup, keys_of}
use Rattle.std.specs.BTreeMap.{is_at}
use Rattle.std.specs.declared.cmp.Ordering.TheVariants.{Less, Equal, Greater}
use Rattle.cs_inputs.specs.declared.path.Path.{Path}
use Rattle.cs_inputs.specs.PathOrder.{path_order}

-- each path is less than those after it in path order
abbrev pub IsInOrder : List (Path × ℤ) → Type 0
IsInOrder entries = IsStrictlySortedBy path_order (keys_of entries)

-- the number of a path, 0 if it isn't set
abbrev pub number_at : List (Path × ℤ) → Path → ℤ
number_at entries path = unwrap_or (lookup (is_at (path_order path)) entries) (pos 0)

-- a path's entry is at this index, or all entries before the index are of smaller paths and all others of greater ones
abbrev pub IsPlaceOf : Path → List (Path × ℤ) → Result ℕ ℕ → Type 0
IsPlaceOf path entries answer =
    MatchResult answer (HoldsAt (λ e. path_order e.0 path ≡ Equal) entries)
    (IsPartitionPoint (λ e. path_order e.0 path ≡ Less) (λ e. path_order e.0 path ≡ Greater) entries)
