-- Numbers in ascending order.
use Rattle.std.specs.Prelude.{◌≡◌, ◌⊎◌, ◌↔◌, ℤ, ◌<ℤ◌, ◌≤ℤ◌, IsTrue, List, [], ◌∷◌}
use Rattle.std.specs.List.{Contains}
use Rattle.cs_ranges.specs.declared.range_set.Interval.{Interval}
use Rattle.cs_ranges.specs.RangeSet.{contains, IsLeast, IsGreatest, IsLeastAbs}

-- each number is greater than the one before it
abbrev pub IsAscending : List ℤ → Type 0
IsAscending [] = Unit {0}
IsAscending (x ∷ []) = Unit {0}
IsAscending (x ∷ (y ∷ rest)) = (x <ℤ y) × IsAscending (y ∷ rest)

-- each number is less than this one
abbrev pub IsBelow : List ℤ → ℤ → Type 0
IsBelow numbers bound = (x : ℤ) → Contains numbers x → x <ℤ bound

-- the numbers of the set, in order
pub record IsListing (set : List Interval) (numbers : List ℤ) : Type 0 where
  pub ascending : IsAscending numbers
  pub members : (x : ℤ) → IsTrue (contains set x) ↔ Contains numbers x

-- the numbers before, and those from `low` to `high`, in order
pub record AreAdded (before : List ℤ) (low high : ℤ) (after : List ℤ) : Type 0 where
  pub ascending : IsAscending after
  pub members : (x : ℤ) → Contains after x ↔ (Contains before x ⊎ ((low ≤ℤ x) × (x ≤ℤ high)))

-- one of the numbers that are followed if there are too many: the least, that of least absolute value, and the greatest
abbrev pub IsFollowed : List Interval → ℤ → Type 0
IsFollowed set x = IsLeast set x ⊎ IsLeastAbs set x ⊎ IsGreatest set x

-- the followed numbers of the set, in order
pub record AreFollowed (set : List Interval) (numbers : List ℤ) : Type 0 where
  pub ascending : IsAscending numbers
  pub members : (x : ℤ) → Contains numbers x ↔ IsFollowed set x

-- three numbers, each once, in order
pub record HasEach (first second third : ℤ) (numbers : List ℤ) : Type 0 where
  pub ascending : IsAscending numbers
  pub members : (x : ℤ) → Contains numbers x ↔ ((x ≡ first) ⊎ (x ≡ second) ⊎ (x ≡ third))
