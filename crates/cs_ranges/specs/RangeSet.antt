use Rattle.std.specs.Prelude.{◌≡◌, ◌≢◌, ◌⊎◌, ◌↔◌, ℕ, ◌^◌, ◌<◌, Bool, false, ◌||◌, IsTrue, IsFalse, ℤ, pos, neg_ℤ}
use Rattle.std.specs.Prelude.{◌+ℤ◌, ◌≤ℤ◌, unsigned_abs, List, [], ◌∷◌, length, slice_index_or}
use Rattle.std.specs.List.{Contains}
use Rattle.cs_ranges.specs.declared.range_set.Interval.{Interval}
use Rattle.cs_ranges.specs.Interval.{in_interval}

-- one of the intervals has the number
unfoldable pub contains : List Interval → ℤ → Bool
contains [] x = false
contains (i ∷ rest) x = in_interval i x || contains rest x

-- no number is in the set
abbrev pub IsEmpty : List Interval → Type 0
IsEmpty s = (x : ℤ) → IsFalse (contains s x)

-- some number is in the set
abbrev pub IsInhabited : List Interval → Type 0
IsInhabited s = (x : ℤ) × IsTrue (contains s x)

-- the number is the set's only one
pub record IsOnly (s : List Interval) (x : ℤ) : Type 0 where
  pub member : IsTrue (contains s x)
  pub alone : (y : ℤ) → IsTrue (contains s y) → y ≡ x

-- the set has two different numbers
pub record HasTwo (s : List Interval) : Type 0 where
  pub one : ℤ
  pub another : ℤ
  pub differ : one ≢ another
  pub one_is_member : IsTrue (contains s one)
  pub another_is_member : IsTrue (contains s another)

-- the number is the set's least one
pub record IsLeast (s : List Interval) (x : ℤ) : Type 0 where
  pub member : IsTrue (contains s x)
  pub least : (y : ℤ) → IsTrue (contains s y) → x ≤ℤ y

-- the number is the set's greatest one
pub record IsGreatest (s : List Interval) (x : ℤ) : Type 0 where
  pub member : IsTrue (contains s x)
  pub greatest : (y : ℤ) → IsTrue (contains s y) → y ≤ℤ x

-- the number of elements of the set: some list has each of them once and no others
pub record IsCount (s : List Interval) (n : ℕ) : Type 0 where
  pub numbers : List ℤ
  pub members : (x : ℤ) → IsTrue (contains s x) ↔ Contains numbers x
  pub differ : (j k : ℕ) (d : ℤ) → j < k → k < length numbers → slice_index_or numbers j d ≢ slice_index_or numbers k d
  pub count : length numbers ≡ n

-- the first number is no farther from zero than the second, and if both are equally far, it is no less
abbrev pub IsNearest : ℤ → ℤ → Type 0
IsNearest x y = (unsigned_abs x < unsigned_abs y) ⊎ ((unsigned_abs x ≡ unsigned_abs y) × (y ≤ℤ x))

-- the number is the set's number of least absolute value, the positive one of two
pub record IsLeastAbs (s : List Interval) (x : ℤ) : Type 0 where
  pub member : IsTrue (contains s x)
  pub nearest : (y : ℤ) → IsTrue (contains s y) → IsNearest x y

-- no interval is empty or ends above 2^126, the first begins at the bound or above it, and each other one after a gap
abbrev pub IsSpreadFrom : ℤ → List Interval → Type 0
IsSpreadFrom bound [] = Unit {0}
IsSpreadFrom bound (i ∷ rest) =
    (bound ≤ℤ i.low) × (i.low ≤ℤ i.high) × (i.high ≤ℤ pos (2 ^ 126)) × IsSpreadFrom (i.high +ℤ pos 2) rest

-- the intervals are within -2^126..2^126, in order, and no two overlap or touch
abbrev pub IsSpread : List Interval → Type 0
IsSpread s = IsSpreadFrom (neg_ℤ (pos (2 ^ 126))) s

-- the low end of the last interval, or the given number if there is none
unfoldable pub last_low_or : ℤ → List Interval → ℤ
last_low_or x [] = x
last_low_or x (i ∷ rest) = last_low_or i.low rest

-- the low end of the last interval, or -2^126 if there is none
abbrev pub last_low : List Interval → ℤ
last_low s = last_low_or (neg_ℤ (pos (2 ^ 126))) s
