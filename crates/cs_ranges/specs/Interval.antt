use Rattle.std.specs.Prelude.{◌^◌, Bool, ◌&&◌, ℤ, pos, neg_ℤ, ◌≤ℤ◌, int_le}
use Rattle.cs_ranges.specs.declared.range_set.Interval.{Interval}

-- the number is from -2^126 to 2^126
abbrev pub IsInside : ℤ → Type 0
IsInside x = (neg_ℤ (pos (2 ^ 126)) ≤ℤ x) × (x ≤ℤ pos (2 ^ 126))

-- the number is between the ends of the interval, or is one of them
unfoldable pub in_interval : Interval → ℤ → Bool
in_interval i x = int_le i.low x && int_le x i.high

-- the interval isn't empty, and its numbers are from -2^126 to 2^126
pub record IsProper (i : Interval) : Type 0 where
  pub from : neg_ℤ (pos (2 ^ 126)) ≤ℤ i.low
  pub ordered : i.low ≤ℤ i.high
  pub upto : i.high ≤ℤ pos (2 ^ 126)
