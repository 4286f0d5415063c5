use Rattle.std.specs.Prelude.{◌≡◌, Bool, ◌&&◌, IsTrue, ℤ, pos, ◌≤ℤ◌, int_le}
use Rattle.cs_ranges.specs.declared.range_set.affine.Line.{Line}
use Rattle.cs_ranges.specs.declared.range_set.Interval.{Interval}
use Rattle.cs_ranges.specs.Affine.{affine}

-- the number is one that the line is over
abbrev pub is_over : Line → ℤ → Bool
is_over line s = int_le line.first s && int_le s line.last

-- the line's value there
abbrev pub value_of : Line → ℤ → ℤ
value_of line s = affine (pos line.slope) line.first line.start s

-- for the numbers that the line is over, its value is at least the least of these values exactly from the first of the numbers on, and at
-- most the greatest exactly up to the last
pub record IsPreimage (line : Line) (values numbers : Interval) : Type 0 where
  pub from : line.first ≤ℤ numbers.low
  pub upto : numbers.high ≤ℤ line.last
  pub lows : (s : ℤ) → IsTrue (is_over line s) → int_le values.low (value_of line s) ≡ int_le numbers.low s
  pub highs : (s : ℤ) → IsTrue (is_over line s) → int_le (value_of line s) values.high ≡ int_le s numbers.high
