-- The values of the terms over digits are in range: for what the timed calls require.
use Rattle.std.proofs.Common.{◌≡◌, ◌<◌, ◌≤◌, ◌^◌, true, ℤ, ◌+ℤ◌, ◌-ℤ◌, ◌*ℤ◌, unsigned_abs, List, arith}
use Rattle.std.proofs.lemmas.Int.{ints, unsigned_abs-mul}
use Rattle.std.proofs.Math.Nat.{mul-le-mul}
use Rattle.cs_ranges.specs.declared.range_set.Interval.{Interval}
use Rattle.cs_ranges.specs.Affine.{affine}
use Rattle.cs_ranges.specs.Interval.{IsInside}
use Rattle.cs_ranges.specs.RangeSet.{contains}
use Rattle.cs_terms.specs.declared.term.Lin.{Lin}
use Rattle.cs_terms.specs.Term.{value_at}
use Rattle.bench_parts.specs.Digits.{IsDigit, AreDigits, HasSmallValues}

-- a line that isn't steep, near where it has a value below 2^32
pub near_value : (slope at value x : ℤ) → unsigned_abs slope ≤ 8 → unsigned_abs at < 16 → unsigned_abs value < 2 ^ 32 → IsDigit x
    → unsigned_abs (affine slope at value x) ≤ 2 ^ 33
near_value slope at value x steep near small digit =
    let d = x -ℤ at in
    let close : unsigned_abs d ≤ 32 = omega (arith, ints, digit.0, digit.1) in
    let rise = unsigned_abs-mul slope d in
    bound value (slope *ℤ d) small (omega (arith, rise, mul-le-mul steep close))
  where
    bound : (value rise : ℤ) → unsigned_abs value < 2 ^ 32 → unsigned_abs rise ≤ 256 → unsigned_abs (value +ℤ rise) ≤ 2 ^ 33
    bound value rise h k = omega (arith, ints)

pub values_inside : (set : List Interval) (term : Lin) → AreDigits set → HasSmallValues term → (x : ℤ) → contains set x ≡ true
    → IsInside (value_at term x)
values_inside set term digits small x t = inside (value_at term x) (small x (digits x t))
  where
    inside : (y : ℤ) → unsigned_abs y ≤ 2 ^ 33 → IsInside y
    inside y h = (omega (arith, ints), omega (arith, ints))

pub twice_inside : (set : List Interval) (term sum : Lin) → AreDigits set → HasSmallValues term
    → ((x : ℤ) → value_at sum x ≡ value_at term x +ℤ value_at term x) → (x : ℤ) → contains set x ≡ true → IsInside (value_at sum x)
twice_inside set term sum digits small twice x t = inside (value_at term x) (value_at sum x) (small x (digits x t)) (twice x)
  where
    inside : (y z : ℤ) → unsigned_abs y ≤ 2 ^ 33 → z ≡ y +ℤ y → IsInside z
    inside y z h e = (omega (arith, ints), omega (arith, ints))
