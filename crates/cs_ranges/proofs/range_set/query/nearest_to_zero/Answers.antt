use Rattle.std.proofs.Common.{◌≡◌, true, ℤ, ◌≤ℤ◌, pos, arith}
use Rattle.std.specs.Int.{int_max, int_min}
use Rattle.std.proofs.lemmas.Int.{ints, clamps}
use Rattle.cs_ranges.specs.declared.range_set.Interval.{Interval}
use Rattle.cs_ranges.specs.Interval.{in_interval}
use Rattle.cs_ranges.specs.RangeSet.{IsNearest}
use Rattle.cs_ranges.proofs.Members.{in_interval_yields}
use Rattle.cs_ranges.proofs.range_set.query.nearest_to_zero.Goals as goal

in_interval-clamp : (i : Interval) (x : ℤ) → i.low ≤ℤ i.high → x ≡ int_max i.low (int_min (pos 0) i.high) → in_interval i x ≡ true
in_interval-clamp i x h e = grind (arith, ints, clamps, in_interval_yields i x)

IsNearest-clamp : (i : Interval) (x y : ℤ) → i.low ≤ℤ i.high → x ≡ int_max i.low (int_min (pos 0) i.high) → in_interval i y ≡ true
    → IsNearest x y
IsNearest-clamp i x y h e t = grind (arith, ints, clamps, in_interval_yields i y)

pub returns-clause-member : goal.returns-clause-member
returns-clause-member c =
    in_interval-clamp c.args.interval _ c.requires (omega (arith, ints, clamps))

pub returns-clause-nearest : goal.returns-clause-nearest
returns-clause-nearest c = λ y t. IsNearest-clamp c.args.interval _ y c.requires (omega (arith, ints, clamps)) t
