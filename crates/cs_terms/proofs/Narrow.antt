-- Small numbers as machine numbers of 128 bits: for the contracts of `near.rt` and `product.rt`.
use Rattle.std.proofs.Common.{◌≡◌, ◌^◌, ◌≤◌, ℤ, pos, neg_ℤ, ◌-ℤ◌, unsigned_abs, ◌∙◌, arith, to_z, of_z, FitsSigned}
use Rattle.std.specs.Int.{w128}
use Rattle.cs_ranges.specs.Interval.{IsInside}
use Rattle.std.proofs.lemmas.Int.{ints, to_z-of_z, fits_signed_from_abs}

pub narrow_same : (x : ℤ) → unsigned_abs x ≤ 2 ^ 65 → to_z w128 (of_z w128 x) ≡ x
narrow_same x h = to_z-of_z w128 x (fits_signed_from_abs w128 x (omega arith))

pub narrow_neg : (x : ℤ) → unsigned_abs x ≤ 2 ^ 65 → to_z w128 (of_z w128 (pos 0 -ℤ to_z w128 (of_z w128 x))) ≡ neg_ℤ x
narrow_neg x h =
    let turned : pos 0 -ℤ x ≡ neg_ℤ x = omega (arith, ints) in
    let fits : FitsSigned w128 (pos 0 -ℤ x) = omega (arith, ints) in
    rw (narrow_same x h) (to_z-of_z w128 (pos 0 -ℤ x) fits ∙ turned)

pub inside_same : (x : ℤ) → IsInside x → to_z w128 (of_z w128 x) ≡ x
inside_same x h =
    let fits : FitsSigned w128 x = omega (arith, ints, h) in
    to_z-of_z w128 x fits
