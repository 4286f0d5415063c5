use Rattle.std.proofs.Common.{rules, ◌≡◌, ◌≤◌, ◌<◌, ◌^◌, ℕ, pos, neg_ℤ, ◌-ℤ◌, ◌*ℤ◌, ◌<ℤ◌, ◌&&◌, int_le}
use Rattle.std.proofs.Common.{unsigned_abs, ap, ◌∙◌, arith, to_z, of_z}
use Rattle.std.specs.Int.{w128}
use Rattle.std.proofs.lemmas.Int.{ints}
use Rattle.cs_ranges.specs.Interval.{in_interval}
use Rattle.cs_types.specs.Wrap.{floor_div}
use Rattle.cs_terms.proofs.Cofactors.{div_euclid-floor, high_cofactor, low_cofactor, floor_div-narrow}
use Rattle.cs_terms.proofs.Narrow.{narrow_same, narrow_neg}
use Rattle.cs_terms.proofs.near.positive_cofactors.Goals as goal

-- the results of both divisions
record Divided (c : goal.After-div_euclid-2) (n : ℕ) : Type 0 where
  pub factor : c.args.factor ≡ pos n
  pub positive : 0 < n
  pub low : to_z w128 (of_z w128 (pos 0 -ℤ to_z w128 (of_z w128 c.div_euclid.result))) ≡ neg_ℤ (floor_div (neg_ℤ c.args.products.low) n)
  pub high : to_z w128 (of_z w128 c.div_euclid-2.result) ≡ floor_div c.args.products.high n
  pub low_narrow : unsigned_abs (neg_ℤ (floor_div (neg_ℤ c.args.products.low) n)) ≤ 2 ^ 65
  pub high_narrow : unsigned_abs (floor_div c.args.products.high n) ≤ 2 ^ 65

divided : (c : goal.After-div_euclid-2) → Divided c (unsigned_abs c.args.factor)
divided c =
    let n = unsigned_abs c.args.factor in
    let low = c.args.products.low in
    let high = c.args.products.high in
    let positive : pos 0 <ℤ c.args.factor = c.requires.positive in
    let whole : c.args.factor ≡ pos n = omega (arith, ints) in
    let factor : to_z w128 (of_z w128 c.args.factor) ≡ c.args.factor = search rules in
    let first : c.div_euclid.result ≡ floor_div (neg_ℤ low) n =
    (rw (narrow_neg low c.requires.narrow.0, factor, whole) at c.div_euclid.ensures) ∙ div_euclid-floor (neg_ℤ low) n in
    let second : c.div_euclid-2.result ≡ floor_div high n =
    (rw (narrow_same high c.requires.narrow.1, factor, whole) at c.div_euclid-2.ensures) ∙ div_euclid-floor high n in
    let turned : unsigned_abs (neg_ℤ low) ≤ 2 ^ 65 = omega (arith, ints, c.requires.narrow.0) in
    let low_narrow = floor_div-narrow (neg_ℤ low) n turned in
    let high_narrow = floor_div-narrow high n c.requires.narrow.1 in
    record {
      factor = whole;
      positive = omega (arith, ints);
      low = rw first (narrow_neg (floor_div (neg_ℤ low) n) low_narrow);
      high = rw second (narrow_same (floor_div high n) high_narrow);
      low_narrow = omega (arith, ints, low_narrow);
      high_narrow = high_narrow;
    }

pub returns-clause-numbers : goal.returns-clause-numbers
unfolding in_interval
returns-clause-numbers c =
    let n = unsigned_abs c.args.factor in
    let d = divided c in
    λ x. rw (d.low, d.high, d.factor) (
    ap (λ b. b && int_le x (floor_div c.args.products.high n)) (low_cofactor x c.args.products.low n d.positive)
    ∙ ap (λ b. int_le c.args.products.low (x *ℤ pos n) && b) (high_cofactor x c.args.products.high n d.positive)
    )

pub returns-clause-narrow : goal.returns-clause-narrow
returns-clause-narrow c =
    let d = divided c in
    rw (d.low, d.high) (d.low_narrow, d.high_narrow)
