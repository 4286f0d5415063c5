use Rattle.std.proofs.Common.{rules, ◌≡◌, pos, neg_ℤ, ◌-ℤ◌, ap, sym, ◌∙◌, arith, to_z, of_z, FitsSigned}
use Rattle.std.specs.Int.{w128}
use Rattle.std.proofs.lemmas.Int.{ints, to_z-of_z}
use Rattle.std.proofs.Math.IntN.{*ℤ-zero}
use Rattle.cs_ranges.specs.Interval.{in_interval}
use Rattle.cs_terms.proofs.Cofactors.{negative_factor}
use Rattle.cs_terms.proofs.Narrow.{narrow_neg}
use Rattle.cs_terms.proofs.near.cofactors.Goals as goal

pub returns-then-factor-eq0-clause-numbers : goal.returns-then-factor-eq0-clause-numbers
returns-then-factor-eq0-clause-numbers c =
    let factor : to_z w128 (of_z w128 c.args.factor) ≡ c.args.factor = search rules in
    let zero : c.args.factor ≡ pos 0 = sym factor ∙ ap (to_z w128) c.if-factor-eq0.true in
    λ x h. rw (zero, *ℤ-zero x) (c.zero_cofactors.ensures.numbers x h)

pub returns-then-factor-lt0-clause-numbers : goal.returns-then-factor-lt0-clause-numbers
unfolding in_interval
returns-then-factor-lt0-clause-numbers c =
    let low = c.args.products.low in
    let high = c.args.products.high in
    let same : to_z w128 (of_z w128 c.args.factor) ≡ c.args.factor = search rules in
    let fits : FitsSigned w128 (pos 0 -ℤ c.args.factor) = omega (arith, ints, c.requires.factor.from_least, c.requires.factor.to_greatest) in
    let turned : pos 0 -ℤ c.args.factor ≡ neg_ℤ c.args.factor = omega (arith, ints) in
    let factor : to_z w128 (of_z w128 (pos 0 -ℤ to_z w128 (of_z w128 c.args.factor))) ≡ neg_ℤ c.args.factor =
    rw same (to_z-of_z w128 _ fits ∙ turned) in
    λ x h. (rw (narrow_neg high c.requires.narrow.1, narrow_neg low c.requires.narrow.0, factor) at (c.positive_cofactors.ensures.numbers x))
    ∙ negative_factor low high x c.args.factor
