use Rattle.std.proofs.Common.{rules, ◌≡◌, ℤ, ◌+ℤ◌, arith, to_z, of_z, FitsSigned}
use Rattle.std.specs.Int.{w128}
use Rattle.std.proofs.lemmas.Int.{ints, to_z-of_z}
use Rattle.cs_eval.specs.Operands.{IsBetween, LOWEST, HIGHEST}
use Rattle.cs_eval.proofs.Ends.{sum_ends}
use Rattle.cs_eval.proofs.truths.ends_of_sum.Goals as goal

sum_fits : (a b : ℤ) → IsBetween LOWEST HIGHEST a → IsBetween LOWEST HIGHEST b → FitsSigned w128 (a +ℤ b)
sum_fits a b h k = omega (arith, ints, h.0, h.1, k.0, k.1)

pub returns : goal.returns
returns c =
    let first = c.values_of-first in
    let second = c.values_of-second in
    let first_low : to_z w128 (of_z w128 first.result.low) ≡ first.result.low = search rules in
    let first_high : to_z w128 (of_z w128 first.result.high) ≡ first.result.high = search rules in
    let second_low : to_z w128 (of_z w128 second.result.low) ≡ second.result.low = search rules in
    let second_high : to_z w128 (of_z w128 second.result.high) ≡ second.result.high = search rules in
    rw (
      first_low,
      second_low,
      first_high,
      second_high,
      to_z-of_z w128 _ (sum_fits first.result.low second.result.low first.ensures.low second.ensures.low),
      to_z-of_z w128 _ (sum_fits first.result.high second.result.high first.ensures.high second.ensures.high),
    )
    (sum_ends c.args.constraints.now c.args.term first.result second.result first.ensures.ends second.ensures.ends)
