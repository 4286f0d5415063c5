use Rattle.std.proofs.Common.{arith, rules, FitsSigned}
use Rattle.std.specs.Int.{w128}
use Rattle.std.proofs.lemmas.Int.{ints, to_z-of_z}
use Rattle.cs_ranges.proofs.range_set.affine.Line.numbers_in.Goals as goal

pub returns : goal.returns
returns c =
    let first : FitsSigned w128 c.first_at_least.result = search rules in
    let last : FitsSigned w128 c.last_at_most.result = search rules in
    let low : FitsSigned w128 c.args.interval.low = omega (arith, ints, c.requires.from, c.requires.ordered, c.requires.upto) in
    let high : FitsSigned w128 c.args.interval.high = omega (arith, ints, c.requires.from, c.requires.ordered, c.requires.upto) in
    rw (to_z-of_z w128 _ first, to_z-of_z w128 _ last) (record {
      from = c.first_at_least.ensures.from;
      upto = c.last_at_most.ensures.upto;
      lows = rw (to_z-of_z w128 _ low) at c.first_at_least.ensures.value;
      highs = rw (to_z-of_z w128 _ high) at c.last_at_most.ensures.value;
    })
