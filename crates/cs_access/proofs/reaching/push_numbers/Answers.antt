use Rattle.std.proofs.Common.{◌≡◌, ◌<ℤ◌, refl, to_z, of_z, arith, rules}
use Rattle.std.proofs.lemmas.Int.{ints}
use Rattle.std.specs.Int.{w128}
use Rattle.cs_access.proofs.Ascending.{so_far_none, so_far_more, so_far_all}
use Rattle.cs_access.proofs.reaching.push_numbers.Goals as goal

pub loop-number-init : goal.loop-number-init
loop-number-init c =
    let low : to_z w128 (of_z w128 c.args.interval.low) ≡ c.args.interval.low = search rules in
    record {
      from = omega (arith, ints);
      upto = omega (arith, ints, c.requires.proper.ordered);
      so_far = so_far_none c.args.numbers.now.items c.args.numbers.now.items c.args.interval.low _ low refl c.requires.ascending;
    }

pub loop-number-preserved : goal.loop-number-preserved
loop-number-preserved c =
    let loop = c.loop-number.invariant in
    record {
      from = omega (arith, ints, loop.from);
      upto = omega (arith, ints, c.loop-number-test.true);
      so_far = so_far_more c.args.numbers.now.items c.loop-number.numbers.items _ c.args.interval.low (to_z w128 c.loop-number.number-bits) _ _
          c.requires.below loop.from loop.so_far c.in_ok-push.ensures.items (search rules)
          (omega (arith, ints, c.loop-number-test.true, c.requires.proper.upto));
    }

pub returns : goal.returns
returns c =
    let loop = c.loop-number.invariant in
    let over : c.args.interval.high <ℤ to_z w128 c.loop-number.number-bits = omega (arith, ints, c.loop-number-test.false) in
    so_far_all c.args.numbers.now.items c.loop-number.numbers.items c.args.interval.low c.args.interval.high (to_z w128 c.loop-number.number-bits)
    over loop.upto loop.so_far
