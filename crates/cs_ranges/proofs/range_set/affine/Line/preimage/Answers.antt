use Rattle.std.proofs.Common.{pos, arith, rules, FitsSigned}
use Rattle.std.specs.Int.{w128}
use Rattle.std.proofs.lemmas.Int.{ints}
use Rattle.std.proofs.lemmas.List.{drop_more, drop_all}
use Rattle.cs_ranges.proofs.Drawing.{Draws-start, Draws-following, Draws-more, Draws-skip, Draws-end, IsProper-numbers}
use Rattle.cs_ranges.proofs.Spread.{IsProper-first}
use Rattle.cs_ranges.proofs.range_set.affine.Line.preimage.Goals.{then-numbers+in_ok-push, else-numbers}
use Rattle.cs_ranges.proofs.range_set.affine.Line.preimage.Goals as goal

pub loop-interval-init : goal.loop-interval-init
loop-interval-init c =
    rw (c.empty-found.ensures, c.intervals-interval-items.ensures.same) (Draws-start _ _ c.intervals-interval-items.ensures.spread)

pub numbers_in-numbers-requires : goal.numbers_in-numbers-requires
numbers_in-numbers-requires c =
    let split = drop_more c.intervals-interval-items.result.now c.loop-interval.interval-index (record { low = pos 0; high = pos 0 })
    c.loop-interval-test.true in
    IsProper-first _ _ (rw split at c.loop-interval.invariant).spread

pub push-requires-clause-proper : goal.push-requires-clause-proper
push-requires-clause-proper c =
    let numbers = c.numbers_in-numbers in
    let low : FitsSigned w128 numbers.result.low = search rules in
    let high : FitsSigned w128 numbers.result.high = search rules in
    IsProper-numbers _ _ _ numbers.ensures (omega (arith, ints))

pub push-requires-clause-following : goal.push-requires-clause-following
push-requires-clause-following c =
    let split = drop_more c.intervals-interval-items.result.now c.loop-interval.interval-index (record { low = pos 0; high = pos 0 })
    c.loop-interval-test.true in
    let numbers = c.numbers_in-numbers in
    let low : FitsSigned w128 numbers.result.low = search rules in
    let high : FitsSigned w128 numbers.result.high = search rules in
    Draws-following _ _ _ _ _ _ (rw split at c.loop-interval.invariant) numbers.ensures (omega (arith, ints))

pub loop-interval-preserved : goal.loop-interval-preserved
loop-interval-preserved c =
    let split = drop_more c.intervals-interval-items.result.now c.loop-interval.interval-index (record { low = pos 0; high = pos 0 })
    c.loop-interval-test.true in
    let numbers = c.numbers_in-numbers in
    let low : FitsSigned w128 numbers.result.low = search rules in
    let high : FitsSigned w128 numbers.result.high = search rules in
    let h = rw split at c.loop-interval.invariant in
    elim c.if-numbers.branch [
      | then-numbers+in_ok-push w ↦
          rw w.found-is (Draws-more _ _ _ _ _ _ _ h numbers.ensures w.in_ok-push.ensures.members w.in_ok-push.ensures.last)
      | else-numbers w ↦ rw w.found-is (Draws-skip _ _ _ _ _ _ h numbers.ensures (omega (arith, ints)))
    ]

pub returns : goal.returns
returns c = Draws-end _ _ _ _ c.loop-interval.invariant (drop_all _ _ c.loop-interval-test.false)
