use Rattle.std.proofs.Common.{pos, length, refl, ap, arith}
use Rattle.std.proofs.lemmas.List.{drop_more, drop_all}
use Rattle.cs_ranges.proofs.Joining.{Adds-more, Adds-end}
use Rattle.cs_ranges.proofs.Spread.{IsProper-first}
use Rattle.cs_ranges.proofs.range_set.RangeSet.push_all.Goals as goal

pub loop-interval-init : goal.loop-interval-init
loop-interval-init c =
    (record { spread = c.requires.spread; following = c.requires.following; members = λ x. refl }, λ _. refl)

pub push-requires-clause-proper : goal.push-requires-clause-proper
push-requires-clause-proper c =
    let split = drop_more c.args.intervals.now c.loop-interval.interval-index (record { low = pos 0; high = pos 0 }) c.loop-interval-test.true in
    IsProper-first _ _ (rw split at c.loop-interval.invariant.0).spread

pub push-requires-clause-following : goal.push-requires-clause-following
push-requires-clause-following c =
    let split = drop_more c.args.intervals.now c.loop-interval.interval-index (record { low = pos 0; high = pos 0 }) c.loop-interval-test.true in
    (rw split at c.loop-interval.invariant.0).following.0

pub loop-interval-preserved : goal.loop-interval-preserved
loop-interval-preserved c =
    let split = drop_more c.args.intervals.now c.loop-interval.interval-index (record { low = pos 0; high = pos 0 }) c.loop-interval-test.true in (
      Adds-more _ _ _ _ _ _ (rw split at c.loop-interval.invariant.0) c.in_ok-push.ensures.members c.in_ok-push.ensures.last,
      λ none. absurd (omega arith),
    )

pub returns-clause-members : goal.returns-clause-members
returns-clause-members c = Adds-end _ _ _ _ c.loop-interval.invariant.0 (drop_all _ _ c.loop-interval-test.false)

pub returns-clause-none : goal.returns-clause-none
returns-clause-none c = λ none. c.loop-interval.invariant.1 (omega (arith, ap length none, c.loop-interval.auto.interval-index-end))
