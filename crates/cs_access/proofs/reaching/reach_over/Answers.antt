use Rattle.cs_access.proofs.Stepping.{all_reached, too_many_reached, listed_inside, followed_inside}
use Rattle.cs_access.proofs.reaching.reach_over.Goals as goal

pub steps_at-requires-clause-inside : goal.steps_at-requires-clause-inside
steps_at-requires-clause-inside c =
    listed_inside c.args.state.now c.args.offset c.args.set.now c.in_ok-numbers.numbers.items c.requires.known c.requires.set c.in_ok-numbers.ensures

pub returns-then-count-splits : goal.returns-then-count-splits
returns-then-count-splits c =
    all_reached c.args.state.now c.args.offset c.args.set.now c.in_ok-numbers.numbers.items c.in_ok-steps.steps.items c.requires.known c.requires.set
    c.in_ok-numbers.ensures.ascending c.in_ok-steps.ensures c.args.splits c.count-count.result c.count-count.ensures c.if-count-splits.true
    (λ x. (c.in_ok-numbers.ensures.members x).0)

pub steps_at-requires-2-clause-inside : goal.steps_at-requires-2-clause-inside
steps_at-requires-2-clause-inside c =
    followed_inside c.args.state.now c.args.offset c.args.set.now c.in_ok-numbers-2.numbers.items c.requires.known c.requires.set
    c.in_ok-numbers-2.ensures

pub returns : goal.returns
returns c =
    too_many_reached c.args.state.now c.args.offset c.args.set.now c.in_ok-numbers-2.numbers.items c.in_ok-steps-2.steps.items c.requires.known
    c.requires.set c.in_ok-numbers-2.ensures.ascending c.in_ok-steps-2.ensures c.args.splits c.count-count.result c.as_count.result
    c.count-count.ensures c.if-count-splits.false c.as_count.ensures c.in_ok-numbers-2.ensures
