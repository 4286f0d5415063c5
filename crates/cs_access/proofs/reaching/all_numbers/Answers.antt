use Rattle.std.proofs.Common.{pos, sym, subst}
use Rattle.cs_ranges.specs.RangeSet.{IsSpread}
use Rattle.cs_access.specs.Numbers.{IsListing}
use Rattle.cs_access.proofs.Ascending.{listing_none, listing_below, listing_more, listing_all, proper_here}
use Rattle.cs_access.proofs.reaching.all_numbers.Goals as goal

pub loop-interval-init : goal.loop-interval-init
loop-interval-init c = listing_none c.intervals-interval-items.result.now c.new-numbers.result.items c.new-numbers.ensures.items

pub push_numbers-requires-clause-proper : goal.push_numbers-requires-clause-proper
push_numbers-requires-clause-proper c =
    let items = c.intervals-interval-items.result.now in
    let spread = subst IsSpread (sym c.intervals-interval-items.ensures.same) c.intervals-interval-items.ensures.spread in
    proper_here items c.loop-interval.interval-index (record { low = pos 0; high = pos 0 }) spread c.loop-interval-test.true

pub push_numbers-requires-clause-below : goal.push_numbers-requires-clause-below
push_numbers-requires-clause-below c =
    let items = c.intervals-interval-items.result.now in
    let spread = subst IsSpread (sym c.intervals-interval-items.ensures.same) c.intervals-interval-items.ensures.spread in
    listing_below items c.loop-interval.interval-index (record { low = pos 0; high = pos 0 }) spread c.loop-interval-test.true
    c.loop-interval.numbers.items c.loop-interval.invariant

pub loop-interval-preserved : goal.loop-interval-preserved
loop-interval-preserved c =
    let items = c.intervals-interval-items.result.now in
    let spread = subst IsSpread (sym c.intervals-interval-items.ensures.same) c.intervals-interval-items.ensures.spread in
    listing_more items c.loop-interval.interval-index (record { low = pos 0; high = pos 0 }) spread c.loop-interval-test.true
    c.loop-interval.numbers.items c.loop-interval.invariant c.push_numbers.new.numbers.items c.in_ok-push_numbers.ensures

pub returns : goal.returns
returns c =
    let items = c.intervals-interval-items.result.now in
    subst (λ s. IsListing s c.loop-interval.numbers.items) c.intervals-interval-items.ensures.same
    (listing_all items c.loop-interval.interval-index c.loop-interval.numbers.items c.loop-interval-test.false c.loop-interval.invariant)
