use Rattle.std.proofs.lemmas.List.{nil_from_length}
use Rattle.cs_ranges.proofs.Negatives.{Mirrors-start, Mirrors-more, Mirrors-end, Mirrors-following}
use Rattle.cs_ranges.proofs.Spread.{IsProper-last}
use Rattle.cs_ranges.proofs.range_set.RangeSet.negated.Goals as goal

pub loop-last-init : goal.loop-last-init
loop-last-init c =
    rw (c.empty-negatives.ensures, c.as_slice-rest.ensures, ← c.self.view_is) (Mirrors-start _ c.self.invariant)

pub negated-requires : goal.negated-requires
negated-requires c = IsProper-last _ _ (rw c.in-Some.ensures.cases.0 at c.loop-last.invariant).spread

pub push-requires-clause-following : goal.push-requires-clause-following
push-requires-clause-following c =
    rw c.negated.ensures.low (Mirrors-following _ _ _ _ (rw c.in-Some.ensures.cases.0 at c.loop-last.invariant))

pub loop-last-preserved : goal.loop-last-preserved
loop-last-preserved c =
    Mirrors-more _ _ _ _ _ _ (rw c.in-Some.ensures.cases.0 at c.loop-last.invariant)
    c.negated.ensures.low c.negated.ensures.high c.in_ok-push.ensures.members c.in_ok-push.ensures.last

pub returns : goal.returns
returns c = Mirrors-end _ _ _ c.loop-last.invariant (nil_from_length _ c.in_default.ensures.cases)
