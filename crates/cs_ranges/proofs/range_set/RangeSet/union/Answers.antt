use Rattle.std.proofs.Common.{inl, inr, arith}
use Rattle.std.proofs.lemmas.Int.{ints}
use Rattle.std.proofs.lemmas.List.{nil_from_length}
use Rattle.cs_ranges.proofs.Joining.{Joins-start, Joins-left, Joins-right, Joins-end, Joins-following}
use Rattle.cs_ranges.proofs.Spread.{IsProper-first}
use Rattle.cs_ranges.proofs.range_set.RangeSet.union.Goals.{in_default, in_default-2}
use Rattle.cs_ranges.proofs.range_set.RangeSet.union.Goals as goal

pub loop-a-init : goal.loop-a-init
loop-a-init c =
    rw (c.empty-joined.ensures, c.as_slice-left.ensures, c.as_slice-right.ensures, ← c.self.view_is, ← c.other.view_is)
    (Joins-start _ _ c.self.invariant c.other.invariant)

pub push-requires-clause-proper : goal.push-requires-clause-proper
push-requires-clause-proper c =
    IsProper-first _ _ (rw (c.in-Some-Some.ensures.cases.0, c.in-Some-Some.ensures'.cases.0) at c.loop-a.invariant).left_spread

pub push-requires-clause-following : goal.push-requires-clause-following
push-requires-clause-following c =
    (rw (c.in-Some-Some.ensures.cases.0, c.in-Some-Some.ensures'.cases.0) at c.loop-a.invariant).left_following.0

pub push-requires-else-a-b-clause-proper : goal.push-requires-else-a-b-clause-proper
push-requires-else-a-b-clause-proper c =
    IsProper-first _ _ (rw (c.in-Some-Some.ensures.cases.0, c.in-Some-Some.ensures'.cases.0) at c.loop-a.invariant).right_spread

pub push-requires-else-a-b-clause-following : goal.push-requires-else-a-b-clause-following
push-requires-else-a-b-clause-following c =
    (rw (c.in-Some-Some.ensures.cases.0, c.in-Some-Some.ensures'.cases.0) at c.loop-a.invariant).right_after.0

pub loop-a-preserved-in_ok-push : goal.loop-a-preserved-in_ok-push
loop-a-preserved-in_ok-push c =
    let h = rw (c.in-Some-Some.ensures.cases.0, c.in-Some-Some.ensures'.cases.0) at c.loop-a.invariant in
    let a = h.left_spread in
    let b = h.right_spread in
    rw c.in-Some-Some.ensures'.cases.0
    (Joins-left _ _ _ _ _ _ _ _ h (omega (arith, ints, a.0, a.1, a.2, b.0, b.1, b.2)) c.in_ok-push.ensures.members c.in_ok-push.ensures.last)

pub loop-a-preserved : goal.loop-a-preserved
loop-a-preserved c =
    let h = rw (c.in-Some-Some.ensures.cases.0, c.in-Some-Some.ensures'.cases.0) at c.loop-a.invariant in
    let a = h.left_spread in
    let b = h.right_spread in
    rw c.in-Some-Some.ensures.cases.0
    (Joins-right _ _ _ _ _ _ _ _ h (omega (arith, ints, a.0, a.1, a.2, b.0, b.1, b.2)) c.in_ok-push-2.ensures.members c.in_ok-push-2.ensures.last)

pub push_all-requires-clause-spread : goal.push_all-requires-clause-spread
push_all-requires-clause-spread c = c.loop-a.invariant.left_spread

pub push_all-requires-clause-following : goal.push_all-requires-clause-following
push_all-requires-clause-following c = c.loop-a.invariant.left_following

pub push_all-requires-2-clause-spread : goal.push_all-requires-2-clause-spread
push_all-requires-2-clause-spread c = c.loop-a.invariant.right_spread

pub push_all-requires-2-clause-following : goal.push_all-requires-2-clause-following
push_all-requires-2-clause-following c =
    Joins-following _ _ _ _ _ _ c.loop-a.invariant c.in_ok-push_all.ensures.none (elim c.match-split_first.branch [
      | in_default w ↦ inr (nil_from_length _ w.in_default.ensures'.cases)
      | in_default-2 w ↦ inl (nil_from_length _ w.in_default.ensures.cases)
    ])

pub returns : goal.returns
returns c =
    Joins-end _ _ _ _ _ _ _ c.loop-a.invariant c.in_ok-push_all.ensures.members c.in_ok-push_all-2.ensures.members
