use Rattle.std.proofs.Common.{inl, inr, arith}
use Rattle.std.proofs.lemmas.Int.{ints}
use Rattle.std.proofs.lemmas.List.{nil_from_length}
use Rattle.cs_ranges.proofs.Meeting.{Meets-start, Meets-left, Meets-right, Meets-end}
use Rattle.cs_ranges.proofs.range_set.RangeSet.intersect.Goals.{in_default, in_default-2}
use Rattle.cs_ranges.proofs.range_set.RangeSet.intersect.Goals as goal

pub loop-a-init : goal.loop-a-init
loop-a-init c =
    rw (c.empty-common.ensures, c.as_slice-left.ensures, c.as_slice-right.ensures, ← c.self.view_is, ← c.other.view_is)
    (Meets-start _ _ c.self.invariant c.other.invariant)

pub loop-a-preserved-then-a-b : goal.loop-a-preserved-then-a-b
loop-a-preserved-then-a-b c =
    let h = rw (c.in-Some-Some.ensures.cases.0, c.in-Some-Some.ensures'.cases.0) at c.loop-a.invariant in
    let a = h.left_spread in
    let b = h.right_spread in
    rw c.in-Some-Some.ensures'.cases.0 (Meets-left _ _ _ _ _ _ _ _ h
    (omega (arith, ints, a.0, a.1, a.2, b.0, b.1, b.2))
    c.in_ok-push_common.ensures.members
    c.in_ok-push_common.ensures.last)

pub loop-a-preserved : goal.loop-a-preserved
loop-a-preserved c =
    let h = rw (c.in-Some-Some.ensures.cases.0, c.in-Some-Some.ensures'.cases.0) at c.loop-a.invariant in
    let a = h.left_spread in
    let b = h.right_spread in
    rw c.in-Some-Some.ensures.cases.0 (Meets-right _ _ _ _ _ _ _ _ h
    (omega (arith, ints, a.0, a.1, a.2, b.0, b.1, b.2))
    c.in_ok-push_common.ensures.members
    c.in_ok-push_common.ensures.last)

pub returns : goal.returns
returns c =
    Meets-end _ _ _ _ _ c.loop-a.invariant (elim c.match-split_first.branch [
      | in_default w ↦ inr (nil_from_length _ w.in_default.ensures'.cases)
      | in_default-2 w ↦ inl (nil_from_length _ w.in_default.ensures.cases)
    ])
