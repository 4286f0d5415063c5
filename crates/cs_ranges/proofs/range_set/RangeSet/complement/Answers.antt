use Rattle.std.proofs.Common.{◌≡◌, ◌+◌, pos, ◌∷◌, get_or, drop, arith}
use Rattle.std.proofs.lemmas.Int.{ints}
use Rattle.std.proofs.lemmas.List.{drop_more, drop_all}
use Rattle.cs_ranges.specs.declared.range_set.Interval.{Interval}
use Rattle.cs_ranges.proofs.Gaps.{Splits-start, Splits-gap, Splits-no_gap, Splits-last_gap, Splits-no_last_gap}
use Rattle.cs_ranges.proofs.range_set.RangeSet.complement.Goals.{then-next-interval+in_ok-push, else-next-interval, then-next-le-GREATEST+in_ok-push-2}
use Rattle.cs_ranges.proofs.range_set.RangeSet.complement.Goals.{else-next-le-GREATEST}
use Rattle.cs_ranges.proofs.range_set.RangeSet.complement.Goals as goal

pub loop-interval-init : goal.loop-interval-init
loop-interval-init c =
    rw (c.empty-gaps.ensures, ← c.self.view_is, c.as_slice-interval-items.ensures) (Splits-start _ c.self.invariant)

pub push-requires-clause-proper : goal.push-requires-clause-proper
push-requires-clause-proper c =
    let s = c.as_slice-interval-items.result.now in
    let k = c.loop-interval.interval-index in
    let zero : Interval = record { low = pos 0; high = pos 0 } in
    let split : drop k s ≡ get_or s k zero ∷ drop (k + 1) s = drop_more s k zero c.loop-interval-test.true in
    let h = rw split at c.loop-interval.invariant in
    let spread = h.spread in
    record {
      from = omega (arith, ints, h.from);
      ordered = omega (arith, ints, h.from, spread.0, spread.1, spread.2);
      upto = omega (arith, ints, h.from, spread.0, spread.1, spread.2);
    }

pub loop-interval-preserved : goal.loop-interval-preserved
loop-interval-preserved c =
    let s = c.as_slice-interval-items.result.now in
    let k = c.loop-interval.interval-index in
    let zero : Interval = record { low = pos 0; high = pos 0 } in
    let split : drop k s ≡ get_or s k zero ∷ drop (k + 1) s = drop_more s k zero c.loop-interval-test.true in
    let h = rw split at c.loop-interval.invariant in
    let spread = h.spread in
    elim c.if-next-interval.branch [
      | then-next-interval+in_ok-push w ↦
          rw w.gaps-is (Splits-gap _ _ _ _ (get_or s k zero) _ _ _ h w.in_ok-push.ensures.members
          (omega (arith, ints, w.in_ok-push.ensures.last))
          (omega (arith, ints, h.from, spread.0, spread.1, spread.2))
          (omega (arith, ints))
          (omega (arith, ints, h.from, spread.0, spread.1, spread.2))
          (omega (arith, ints, h.from, spread.0, spread.1, spread.2)))
      | else-next-interval w ↦
          rw w.gaps-is (Splits-no_gap _ _ _ _ (get_or s k zero) _ h
          (omega (arith, ints, h.from, spread.0, spread.1, spread.2))
          (omega (arith, ints, h.from, spread.0, spread.1, spread.2)))
    ]

pub returns : goal.returns
returns c =
    let s = c.as_slice-interval-items.result.now in
    let k = c.loop-interval.interval-index in
    let h = rw (drop_all k s c.loop-interval-test.false) at c.loop-interval.invariant in
    elim c.if-next-le-GREATEST.branch [
      | then-next-le-GREATEST+in_ok-push-2 w ↦
          rw w.gaps-is (Splits-last_gap _ _ _ _ _ h w.in_ok-push-2.ensures.members (omega (arith, ints)) (omega (arith, ints)))
      | else-next-le-GREATEST w ↦ rw w.gaps-is (Splits-no_last_gap _ _ _ h (omega (arith, ints)))
    ]
