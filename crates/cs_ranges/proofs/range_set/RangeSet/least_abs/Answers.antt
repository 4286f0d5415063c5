use Rattle.std.proofs.Common.{◌≡◌, ◌≤◌, ℕ, ℤ, pos, Option, None, Some, MatchOption, List, [], length, take, sym, ap, ◌∙◌, subst, arith}
use Rattle.std.proofs.Common.{rules, take_all, FitsSigned}
use Rattle.std.proofs.lemmas.Int.{to_z-of_z}
use Rattle.std.specs.Int.{w128}
use Rattle.std.proofs.lemmas.List.{take_more, nil_from_length}
use Rattle.cs_ranges.specs.declared.range_set.Interval.{Interval}
use Rattle.cs_ranges.specs.RangeSet.{contains, IsEmpty, IsSpread, IsLeastAbs}
use Rattle.cs_ranges.proofs.LeastAbs.{IsLeastAbs-first, IsLeastAbs-push}
use Rattle.cs_ranges.proofs.Members.{contains-nil}
use Rattle.cs_ranges.proofs.Spread.{IsSpreadFrom-at}
use Rattle.cs_ranges.proofs.range_set.RangeSet.least_abs.Goals.{in-None, in-Some}
use Rattle.cs_ranges.proofs.range_set.RangeSet.least_abs.Goals as goal

-- the result of the loop after all intervals
found_all : (s t : List Interval) (k : ℕ) (found : Option ℤ) → length s ≤ k → k ≤ length s → s ≡ t
    → MatchOption found (k ≡ 0) (IsLeastAbs (take k s)) → MatchOption found (IsEmpty t) (IsLeastAbs t)
found_all s t k None le ge e h = λ x. ap (λ l. contains l x) (sym e ∙ nil_from_length s (omega arith)) ∙ contains-nil x
found_all s t k (Some x) le ge e h = subst (λ l. IsLeastAbs l x) (take_all k s le ∙ e) h

pub nearest_to_zero-nearest-requires : goal.nearest_to_zero-nearest-requires
nearest_to_zero-nearest-requires c =
    let spread = subst IsSpread (sym c.as_slice-interval-items.ensures) c.self.invariant in
    (IsSpreadFrom-at _ _ _ _ spread c.loop-interval-test.true).1

pub loop-interval-preserved : goal.loop-interval-preserved
loop-interval-preserved c =
    let s = c.as_slice-interval-items.result.now in
    let k = c.loop-interval.interval-index in
    let more = take_more s k (record { low = pos 0; high = pos 0 }) c.loop-interval-test.true in
    let near = c.nearest_to_zero-nearest in
    let near_fits : FitsSigned w128 near.result = search rules in
    let near_is = to_z-of_z w128 near.result near_fits in
    elim c.match-least.branch [
      | in-None w ↦
          let none : take k s ≡ [] = ap (λ n. take n s) (rw w.in-None.is at c.loop-interval.invariant) in
          rw (w.least-is, more, none, near_is) (IsLeastAbs-first _ _ near.ensures.member near.ensures.nearest)
      | in-Some w ↦
          let found_fits : FitsSigned w128 w.in-Some.found = search rules in
          let found_is = to_z-of_z w128 w.in-Some.found found_fits in
          let nearer_fits : FitsSigned w128 w.nearer.result = search rules in
          let better = w.nearer.ensures in
          rw (w.least-is, more, to_z-of_z w128 w.nearer.result nearer_fits)
          (IsLeastAbs-push _ _ _ _ _ (rw w.in-Some.is at c.loop-interval.invariant) near.ensures.member near.ensures.nearest
          (rw (near_is, found_is) at better.one) (rw found_is at better.not_after_a) (rw near_is at better.not_after_b))
    ]

pub returns : goal.returns
returns c =
    found_all _ _ _ _ c.loop-interval-test.false c.loop-interval.auto.interval-index-end (c.as_slice-interval-items.ensures ∙ c.self.view_is)
    c.loop-interval.invariant
