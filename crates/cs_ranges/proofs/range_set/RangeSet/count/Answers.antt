use Rattle.std.proofs.Common.{◌≡◌, pos, sym, ap, ◌∙◌, subst, arith}
use Rattle.std.proofs.lemmas.Int.{ints}
use Rattle.std.proofs.lemmas.List.{drop_more, drop_all}
use Rattle.cs_ranges.specs.declared.range_set.Interval.{Interval}
use Rattle.cs_ranges.specs.RangeSet.{IsSpread}
use Rattle.cs_ranges.proofs.Counting.{total_size, total_size-nil, total_size-cons, total_size-bound, IsCount-total_size}
use Rattle.cs_ranges.proofs.Spread.{IsSpreadFrom-at}
use Rattle.cs_ranges.proofs.range_set.RangeSet.count.Goals as goal

pub overflow_add-count : goal.overflow_add-count
overflow_add-count c =
    let s = c.as_slice-interval-items.result.now in
    let spread : IsSpread s = subst IsSpread (sym c.as_slice-interval-items.ensures) c.self.invariant in
    let at = IsSpreadFrom-at _ s c.loop-interval.interval-index (record { low = pos 0; high = pos 0 }) spread c.loop-interval-test.true in
    omega (arith, ints, at.0, at.1, at.2)

pub overflow_add-count-in-loop-interval : goal.overflow_add-count-in-loop-interval
overflow_add-count-in-loop-interval c =
    let s = c.as_slice-interval-items.result.now in
    let k = c.loop-interval.interval-index in
    let zero : Interval = record { low = pos 0; high = pos 0 } in
    let spread : IsSpread s = subst IsSpread (sym c.as_slice-interval-items.ensures) c.self.invariant in
    let at = IsSpreadFrom-at _ s k zero spread c.loop-interval-test.true in
    let split = ap total_size (drop_more s k zero c.loop-interval-test.true) ∙ total_size-cons _ _ in
    let bound = total_size-bound _ s spread (omega (arith, ints)) in
    omega (arith, ints, at.0, at.1, at.2, split, bound)

pub loop-interval-preserved : goal.loop-interval-preserved
loop-interval-preserved c =
    let s = c.as_slice-interval-items.result.now in
    let k = c.loop-interval.interval-index in
    let zero : Interval = record { low = pos 0; high = pos 0 } in
    let spread : IsSpread s = subst IsSpread (sym c.as_slice-interval-items.ensures) c.self.invariant in
    let at = IsSpreadFrom-at _ s k zero spread c.loop-interval-test.true in
    let split = ap total_size (drop_more s k zero c.loop-interval-test.true) ∙ total_size-cons _ _ in
    omega (arith, ints, at.0, at.1, at.2, split)

pub returns : goal.returns
returns c =
    let s = c.as_slice-interval-items.result.now in
    let none = ap total_size (drop_all _ s c.loop-interval-test.false) ∙ total_size-nil in
    let is : c.loop-interval.count ≡ total_size s = omega (arith, none) in
    rw (is, c.as_slice-interval-items.ensures, ← c.self.view_is) (IsCount-total_size _ c.self.invariant)
