use Rattle.std.proofs.Common.{◌-◌, pos, length, get_or, sym, ap, ◌∙◌, subst, arith, FitsSigned}
use Rattle.std.specs.Int.{w128}
use Rattle.std.proofs.lemmas.Int.{ints, to_z-of_z}
use Rattle.std.proofs.lemmas.List.{nil_from_length}
use Rattle.cs_ranges.specs.declared.range_set.Interval.{Interval}
use Rattle.cs_ranges.specs.RangeSet.{contains, IsSpread}
use Rattle.cs_ranges.proofs.Ends.{IsGreatest-last}
use Rattle.cs_ranges.proofs.Members.{contains-nil}
use Rattle.cs_ranges.proofs.Spread.{IsSpreadFrom-at}
use Rattle.cs_ranges.proofs.range_set.RangeSet.greatest.Goals as goal

pub returns-in-empty-clause-greatest : goal.returns-in-empty-clause-greatest
returns-in-empty-clause-greatest c =
    λ x. ap (λ s. contains s x) (sym (c.as_slice.ensures ∙ c.self.view_is) ∙ nil_from_length _ (omega arith)) ∙ contains-nil x

pub returns-in-len1-up-clause-greatest : goal.returns-in-len1-up-clause-greatest
returns-in-len1-up-clause-greatest c =
    let s = c.as_slice.result.now in
    let h : IsSpread s = subst IsSpread (sym c.as_slice.ensures) c.self.invariant in
    let zero : Interval = record { low = pos 0; high = pos 0 } in
    let at = IsSpreadFrom-at _ s (length s - 1) zero h (omega arith) in
    let high : FitsSigned w128 (get_or s (length s - 1) zero).high = omega (arith, ints, at.0, at.1, at.2) in
    rw (← c.self.view_is, ← c.as_slice.ensures, to_z-of_z w128 _ high) (IsGreatest-last s zero (omega arith) h)

pub returns-in-len1-up-clause-inside : goal.returns-in-len1-up-clause-inside
returns-in-len1-up-clause-inside c =
    let s = c.as_slice.result.now in
    let h : IsSpread s = subst IsSpread (sym c.as_slice.ensures) c.self.invariant in
    let at = IsSpreadFrom-at _ s (length s - 1) (record { low = pos 0; high = pos 0 }) h (omega arith) in
    (omega (arith, ints, at.0, at.1, at.2), omega (arith, ints, at.0, at.1, at.2))
