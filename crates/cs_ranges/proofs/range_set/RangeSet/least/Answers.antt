use Rattle.std.proofs.Common.{pos, get_or, sym, ap, ◌∙◌, subst, arith, FitsSigned}
use Rattle.std.specs.Int.{w128}
use Rattle.std.proofs.lemmas.Int.{ints, to_z-of_z}
use Rattle.std.proofs.lemmas.List.{nil_from_length}
use Rattle.cs_ranges.specs.declared.range_set.Interval.{Interval}
use Rattle.cs_ranges.specs.RangeSet.{contains, IsSpread}
use Rattle.cs_ranges.proofs.Ends.{IsLeast-first}
use Rattle.cs_ranges.proofs.Members.{contains-nil}
use Rattle.cs_ranges.proofs.Spread.{IsSpreadFrom-at}
use Rattle.cs_ranges.proofs.range_set.RangeSet.least.Goals as goal

pub returns-in-empty-clause-least : goal.returns-in-empty-clause-least
returns-in-empty-clause-least c =
    λ x. ap (λ s. contains s x) (sym (c.as_slice.ensures ∙ c.self.view_is) ∙ nil_from_length _ (omega arith)) ∙ contains-nil x

pub returns-in-len1-up-clause-least : goal.returns-in-len1-up-clause-least
returns-in-len1-up-clause-least c =
    let s = c.as_slice.result.now in
    let h : IsSpread s = subst IsSpread (sym c.as_slice.ensures) c.self.invariant in
    let zero : Interval = record { low = pos 0; high = pos 0 } in
    let at = IsSpreadFrom-at _ s 0 zero h (omega arith) in
    let low : FitsSigned w128 (get_or s 0 zero).low = omega (arith, ints, at.0, at.1, at.2) in
    rw (← c.self.view_is, ← c.as_slice.ensures, to_z-of_z w128 _ low) (IsLeast-first s zero (omega arith) h)
