use Rattle.std.proofs.Common.{◌≡◌, ◌&&◌, not, ℤ, List, ◌∙◌, subst}
use Rattle.std.proofs.lemmas.Result.{IfOk-weaker}
use Rattle.cs_ranges.specs.declared.range_set.Interval.{Interval}
use Rattle.cs_ranges.specs.RangeSet.{contains, IsSpread}
use Rattle.cs_ranges.proofs.Spread.{minus-by_complement}
use Rattle.cs_ranges.proofs.range_set.RangeSet.minus.Goals as goal

pub returns : goal.returns
returns c =
    let one = c.args.self.now in
    let others = c.in_ok-others.others in
    let spread : IsSpread one = subst IsSpread c.self.view_is c.self.invariant in
    let HasCommon : List Interval → Type 0 = λ s. (x : ℤ) → contains s x ≡ (contains one x && contains others x) in
    let HasLeft : List Interval → Type 0 = λ s. (x : ℤ) → contains s x ≡ (contains one x && not (contains c.args.other.now x)) in
    IfOk-weaker _ HasCommon HasLeft
    (λ s h x. h x ∙ minus-by_complement one c.args.other.now others spread c.in_ok-others.ensures x)
    c.intersect.ensures
