use Rattle.std.proofs.Common.{ℤ, ◌≤ℤ◌, List, refl, sym, ◌∙◌}
use Rattle.std.specs.Int.{w128}
use Rattle.std.proofs.lemmas.Bool.{false≢true}
use Rattle.std.proofs.lemmas.Int.{to_z-of_z}
use Rattle.cs_ranges.specs.declared.range_set.Interval.{Interval}
use Rattle.cs_ranges.specs.RangeSet.{IsLeast, IsGreatest}
use Rattle.cs_ranges.proofs.Lines.{affine-between}
use Rattle.cs_terms.specs.declared.term.Lin.{Lin}
use Rattle.cs_terms.specs.Bounds.{StaysBetween}
use Rattle.cs_terms.specs.Term.{value_at, IsTerm}
use Rattle.cs_terms.proofs.Cutting.{value_at-affine}
use Rattle.cs_terms.proofs.Narrow.{inside_same}
use Rattle.cs_terms.proofs.bounds.stays_between.Goals as goal

-- the values at both ends of the range decide
from_ends : (term : Lin) (range : List Interval) (low high first last : ℤ) → IsTerm term → IsLeast range first → IsGreatest range last
    → (low ≤ℤ value_at term first) × (value_at term first ≤ℤ high) → (low ≤ℤ value_at term last) × (value_at term last ≤ℤ high)
    → StaysBetween term range low high
from_ends term range low high first last h least greatest a b x t =
    let between = affine-between low high term.slope term.at term.value first last x (least.least x t) (greatest.greatest x t)
    (rw (value_at-affine term first h) at a) (rw (value_at-affine term last h) at b) in
    rw (value_at-affine term x h) between

pub returns-then-is_between_at : goal.returns-then-is_between_at
returns-then-is_between_at c =
    let term = c.args.term in
    let ends = c.in-Some-Some in
    let low = to_z-of_z w128 c.args.low c.ranges.low in
    let high = to_z-of_z w128 c.args.high c.ranges.high in
    let before = rw (low, high, inside_same ends.first ends.ensures.inside) at c.if-is_between_at.ensures in
    let after = rw (low, high, inside_same ends.last ends.ensures'.inside) at c.is_between_at-then-is_between_at.ensures in (
      λ t. from_ends term c.args.range.now c.args.low c.args.high ends.first ends.last c.requires.term ends.ensures.least ends.ensures'.greatest
          (before.0 refl) (after.0 t),
      λ stays. after.1 (stays ends.last ends.ensures'.greatest.member),
    )

pub returns-else-is_between_at : goal.returns-else-is_between_at
returns-else-is_between_at c =
    let ends = c.in-Some-Some in
    let low = to_z-of_z w128 c.args.low c.ranges.low in
    let high = to_z-of_z w128 c.args.high c.ranges.high in
    let before = rw (low, high, inside_same ends.first ends.ensures.inside) at c.if-is_between_at.ensures in (
      λ t. absurd (false≢true (sym c.if-is_between_at.false ∙ t)),
      λ stays. absurd (false≢true (before.1 (stays ends.first ends.ensures.least.member))),
    )
