use Rattle.std.proofs.Common.{ℤ, neg_ℤ, sym, ap, ◌∙◌, arith}
use Rattle.std.specs.Int.{w128}
use Rattle.std.proofs.lemmas.Int.{ints, to_z-of_z}
use Rattle.cs_ranges.specs.Affine.{affine}
use Rattle.cs_ranges.specs.Interval.{IsInside}
use Rattle.cs_ranges.proofs.AffineLaws.{affine-up, affine-down}
use Rattle.cs_ranges.proofs.range_set.affine.Line.rising.Goals as goal

pub overflow_sub-result : goal.overflow_sub-result
overflow_sub-result c =
    let start = rw (to_z-of_z w128 _ c.ranges.slope, to_z-of_z w128 _ c.ranges.at, to_z-of_z w128 _ c.ranges.value, to_z-of_z w128 _ c.ranges.first) at
    c.affine_value-start.ensures in
    let start_inside : IsInside c.affine_value-start.result = rw start c.requires.inside.0 in
    omega (arith, ints, start_inside)

pub overflow_sub-result-then-slope-lt0 : goal.overflow_sub-result-then-slope-lt0
overflow_sub-result-then-slope-lt0 c =
    let end = rw (to_z-of_z w128 _ c.ranges.slope, to_z-of_z w128 _ c.ranges.at, to_z-of_z w128 _ c.ranges.value, to_z-of_z w128 _ c.ranges.last) at
    c.affine_value-end.ensures in
    let end_inside : IsInside c.affine_value-end.result = rw end c.requires.inside.1 in
    omega (arith, ints, end_inside)

pub invariant_of-result : goal.invariant_of-result
invariant_of-result c =
    let start = rw (to_z-of_z w128 _ c.ranges.slope, to_z-of_z w128 _ c.ranges.at, to_z-of_z w128 _ c.ranges.value, to_z-of_z w128 _ c.ranges.first) at
    c.affine_value-start.ensures in
    let end = rw (to_z-of_z w128 _ c.ranges.slope, to_z-of_z w128 _ c.ranges.at, to_z-of_z w128 _ c.ranges.value, to_z-of_z w128 _ c.ranges.last) at
    c.affine_value-end.ensures in
    let start_inside : IsInside c.affine_value-start.result = rw start c.requires.inside.0 in
    let end_inside : IsInside c.affine_value-end.result = rw end c.requires.inside.1 in
    let last : ℤ → ℤ = λ x. neg_ℤ (affine c.args.slope c.args.at c.args.value x) in
    record {
      over = (
        (omega (arith, ints, c.requires.over.0), omega (arith, ints, c.requires.over.0)),
        (omega (arith, ints, c.requires.over.1), omega (arith, ints, c.requires.over.1)),
        omega (arith, ints, c.requires.over.2),
      );
      inside = ((omega (arith, ints, start_inside), omega (arith, ints, start_inside)), (omega (arith, ints, end_inside), omega (arith, ints, end_inside)));
      reaches_end = rw (← end) (omega (arith, ints, end_inside)) ∙ sym (ap last (to_z-of_z w128 _ c.ranges.last))
          ∙ sym (affine-down c.args.slope c.args.at c.args.value c.args.first _ _ _ _
          (to_z-of_z w128 _ c.ranges.first) (rw (← start) (omega (arith, ints, start_inside))) (omega (arith, ints)));
    }

pub returns-then-slope-lt0-clause-negatives : goal.returns-then-slope-lt0-clause-negatives
returns-then-slope-lt0-clause-negatives c =
    let start = rw (to_z-of_z w128 _ c.ranges.slope, to_z-of_z w128 _ c.ranges.at, to_z-of_z w128 _ c.ranges.value, to_z-of_z w128 _ c.ranges.first) at
    c.affine_value-start.ensures in
    let start_inside : IsInside c.affine_value-start.result = rw start c.requires.inside.0 in
    λ below s. affine-down c.args.slope c.args.at c.args.value c.args.first s _ _ _
    (to_z-of_z w128 _ c.ranges.first) (rw (← start) (omega (arith, ints, start_inside))) (omega (arith, ints))

pub invariant_of-result-2 : goal.invariant_of-result-2
invariant_of-result-2 c =
    let start = rw (to_z-of_z w128 _ c.ranges.slope, to_z-of_z w128 _ c.ranges.at, to_z-of_z w128 _ c.ranges.value, to_z-of_z w128 _ c.ranges.first) at
    c.affine_value-start.ensures in
    let end = rw (to_z-of_z w128 _ c.ranges.slope, to_z-of_z w128 _ c.ranges.at, to_z-of_z w128 _ c.ranges.value, to_z-of_z w128 _ c.ranges.last) at
    c.affine_value-end.ensures in
    let start_inside : IsInside c.affine_value-start.result = rw start c.requires.inside.0 in
    let end_inside : IsInside c.affine_value-end.result = rw end c.requires.inside.1 in
    let last : ℤ → ℤ = λ x. affine c.args.slope c.args.at c.args.value x in
    record {
      over = (
        (omega (arith, ints, c.requires.over.0), omega (arith, ints, c.requires.over.0)),
        (omega (arith, ints, c.requires.over.1), omega (arith, ints, c.requires.over.1)),
        omega (arith, ints, c.requires.over.2),
      );
      inside = ((omega (arith, ints, start_inside), omega (arith, ints, start_inside)), (omega (arith, ints, end_inside), omega (arith, ints, end_inside)));
      reaches_end = rw (← end) (omega (arith, ints, end_inside)) ∙ sym (ap last (to_z-of_z w128 _ c.ranges.last))
          ∙ sym (affine-up c.args.slope c.args.at c.args.value c.args.first _ _ _ _
          (to_z-of_z w128 _ c.ranges.first) (rw (← start) (omega (arith, ints, start_inside))) (omega (arith, ints)));
    }

pub returns-clause-values : goal.returns-clause-values
returns-clause-values c =
    let start = rw (to_z-of_z w128 _ c.ranges.slope, to_z-of_z w128 _ c.ranges.at, to_z-of_z w128 _ c.ranges.value, to_z-of_z w128 _ c.ranges.first) at
    c.affine_value-start.ensures in
    let start_inside : IsInside c.affine_value-start.result = rw start c.requires.inside.0 in
    λ above s. affine-up c.args.slope c.args.at c.args.value c.args.first s _ _ _
    (to_z-of_z w128 _ c.ranges.first) (rw (← start) (omega (arith, ints, start_inside))) (omega (arith, ints))
