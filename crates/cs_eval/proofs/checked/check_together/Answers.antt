use Rattle.std.proofs.Common.{rules, ◌≡◌, ℤ, ◌+ℤ◌, sym, subst, ◌∙◌, to_z, of_z}
use Rattle.std.specs.Int.{w128}
use Rattle.std.proofs.lemmas.Result.{on_ok_weaker}
use Rattle.cs_ranges.specs.Interval.{IsInside}
use Rattle.cs_ranges.specs.Affine.{affine}
use Rattle.cs_terms.specs.Term.{value_at}
use Rattle.cs_terms.proofs.Cutting.{value_at-affine}
use Rattle.cs_eval.proofs.checked.check_together.Goals as goal

pub returns : goal.returns
returns c =
    let left = c.args.left in
    let right = c.args.right in
    let there = c.in-Some-Some in
    let left_place : to_z w128 (of_z w128 left.at) ≡ left.at = search rules in
    let left_value : to_z w128 (of_z w128 left.value) ≡ left.value = search rules in
    let right_place : to_z w128 (of_z w128 right.at) ≡ right.at = search rules in
    let right_value : to_z w128 (of_z w128 right.value) ≡ right.value = search rules in
    let left_same : to_z w128 (of_z w128 there.left_there) ≡ there.left_there = search rules in
    let right_same : to_z w128 (of_z w128 there.right_there) ≡ there.right_there = search rules in
    let left_is : there.left_there ≡ affine left.slope left.at left.value right.at =
    rw right_place at there.ensures in
    let right_is : there.right_there ≡ affine right.slope right.at right.value left.at =
    rw left_place at there.ensures' in
    let left_at : there.left_there ≡ value_at left right.at = left_is ∙ sym (value_at-affine left right.at c.requires.left) in
    let right_at : there.right_there ≡ value_at right left.at = right_is ∙ sym (value_at-affine right left.at c.requires.right) in
    on_ok_weaker c.check_sum-2.result
    (λ inside. record {
      left_there = subst (λ (n : ℤ). IsInside n) left_at (rw left_same at c.in_ok-check_inside.ensures);
      right_there = subst (λ (n : ℤ). IsInside n) right_at (rw right_same at c.in_ok-check_inside-2.ensures);
      sum_at_left = subst (λ (n : ℤ). IsInside (left.value +ℤ n)) right_at (rw (left_value, right_same) at c.in_ok-check_sum.ensures);
      sum_at_right = subst (λ (n : ℤ). IsInside (n +ℤ right.value)) left_at (rw (left_same, right_value) at inside);
    })
    c.check_sum-2.ensures
