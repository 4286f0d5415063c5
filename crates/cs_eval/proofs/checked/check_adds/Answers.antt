use Rattle.std.proofs.Common.{rules, ◌≡◌, refl, to_z, of_z}
use Rattle.std.specs.Int.{w128}
use Rattle.std.proofs.lemmas.Bool.{false≢true}
use Rattle.std.proofs.lemmas.Result.{on_ok_weaker}
use Rattle.cs_eval.proofs.checked.check_adds.Goals as goal

pub returns-then-have_one_symbol : goal.returns-then-have_one_symbol
returns-then-have_one_symbol c =
    let left_slope : to_z w128 (of_z w128 c.args.left.slope) ≡ c.args.left.slope = search rules in
    let right_slope : to_z w128 (of_z w128 c.args.right.slope) ≡ c.args.right.slope = search rules in
    let left_value : to_z w128 (of_z w128 c.args.left.value) ≡ c.args.left.value = search rules in
    let right_value : to_z w128 (of_z w128 c.args.right.value) ≡ c.args.right.value = search rules in
    on_ok_weaker c.check_together.result
    (λ last. record {
      left_slope = rw left_slope at c.in_ok-check_inside.ensures;
      right_slope = rw right_slope at c.in_ok-check_inside-2.ensures;
      slopes = rw (left_slope, right_slope) at c.in_ok-check_sum.ensures;
      left_value = rw left_value at c.in_ok-check_inside-3.ensures;
      right_value = rw right_value at c.in_ok-check_inside-4.ensures;
      over_one = λ _. last;
      over_others = λ not. absurd (not (c.if-have_one_symbol.ensures.0 refl));
    })
    c.check_together.ensures

pub returns-else-have_one_symbol : goal.returns-else-have_one_symbol
returns-else-have_one_symbol c =
    let left_slope : to_z w128 (of_z w128 c.args.left.slope) ≡ c.args.left.slope = search rules in
    let right_slope : to_z w128 (of_z w128 c.args.right.slope) ≡ c.args.right.slope = search rules in
    let left_value : to_z w128 (of_z w128 c.args.left.value) ≡ c.args.left.value = search rules in
    let right_value : to_z w128 (of_z w128 c.args.right.value) ≡ c.args.right.value = search rules in
    on_ok_weaker c.check_sum-else-have_one_symbol.result
    (λ last. record {
      left_slope = rw left_slope at c.in_ok-check_inside.ensures;
      right_slope = rw right_slope at c.in_ok-check_inside-2.ensures;
      slopes = rw (left_slope, right_slope) at c.in_ok-check_sum.ensures;
      left_value = rw left_value at c.in_ok-check_inside-3.ensures;
      right_value = rw right_value at c.in_ok-check_inside-4.ensures;
      over_one = λ one. absurd (false≢true (c.if-have_one_symbol.ensures.1 one));
      over_others = λ _. rw (left_value, right_value) at last;
    })
    c.check_sum-else-have_one_symbol.ensures
