use Rattle.std.proofs.Common.{rules, ◌≡◌, pos, to_z, of_z}
use Rattle.std.specs.Int.{w128}
use Rattle.cs_types.specs.DataModel.{product_bound_of}
use Rattle.cs_eval.proofs.ProductTests.{all_few, none_few, some_few, counts_wide}
use Rattle.cs_eval.proofs.truths.followed_by_ends.Goals as goal

pub values_of-count-requires : goal.values_of-count-requires
values_of-count-requires c = counts_wide c.args.setting.now.constraints.now c.args.count c.requires.count

pub values_of-size-requires : goal.values_of-size-requires
values_of-size-requires c = counts_wide c.args.setting.now.constraints.now c.args.size c.requires.size

pub returns-then-is_product_within : goal.returns-then-is_product_within
returns-then-is_product_within c =
    let count = c.values_of-count in
    let size = c.values_of-size in
    let count_high : to_z w128 (of_z w128 count.result.high) ≡ count.result.high = search rules in
    let size_high : to_z w128 (of_z w128 size.result.high) ≡ size.result.high = search rules in
    let bound : to_z w128 (of_z w128 c.from-bound.result) ≡ pos (product_bound_of c.args.setting.now.model) = search rules in
    all_few c.args.setting.now.model c.args.setting.now.constraints.now c.args.count c.args.size count.result size.result c.requires.count c.requires.size
    count.ensures.ends size.ensures.ends c.is_product_within.result (rw (count_high, size_high, bound) at c.is_product_within.ensures)
    c.if-is_product_within.true

pub returns-then-is_product_within-2 : goal.returns-then-is_product_within-2
returns-then-is_product_within-2 c =
    let count = c.values_of-count in
    let size = c.values_of-size in
    let count_high : to_z w128 (of_z w128 count.result.high) ≡ count.result.high = search rules in
    let size_high : to_z w128 (of_z w128 size.result.high) ≡ size.result.high = search rules in
    let count_low : to_z w128 (of_z w128 count.result.low) ≡ count.result.low = search rules in
    let size_low : to_z w128 (of_z w128 size.result.low) ≡ size.result.low = search rules in
    let bound : to_z w128 (of_z w128 c.from-bound.result) ≡ pos (product_bound_of c.args.setting.now.model) = search rules in
    some_few c.args.setting.now.model c.args.setting.now.constraints.now c.args.count c.args.size count.result size.result c.requires.count
    c.requires.size count.ensures.ends size.ensures.ends c.is_product_within.result c.is_product_within-else-is_product_within.result
    (rw (count_high, size_high, bound) at c.is_product_within.ensures) c.if-is_product_within.false
    (rw (count_low, size_low, bound) at c.is_product_within-else-is_product_within.ensures) c.if-is_product_within-2.true

pub returns-else-is_product_within-2 : goal.returns-else-is_product_within-2
returns-else-is_product_within-2 c =
    let count = c.values_of-count in
    let size = c.values_of-size in
    let count_low : to_z w128 (of_z w128 count.result.low) ≡ count.result.low = search rules in
    let size_low : to_z w128 (of_z w128 size.result.low) ≡ size.result.low = search rules in
    let bound : to_z w128 (of_z w128 c.from-bound.result) ≡ pos (product_bound_of c.args.setting.now.model) = search rules in
    none_few c.args.setting.now.model c.args.setting.now.constraints.now c.args.count c.args.size count.result size.result c.requires.count c.requires.size
    count.ensures.ends size.ensures.ends c.is_product_within-else-is_product_within.result
    (rw (count_low, size_low, bound) at c.is_product_within-else-is_product_within.ensures)
    c.if-is_product_within-2.false
