use Rattle.std.proofs.Common.{rules, ◌≡◌, pos, ap, ◌∙◌, arith, FitsSigned}
use Rattle.std.specs.Prelude.{◌<ℤ◌}
use Rattle.std.specs.Int.{w128}
use Rattle.std.proofs.lemmas.Int.{ints, to_z-of_z}
use Rattle.cs_types.specs.DataModel.{product_bound_of}
use Rattle.cs_eval.proofs.ProductTests.{by_no_factor, by_quotient, raised_by}
use Rattle.cs_eval.proofs.truths.followed_by_factor.Goals as goal

pub returns-then-factor-le0 : goal.returns-then-factor-le0
returns-then-factor-le0 c =
    let test = c.if-factor-le0.true in
    let factor = to_z-of_z w128 c.args.factor c.ranges.factor in
    by_no_factor c.args.setting.now.model c.args.setting.now.constraints.now c.args.term c.args.factor c.requires (omega (arith, ints, test, factor))

pub returns : goal.returns
returns c =
    let model = c.args.setting.now.model in
    let test = c.if-factor-le0.false in
    let factor = to_z-of_z w128 c.args.factor c.ranges.factor in
    let positive : pos 0 <ℤ c.args.factor = omega (arith, ints, test, factor) in
    let bound : c.from-bound.result ≡ pos (product_bound_of model) = c.from-bound.ensures ∙ ap pos c.product_bound.ensures in
    let fits : FitsSigned w128 c.from-bound.result = search rules in
    by_quotient model c.args.setting.now.constraints.now c.args.term c.in_ok-above.above c.args.factor c.requires positive
    (raised_by c.args.term c.in_ok-above.above c.from-bound.result c.args.factor (product_bound_of model) fits c.ranges.factor bound positive
    c.in_ok-above.ensures)
    c.in_ok-check_inside_values.ensures
