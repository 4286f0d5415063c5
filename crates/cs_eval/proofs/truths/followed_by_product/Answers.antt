use Rattle.std.proofs.Common.{rules, ◌≡◌, sym, ◌∙◌, to_z, of_z}
use Rattle.std.specs.Int.{w128}
use Rattle.std.proofs.lemmas.Result.{IfOk-weaker}
use Rattle.cs_eval.specs.declared.truths.Followed.{Followed}
use Rattle.cs_eval.proofs.ProductTests.{constant_parts, no_constant, product_by_size, product_by_count, product_by_ends}
use Rattle.cs_eval.proofs.truths.followed_by_product.Goals as goal

pub returns-in-Some : goal.returns-in-Some
returns-in-Some c =
    let factor = c.in-Some.factor in
    let same : to_z w128 (of_z w128 factor) ≡ factor = search rules in
    let parts = constant_parts c.args.size factor (sym c.number.ensures ∙ c.in-Some.is) in
    IfOk-weaker {X = Followed} _ _ _
    (λ (followed : Followed). λ h.
    product_by_size c.args.setting.now.model c.args.setting.now.constraints.now c.args.count c.args.size (to_z w128 (of_z w128 factor)) followed parts.0
    (parts.1 ∙ sym same) h)
    c.followed_by_factor.ensures

pub returns-in-Some-number : goal.returns-in-Some-number
returns-in-Some-number c =
    let factor = c.in-Some-number.factor in
    let same : to_z w128 (of_z w128 factor) ≡ factor = search rules in
    let parts = constant_parts c.args.count factor (sym c.number-2.ensures ∙ c.in-Some-number.is) in
    IfOk-weaker {X = Followed} _ _ _
    (λ (followed : Followed). λ h.
    product_by_count c.args.setting.now.model c.args.setting.now.constraints.now c.args.count c.args.size (to_z w128 (of_z w128 factor)) followed parts.0
    (parts.1 ∙ sym same) h)
    c.followed_by_factor-in-Some-number.ensures

pub returns : goal.returns
returns c =
    product_by_ends c.args.setting.now.model c.args.setting.now.constraints.now c.args.count c.args.size c.followed_by_ends.result c.requires.several.0
    c.requires.several.1 (no_constant c.args.count (sym c.number-2.ensures ∙ c.in_default-number.is))
    (no_constant c.args.size (sym c.number.ensures ∙ c.in_default.is)) c.followed_by_ends.ensures
