use Rattle.std.proofs.Common.{◌∙◌, ◌&&◌, int_le, ap, rules}
use Rattle.std.proofs.lemmas.Int.{to_z-of_z}
use Rattle.std.specs.Int.{w128}
use Rattle.std.specs.Int.RustNames.{FitsSigned}
use Rattle.cs_access.proofs.FaultyValues.{if_ok_map, in_interval_is}
use Rattle.cs_access.proofs.faulty.numbers_in.Goals as goal

pub returns : goal.returns
returns c =
    let low : FitsSigned w128 c.args.interval.now.low = search rules in
    let high : FitsSigned w128 c.args.interval.now.high = search rules in
    if_ok_map c.intersect.result c.intersect.ensures (λ set same x inside. same x
    ∙ (λ j. (c.in_ok-from.ensures x inside ∙ ap (λ n. int_le n x) (to_z-of_z w128 c.args.interval.now.low low)) j
    && (c.in_ok-upto.ensures x inside ∙ ap (λ n. int_le x n) (to_z-of_z w128 c.args.interval.now.high high)) j)
    ∙ in_interval_is c.args.interval.now x)
