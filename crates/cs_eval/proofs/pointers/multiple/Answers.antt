use Rattle.std.proofs.Common.{ℤ, ap, ◌∙◌, to_z, of_z}
use Rattle.std.specs.Int.{w128}
use Rattle.std.specs.Int.RustNames.{int_rem}
use Rattle.std.proofs.lemmas.Int.{to_z-of_z}
use Rattle.cs_eval.proofs.Differences.{no_multiple}
use Rattle.cs_eval.proofs.pointers.multiple.Goals as goal

pub returns-else-number-size-eq0 : goal.returns-else-number-size-eq0
returns-else-number-size-eq0 c =
    let test = c.if-number-size-eq0.false in
    let number = to_z-of_z w128 c.args.number c.ranges.number in
    let size = to_z-of_z w128 c.args.size c.ranges.size in
    no_multiple c.args.number c.args.size c.requires
    (λ zero_is.
    test (ap (λ (x : ℤ). of_z w128 (int_rem x (to_z w128 (of_z w128 c.args.size)))) number
    ∙ ap (λ (x : ℤ). of_z w128 (int_rem c.args.number x)) size ∙ ap (of_z w128) zero_is))
