use Rattle.std.proofs.Common.{◌≡◌, ◌+ℤ◌, sym, ◌∙◌, subst, arith}
use Rattle.std.proofs.lemmas.Int.{ints, to_z-of_z}
use Rattle.std.specs.Int.{w128}
use Rattle.std.specs.Int.RustNames.{FitsSigned}
use Rattle.cs_access.proofs.known.is_sum_inside.Goals as goal

pub returns : goal.returns
returns c = λ yes.
    let sum = c.in-Some.sum in
    let fits : FitsSigned w128 sum = subst (FitsSigned w128) (sym c.in-Some.ensures.1) c.in-Some.ensures.0 in
    let is : sum ≡ c.args.first +ℤ c.args.second =
    c.in-Some.ensures.1 ∙ (λ j. to_z-of_z w128 c.args.first c.ranges.first j +ℤ to_z-of_z w128 c.args.second c.ranges.second j) in
    let inside = c.is_inside.ensures yes in
    let same = to_z-of_z w128 sum fits in
    (omega (arith, ints, inside.0, same, is), omega (arith, ints, inside.1, same, is))
