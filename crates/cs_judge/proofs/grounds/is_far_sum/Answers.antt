use Rattle.std.specs.Prelude.{◌+ℤ◌, FitsSigned}
use Rattle.std.specs.Int.{w128}
use Rattle.std.proofs.Common.{arith}
use Rattle.std.proofs.lemmas.Int.{to_z-of_z, ints}
use Rattle.cs_compared.proofs.Products.{fits}
use Rattle.cs_judge.proofs.grounds.is_far_sum.Goals as goal

pub returns : goal.returns
returns c =
    let left = c.requires.left in
    let right = c.requires.right in
    let a : FitsSigned w128 c.args.pair.0 = fits c.args.pair.0 (omega (arith, left)) in
    let b : FitsSigned w128 c.args.pair.1 = fits c.args.pair.1 (omega (arith, right)) in
    let d : FitsSigned w128 (c.args.pair.0 +ℤ c.args.pair.1) = fits (c.args.pair.0 +ℤ c.args.pair.1) (omega (arith, ints, left, right)) in
    simp to_z-of_z at c.is_far_number.ensures
