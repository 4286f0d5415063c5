use Rattle.std.specs.Prelude.{FitsSigned, ◌*ℤ◌}
use Rattle.std.specs.Int.{w128}
use Rattle.std.proofs.Common.{arith}
use Rattle.std.proofs.lemmas.Int.{to_z-of_z}
use Rattle.cs_compared.proofs.Products.{times-small, fits}
use Rattle.cs_compared.proofs.lines.times.Goals as goal

product-fits : (c : goal.Start) → FitsSigned w128 (c.args.left *ℤ c.args.right)
product-fits c =
    let small = times-small c.args.left c.args.right c.requires.left c.requires.right in
    fits (c.args.left *ℤ c.args.right) (omega arith)

pub returns-clause-value : goal.returns-clause-value
returns-clause-value c =
    let left : FitsSigned w128 c.args.left = c.ranges.left in
    let right : FitsSigned w128 c.args.right = c.ranges.right in
    let product = product-fits c in
    simp to_z-of_z

pub returns-clause-small : goal.returns-clause-small
returns-clause-small c =
    let left : FitsSigned w128 c.args.left = c.ranges.left in
    let right : FitsSigned w128 c.args.right = c.ranges.right in
    let product = product-fits c in
    simp to_z-of_z (times-small c.args.left c.args.right c.requires.left c.requires.right)
