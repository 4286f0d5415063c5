use Rattle.std.specs.Prelude.{◌*ℤ◌, FitsSigned}
use Rattle.std.specs.Int.{w128}
use Rattle.std.proofs.lemmas.Int.{to_z-of_z}
use Rattle.cs_types.proofs.Products.{product-above, product-below, product-fits}
use Rattle.cs_types.proofs.arithmetic.near_product.Goals as goal

fits : (c : goal.Start) → FitsSigned w128 (c.args.left *ℤ c.args.right)
fits c = product-fits _ (product-above _ _ c.requires.left c.requires.right) (product-below _ _ c.requires.left c.requires.right)

pub returns-clause-value : goal.returns-clause-value
returns-clause-value c =
    let left : FitsSigned w128 c.args.left = c.ranges.left in
    let right : FitsSigned w128 c.args.right = c.ranges.right in
    let product = fits c in
    simp to_z-of_z

pub returns-clause-above : goal.returns-clause-above
returns-clause-above c =
    let left : FitsSigned w128 c.args.left = c.ranges.left in
    let right : FitsSigned w128 c.args.right = c.ranges.right in
    let product = fits c in
    simp to_z-of_z (product-above c.args.left c.args.right c.requires.left c.requires.right)

pub returns-clause-below : goal.returns-clause-below
returns-clause-below c =
    let left : FitsSigned w128 c.args.left = c.ranges.left in
    let right : FitsSigned w128 c.args.right = c.ranges.right in
    let product = fits c in
    simp to_z-of_z (product-below c.args.left c.args.right c.requires.left c.requires.right)
