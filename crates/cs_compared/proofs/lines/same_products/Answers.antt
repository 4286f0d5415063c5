use Rattle.std.specs.Prelude.{FitsSigned}
use Rattle.std.specs.Int.{w128}
use Rattle.std.proofs.lemmas.Int.{to_z-of_z}
use Rattle.cs_compared.proofs.lines.same_products.Goals as goal

pub returns : goal.returns
returns c =
    let left : FitsSigned w128 c.args.left = c.ranges.left in
    let right : FitsSigned w128 c.args.right = c.ranges.right in
    let other_left : FitsSigned w128 c.args.other_left = c.ranges.other_left in
    let other_right : FitsSigned w128 c.args.other_right = c.ranges.other_right in
    simp to_z-of_z at (c.is_same.ensures _ _ c.product-this.ensures c.product-that.ensures)
