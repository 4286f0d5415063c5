use Rattle.std.specs.Prelude.{FitsSigned, ◌+ℤ◌, ◌*ℤ◌}
use Rattle.std.specs.Int.{w128}
use Rattle.std.proofs.Common.{◌≡◌, arith}
use Rattle.std.proofs.lemmas.Int.{to_z-of_z}
use Rattle.cs_compared.specs.Wide.{IsSplit}
use Rattle.cs_compared.proofs.Products.{fits, sum-small, low-small, product_is}
use Rattle.cs_compared.proofs.lines.product.Goals as goal

pub returns : goal.returns
returns c =
    let left : FitsSigned w128 c.args.left = c.ranges.left in
    let right : FitsSigned w128 c.args.right = c.ranges.right in
    let a = c.times-above.result in
    let t = c.times.result in
    let small_above = c.times-above.ensures.small in
    let small_below = c.split-below.ensures.small in
    let fits_above : FitsSigned w128 a = fits a (omega (arith, small_above)) in
    let fits_times : FitsSigned w128 t = fits t (omega (arith, c.times.ensures.small)) in
    let fits_high : FitsSigned w128 c.split-below.result.high = fits c.split-below.result.high (omega (arith, small_below)) in
    let fits_sum : FitsSigned w128 (a +ℤ c.split-below.result.high) =
    fits (a +ℤ c.split-below.result.high) (sum-small a c.split-below.result.high small_above small_below) in
    let low : FitsSigned w128 c.split-cut.result.low = fits c.split-cut.result.low (low-small c.split-cut.result _ c.split-cut.ensures.split) in
    let last : FitsSigned w128 c.split-below.result.low = fits c.split-below.result.low (low-small c.split-below.result _ c.split-below.ensures.split) in
    let near = c.split-cut.ensures.small in
    let high : FitsSigned w128 c.split-cut.result.high = fits c.split-cut.result.high (omega (arith, near)) in
    let one : IsSplit c.split-cut.result c.args.left = simp to_z-of_z at c.split-cut.ensures.split in
    let above : a ≡ c.split-cut.result.high *ℤ c.args.right = simp to_z-of_z at c.times-above.ensures.value in
    let times : t ≡ c.split-cut.result.low *ℤ c.args.right = simp to_z-of_z at c.times.ensures.value in
    let two : IsSplit c.split-below.result t = simp to_z-of_z at c.split-below.ensures.split in
    simp to_z-of_z (product_is c.args.left c.args.right c.split-cut.result c.split-below.result a t one above times two)
