use Rattle.std.proofs.Common.{arith, ◌≡◌, ap, ◌∙◌}
use Rattle.std.specs.Prelude.{◌+ℤ◌, ◌*ℤ◌, FitsSigned}
use Rattle.std.specs.Int.{w128}
use Rattle.std.proofs.lemmas.Int.{to_z-of_z, fits_signed_from_abs}
use Rattle.cs_types.specs.Wrap.{wrap_quotient, near_quotient}
use Rattle.cs_types.proofs.Products.{product-fits, shifted-fits, turns-fit}
use Rattle.cs_types.proofs.arithmetic.folded_product.Goals as goal

pub rest-requires : goal.rest-requires
rest-requires c =
    let product : FitsSigned w128 c.near_product-product.result = product-fits _ c.near_product-product.ensures.above c.near_product-product.ensures.below in
    simp to_z-of_z (shifted-fits c.args.model c.args.ty c.near_product-product.result c.near_product-product.ensures.above c.near_product-product.ensures.below)

pub turns-requires : goal.turns-requires
turns-requires c =
    let product : FitsSigned w128 c.near_product-product.result = product-fits _ c.near_product-product.ensures.above c.near_product-product.ensures.below in
    simp to_z-of_z (shifted-fits c.args.model c.args.ty c.near_product-product.result c.near_product-product.ensures.above c.near_product-product.ensures.below)

pub overflow_add-turns : goal.overflow_add-turns
overflow_add-turns c =
    let turns : FitsSigned w128 c.turns.result = fits_signed_from_abs w128 _ (omega (arith, c.turns.ensures.small)) in
    let taken : FitsSigned w128 c.args.taken = c.ranges.taken in
    simp to_z-of_z (turns-fit c.turns.result c.args.taken c.turns.ensures.small c.requires.taken)

pub returns-clause-quotient : goal.returns-clause-quotient
returns-clause-quotient c =
    let left : FitsSigned w128 c.args.left = c.ranges.left in
    let right : FitsSigned w128 c.args.right = c.ranges.right in
    let taken : FitsSigned w128 c.args.taken = c.ranges.taken in
    let product : FitsSigned w128 c.near_product-product.result = product-fits _ c.near_product-product.ensures.above c.near_product-product.ensures.below in
    let turns : FitsSigned w128 c.turns.result = fits_signed_from_abs w128 _ (omega (arith, c.turns.ensures.small)) in
    let sum : FitsSigned w128 (c.turns.result +ℤ c.args.taken) = turns-fit c.turns.result c.args.taken c.turns.ensures.small c.requires.taken in
    let exact : c.near_product-product.result ≡ c.args.left *ℤ c.args.right = simp to_z-of_z at c.near_product-product.ensures.value in
    let whole : c.turns.result ≡ wrap_quotient c.args.model c.args.ty c.near_product-product.result = simp to_z-of_z at c.turns.ensures.value in
    let near : c.near.result ≡ near_quotient (c.turns.result +ℤ c.args.taken) = simp to_z-of_z at c.near.ensures in
    near ∙ ap (λ q. near_quotient (q +ℤ c.args.taken)) (whole ∙ ap (wrap_quotient c.args.model c.args.ty) exact)
