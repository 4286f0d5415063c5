use Rattle.std.specs.Prelude.{pos, ◌^◌, ◌≤◌, unsigned_abs, FitsSigned, ◌*ℤ◌, int_lt}
use Rattle.std.specs.Int.{w128}
use Rattle.std.proofs.Common.{◌≡◌, arith, ap, sym, subst, ◌∙◌}
use Rattle.std.proofs.lemmas.Int.{to_z-of_z}
use Rattle.cs_compared.proofs.Products.{fits}
use Rattle.cs_compared.proofs.lines.product_above.Goals as goal

pub returns : goal.returns
returns c =
    let left : FitsSigned w128 c.args.left = c.ranges.left in
    let right : FitsSigned w128 c.args.right = c.ranges.right in
    let is : c.from.result ≡ pos c.args.bound = c.from.ensures in
    let bound : unsigned_abs (pos c.args.bound) ≤ 2 ^ 126 = omega (arith, c.ranges.bound.fits) in
    let from : FitsSigned w128 c.from.result = subst (FitsSigned w128) (sym is) (fits (pos c.args.bound) bound) in
    let same : c.is_below.result ≡ int_lt c.from.result (c.args.left *ℤ c.args.right) =
    simp to_z-of_z at (c.is_below.ensures _ _ c.split-that.ensures.split c.product-this.ensures) in
    same ∙ ap (λ z. int_lt z (c.args.left *ℤ c.args.right)) is
