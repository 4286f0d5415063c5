use Rattle.std.proofs.Common.{◌≡◌, sym, ap, subst, ◌∙◌, Some}
use Rattle.std.specs.Prelude.{ℤ, ◌*ℤ◌, FitsSigned}
use Rattle.std.specs.Int.{w128}
use Rattle.std.proofs.lemmas.Int.{to_z-of_z}
use Rattle.cs_types.specs.IntType.{IsIntegerOfC}
use Rattle.cs_types.specs.Wrap.{wrapped, wrap_quotient, near_quotient}
use Rattle.cs_types.proofs.Wrapping.{wrapped-InRange}
use Rattle.cs_folding.specs.Folding.{given, is_zero}
use Rattle.cs_folding.proofs.Numbers.{in_c, fits_in_c, near-zero, given_unsigned, given_held}
use Rattle.cs_folding.proofs.arithmetic.product.Goals as goal
use Rattle.cs_folding.proofs.arithmetic.product.Goals.{else-is_signed-via-then-is_signed+else-not-is_zero, else-is_signed-via-else-is_signed}

pub returns-else-is_signed-clause-value : goal.returns-else-is_signed-clause-value
returns-else-is_signed-clause-value c =
    let left : FitsSigned w128 c.args.left = c.ranges.left in
    let right : FitsSigned w128 c.args.right = c.ranges.right in
    let product : ℤ = c.args.left *ℤ c.args.right in
    let exact : c.multiply-product.result.number ≡ wrapped c.args.model c.args.ty (c.args.left *ℤ c.args.right) =
    simp to_z-of_z at c.multiply-product.ensures.number in
    let quotient : c.multiply-product.result.quotient ≡ near_quotient (wrap_quotient c.args.model c.args.ty (c.args.left *ℤ c.args.right)) =
    simp to_z-of_z at c.multiply-product.ensures.quotient in
    let small : IsIntegerOfC c.multiply-product.result.number =
    subst IsIntegerOfC (sym exact) (in_c c.args.model c.args.ty _ (wrapped-InRange c.args.model c.args.ty product)) in
    let fits : FitsSigned w128 c.multiply-product.result.number = fits_in_c _ small in
    let is : given c.args.model c.args.needed c.args.ty product ≡ Some (wrapped c.args.model c.args.ty product) = elim c.else-is_signed.branch [
      | else-is_signed-via-then-is_signed+else-not-is_zero w ↦
          given_held c.args.model c.args.needed c.args.ty product (sym (near-zero _) ∙ ap is_zero (sym quotient) ∙ sym w.is_zero.ensures
          ∙ w.if-not-is_zero.false)
      | else-is_signed-via-else-is_signed w ↦ given_unsigned c.args.model c.args.needed c.args.ty product (sym c.is_signed.ensures ∙ w.if-is_signed.false)
    ] in
    simp to_z-of_z (ap Some exact ∙ sym is)

pub returns-else-is_signed-clause-small : goal.returns-else-is_signed-clause-small
returns-else-is_signed-clause-small c =
    let left : FitsSigned w128 c.args.left = c.ranges.left in
    let right : FitsSigned w128 c.args.right = c.ranges.right in
    let exact : c.multiply-product.result.number ≡ wrapped c.args.model c.args.ty (c.args.left *ℤ c.args.right) =
    simp to_z-of_z at c.multiply-product.ensures.number in
    let small : IsIntegerOfC c.multiply-product.result.number =
    subst IsIntegerOfC (sym exact) (in_c c.args.model c.args.ty _ (wrapped-InRange c.args.model c.args.ty (c.args.left *ℤ c.args.right))) in
    let fits : FitsSigned w128 c.multiply-product.result.number = fits_in_c _ small in
    simp to_z-of_z small
