use Rattle.std.proofs.Common.{arith, ◌≡◌, ap, ◌∙◌, sym}
use Rattle.std.specs.Prelude.{pos, ◌^◌, ◌+ℤ◌, ◌-ℤ◌, ◌*ℤ◌, FitsSigned}
use Rattle.std.specs.Int.{w128}
use Rattle.std.proofs.lemmas.Int.{ints, to_z-of_z}
use Rattle.std.proofs.Math.IntN.{+ℤ_idr}
use Rattle.cs_types.specs.IntType.{modulus_of}
use Rattle.cs_types.specs.Wrap.{wrap_quotient, wrapped, near_quotient}
use Rattle.cs_types.proofs.Products.{wrap_quotient-split, wrapped-split}
use Rattle.cs_types.proofs.arithmetic.multiply.Goals as goal

pub returns-then-left-from-clause-quotient : goal.returns-then-left-from-clause-quotient
returns-then-left-from-clause-quotient c =
    let left : FitsSigned w128 c.args.left = c.ranges.left in
    let right : FitsSigned w128 c.args.right = c.ranges.right in
    let near : c.folded_product.result.quotient ≡ near_quotient (wrap_quotient c.args.model c.args.ty (c.args.left *ℤ c.args.right) +ℤ pos 0) =
    simp to_z-of_z at c.folded_product.ensures.quotient in
    near ∙ ap near_quotient (+ℤ_idr _)

pub returns-clause-number : goal.returns-clause-number
returns-clause-number c =
    let left : FitsSigned w128 c.args.left = c.ranges.left in
    let right : FitsSigned w128 c.args.right = c.ranges.right in
    let folded : FitsSigned w128 (c.args.left -ℤ pos (2 ^ 64)) = omega (arith, ints, c.requires.left.from_least, c.requires.left.to_greatest) in
    let number : c.folded_product-2.result.number ≡ wrapped c.args.model c.args.ty ((c.args.left -ℤ pos (2 ^ 64)) *ℤ c.args.right) =
    simp to_z-of_z at c.folded_product-2.ensures.number in
    let taken : c.turns_of_word-taken.result *ℤ pos (modulus_of c.args.model c.args.ty) ≡ pos (2 ^ 64) *ℤ c.args.right =
    simp to_z-of_z at c.turns_of_word-taken.ensures.value in
    number ∙ sym (wrapped-split c.args.model c.args.ty c.args.left c.args.right c.turns_of_word-taken.result taken)

pub returns-clause-quotient : goal.returns-clause-quotient
returns-clause-quotient c =
    let left : FitsSigned w128 c.args.left = c.ranges.left in
    let right : FitsSigned w128 c.args.right = c.ranges.right in
    let folded : FitsSigned w128 (c.args.left -ℤ pos (2 ^ 64)) = omega (arith, ints, c.requires.left.from_least, c.requires.left.to_greatest) in
    let own : FitsSigned w128 c.turns_of_word-taken.result = record { sfits = c.turns_of_word-taken.type_inv } in
    let near : c.folded_product-2.result.quotient ≡ near_quotient
    (wrap_quotient c.args.model c.args.ty ((c.args.left -ℤ pos (2 ^ 64)) *ℤ c.args.right) +ℤ c.turns_of_word-taken.result) =
    simp to_z-of_z at c.folded_product-2.ensures.quotient in
    let taken : c.turns_of_word-taken.result *ℤ pos (modulus_of c.args.model c.args.ty) ≡ pos (2 ^ 64) *ℤ c.args.right =
    simp to_z-of_z at c.turns_of_word-taken.ensures.value in
    near ∙ ap near_quotient (sym (wrap_quotient-split c.args.model c.args.ty c.args.left c.args.right c.turns_of_word-taken.result taken))
