use Rattle.std.proofs.Common.{◌≡◌, ◌+◌, ◌*◌, ◌%◌, ◌^◌, ◌<◌, ℕ, ℤ, ◌+ℤ◌, ◌*ℤ◌, ap, ◌∙◌, arith, FitsSigned, to_z}
use Rattle.std.proofs.Common.{of_z}
use Rattle.std.specs.Int.{w128, int_wrap}
use Rattle.std.proofs.lemmas.Int.{ints, to_z-of_z, int_wrap_fits, wrapping_add-bits, wrapping_mul-bits, wrapping_sub_is, int_wrap-add_right, int_wrap-mul_right}
use Rattle.cs_ranges.specs.Affine.{affine}
use Rattle.cs_ranges.proofs.range_set.affine.affine_value.Goals as goal

-- the bits of the product of a number and of bits that represent a wrapped number
wrapped_product : (a b : ℤ) (n : ℕ) → FitsSigned w128 a → n < 2 ^ 128 → to_z w128 n ≡ int_wrap w128 b
    → to_z w128 ((of_z w128 a * n) % 2 ^ 128) ≡ int_wrap w128 (a *ℤ b)
wrapped_product a b n fits lt e =
    wrapping_mul-bits w128 (of_z w128 a) n (omega (arith, ints)) lt
    ∙ ap (λ x. int_wrap w128 (x *ℤ to_z w128 n)) (to_z-of_z w128 a fits)
    ∙ ap (λ y. int_wrap w128 (a *ℤ y)) e
    ∙ int_wrap-mul_right w128 a b

wrapped_sum : (a b : ℤ) (n : ℕ) → FitsSigned w128 a → n < 2 ^ 128 → to_z w128 n ≡ int_wrap w128 b
    → to_z w128 ((of_z w128 a + n) % 2 ^ 128) ≡ int_wrap w128 (a +ℤ b)
wrapped_sum a b n fits lt e =
    wrapping_add-bits w128 (of_z w128 a) n (omega (arith, ints)) lt
    ∙ ap (λ x. int_wrap w128 (x +ℤ to_z w128 n)) (to_z-of_z w128 a fits)
    ∙ ap (λ y. int_wrap w128 (a +ℤ y)) e
    ∙ int_wrap-add_right w128 a b

pub returns : goal.returns
returns c =
    let exact = affine c.args.slope c.args.at c.args.value c.args.s in
    let fits : FitsSigned w128 exact = omega (arith, ints, c.requires) in
    wrapped_sum c.args.value _ _ c.ranges.value (omega arith)
    (wrapped_product c.args.slope _ _ c.ranges.slope (omega arith) (wrapping_sub_is w128 c.args.s c.args.at c.ranges.s c.ranges.at))
    ∙ int_wrap_fits w128 exact fits
