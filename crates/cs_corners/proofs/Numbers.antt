-- Integers: products with a factor that isn't 0, and affine functions with a slope that isn't 0.
use Rattle.std.proofs.Common.{◌≡◌, ◌≢◌, ◌⊎◌, inl, inr, zero, suc, Bool, true, false, ℤ, pos, negsuc, neg_ℤ, ◌+ℤ◌}
use Rattle.std.proofs.Common.{◌-ℤ◌, ◌*ℤ◌}
use Rattle.std.proofs.Common.{refl, ap, ◌∙◌, arith}
use Rattle.std.specs.Ordering.{int_eq}
use Rattle.std.proofs.lemmas.Int.{ints}
use Rattle.std.proofs.Math.IntN.{*ℤ_comm, pos-*ℤ-pos, negsuc-*ℤ-negsuc, negsuc-*ℤ-pos, pos-*ℤ-negsuc}
use Rattle.cs_ranges.specs.Affine.{affine}
use Rattle.cs_ranges.proofs.AffineLaws.{*ℤ-distrib, neg_ℤ-*ℤ}

pub nonzero_product : (a b : ℤ) → a ≢ pos 0 → b ≢ pos 0 → a *ℤ b ≢ pos 0
nonzero_product (pos zero) b h k e = h refl
nonzero_product (pos (suc m)) (pos zero) h k e = k refl
nonzero_product (pos (suc m)) (pos (suc n)) h k e = omega (arith, ints, pos-*ℤ-pos (suc m) (suc n))
nonzero_product (pos (suc m)) (negsuc n) h k e = omega (arith, ints, pos-*ℤ-negsuc (suc m) n)
nonzero_product (negsuc m) (pos zero) h k e = k refl
nonzero_product (negsuc m) (pos (suc n)) h k e = omega (arith, ints, negsuc-*ℤ-pos m (suc n))
nonzero_product (negsuc m) (negsuc n) h k e = omega (arith, ints, negsuc-*ℤ-negsuc m n)

-- whether two numbers are equal
pub same_or_not : (a b : ℤ) → (a ≡ b) ⊎ (a ≢ b)
same_or_not a b = by (int_eq a b) refl
  where
    by : (t : Bool) → int_eq a b ≡ t → (a ≡ b) ⊎ (a ≢ b)
    by true e = inl (grind (arith, ints))
    by false e = inr (λ same. grind (arith, ints))

pub unequal : (a b : ℤ) → a ≢ b → int_eq a b ≡ false
unequal a b differ = by (int_eq a b) refl
  where
    by : (t : Bool) → int_eq a b ≡ t → t ≡ false
    by true e = absurd (differ (grind (arith, ints)))
    by false e = refl

-- a factor that isn't 0 may be cancelled
pub same_factor : (a b c : ℤ) → c ≢ pos 0 → c *ℤ a ≡ c *ℤ b → a ≡ b
same_factor a b c nonzero e = elim (same_or_not a b) [
  | inl same ↦ same
  | inr differ ↦
      let distinct : a -ℤ b ≢ pos 0 = λ z. differ (omega (arith, ints, z)) in
      let split : c *ℤ (a +ℤ neg_ℤ b) ≡ (c *ℤ a) +ℤ (c *ℤ neg_ℤ b) = *ℤ-distrib c a (neg_ℤ b) in
      let turned : c *ℤ neg_ℤ b ≡ neg_ℤ (c *ℤ b) = *ℤ_comm c (neg_ℤ b) ∙ neg_ℤ-*ℤ b c ∙ ap neg_ℤ (*ℤ_comm b c) in
      let difference : a +ℤ neg_ℤ b ≢ pos 0 = λ z. differ (omega (arith, ints, z)) in
      absurd (nonzero_product c (a +ℤ neg_ℤ b) nonzero difference (omega (arith, ints, split, turned, e)))
]

-- an affine function with a slope that isn't 0 has different values at different numbers
pub affine_apart : (slope at value x y : ℤ) → slope ≢ pos 0 → x ≢ y → affine slope at value x ≢ affine slope at value y
affine_apart slope at value x y nonzero differ e =
    let same = same_factor (x -ℤ at) (y -ℤ at) slope nonzero (omega (arith, ints, e)) in
    differ (omega (arith, ints, same))
