-- Products of integers of C within 128 bits: for the contract of `multiply`.
use Rattle.std.proofs.Common.{◌≡◌, ℕ, ◌*◌, ◌-◌, ◌^◌, ◌<◌, ◌≤◌, arith, ◌∙◌, ap}
use Rattle.std.specs.Prelude.{ℤ, pos, negsuc, suc, ◌+ℤ◌, ◌-ℤ◌, ◌*ℤ◌, ◌≤ℤ◌, unsigned_abs, FitsSigned}
use Rattle.std.specs.Int.{w64, w128}
use Rattle.std.proofs.lemmas.Int.{ints}
use Rattle.std.proofs.Math.Nat.{mul-le-mul}
use Rattle.cs_types.specs.declared.data_model.DataModel.{DataModel}
use Rattle.cs_types.specs.declared.data_model.DataModel.TheVariants.{Lp64, Ilp32}
use Rattle.cs_types.specs.declared.int_type.IntType.{IntType}
use Rattle.cs_types.specs.declared.int_type.IntType.TheVariants.{Char, SChar, UChar, Short, UShort, Int, UInt, Long, ULong, LLong, ULLong}
use Rattle.cs_types.specs.IntType.{IsIntegerOfC, modulus_of, negatives_of}
use Rattle.cs_types.specs.Wrap.{wrap_quotient, wrapped}
use Rattle.cs_types.proofs.FloorDivision.{sub_pos-*ℤ}
use Rattle.cs_types.proofs.Wrapping.{wrap_quotient-add, wrapped-add}

-- a type has at most 2^63 values below 0
pub negatives-small : (model : DataModel) (ty : IntType) → negatives_of model ty ≤ 2 ^ 63
negatives-small Lp64 Long = omega arith
negatives-small Lp64 ULong = omega arith
negatives-small Ilp32 Long = omega arith
negatives-small Ilp32 ULong = omega arith
negatives-small model Char = omega arith
negatives-small model SChar = omega arith
negatives-small model UChar = omega arith
negatives-small model Short = omega arith
negatives-small model UShort = omega arith
negatives-small model Int = omega arith
negatives-small model UInt = omega arith
negatives-small model LLong = omega arith
negatives-small model ULLong = omega arith

-- a factor of `long long` times an integer of C is small enough that the shift into a type's range doesn't overflow
pub product-above : (l r : ℤ) → FitsSigned w64 l → IsIntegerOfC r → (pos 0 -ℤ pos (2 ^ 127 - 2 ^ 63)) ≤ℤ (l *ℤ r)
product-above (pos a) (pos b) h g = omega (arith, ints)
product-above (pos a) (negsuc b) h g = omega (arith, ints, small-below a b h.sfits (omega (arith, ints, g.from_least)))
  where
    small-below : (a b : ℕ) → a < 2 ^ 63 → b < 2 ^ 63 → a * suc b ≤ (2 ^ 63 - 1) * 2 ^ 63
    small-below a b h g = mul-le-mul {n₁ = a} {m₁ = suc b} {n₂ = 2 ^ 63 - 1} {m₂ = 2 ^ 63} (omega arith) (omega arith)
product-above (negsuc a) (pos b) h g = omega (arith, ints, large-below a b h.sfits (omega (arith, ints, g.to_greatest)))
  where
    large-below : (a b : ℕ) → a < 2 ^ 63 → b ≤ 2 ^ 64 - 1 → suc a * b ≤ 2 ^ 63 * (2 ^ 64 - 1)
    large-below a b h g = mul-le-mul {n₁ = suc a} {m₁ = b} {n₂ = 2 ^ 63} {m₂ = 2 ^ 64 - 1} (omega arith) g
product-above (negsuc a) (negsuc b) h g = omega (arith, ints)

pub product-below : (l r : ℤ) → FitsSigned w64 l → IsIntegerOfC r → (l *ℤ r) ≤ℤ pos (2 ^ 127 - 2 ^ 64)
product-below (pos a) (pos b) h g = omega (arith, ints, both-above a b h.sfits (omega (arith, ints, g.to_greatest)))
  where
    both-above : (a b : ℕ) → a < 2 ^ 63 → b ≤ 2 ^ 64 - 1 → a * b ≤ (2 ^ 63 - 1) * (2 ^ 64 - 1)
    both-above a b h g = mul-le-mul {n₁ = a} {m₁ = b} {n₂ = 2 ^ 63 - 1} {m₂ = 2 ^ 64 - 1} (omega arith) g
product-below (pos a) (negsuc b) h g = omega (arith, ints)
product-below (negsuc a) (pos b) h g = omega (arith, ints)
product-below (negsuc a) (negsuc b) h g = omega (arith, ints, both-below a b h.sfits (omega (arith, ints, g.from_least)))
  where
    both-below : (a b : ℕ) → a < 2 ^ 63 → b < 2 ^ 63 → suc a * suc b ≤ 2 ^ 63 * 2 ^ 63
    both-below a b h g = mul-le-mul {n₁ = suc a} {m₁ = suc b} {n₂ = 2 ^ 63} {m₂ = 2 ^ 63} (omega arith) (omega arith)

pub product-fits : (z : ℤ) → (pos 0 -ℤ pos (2 ^ 127 - 2 ^ 63)) ≤ℤ z → z ≤ℤ pos (2 ^ 127 - 2 ^ 64) → FitsSigned w128 z
product-fits z above below = omega (arith, ints)

pub shifted-fits : (model : DataModel) (ty : IntType) (z : ℤ) → (pos 0 -ℤ pos (2 ^ 127 - 2 ^ 63)) ≤ℤ z → z ≤ℤ pos (2 ^ 127 - 2 ^ 64)
    → FitsSigned w128 (z +ℤ pos (negatives_of model ty))
shifted-fits model ty z above below = room z (negatives_of model ty) above below (negatives-small model ty)
  where
    room : (z : ℤ) (n : ℕ) → (pos 0 -ℤ pos (2 ^ 127 - 2 ^ 63)) ≤ℤ z → z ≤ℤ pos (2 ^ 127 - 2 ^ 64) → n ≤ 2 ^ 63
        → FitsSigned w128 (z +ℤ pos n)
    room z n above below g = omega (arith, ints)

-- a product, if a multiple of the modulus is subtracted from one factor
split : (model : DataModel) (ty : IntType) (left right taken : ℤ) → taken *ℤ pos (modulus_of model ty) ≡ pos (2 ^ 64) *ℤ right
    → left *ℤ right ≡ (left -ℤ pos (2 ^ 64)) *ℤ right +ℤ taken *ℤ pos (modulus_of model ty)
split model ty left right taken e = omega (arith, ints, sub_pos-*ℤ left (2 ^ 64) right, e)

pub wrap_quotient-split : (model : DataModel) (ty : IntType) (left right taken : ℤ) → taken *ℤ pos (modulus_of model ty) ≡ pos (2 ^ 64) *ℤ right
    → wrap_quotient model ty (left *ℤ right) ≡ wrap_quotient model ty ((left -ℤ pos (2 ^ 64)) *ℤ right) +ℤ taken
wrap_quotient-split model ty left right taken e = ap (wrap_quotient model ty) (split model ty left right taken e)
    ∙ wrap_quotient-add model ty ((left -ℤ pos (2 ^ 64)) *ℤ right) taken

pub wrapped-split : (model : DataModel) (ty : IntType) (left right taken : ℤ) → taken *ℤ pos (modulus_of model ty) ≡ pos (2 ^ 64) *ℤ right
    → wrapped model ty (left *ℤ right) ≡ wrapped model ty ((left -ℤ pos (2 ^ 64)) *ℤ right)
wrapped-split model ty left right taken e = ap (wrapped model ty) (split model ty left right taken e)
    ∙ wrapped-add model ty ((left -ℤ pos (2 ^ 64)) *ℤ right) taken

-- the sum of a product's quotient and that of the subtracted multiple fits 128 bits
pub turns-fit : (a b : ℤ) → unsigned_abs a ≤ 2 ^ 119 → unsigned_abs b ≤ 2 ^ 120 → FitsSigned w128 (a +ℤ b)
turns-fit (pos m) (pos n) h g = omega (arith, ints)
turns-fit (pos m) (negsuc n) h g = omega (arith, ints)
turns-fit (negsuc m) (pos n) h g = omega (arith, ints)
turns-fit (negsuc m) (negsuc n) h g = omega (arith, ints)
