-- Multiples divided by one of their factors.
use Rattle.std.proofs.Common.{◌≡◌, ℕ, zero, suc, ◌*◌, ◌<◌, ℤ, pos, negsuc, ◌+ℤ◌, ◌-ℤ◌, ◌*ℤ◌, refl, sym, ap, subst}
use Rattle.std.proofs.Common.{◌∙◌, arith}
use Rattle.std.specs.Prelude.{unsigned_abs}
use Rattle.std.proofs.Math.IntN.{*ℤ_comm}
use Rattle.std.specs.Int.RustNames.{int_div, int_rem}
use Rattle.std.proofs.lemmas.Int.{ints, quot-rem, rem_below, unsigned_abs-mul}
use Rattle.cs_ranges.proofs.AffineLaws.{*ℤ-distrib}

pub has_size : (z : ℤ) → (z ≡ pos 0 → ⊥) → 0 < unsigned_abs z
has_size (pos zero) h = absurd (h refl)
has_size (pos (suc n)) h = omega arith
has_size (negsuc n) h = omega arith

no_size : (z : ℤ) → unsigned_abs z ≡ 0 → z ≡ pos 0
no_size (pos n) e = ap pos e
no_size (negsuc n) e = absurd (omega (arith, e))

-- a product is less than its factor only if the other factor is 0
small_product : (d n : ℕ) → d * n < d → n ≡ 0
small_product d zero h = refl
small_product d (suc n) h = absurd (omega (arith, h))

-- the quotient of a multiple
pub quotient_of : (a d k : ℤ) → a ≡ d *ℤ k → 0 < unsigned_abs d → int_div a d ≡ k
quotient_of a d k e h =
    let q = int_div a d in
    let parts : k ≡ q +ℤ (k -ℤ q) = omega (arith, ints) in
    let rest : int_rem a d ≡ d *ℤ (k -ℤ q) =
    omega (arith, ints, quot-rem a d, e, ap (λ (x : ℤ). d *ℤ x) parts, *ℤ-distrib d q (k -ℤ q), *ℤ_comm q d) in
    let size : unsigned_abs (int_rem a d) ≡ unsigned_abs d * unsigned_abs (k -ℤ q) = ap unsigned_abs rest ∙ unsigned_abs-mul d (k -ℤ q) in
    let none : unsigned_abs (k -ℤ q) ≡ 0 =
    small_product (unsigned_abs d) (unsigned_abs (k -ℤ q)) (subst (λ n. n < unsigned_abs d) size (rem_below a d h)) in
    omega (arith, ints, no_size (k -ℤ q) none)

-- a multiple has no remainder
pub no_rest : (a d k : ℤ) → a ≡ d *ℤ k → 0 < unsigned_abs d → int_rem a d ≡ pos 0
no_rest a d k e h =
    let q : int_div a d ≡ k = quotient_of a d k e h in
    let split : k *ℤ d +ℤ int_rem a d ≡ a = ap (λ (x : ℤ). x *ℤ d +ℤ int_rem a d) (sym q) ∙ quot-rem a d in
    omega (arith, ints, split, e, *ℤ_comm k d)
