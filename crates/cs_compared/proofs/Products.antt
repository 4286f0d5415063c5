-- Products that are computed from parts: for the test of lines.
use Rattle.std.proofs.Common.{◌≡◌, ℕ, zero, suc, ◌*◌, ◌^◌, ◌≤◌, arith, sym, ap, ◌∙◌}
use Rattle.std.specs.Prelude.{ℤ, pos, negsuc, ◌+ℤ◌, ◌-ℤ◌, ◌*ℤ◌, unsigned_abs, FitsSigned}
use Rattle.std.specs.Int.{w128}
use Rattle.std.proofs.Math.IntN.{*ℤ_comm, *ℤ-zero, zero-*ℤ}
use Rattle.std.proofs.Math.Nat.{mul-le-mul}
use Rattle.std.proofs.lemmas.Int.{ints, unsigned_abs-mul, fits_signed_from_abs}
use Rattle.cs_types.proofs.FloorDivision.{add-*ℤ}
use Rattle.cs_compared.specs.declared.lines.Wide.{Wide}
use Rattle.cs_compared.specs.Wide.{IsSplit}

-- a product within 128 bits
pub times-small : (l r : ℤ) → unsigned_abs l ≤ 2 ^ 36 → unsigned_abs r ≤ 2 ^ 88 → unsigned_abs (l *ℤ r) ≤ 2 ^ 124
times-small l r h g = omega (arith, unsigned_abs-mul l r, mul-le-mul h g)

pub fits : (z : ℤ) → unsigned_abs z ≤ 2 ^ 126 → FitsSigned w128 z
fits z h = fits_signed_from_abs w128 z (omega arith)

pub sum-small : (x y : ℤ) → unsigned_abs x ≤ 2 ^ 124 → unsigned_abs y ≤ 2 ^ 96 → unsigned_abs (x +ℤ y) ≤ 2 ^ 126
sum-small x y h g = omega (arith, ints)

pub difference-small : (n : ℕ) (x y : ℤ) → unsigned_abs x ≤ n → unsigned_abs y ≤ n → unsigned_abs (x -ℤ y) ≤ 2 * n
difference-small n x y h g = omega (arith, ints)

-- multiplication distributes over a sum
distrib : (a b c : ℤ) → a *ℤ (b +ℤ c) ≡ a *ℤ b +ℤ a *ℤ c
distrib a b c = *ℤ_comm a (b +ℤ c) ∙ add-*ℤ b c a ∙ ap (λ n. n +ℤ c *ℤ a) (*ℤ_comm b a) ∙ ap (λ n. a *ℤ b +ℤ n) (*ℤ_comm c a)

times_one : (a : ℤ) → a *ℤ pos 1 ≡ a
times_one (pos n) = omega (arith, ints)
times_one (negsuc n) = omega (arith, ints)

swapped : (a b : ℤ) (c : ℕ) → (a *ℤ b) *ℤ pos c ≡ (a *ℤ pos c) *ℤ b
swapped a b zero = *ℤ-zero (a *ℤ b) ∙ sym (zero-*ℤ b) ∙ sym (ap (λ n. n *ℤ b) (*ℤ-zero a))
swapped a b (suc c) =
    let one : pos (suc c) ≡ pos c +ℤ pos 1 = omega (arith, ints) in
    let left = ap (λ n. (a *ℤ b) *ℤ n) one ∙ distrib (a *ℤ b) (pos c) (pos 1) ∙ ap (λ n. (a *ℤ b) *ℤ pos c +ℤ n) (times_one (a *ℤ b)) in
    let right = ap (λ n. n *ℤ b) (ap (λ n. a *ℤ n) one ∙ distrib a (pos c) (pos 1) ∙ ap (λ n. a *ℤ pos c +ℤ n) (times_one a))
    ∙ add-*ℤ (a *ℤ pos c) a b in
    left ∙ ap (λ n. n +ℤ a *ℤ b) (swapped a b c) ∙ sym right

sums : (both x y rest t product : ℤ) → both ≡ x +ℤ y → y +ℤ rest ≡ t → product ≡ x +ℤ t → both +ℤ rest ≡ product
sums both x y rest t product e f g = omega (arith, ints)

-- a product by a factor that is split
pub split-product : (l r h low a t more rest : ℤ) → h *ℤ pos (2 ^ 32) +ℤ low ≡ l → a ≡ h *ℤ r → t ≡ low *ℤ r
    → more *ℤ pos (2 ^ 32) +ℤ rest ≡ t
    → (a +ℤ more) *ℤ pos (2 ^ 32) +ℤ rest ≡ l *ℤ r
split-product l r h low a t more rest e f g k =
    let turned : (h *ℤ pos (2 ^ 32)) *ℤ r ≡ a *ℤ pos (2 ^ 32) = sym (swapped h r (2 ^ 32)) ∙ ap (λ z. z *ℤ pos (2 ^ 32)) (sym f) in
    let whole : (h *ℤ pos (2 ^ 32) +ℤ low) *ℤ r ≡ l *ℤ r = ap (λ z. z *ℤ r) e in
    sums ((a +ℤ more) *ℤ pos (2 ^ 32)) (a *ℤ pos (2 ^ 32)) (more *ℤ pos (2 ^ 32)) rest t (l *ℤ r) (add-*ℤ a more (pos (2 ^ 32))) k
    (sym whole ∙ add-*ℤ (h *ℤ pos (2 ^ 32)) low r ∙ ap (λ z. z +ℤ low *ℤ r) turned ∙ ap (λ z. a *ℤ pos (2 ^ 32) +ℤ z) (sym g))

pub product_is : (l r : ℤ) (cut below : Wide) (a t : ℤ) → IsSplit cut l → a ≡ cut.high *ℤ r → t ≡ cut.low *ℤ r → IsSplit below t
    → IsSplit (record { high = a +ℤ below.high; low = below.low }) (l *ℤ r)
product_is l r cut below a t one f g two = record {
  value = split-product l r cut.high cut.low a t below.high below.low one.value f g two.value;
  low = two.low;
  below = two.below;
}

pub low-small : (wide : Wide) (number : ℤ) → IsSplit wide number → unsigned_abs wide.low ≤ 2 ^ 126
low-small wide number one = omega (arith, ints, one.low, one.below)
