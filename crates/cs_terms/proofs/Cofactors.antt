-- The numbers whose product with a factor is in an interval: for the contract of `cofactors`.
use Rattle.std.proofs.Common.{◌≡◌, ℕ, ◌*◌, ◌^◌, ◌<◌, ◌≤◌, true, false, ◌&&◌, ℤ, pos, negsuc, neg_ℤ, ◌+ℤ◌, ◌-ℤ◌}
use Rattle.std.proofs.Common.{◌*ℤ◌, ◌≤ℤ◌, ◌<ℤ◌, int_le, unsigned_abs, refl, sym, ap, ◌∙◌, arith}
use Rattle.std.specs.Int.{int_div_euclid}
use Rattle.std.proofs.lemmas.Int.{ints, by_lt_z}
use Rattle.std.proofs.Math.IntN.{pos-*ℤ-pos, *ℤ_comm}
use Rattle.std.proofs.Math.Bool.{and_comm}
use Rattle.std.proofs.Math.Nat.{div-le_self}
use Rattle.cs_ranges.proofs.AffineLaws.{neg_ℤ-*ℤ}
use Rattle.cs_types.specs.Wrap.{floor_div}
use Rattle.cs_types.proofs.FloorDivision.{add-*ℤ, floor_div-rest, euclid-rest}

-- euclidean division by a natural number rounds down
pub div_euclid-floor : (z : ℤ) (n : ℕ) → int_div_euclid z (pos n) ≡ floor_div z n
div_euclid-floor (pos a) n = refl
div_euclid-floor (negsuc a) n = refl

-- a product with a natural number is monotonic
*ℤ-pos-mono : (x y : ℤ) (n : ℕ) → x ≤ℤ y → (x *ℤ pos n) ≤ℤ (y *ℤ pos n)
*ℤ-pos-mono x y n le =
    let d = unsigned_abs (y -ℤ x) in
    let e : y ≡ x +ℤ pos d = omega (arith, ints) in
    let product : y *ℤ pos n ≡ x *ℤ pos n +ℤ pos (d * n) = ap (λ z. z *ℤ pos n) e ∙ add-*ℤ x (pos d) (pos n)
    ∙ ap (λ z. x *ℤ pos n +ℤ z) (pos-*ℤ-pos d n) in
    rw product (omega (arith, ints))

-- a product is at most a number exactly up to the rounded quotient
floor_bound : (x h : ℤ) (n : ℕ) → 0 < n → (x ≤ℤ floor_div h n → (x *ℤ pos n) ≤ℤ h) × ((x *ℤ pos n) ≤ℤ h → x ≤ℤ floor_div h n)
floor_bound x h n lt =
    let q = floor_div h n in
    let rest = euclid-rest h n lt in
    let parts = floor_div-rest h n lt in (
      λ le. below h (x *ℤ pos n) (q *ℤ pos n) _ rest.0 rest.1 parts (*ℤ-pos-mono x q n le),
      λ le. by_lt_z q x
          (λ above.
          let next = *ℤ-pos-mono (q +ℤ pos 1) x n (omega (arith, ints)) in
          absurd (following h (x *ℤ pos n) (q *ℤ pos n) _ _ (pos 1 *ℤ pos n) rest.0 n rest.1 rest.2 parts (add-*ℤ q (pos 1) (pos n))
          (omega (arith, ints)) next le))
          (λ within. within),
    )
  where
    below : (h product whole rest : ℤ) (r : ℕ) → rest ≡ pos r → whole +ℤ rest ≡ h → product ≤ℤ whole → product ≤ℤ h
    below h product whole rest r e s le = omega (arith, ints)

    following : (h product whole rest next one : ℤ) (r n : ℕ) → rest ≡ pos r → r < n → whole +ℤ rest ≡ h → next ≡ whole +ℤ one
        → one ≡ pos n → next ≤ℤ product → product ≤ℤ h → ⊥
    following h product whole rest next one r n e lt s t u le le' = omega (arith, ints)

int_le-true : (x y : ℤ) → x ≤ℤ y → int_le x y ≡ true
int_le-true x y h = grind (arith, ints)

int_le-false : (x y : ℤ) → y <ℤ x → int_le x y ≡ false
int_le-false x y h = grind (arith, ints)

-- two equivalent comparisons have the same truth
int_le-same : (a b c d : ℤ) → (a ≤ℤ b → c ≤ℤ d) → (c ≤ℤ d → a ≤ℤ b) → int_le a b ≡ int_le c d
int_le-same a b c d there back = by_lt_z b a
    (λ lt.
    let none : d <ℤ c = by_lt_z d c (λ below. below) (λ le. absurd (outside a b lt (back le))) in
    int_le-false a b lt ∙ sym (int_le-false c d none))
    (λ le. int_le-true a b le ∙ sym (int_le-true c d (there le)))
  where
    outside : (a b : ℤ) → b <ℤ a → a ≤ℤ b → ⊥
    outside a b lt le = omega (arith, ints)

-- a comparison of negatives is reversed
pub int_le-neg_ℤ : (a b : ℤ) → int_le (neg_ℤ a) (neg_ℤ b) ≡ int_le b a
int_le-neg_ℤ a b = int_le-same (neg_ℤ a) (neg_ℤ b) b a (λ le. omega (arith, ints)) (λ le. omega (arith, ints))

-- the greatest cofactor
pub high_cofactor : (x h : ℤ) (n : ℕ) → 0 < n → int_le x (floor_div h n) ≡ int_le (x *ℤ pos n) h
high_cofactor x h n lt =
    let both = floor_bound x h n lt in
    int_le-same x (floor_div h n) (x *ℤ pos n) h both.0 both.1

-- the least cofactor, by the negatives
pub low_cofactor : (x l : ℤ) (n : ℕ) → 0 < n → int_le (neg_ℤ (floor_div (neg_ℤ l) n)) x ≡ int_le l (x *ℤ pos n)
low_cofactor x l n lt =
    let twice : (z : ℤ) → neg_ℤ (neg_ℤ z) ≡ z = λ z. omega (arith, ints) in
    ap (λ z. int_le (neg_ℤ (floor_div (neg_ℤ l) n)) z) (sym (twice x))
    ∙ int_le-neg_ℤ (floor_div (neg_ℤ l) n) (neg_ℤ x)
    ∙ high_cofactor (neg_ℤ x) (neg_ℤ l) n lt
    ∙ ap (λ z. int_le z (neg_ℤ l)) (neg_ℤ-*ℤ x (pos n))
    ∙ int_le-neg_ℤ (x *ℤ pos n) l

-- a quotient isn't larger than the number
pub floor_div-narrow : (z : ℤ) (n : ℕ) → unsigned_abs z ≤ 2 ^ 65 → unsigned_abs (floor_div z n) ≤ 2 ^ 65
floor_div-narrow (pos a) n h = omega (arith, div-le_self a n)
floor_div-narrow (negsuc a) n h = omega (arith, div-le_self a n)

-- a product with a negative factor, by the negatives of the ends
pub negative_factor : (low high x factor : ℤ)
    → (int_le (neg_ℤ high) (x *ℤ neg_ℤ factor) && int_le (x *ℤ neg_ℤ factor) (neg_ℤ low))
    ≡ (int_le low (x *ℤ factor) && int_le (x *ℤ factor) high)
negative_factor low high x factor =
    let product : x *ℤ neg_ℤ factor ≡ neg_ℤ (x *ℤ factor) = *ℤ_comm x (neg_ℤ factor) ∙ neg_ℤ-*ℤ factor x
    ∙ ap neg_ℤ (*ℤ_comm factor x) in
    rw (product, int_le-neg_ℤ high (x *ℤ factor), int_le-neg_ℤ (x *ℤ factor) low) (and_comm (int_le (x *ℤ factor) high) (int_le low (x *ℤ factor)))
