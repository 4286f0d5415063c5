-- Division that rounds down, and its remainder: for the contracts of `quotient`, `wrap` and `multiply`.
use Rattle.std.proofs.Common.{◌≡◌, ℕ, zero, suc, ◌+◌, ◌*◌, ◌%◌, ◌-◌, ◌<◌, arith, sym, ◌∙◌, ap, refl}
use Rattle.std.specs.Prelude.{ℤ, pos, negsuc, ◌+ℤ◌, ◌-ℤ◌, ◌*ℤ◌}
use Rattle.std.specs.Int.{int_rem_euclid}
use Rattle.std.proofs.lemmas.Int.{ints}
use Rattle.std.proofs.lemmas.Nat.{div-mul-add}
use Rattle.std.proofs.Math.IntN.{suc_ℤ, pred_ℤ, suc_ℤ-*ℤ, pred_ℤ-*ℤ, zero-*ℤ, +ℤ_idr}
use Rattle.cs_types.specs.Wrap.{floor_div}

-- the remainder of division that rounds down is the euclidean one
pub floor_div-rest : (z : ℤ) (n : ℕ) → 0 < n → floor_div z n *ℤ pos n +ℤ int_rem_euclid z (pos n) ≡ z
floor_div-rest (pos a) n h = omega (arith, ints)
floor_div-rest (negsuc a) n h = omega (arith, ints)

-- the remainder is a natural number below the divisor
pub euclid-rest : (z : ℤ) (n : ℕ) → 0 < n → (r : ℕ) × (int_rem_euclid z (pos n) ≡ pos r) × (r < n)
euclid-rest (pos a) n h = (a % n, refl, omega arith)
euclid-rest (negsuc a) n h = (n - 1 - a % n, refl, omega arith)

suc_ℤ-sum : (x : ℤ) → suc_ℤ x ≡ x +ℤ pos 1
suc_ℤ-sum (pos n) = omega (arith, ints)
suc_ℤ-sum (negsuc zero) = refl
suc_ℤ-sum (negsuc (suc n)) = omega (arith, ints)

pred_ℤ-sum : (x : ℤ) → pred_ℤ x ≡ x -ℤ pos 1
pred_ℤ-sum (pos zero) = refl
pred_ℤ-sum (pos (suc n)) = omega (arith, ints)
pred_ℤ-sum (negsuc n) = omega (arith, ints)

one-more : (m k : ℤ) → (m +ℤ pos 1) *ℤ k ≡ m *ℤ k +ℤ k
one-more m k = ap (λ x. x *ℤ k) (sym (suc_ℤ-sum m)) ∙ suc_ℤ-*ℤ m k

one-less : (m k : ℤ) → (m -ℤ pos 1) *ℤ k ≡ m *ℤ k -ℤ k
one-less m k = ap (λ x. x *ℤ k) (sym (pred_ℤ-sum m)) ∙ pred_ℤ-*ℤ m k

add_pos-*ℤ : (m : ℤ) (j : ℕ) (k : ℤ) → (m +ℤ pos j) *ℤ k ≡ m *ℤ k +ℤ pos j *ℤ k
add_pos-*ℤ m zero k = rw (+ℤ_idr m, zero-*ℤ k) (omega (arith, ints))
add_pos-*ℤ m (suc j) k =
    let e : m +ℤ pos (suc j) ≡ (m +ℤ pos j) +ℤ pos 1 = omega (arith, ints) in
    let f : pos (suc j) ≡ pos j +ℤ pos 1 = omega (arith, ints) in
    let left = ap (λ x. x *ℤ k) e ∙ one-more (m +ℤ pos j) k in
    let right = ap (λ x. x *ℤ k) f ∙ one-more (pos j) k in
    let before = add_pos-*ℤ m j k in
    omega (arith, ints, left, right, before)

-- a difference times a number
pub sub_pos-*ℤ : (m : ℤ) (j : ℕ) (k : ℤ) → (m -ℤ pos j) *ℤ k ≡ m *ℤ k -ℤ pos j *ℤ k
sub_pos-*ℤ m j k =
    let e : (m -ℤ pos j) +ℤ pos j ≡ m = omega (arith, ints) in
    let f = ap (λ x. x *ℤ k) (sym e) ∙ add_pos-*ℤ (m -ℤ pos j) j k in
    omega (arith, ints, f)

-- a sum times a number
pub add-*ℤ : (m j k : ℤ) → (m +ℤ j) *ℤ k ≡ m *ℤ k +ℤ j *ℤ k
add-*ℤ m (pos j) k = add_pos-*ℤ m j k
add-*ℤ m (negsuc j) k =
    let e : m +ℤ negsuc j ≡ m -ℤ pos (suc j) = omega (arith, ints) in
    let f : negsuc j ≡ pos 0 -ℤ pos (suc j) = omega (arith, ints) in
    let left = ap (λ x. x *ℤ k) e ∙ sub_pos-*ℤ m (suc j) k in
    let right = ap (λ x. x *ℤ k) f ∙ sub_pos-*ℤ (pos 0) (suc j) k in
    let none = zero-*ℤ k in
    omega (arith, ints, left, right, none)

-- the rounded quotient is the only one with a remainder below the divisor
pub floor_div-unique : (q z : ℤ) (r n : ℕ) → r < n → z ≡ q *ℤ pos n +ℤ pos r → floor_div z n ≡ q
floor_div-unique (pos a) z r n h e =
    let f : z ≡ pos (a * n + r) = omega (arith, ints) in
    ap (λ x. floor_div x n) f ∙ ap pos (div-mul-add a n r h)
floor_div-unique (negsuc a) z r n h e =
    let f : z ≡ negsuc (a * n + (n - 1 - r)) = omega (arith, ints) in
    ap (λ x. floor_div x n) f ∙ ap negsuc (div-mul-add a n (n - 1 - r) (omega arith))

-- adding a multiple of the divisor adds the factor to the quotient
pub floor_div-add : (z k : ℤ) (n : ℕ) → 0 < n → floor_div (z +ℤ k *ℤ pos n) n ≡ floor_div z n +ℤ k
floor_div-add z k n h =
    let rest = euclid-rest z n h in
    let own = floor_div-rest z n h in
    let both = add-*ℤ (floor_div z n) k (pos n) in
    floor_div-unique (floor_div z n +ℤ k) (z +ℤ k *ℤ pos n) rest.0 n rest.2 (omega (arith, ints, rest.1, own, both))
