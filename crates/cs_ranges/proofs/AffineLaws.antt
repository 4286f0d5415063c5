-- An affine function given by its value at another number: for `affine_preimage`.
use Rattle.std.proofs.Common.{◌≡◌, ◌*◌, ℕ, ℤ, pos, neg_ℤ, ◌+ℤ◌, ◌-ℤ◌, ◌*ℤ◌, ap, ◌∙◌, arith}
use Rattle.std.proofs.lemmas.Int.{ints}
use borrow.Author.Differences.{up, down, sum_is_lem, neg_is}
use Rattle.cs_ranges.specs.Affine.{affine}

pub *ℤ-distrib : (a b c : ℤ) → a *ℤ (b +ℤ c) ≡ (a *ℤ b) +ℤ (a *ℤ c)
*ℤ-distrib a b c =
    omega (arith, ints, ap (λ n. up a * n) (sum_is_lem b c), ap (λ n. down a * n) (sum_is_lem b c))

-- a negative factor
pub neg_ℤ-*ℤ : (a b : ℤ) → neg_ℤ a *ℤ b ≡ neg_ℤ (a *ℤ b)
neg_ℤ-*ℤ a b =
    let turned = neg_is a in
    omega (
      arith,
      ints,
      ap (λ n. n * up b) turned.0,
      ap (λ n. n * down b) turned.0,
      ap (λ n. n * up b) turned.1,
      ap (λ n. n * down b) turned.1,
    )

-- the same function, by its value at another number
pub affine-affine : (slope at value first s : ℤ) → affine slope first (affine slope at value first) s ≡ affine slope at value s
affine-affine slope at value first s =
    let parts : s -ℤ at ≡ (first -ℤ at) +ℤ (s -ℤ first) = omega (arith, ints) in
    omega (arith, ints, ap (λ d. slope *ℤ d) parts, *ℤ-distrib slope (first -ℤ at) (s -ℤ first))

-- the negatives of the values are those of the negative slope
pub affine-neg_ℤ : (slope at value s : ℤ) → affine (neg_ℤ slope) at (neg_ℤ value) s ≡ neg_ℤ (affine slope at value s)
affine-neg_ℤ slope at value s = omega (arith, ints, neg_ℤ-*ℤ slope (s -ℤ at))

-- a line with the slope and a value of the function has all its values
pub affine-up : (slope at value first s : ℤ) (k : ℕ) (x y : ℤ) → x ≡ first → y ≡ affine slope at value first → pos k ≡ slope
    → affine (pos k) x y s ≡ affine slope at value s
affine-up slope at value first s k x y e f g = rw (e, f, g) (affine-affine slope at value first s)

-- and one with the negative slope and the negative of a value has the negatives
pub affine-down : (slope at value first s : ℤ) (k : ℕ) (x y : ℤ) → x ≡ first → y ≡ neg_ℤ (affine slope at value first)
    → pos k ≡ neg_ℤ slope → affine (pos k) x y s ≡ neg_ℤ (affine slope at value s)
affine-down slope at value first s k x y e f g =
    rw (e, f, g) (affine-neg_ℤ slope first (affine slope at value first) s ∙ ap neg_ℤ (affine-affine slope at value first s))
