-- Where a line that doesn't fall reaches a number: for `first_at_least` and `last_at_most`.
use Rattle.std.proofs.Common.{◌≡◌, ◌<◌, ◌≤◌, ◌*◌, ◌/◌, ℕ, zero, suc, true, false, ◌&&◌, ℤ, pos, negsuc, neg_ℤ, ◌+ℤ◌}
use Rattle.std.proofs.Common.{◌-ℤ◌}
use Rattle.std.proofs.Common.{◌*ℤ◌, ◌<ℤ◌, ◌≤ℤ◌, int_le, unsigned_abs, sym, ap, ◌∙◌, arith}
use Rattle.std.proofs.Math.Nat.{mul-le-mul_left, div-lt_iff_lt-mul}
use Rattle.std.proofs.lemmas.Int.{ints, by_lt_z}
use Rattle.cs_ranges.specs.Affine.{affine}
use Rattle.cs_ranges.proofs.AffineLaws.{affine-affine, affine-neg_ℤ}

-- the test of a range, and the two comparisons that it implies
pub over_yields : (x y s : ℤ) → (int_le x s && int_le s y) ≡ true → (x ≤ℤ s) × (s ≤ℤ y)
over_yields x y s h = (grind (arith, ints), grind (arith, ints))

-- the value this many steps after the first number
affine-steps : (k : ℕ) (first start s : ℤ) → first ≤ℤ s → affine (pos k) first start s ≡ start +ℤ pos (k * unsigned_abs (s -ℤ first))
affine-steps k first start s le =
    let steps : s -ℤ first ≡ pos (unsigned_abs (s -ℤ first)) = omega (arith, ints) in
    ap (λ d. start +ℤ pos k *ℤ d) steps

-- a line doesn't fall
affine-mono : (k : ℕ) (first start s t : ℤ) → first ≤ℤ s → s ≤ℤ t → affine (pos k) first start s ≤ℤ affine (pos k) first start t
affine-mono k first start s t le le' =
    let less : unsigned_abs (s -ℤ first) ≤ unsigned_abs (t -ℤ first) = omega (arith, ints) in
    omega (arith, ints, affine-steps k first start s le, affine-steps k first start t (omega (arith, ints)), mul-le-mul_left k less)

-- an affine function with a slope that isn't negative doesn't fall
affine-rises : (k : ℕ) (at value s t : ℤ) → s ≤ℤ t → affine (pos k) at value s ≤ℤ affine (pos k) at value t
affine-rises k at value s t le =
    omega (arith, ints, affine-steps k s (affine (pos k) at value s) t le, affine-affine (pos k) at value s t)

-- between two numbers an affine function is within the bounds of its values at both
pub affine-between : (low high slope at value first last x : ℤ) → first ≤ℤ x → x ≤ℤ last
    → (low ≤ℤ affine slope at value first) × (affine slope at value first ≤ℤ high)
    → (low ≤ℤ affine slope at value last) × (affine slope at value last ≤ℤ high)
    → (low ≤ℤ affine slope at value x) × (affine slope at value x ≤ℤ high)
affine-between low high (pos k) at value first last x from upto a b =
    let before = affine-rises k at value first x from in
    let after = affine-rises k at value x last upto in
    (omega (arith, ints, before, a.0), omega (arith, ints, after, b.1))
affine-between low high (negsuc k) at value first last x from upto a b =
    let before = affine-rises (suc k) at (neg_ℤ value) first x from in
    let after = affine-rises (suc k) at (neg_ℤ value) x last upto in
    falls low high _ _ _ _ _ _
    (affine-neg_ℤ (negsuc k) at value first) (affine-neg_ℤ (negsuc k) at value x) (affine-neg_ℤ (negsuc k) at value last)
    before after a.1 b.0
  where
    falls : (low high f x l f' x' l' : ℤ) → f' ≡ neg_ℤ f → x' ≡ neg_ℤ x → l' ≡ neg_ℤ l → f' ≤ℤ x' → x' ≤ℤ l' → f ≤ℤ high
        → low ≤ℤ l
        → (low ≤ℤ x) × (x ≤ℤ high)
    falls low high f x l f' x' l' e g h p q r s = (omega (arith, ints), omega (arith, ints))

int_le-true : (x y : ℤ) → x ≤ℤ y → int_le x y ≡ true
int_le-true x y h = grind (arith, ints)

int_le-false : (x y : ℤ) → y <ℤ x → int_le x y ≡ false
int_le-false x y h = grind (arith, ints)

int_le-same : (a b c d : ℤ) → (a ≤ℤ b → c ≤ℤ d) → (b <ℤ a → d <ℤ c) → int_le a b ≡ int_le c d
int_le-same a b c d below above = by_lt_z b a
    (λ lt. int_le-false a b lt ∙ sym (int_le-false c d (above lt)))
    (λ le. int_le-true a b le ∙ sym (int_le-true c d (below le)))

-- a line that rises between two numbers has a positive slope
pub slope_positive : (k : ℕ) (first last start end : ℤ) → end ≡ affine (pos k) first start last → first ≤ℤ last → start <ℤ end → 0 < k
slope_positive zero first last start end e le lt =
    absurd (omega (arith, ints, affine-steps 0 first start last le))
slope_positive (suc k) first last start end e le lt = omega arith

-- the line reaches `low` one step after those in which it rises by less
pub reaches_low : (k m : ℕ) (first start low s : ℤ) → 0 < k → low ≡ (start +ℤ pos m) +ℤ pos 1 → first ≤ℤ s
    → int_le low (affine (pos k) first start s) ≡ int_le ((first +ℤ pos (m / k)) +ℤ pos 1) s
reaches_low k m first start low s k_pos e from =
    let u = unsigned_abs (s -ℤ first) in
    let value = affine-steps k first start s from in
    let both = div-lt_iff_lt-mul {k = k} {x = m} {y = u} k_pos in
    int_le-same low _ _ s
    (λ reached. omega (arith, ints, both.1 (omega (arith, ints))))
    (λ below.
    let few : m / k < u → ⊥ = λ enough. absurd (omega (arith, ints, both.0 enough)) in
    omega (arith, ints, few))

-- the line is at most `high` in the steps in which it rises no further
pub stays_high : (k m : ℕ) (first start high s : ℤ) → 0 < k → high ≡ start +ℤ pos m → first ≤ℤ s
    → int_le (affine (pos k) first start s) high ≡ int_le s (first +ℤ pos (m / k))
stays_high k m first start high s k_pos e from =
    let u = unsigned_abs (s -ℤ first) in
    let value = affine-steps k first start s from in
    let both = div-lt_iff_lt-mul {k = k} {x = m} {y = u} k_pos in
    int_le-same _ high s _
    (λ low.
    let few : m / k < u → ⊥ = λ enough. absurd (omega (arith, ints, both.0 enough)) in
    omega (arith, ints, few))
    (λ above. omega (arith, ints, both.1 (omega (arith, ints))))

-- the line is at least `low` from the start
pub always_low : (k : ℕ) (first start low s : ℤ) → low ≤ℤ start → first ≤ℤ s → int_le low (affine (pos k) first start s) ≡ int_le first s
always_low k first start low s le from =
    let reached : low ≤ℤ affine (pos k) first start s = omega (arith, ints, affine-steps k first start s from) in
    int_le-true _ _ reached ∙ sym (int_le-true _ _ from)

-- the line never reaches `low`
pub never_low : (k : ℕ) (first last start end low s : ℤ) → end ≡ affine (pos k) first start last → end <ℤ low → first ≤ℤ s → s ≤ℤ last
    → int_le low (affine (pos k) first start s) ≡ int_le (last +ℤ pos 1) s
never_low k first last start end low s e lt from upto =
    let below : affine (pos k) first start s <ℤ low = omega (arith, ints, affine-mono k first start s last from upto) in
    let before : s <ℤ (last +ℤ pos 1) = omega (arith, ints) in
    int_le-false _ _ below ∙ sym (int_le-false _ _ before)

-- the line is at most `high` up to the end
pub always_high : (k : ℕ) (first last start end high s : ℤ) → end ≡ affine (pos k) first start last → end ≤ℤ high → first ≤ℤ s
    → s ≤ℤ last → int_le (affine (pos k) first start s) high ≡ int_le s last
always_high k first last start end high s e le from upto =
    let below : affine (pos k) first start s ≤ℤ high = omega (arith, ints, affine-mono k first start s last from upto) in
    int_le-true _ _ below ∙ sym (int_le-true _ _ upto)

-- the line is above `high` from the start
pub never_high : (k : ℕ) (first start high s : ℤ) → high <ℤ start → first ≤ℤ s
    → int_le (affine (pos k) first start s) high ≡ int_le s (first -ℤ pos 1)
never_high k first start high s lt from =
    let above : high <ℤ affine (pos k) first start s = omega (arith, ints, affine-steps k first start s from) in
    let following : (first -ℤ pos 1) <ℤ s = omega (arith, ints) in
    int_le-false _ _ above ∙ sym (int_le-false _ _ following)
