-- The least and the greatest of three numbers.
use Rattle.std.proofs.Common.{◌≡◌, ◌&&◌, true, ℤ, pos, negsuc, ◌*ℤ◌, arith}
use Rattle.std.specs.Prelude.{◌≤ℤ◌, ◌<ℤ◌, int_le, int_lt}
use Rattle.std.proofs.lemmas.Int.{ints}
use Rattle.std.proofs.lemmas.Nat.{mul-le}
use Rattle.std.proofs.Math.IntN.{pos-*ℤ-pos}
use Rattle.cs_findings.specs.Grounds.{lesser, greater}
use Rattle.cs_corners.proofs.Spread.{and_both}

pub lesser-left : (x y : ℤ) → lesser x y ≤ℤ x
lesser-left x y = grind (arith, ints)

pub lesser-right : (x y : ℤ) → lesser x y ≤ℤ y
lesser-right x y = grind (arith, ints)

pub greater-left : (x y : ℤ) → x ≤ℤ greater x y
greater-left x y = grind (arith, ints)

pub greater-right : (x y : ℤ) → y ≤ℤ greater x y
greater-right x y = grind (arith, ints)

pub is_at_most : (x y : ℤ) → x ≤ℤ y → int_le x y ≡ true
is_at_most x y h = grind (arith, ints)

pub is_below : (x y : ℤ) → x <ℤ y → int_lt x y ≡ true
is_below x y h = grind (arith, ints)

-- of some numbers one is at most 0, one is at least 0, and these two differ
pub meets : (least greatest low high : ℤ) → least ≤ℤ low → high ≤ℤ greatest → low ≤ℤ pos 0 → pos 0 ≤ℤ high → low <ℤ high
    → ((int_le least (pos 0) && int_le (pos 0) greatest) && int_lt least greatest) ≡ true
meets least greatest low high l g under over apart =
    and_both _ _ (and_both _ _ (is_at_most least (pos 0) (omega (arith, ints))) (is_at_most (pos 0) greatest (omega (arith, ints))))
    (is_below least greatest (omega (arith, ints)))

-- products of numbers from 0 grow with these
pub product_grows : (a b m n : ℤ) → pos 0 ≤ℤ a → a ≤ℤ m → pos 0 ≤ℤ b → b ≤ℤ n → (a *ℤ b) ≤ℤ (m *ℤ n)
product_grows (negsuc a) b m n la ha lb hb = absurd (omega (arith, ints, la))
product_grows (pos a) (negsuc b) m n la ha lb hb = absurd (omega (arith, ints, lb))
product_grows (pos a) (pos b) (negsuc m) n la ha lb hb = absurd (omega (arith, ints, ha))
product_grows (pos a) (pos b) (pos m) (negsuc n) la ha lb hb = absurd (omega (arith, ints, hb))
product_grows (pos a) (pos b) (pos m) (pos n) la ha lb hb =
    let less = mul-le a b m n (omega (arith, ints, ha)) (omega (arith, ints, hb)) in
    omega (arith, ints, pos-*ℤ-pos a b, pos-*ℤ-pos m n, less)
