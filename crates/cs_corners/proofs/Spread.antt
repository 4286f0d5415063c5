-- Pairs of operands that differ or aren't on one line.
use Rattle.std.proofs.Common.{◌≡◌, ◌≢◌, inl, inr, Bool, true, false, not, ◌&&◌, ◌||◌, ℤ, pos, ◌-ℤ◌, refl}
use Rattle.std.proofs.Common.{sym, ap, ◌∙◌, arith}
use Rattle.std.specs.Ordering.{int_eq}
use Rattle.std.proofs.lemmas.Int.{ints}
use Rattle.std.proofs.Math.IntN.{*ℤ_comm}
use Rattle.cs_results.specs.declared.run.Others.TheVariants.{Two}
use Rattle.cs_findings.specs.Grounds.{are_spread}
use Rattle.cs_corners.proofs.Numbers.{same_or_not, unequal, same_factor}

pub not_equal : (a b : ℤ) → a ≢ b → not (int_eq a b) ≡ true
not_equal a b d = ap not (unequal a b d)

pub or_first : (a b : Bool) → a ≡ true → (a || b) ≡ true
or_first a b e = rw e refl

pub or_second : (a b : Bool) → b ≡ true → (a || b) ≡ true
or_second true b e = refl
or_second false b e = e

pub and_both : (a b : Bool) → a ≡ true → b ≡ true → (a && b) ≡ true
and_both a b e f = rw (e, f) refl

-- one of two different numbers differs from a third
pub one_differs : (a b x : ℤ) → a ≢ b → (not (int_eq a x) || not (int_eq b x)) ≡ true
one_differs a b x d = elim (same_or_not a x) [
  | inl same ↦ or_second (not (int_eq a x)) (not (int_eq b x)) (not_equal b x (λ e. d (same ∙ sym e)))
  | inr differ ↦ or_first (not (int_eq a x)) (not (int_eq b x)) (not_equal a x differ)
]

difference_apart : (a b x : ℤ) → a ≢ b → a -ℤ x ≢ b -ℤ x
difference_apart a b x d e = d (omega (arith, ints, e))

difference_nonzero : (a x : ℤ) → a ≢ x → a -ℤ x ≢ pos 0
difference_nonzero a x d e = d (omega (arith, ints, e))

-- two other pairs with one right operand, which isn't that of the first
pub spread_along : (x y a c b : ℤ) → a ≢ c → b ≢ y → are_spread (x, y) (Two (a, b) (c, b)) ≡ true
spread_along x y a c b left right =
    and_both _ _ (and_both _ _ (one_differs a c x left) (or_first _ _ (not_equal b y right)))
    (not_equal _ _ (λ e. difference_apart a c x left (same_factor (a -ℤ x) (c -ℤ x) (b -ℤ y) (difference_nonzero b y right)
    (*ℤ_comm (b -ℤ y) (a -ℤ x) ∙ e ∙ *ℤ_comm (c -ℤ x) (b -ℤ y)))))

-- two other pairs with one left operand, which isn't that of the first
pub spread_across : (x y a b d : ℤ) → b ≢ d → a ≢ x → are_spread (x, y) (Two (a, b) (a, d)) ≡ true
spread_across x y a b d right left =
    and_both _ _ (and_both _ _ (or_first _ _ (not_equal a x left)) (one_differs b d y right))
    (not_equal _ _ (λ e. difference_apart b d y right
    (sym (same_factor (d -ℤ y) (b -ℤ y) (a -ℤ x) (difference_nonzero a x left) e))))
