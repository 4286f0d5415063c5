-- The numbers that pairs of intervals have: for the contracts of the checkers.
use Rattle.std.proofs.Common.{◌≡◌, ◌⊎◌, ◌^◌, ℕ, Bool, true, false, not, ◌||◌, ℤ, pos, negsuc, neg_ℤ, [], ◌∷◌, refl, sym, ap}
use Rattle.std.proofs.Common.{◌∙◌, inl, inr, arith}
use Rattle.std.specs.Prelude.{int_lt, int_le}
use Rattle.std.specs.Ordering.{int_eq}
use Rattle.std.proofs.lemmas.Int.{ints}
use Rattle.std.proofs.lemmas.Bool.Decides.{Decides-int_eq}
use Rattle.cs_ranges.specs.declared.range_set.Interval.{Interval}
use Rattle.cs_ranges.specs.Interval.{IsInside, in_interval}
use Rattle.cs_ranges.specs.RangeSet.{contains}
use Rattle.cs_ranges.proofs.Members.{in_interval_yields, contains-cons, contains-single}

pair : (i j : Interval) (x : ℤ) → contains (i ∷ j ∷ []) x ≡ (in_interval i x || in_interval j x)
pair i j x = contains-cons i (j ∷ []) x ∙ ap (λ b. in_interval i x || b) (contains-single j x)

eq_yields : (x y : ℤ) → ((int_eq x y ≡ true) × (x ≡ y)) ⊎ ((int_eq x y ≡ false) × (x ≡ y → ⊥))
eq_yields x y = by (int_eq x y) refl
  where
    by : (b : Bool) → int_eq x y ≡ b → ((int_eq x y ≡ true) × (x ≡ y)) ⊎ ((int_eq x y ≡ false) × (x ≡ y → ⊥))
    by true t = inl (t, (Decides-int_eq x y).0 t)
    by false t = inr (t, λ e. cc (sym t ∙ (Decides-int_eq x y).1 e))

module _ (i j : Interval) (x : ℤ) where
  -- only 0
  pub only_zero : i.low ≡ pos 0 → i.high ≡ pos 0 → j.low ≡ pos 1 → j.high ≡ pos 0 → contains (i ∷ j ∷ []) x ≡ int_eq x (pos 0)
  only_zero low high from upto = pair i j x ∙ grind (arith, ints, in_interval_yields i x, in_interval_yields j x, eq_yields x (pos 0))

  -- all numbers except 0
  pub not_zero : i.low ≡ neg_ℤ (pos (2 ^ 126)) → i.high ≡ negsuc 0 → j.low ≡ pos 1 → j.high ≡ pos (2 ^ 126) → IsInside x
      → contains (i ∷ j ∷ []) x ≡ not (int_eq x (pos 0))
  not_zero low high from upto inside = pair i j x ∙ grind (arith, ints, in_interval_yields i x, in_interval_yields j x, eq_yields x (pos 0))

  -- the numbers below 0
  pub below_zero : i.low ≡ neg_ℤ (pos (2 ^ 126)) → i.high ≡ negsuc 0 → j.low ≡ pos 1 → j.high ≡ pos 0 → IsInside x
      → contains (i ∷ j ∷ []) x ≡ int_lt x (pos 0)
  below_zero low high from upto inside = pair i j x ∙ grind (arith, ints, in_interval_yields i x, in_interval_yields j x)

  -- the numbers by which no operand of this width can be shifted
  pub outside_width : (width : ℕ) → i.low ≡ neg_ℤ (pos (2 ^ 126)) → i.high ≡ negsuc 0 → j.low ≡ pos width → j.high ≡ pos (2 ^ 126)
      → IsInside x
      → contains (i ∷ j ∷ []) x ≡ (int_lt x (pos 0) || int_le (pos width) x)
  outside_width width low high from upto inside = pair i j x ∙ grind (arith, ints, in_interval_yields i x, in_interval_yields j x)
