-- The numbers that both of two lists have, while their first intervals are removed in turn: for `intersect`.
use Rattle.std.proofs.Common.{◌≡◌, ◌⊎◌, Bool, true, false, ◌||◌, ◌&&◌, inl, inr, ℤ, pos, ◌+ℤ◌, ◌<ℤ◌, ◌≤ℤ◌, List, []}
use Rattle.std.proofs.Common.{◌∷◌, refl, sym, ap, ◌∙◌, ap₂, arith}
use Rattle.std.specs.Int.{int_max}
use Rattle.std.proofs.lemmas.Int.{ints, clamps, by_lt_z}
use Rattle.std.proofs.lemmas.Bool.{and_left, and_right}
use Rattle.cs_ranges.specs.declared.range_set.Interval.{Interval}
use Rattle.cs_ranges.specs.Interval.{in_interval}
use Rattle.cs_ranges.specs.RangeSet.{contains, IsSpread, IsSpreadFrom, last_low}
use Rattle.cs_ranges.proofs.Members.{in_interval_yields, contains-nil, contains-cons, or-false}
use Rattle.cs_ranges.proofs.Spread.{IsSpreadFrom-weaker, contains-from, last_low_or-nil}

-- what both whole sets have is found already or is in the rests of both, which come after what was found
pub record Meets (one other found left right : List Interval) : Type 0 where
  pub left_spread : IsSpread left
  pub right_spread : IsSpread right
  pub following : IsSpreadFrom (last_low found) left ⊎ IsSpreadFrom (last_low found) right
  pub members : (x : ℤ) → (contains found x || (contains left x && contains right x)) ≡ (contains one x && contains other x)

pub Meets-start : (one other : List Interval) → IsSpread one → IsSpread other → Meets one other [] one other
Meets-start one other h k = record {
  left_spread = h;
  right_spread = k;
  following = inl (rw last_low_or-nil h);
  members = λ x. rw contains-nil;
}

-- nothing more is common once one rest is empty
pub Meets-end : (one other found left right : List Interval) → Meets one other found left right → (left ≡ []) ⊎ (right ≡ [])
    → (x : ℤ) → contains found x ≡ (contains one x && contains other x)
Meets-end one other found left right h e x =
    let none : (contains left x && contains right x) ≡ false = elim e [
      | inl left_used ↦ and_left _ _ (ap (λ l. contains l x) left_used ∙ contains-nil x)
      | inr right_used ↦ and_right _ _ (ap (λ l. contains l x) right_used ∙ contains-nil x)
    ] in
    sym (ap (λ b. contains found x || b) none ∙ or-false _) ∙ h.members x

-- the first interval of the left rest ends first
left_first : (f l r : Bool) (a b : Interval) (x : ℤ) → (r ≡ true → (b.high +ℤ pos 2) ≤ℤ x) → a.high <ℤ b.high
    → ((f || (in_interval a x && in_interval b x)) || (l && (in_interval b x || r))) ≡ (f || ((in_interval a x || l) && (in_interval b x || r)))
left_first true l r a b x h lt = refl
left_first false true true a b x h lt = grind (arith, ints, in_interval_yields a x, in_interval_yields b x)
left_first false false true a b x h lt = grind (arith, ints, in_interval_yields a x, in_interval_yields b x, h refl)
left_first false true false a b x h lt = grind (arith, ints, in_interval_yields a x, in_interval_yields b x)
left_first false false false a b x h lt = grind (arith, ints, in_interval_yields a x, in_interval_yields b x)

right_first : (f l r : Bool) (a b : Interval) (x : ℤ) → (l ≡ true → (a.high +ℤ pos 2) ≤ℤ x) → b.high ≤ℤ a.high
    → ((f || (in_interval a x && in_interval b x)) || ((in_interval a x || l) && r)) ≡ (f || ((in_interval a x || l) && (in_interval b x || r)))
right_first true l r a b x h lt = refl
right_first false true true a b x h lt = grind (arith, ints, in_interval_yields a x, in_interval_yields b x)
right_first false false true a b x h lt = grind (arith, ints, in_interval_yields a x, in_interval_yields b x)
right_first false true false a b x h lt = grind (arith, ints, in_interval_yields a x, in_interval_yields b x, h refl)
right_first false false false a b x h lt = grind (arith, ints, in_interval_yields a x, in_interval_yields b x)

-- an interval with the rest after it is spread from its beginning, and the rest from after its end
from_low : (bound n : ℤ) (i : Interval) (rest : List Interval) → IsSpreadFrom bound (i ∷ rest) → n ≤ℤ i.low → IsSpreadFrom n (i ∷ rest)
from_low bound n i rest h le = (le, h.1, h.2, h.3)

from_rest : (bound n : ℤ) (i : Interval) (rest : List Interval) → IsSpreadFrom bound (i ∷ rest) → n ≤ℤ i.low → IsSpreadFrom n rest
from_rest bound n i rest h le = IsSpreadFrom-weaker _ n rest (omega (arith, ints, h.1)) h.3

-- the left rest loses its first interval
pub Meets-left : (one other found new left right : List Interval) (a b : Interval) → Meets one other found (a ∷ left) (b ∷ right) → a.high <ℤ b.high
    → ((x : ℤ) → contains new x ≡ (contains found x || (in_interval a x && in_interval b x))) → last_low new ≤ℤ int_max a.low b.low
    → Meets one other new left (b ∷ right)
Meets-left one other found new left right a b h lt members last =
    let spread = h.left_spread in
    record {
      left_spread = from_rest _ _ a left spread spread.0;
      right_spread = h.right_spread;
      following = by_lt_z a.low b.low
          (λ less. inr (from_low _ _ b right h.right_spread (omega (arith, ints, clamps))))
          (λ more. inl (from_rest _ _ a left spread (omega (arith, ints, clamps))));
      members = λ x. rw (members x, contains-cons b right x)
          (left_first (contains found x) (contains left x) (contains right x) a b x (contains-from _ right x h.right_spread.3) lt
          ∙ ap₂ (λ p q. contains found x || (p && q)) (sym (contains-cons a left x)) (sym (contains-cons b right x))
          ∙ h.members x);
    }

-- the right rest loses its first interval
pub Meets-right : (one other found new left right : List Interval) (a b : Interval) → Meets one other found (a ∷ left) (b ∷ right)
    → b.high ≤ℤ a.high → ((x : ℤ) → contains new x ≡ (contains found x || (in_interval a x && in_interval b x)))
    → last_low new ≤ℤ int_max a.low b.low → Meets one other new (a ∷ left) right
Meets-right one other found new left right a b h le members last =
    let spread = h.right_spread in
    record {
      left_spread = h.left_spread;
      right_spread = from_rest _ _ b right spread spread.0;
      following = by_lt_z a.low b.low
          (λ less. inr (from_rest _ _ b right spread (omega (arith, ints, clamps))))
          (λ more. inl (from_low _ _ a left h.left_spread (omega (arith, ints, clamps))));
      members = λ x. rw (members x, contains-cons a left x)
          (right_first (contains found x) (contains left x) (contains right x) a b x (contains-from _ left x h.left_spread.3) le
          ∙ ap₂ (λ p q. contains found x || (p && q)) (sym (contains-cons a left x)) (sym (contains-cons b right x))
          ∙ h.members x);
    }
