-- The negatives of a set, interval by interval from the last one backwards: for `negated`.
use Rattle.std.proofs.Common.{◌≡◌, Bool, true, false, ◌||◌, ℤ, neg_ℤ, ◌≤ℤ◌, List, [], ◌∷◌, ◌++◌, refl, sym, ap, ◌∙◌}
use Rattle.std.proofs.Common.{arith}
use Rattle.std.proofs.lemmas.Int.{ints}
use Rattle.std.proofs.lemmas.Bool.{or_right}
use Rattle.cs_ranges.specs.declared.range_set.Interval.{Interval}
use Rattle.cs_ranges.specs.Interval.{in_interval}
use Rattle.cs_ranges.specs.RangeSet.{contains, IsSpread, last_low}
use Rattle.cs_ranges.proofs.Members.{in_interval_yields, contains-nil, in_interval-high, contains-push, or-false}
use Rattle.cs_ranges.proofs.Spread.{IsSpreadFrom-last, contains-before_last, IsInside-member, last_low_or-nil}

-- the negatives of the whole set are found already or are those of the rest, which are above what was found
pub record Mirrors (whole found rest : List Interval) : Type 0 where
  pub spread : IsSpread rest
  pub following : (x : ℤ) → contains rest x ≡ true → last_low found ≤ℤ neg_ℤ x
  pub members : (x : ℤ) → (contains found x || contains rest (neg_ℤ x)) ≡ contains whole (neg_ℤ x)

pub Mirrors-start : (s : List Interval) → IsSpread s → Mirrors s [] s
Mirrors-start s h = record {
  spread = h;
  following = λ x t. rw last_low_or-nil (omega (arith, ints, (IsInside-member s x h t).1));
  members = λ x. rw contains-nil;
}

mirrored : (i j : Interval) (x : ℤ) → j.low ≡ neg_ℤ i.high → j.high ≡ neg_ℤ i.low → in_interval j x ≡ in_interval i (neg_ℤ x)
mirrored i j x e f = grind (arith, ints, in_interval_yields i (neg_ℤ x), in_interval_yields j x)

or_swap : (x y z : Bool) → ((x || y) || z) ≡ (x || (z || y))
or_swap true y z = refl
or_swap false true true = refl
or_swap false true false = refl
or_swap false false true = refl
or_swap false false false = refl

-- the last interval of the rest is negated
pub Mirrors-more : (whole found new rest : List Interval) (i j : Interval) → Mirrors whole found (rest ++ i ∷ []) → j.low ≡ neg_ℤ i.high
    → j.high ≡ neg_ℤ i.low → ((x : ℤ) → contains new x ≡ (contains found x || in_interval j x)) → last_low new ≤ℤ j.low
    → Mirrors whole new rest
Mirrors-more whole found new rest i j h e f members last =
    let ends = IsSpreadFrom-last _ rest i h.spread in
    record {
      spread = ends.0;
      following = λ x t. omega (arith, ints, contains-before_last _ rest i x h.spread t, ends.2);
      members = λ x. ap (λ b. b || contains rest (neg_ℤ x)) (members x ∙ ap (λ b. contains found x || b) (mirrored i j x e f))
          ∙ or_swap (contains found x) (in_interval i (neg_ℤ x)) (contains rest (neg_ℤ x))
          ∙ ap (λ b. contains found x || b) (sym (contains-push rest i (neg_ℤ x)))
          ∙ h.members x;
    }

pub Mirrors-end : (whole found rest : List Interval) → Mirrors whole found rest → rest ≡ []
    → (x : ℤ) → contains found x ≡ contains whole (neg_ℤ x)
Mirrors-end whole found rest h e x =
    sym (ap (λ b. contains found x || b) (ap (λ l. contains l (neg_ℤ x)) e ∙ contains-nil (neg_ℤ x)) ∙ or-false _) ∙ h.members x

-- the position of the last interval of the rest
pub Mirrors-following : (whole found rest : List Interval) (i : Interval) → Mirrors whole found (rest ++ i ∷ []) → last_low found ≤ℤ neg_ℤ i.high
Mirrors-following whole found rest i h =
    h.following i.high (contains-push rest i i.high ∙ or_right _ _ (in_interval-high i (IsSpreadFrom-last _ rest i h.spread).2))
