-- The numbers that the intervals of a list have: for every clause that names `contains`.
use Rattle.std.proofs.Common.{◌≡◌, ◌⊎◌, ◌+◌, ◌<◌, ℕ, Bool, true, false, ◌||◌, ℤ, ◌<ℤ◌, ◌≤ℤ◌, List, [], ◌∷◌}
use Rattle.std.proofs.Common.{◌++◌, length, take, get_or, refl, ap, ◌∙◌, arith}
use Rattle.std.proofs.lemmas.Int.{ints}
use Rattle.std.proofs.lemmas.List.{take_more}
use Rattle.cs_ranges.specs.declared.range_set.Interval.{Interval}
use Rattle.cs_ranges.specs.Interval.{in_interval}
use Rattle.cs_ranges.specs.RangeSet.{contains}

-- the test of an interval, and the two comparisons that it implies
pub in_interval_yields : (i : Interval) (x : ℤ) → ((in_interval i x ≡ true) × (i.low ≤ℤ x) × (x ≤ℤ i.high))
    ⊎ ((in_interval i x ≡ false) × ((x <ℤ i.low) ⊎ (i.high <ℤ x)))
unfolding in_interval
in_interval_yields i x = grind (arith, ints)

-- an interval with a number has both its ends
pub in_interval-low : (i : Interval) → i.low ≤ℤ i.high → in_interval i i.low ≡ true
in_interval-low i h = grind (arith, ints, in_interval_yields i i.low)

pub in_interval-high : (i : Interval) → i.low ≤ℤ i.high → in_interval i i.high ≡ true
in_interval-high i h = grind (arith, ints, in_interval_yields i i.high)

-- an interval whose low end is above its high end has no number
pub in_interval-none : (i : Interval) (x : ℤ) → i.high <ℤ i.low → in_interval i x ≡ false
in_interval-none i x h = grind (arith, ints, in_interval_yields i x)

pub or_assoc : (x y z : Bool) → (x || (y || z)) ≡ ((x || y) || z)
or_assoc true y z = refl
or_assoc false y z = refl

pub or-false : (x : Bool) → (x || false) ≡ x
or-false true = refl
or-false false = refl

pub contains-nil : (x : ℤ) → contains [] x ≡ false
unfolding contains
contains-nil x = refl

pub contains-cons : (i : Interval) (s : List Interval) (x : ℤ) → contains (i ∷ s) x ≡ (in_interval i x || contains s x)
unfolding contains
contains-cons i s x = refl

pub contains-single : (i : Interval) (x : ℤ) → contains (i ∷ []) x ≡ in_interval i x
unfolding contains
contains-single i x = or-false (in_interval i x)

pub contains-append : (s t : List Interval) (x : ℤ) → contains (s ++ t) x ≡ (contains s x || contains t x)
unfolding contains
contains-append [] t x = refl
contains-append (i ∷ s) t x =
    ap (λ b. in_interval i x || b) (contains-append s t x) ∙ or_assoc (in_interval i x) (contains s x) (contains t x)

pub contains-push : (s : List Interval) (i : Interval) (x : ℤ) → contains (s ++ i ∷ []) x ≡ (contains s x || in_interval i x)
unfolding contains
contains-push s i x = contains-append s (i ∷ []) x ∙ ap (λ b. contains s x || b) (or-false (in_interval i x))

pub contains-more : (s : List Interval) (k : ℕ) (d : Interval) (x : ℤ) → k < length s
    → contains (take (k + 1) s) x ≡ (contains (take k s) x || in_interval (get_or s k d) x)
contains-more s k d x h = ap (λ l. contains l x) (take_more s k d h) ∙ contains-push (take k s) (get_or s k d) x
