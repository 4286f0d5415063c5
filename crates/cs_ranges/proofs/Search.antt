-- The interval of a spread list that may have a number: for the binary search of `contains`.
use Rattle.std.proofs.Common.{◌≡◌, ◌<◌, ◌≤◌, ℕ, zero, suc, false, ◌||◌, ℤ, pos, ◌+ℤ◌, ◌<ℤ◌, ◌≤ℤ◌, int_le, List, []}
use Rattle.std.proofs.Common.{◌∷◌, length, get_or, ap, ◌∙◌, arith, not-suc-le-zero, le_of_suc-le-suc}
use Rattle.std.proofs.lemmas.Int.{ints}
use Rattle.std.proofs.lemmas.Bool.{or_from}
use Rattle.cs_ranges.specs.declared.range_set.Interval.{Interval}
use Rattle.cs_ranges.specs.Interval.{in_interval}
use Rattle.cs_ranges.specs.RangeSet.{contains, IsSpreadFrom}
use Rattle.cs_ranges.proofs.Members.{in_interval_yields, contains-nil, contains-cons, or-false}
use Rattle.cs_ranges.proofs.Spread.{IsSpreadFrom-at, contains-below}

-- the ends of the intervals rise
pub IsSpreadFrom-rises : (b : ℤ) (s : List Interval) (j k : ℕ) (d : Interval) → IsSpreadFrom b s → j ≤ k → k < length s
    → (get_or s j d).high ≤ℤ (get_or s k d).high
IsSpreadFrom-rises b [] j k d h le lt = absurd (not-suc-le-zero lt)
IsSpreadFrom-rises b (i ∷ s) zero zero d h le lt = omega (arith, ints)
IsSpreadFrom-rises b (i ∷ s) (suc j) zero d h le lt = absurd (not-suc-le-zero le)
IsSpreadFrom-rises b (i ∷ s) zero (suc k) d h le lt =
    let at = IsSpreadFrom-at (i.high +ℤ pos 2) s k d h.3 (le_of_suc-le-suc lt) in
    omega (arith, ints, at.0, at.1)
IsSpreadFrom-rises b (i ∷ s) (suc j) (suc k) d h le lt =
    IsSpreadFrom-rises (i.high +ℤ pos 2) s j k d h.3 (le_of_suc-le-suc le) (le_of_suc-le-suc lt)

before : (i : Interval) (x : ℤ) → i.high <ℤ x → in_interval i x ≡ false
before i x h = grind (arith, ints, in_interval_yields i x)

reached : (i : Interval) (x : ℤ) → x ≤ℤ i.high → in_interval i x ≡ int_le i.low x
reached i x h = grind (arith, ints, in_interval_yields i x)

-- all intervals end below the number
pub contains-past : (s : List Interval) (d : Interval) (x : ℤ) → ((j : ℕ) → j < length s → (get_or s j d).high <ℤ x) → contains s x ≡ false
contains-past [] d x below = contains-nil x
contains-past (i ∷ s) d x below =
    contains-cons i s x ∙ or_from _ _ (before i x (below 0 (omega arith))) (contains-past s d x (λ j lt. below (suc j) (omega arith)))

-- the intervals before the index end below the number, and the one at the index doesn't
pub contains-at : (b : ℤ) (s : List Interval) (k : ℕ) (d : Interval) (x : ℤ) → IsSpreadFrom b s → k < length s
    → ((j : ℕ) → j < k → (get_or s j d).high <ℤ x) → x ≤ℤ (get_or s k d).high → contains s x ≡ int_le (get_or s k d).low x
contains-at b [] k d x h lt below le = absurd (not-suc-le-zero lt)
contains-at b (i ∷ s) zero d x h lt below le =
    let none = contains-below (i.high +ℤ pos 2) s x h.3 (omega (arith, ints, le)) in
    contains-cons i s x ∙ ap (λ t. in_interval i x || t) none ∙ or-false _ ∙ reached i x le
contains-at b (i ∷ s) (suc k) d x h lt below le =
    contains-cons i s x ∙ ap (λ t. t || contains s x) (before i x (below 0 (omega arith)))
    ∙ contains-at (i.high +ℤ pos 2) s k d x h.3 (le_of_suc-le-suc lt) (λ j lt. below (suc j) (omega arith)) le
