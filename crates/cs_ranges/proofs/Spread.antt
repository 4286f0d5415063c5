-- Lists of intervals in order and with gaps: for the invariant of `RangeSet`.
use Rattle.std.proofs.Common.{◌≡◌, ◌<◌, ◌^◌, ℕ, zero, suc, Bool, true, false, ◌&&◌, not, ℤ, pos, ◌+ℤ◌, ◌<ℤ◌, ◌≤ℤ◌}
use Rattle.std.proofs.Common.{List, [], ◌∷◌, ◌++◌, length, get_or, inl, inr, refl, sym, ◌∙◌, arith, not-suc-le-zero, le_of_suc-le-suc}
use Rattle.std.proofs.lemmas.Int.{ints, by_lt_z}
use Rattle.std.proofs.lemmas.Bool.{or_from, or_cases, both_ways}
use Rattle.cs_ranges.specs.declared.range_set.Interval.{Interval}
use Rattle.cs_ranges.specs.Interval.{IsInside, IsProper, in_interval}
use Rattle.cs_ranges.specs.RangeSet.{contains, IsSpread, IsSpreadFrom, last_low_or}
use Rattle.cs_ranges.proofs.Members.{in_interval_yields, contains-nil, contains-cons}

pub IsSpreadFrom-weaker : (b c : ℤ) (s : List Interval) → c ≤ℤ b → IsSpreadFrom b s → IsSpreadFrom c s
IsSpreadFrom-weaker b c [] le h = tt
IsSpreadFrom-weaker b c (i ∷ s) le h = (omega (arith, ints, h.0), h.1, h.2, h.3)

pub IsProper-first : (i : Interval) (s : List Interval) → IsSpread (i ∷ s) → IsProper i
IsProper-first i s h = record { from = h.0; ordered = h.1; upto = h.2 }

-- no number below the bound is in the list
pub contains-below : (b : ℤ) (s : List Interval) (x : ℤ) → IsSpreadFrom b s → x <ℤ b → contains s x ≡ false
unfolding contains
contains-below b [] x h lt = refl
contains-below b (i ∷ s) x h lt =
    let out : in_interval i x ≡ false = grind (arith, ints, h.0, in_interval_yields i x) in
    or_from _ _ out (contains-below (i.high +ℤ pos 2) s x h.3 (omega (arith, ints, h.0, h.1)))

pub contains-from : (b : ℤ) (s : List Interval) (x : ℤ) → IsSpreadFrom b s → contains s x ≡ true → b ≤ℤ x
contains-from b s x h t = by_lt_z x b (λ lt. absurd (both_ways _ (contains-below b s x h lt) t)) (λ ge. ge)

-- no number above 2^126 is in the list
pub contains-above : (b : ℤ) (s : List Interval) (x : ℤ) → IsSpreadFrom b s → pos (2 ^ 126) <ℤ x → contains s x ≡ false
unfolding contains
contains-above b [] x h lt = refl
contains-above b (i ∷ s) x h lt =
    let out : in_interval i x ≡ false = grind (arith, ints, h.2, in_interval_yields i x) in
    or_from _ _ out (contains-above (i.high +ℤ pos 2) s x h.3 lt)

-- the interval at an index has a number, and is inside the bounds
pub IsSpreadFrom-at : (b : ℤ) (s : List Interval) (k : ℕ) (d : Interval) → IsSpreadFrom b s → k < length s
    → (b ≤ℤ (get_or s k d).low) × ((get_or s k d).low ≤ℤ (get_or s k d).high) × ((get_or s k d).high ≤ℤ pos (2 ^ 126))
IsSpreadFrom-at b [] k d h lt = absurd (not-suc-le-zero lt)
IsSpreadFrom-at b (i ∷ s) zero d h lt = (h.0, h.1, h.2)
IsSpreadFrom-at b (i ∷ s) (suc k) d h lt =
    let at = IsSpreadFrom-at (i.high +ℤ pos 2) s k d h.3 (le_of_suc-le-suc lt) in
    (omega (arith, ints, at.0, h.0, h.1), at.1, at.2)

-- the last interval has a number, and is inside the bounds
pub IsSpreadFrom-last : (b : ℤ) (s : List Interval) (i : Interval) → IsSpreadFrom b (s ++ i ∷ [])
    → IsSpreadFrom b s × (b ≤ℤ i.low) × (i.low ≤ℤ i.high) × (i.high ≤ℤ pos (2 ^ 126))
IsSpreadFrom-last b [] i h = (tt, h.0, h.1, h.2)
IsSpreadFrom-last b (j ∷ s) i h =
    let rest = IsSpreadFrom-last (j.high +ℤ pos 2) s i h.3 in
    ((h.0, h.1, h.2, rest.0), omega (arith, ints, h.0, h.1, rest.1), rest.2, rest.3)

pub IsProper-last : (s : List Interval) (i : Interval) → IsSpread (s ++ i ∷ []) → IsProper i
IsProper-last s i h =
    let last = IsSpreadFrom-last _ s i h in
    record { from = last.1; ordered = last.2; upto = last.3 }

-- the numbers before the last interval are below it, with a gap
pub contains-before_last : (b : ℤ) (s : List Interval) (i : Interval) (x : ℤ) → IsSpreadFrom b (s ++ i ∷ []) → contains s x ≡ true
    → (x +ℤ pos 2) ≤ℤ i.low
contains-before_last b [] i x h t = absurd (both_ways _ (contains-nil x) t)
contains-before_last b (j ∷ s) i x h t =
    let last = IsSpreadFrom-last (j.high +ℤ pos 2) s i h.3 in
    let P : Type 0 = (x +ℤ pos 2) ≤ℤ i.low in
    let in_first : in_interval j x ≡ true → P = λ in_j. grind (arith, ints, in_interval_yields j x, last.1) in
    elim (or_cases _ _ (sym (contains-cons j s x) ∙ t)) [
      | inl in_j ↦ in_first in_j
      | inr in_s ↦ contains-before_last (j.high +ℤ pos 2) s i x h.3 in_s
    ]

-- another last interval that begins at the same number
pub IsSpreadFrom-replace_last : (b : ℤ) (s : List Interval) (i j : Interval) → IsSpreadFrom b (s ++ i ∷ []) → j.low ≡ i.low → j.low ≤ℤ j.high
    → j.high ≤ℤ pos (2 ^ 126) → IsSpreadFrom b (s ++ j ∷ [])
IsSpreadFrom-replace_last b [] i j h e p q = (omega (arith, ints, h.0, e), p, q, tt)
IsSpreadFrom-replace_last b (k ∷ s) i j h e p q =
    (h.0, h.1, h.2, IsSpreadFrom-replace_last (k.high +ℤ pos 2) s i j h.3 e p q)

-- an interval after the last one, after a gap
pub IsSpreadFrom-push : (b : ℤ) (s : List Interval) (i j : Interval) → IsSpreadFrom b (s ++ i ∷ []) → (i.high +ℤ pos 1) <ℤ j.low
    → j.low ≤ℤ j.high → j.high ≤ℤ pos (2 ^ 126) → IsSpreadFrom b ((s ++ i ∷ []) ++ j ∷ [])
IsSpreadFrom-push b [] i j h gap p q = (h.0, h.1, h.2, (omega (arith, ints, gap), p, q, tt))
IsSpreadFrom-push b (k ∷ s) i j h gap p q =
    (h.0, h.1, h.2, IsSpreadFrom-push (k.high +ℤ pos 2) s i j h.3 gap p q)

pub last_low_or-nil : (x : ℤ) → last_low_or x [] ≡ x
unfolding last_low_or
last_low_or-nil x = refl

pub last_low_or-push : (x : ℤ) (s : List Interval) (i : Interval) → last_low_or x (s ++ i ∷ []) ≡ i.low
unfolding last_low_or
last_low_or-push x [] i = refl
last_low_or-push x (j ∷ s) i = last_low_or-push j.low s i

-- the numbers of a spread list are inside the bounds
pub IsInside-member : (s : List Interval) (x : ℤ) → IsSpread s → contains s x ≡ true → IsInside x
IsInside-member s x h t = (
  contains-from _ s x h t,
  by_lt_z (pos (2 ^ 126)) x (λ lt. absurd (both_ways _ (contains-above _ s x h lt) t)) (λ ge. ge),
)

and_when : (a b c : Bool) → (a ≡ true → b ≡ c) → (a && b) ≡ (a && c)
and_when true b c h = h refl
and_when false b c h = refl

-- the difference of two sets is the intersection of the one with all numbers inside the bounds that the other doesn't have
pub minus-by_complement : (one other rest : List Interval) → IsSpread one → ((x : ℤ) → IsInside x → contains rest x ≡ not (contains other x))
    → (x : ℤ) → (contains one x && contains rest x) ≡ (contains one x && not (contains other x))
minus-by_complement one other rest h complement x =
    and_when (contains one x) _ _ (λ t. complement x (IsInside-member one x h t))
