-- The numbers of a set as one ascending list, and how many there are: for `count`.
use Rattle.std.proofs.Common.{◌≡◌, ◌<◌, ◌+◌, ◌^◌, ℕ, zero, suc, true, inl, inr, ℤ, pos, ◌+ℤ◌, ◌-ℤ◌, ◌<ℤ◌, ◌≤ℤ◌}
use Rattle.std.proofs.Common.{unsigned_abs, List, [], ◌∷◌, ◌++◌, length, get_or, refl, sym, ap, ◌∙◌, arith, not-suc-le-zero, le_of_suc-le-suc}
use Rattle.std.proofs.Common.{length-append}
use Rattle.std.specs.List.{Contains}
use Rattle.std.proofs.lemmas.Int.{ints}
use Rattle.std.proofs.lemmas.Bool.{both_ways, or_cases, or_left, or_right}
use Rattle.std.proofs.lemmas.List.Elements.{Contains-append_left, Contains-append_right, Contains-append_cases}
use Rattle.cs_ranges.specs.declared.range_set.Interval.{Interval}
use Rattle.cs_ranges.specs.Interval.{in_interval}
use Rattle.cs_ranges.specs.RangeSet.{contains, IsSpread, IsSpreadFrom, IsCount}
use Rattle.cs_ranges.proofs.Members.{in_interval_yields, contains-nil, contains-cons}

-- this many numbers, one after the other from x
unfoldable pub numbers_from : ℤ → ℕ → List ℤ
numbers_from x zero = []
numbers_from x (suc n) = x ∷ numbers_from (x +ℤ pos 1) n

-- how many numbers an interval has
abbrev pub size_of : Interval → ℕ
size_of i = unsigned_abs (i.high -ℤ i.low) + 1

-- the numbers of the intervals
unfoldable pub numbers_of : List Interval → List ℤ
numbers_of [] = []
numbers_of (i ∷ s) = numbers_from i.low (size_of i) ++ numbers_of s

-- how many these are
unfoldable pub total_size : List Interval → ℕ
total_size [] = 0
total_size (i ∷ s) = size_of i + total_size s

pub total_size-nil : total_size [] ≡ 0
unfolding total_size
total_size-nil = refl

pub total_size-cons : (i : Interval) (s : List Interval) → total_size (i ∷ s) ≡ size_of i + total_size s
unfolding total_size
total_size-cons i s = refl

length-numbers_from : (x : ℤ) (n : ℕ) → length (numbers_from x n) ≡ n
unfolding numbers_from
length-numbers_from x zero = refl
length-numbers_from x (suc n) = ap suc (length-numbers_from (x +ℤ pos 1) n)

length-numbers_of : (s : List Interval) → length (numbers_of s) ≡ total_size s
unfolding numbers_of total_size
length-numbers_of [] = refl
length-numbers_of (i ∷ s) =
    omega (arith, length-append (numbers_from i.low (size_of i)) (numbers_of s), length-numbers_from i.low (size_of i), length-numbers_of s)

-- a spread list has few enough numbers
pub total_size-bound : (b : ℤ) (s : List Interval) → IsSpreadFrom b s → b ≤ℤ pos (2 ^ 126 + 3)
    → (pos (total_size s) +ℤ b) ≤ℤ pos (2 ^ 126 + 3)
unfolding total_size
total_size-bound b [] h le = omega (arith, ints)
total_size-bound b (i ∷ s) h le =
    let rest = total_size-bound (i.high +ℤ pos 2) s h.3 (omega (arith, ints, h.2)) in
    omega (arith, ints, rest, h.0, h.1)

-- each number is at least the bound and the one before it
abbrev Rises : ℤ → List ℤ → Type 0
Rises b [] = Unit {0}
Rises b (x ∷ xs) = (b ≤ℤ x) × Rises (x +ℤ pos 1) xs

Rises-weaker : (b c : ℤ) (xs : List ℤ) → c ≤ℤ b → Rises b xs → Rises c xs
Rises-weaker b c [] le h = tt
Rises-weaker b c (x ∷ xs) le h = (omega (arith, ints, h.0), h.1)

Rises-from : (b x : ℤ) (n : ℕ) (xs : List ℤ) → b ≤ℤ x → Rises (x +ℤ pos n) xs → Rises b (numbers_from x n ++ xs)
unfolding numbers_from
Rises-from b x zero xs le h = Rises-weaker _ b xs (omega (arith, ints)) h
Rises-from b x (suc n) xs le h =
    (le, Rises-from (x +ℤ pos 1) (x +ℤ pos 1) n xs (omega (arith, ints)) (Rises-weaker _ _ xs (omega (arith, ints)) h))

Rises-numbers_of : (b : ℤ) (s : List Interval) → IsSpreadFrom b s → Rises b (numbers_of s)
unfolding numbers_of
Rises-numbers_of b [] h = tt
Rises-numbers_of b (i ∷ s) h =
    Rises-from b i.low (size_of i) (numbers_of s) h.0
    (Rises-weaker _ _ (numbers_of s) (omega (arith, ints, h.1)) (Rises-numbers_of (i.high +ℤ pos 2) s h.3))

Rises-at : (b : ℤ) (xs : List ℤ) (k : ℕ) (d : ℤ) → Rises b xs → k < length xs → b ≤ℤ get_or xs k d
Rises-at b [] k d h lt = absurd (not-suc-le-zero lt)
Rises-at b (x ∷ xs) zero d h lt = h.0
Rises-at b (x ∷ xs) (suc k) d h lt =
    omega (arith, ints, Rises-at (x +ℤ pos 1) xs k d h.1 (le_of_suc-le-suc lt), h.0)

Rises-differ : (b : ℤ) (xs : List ℤ) (j k : ℕ) (d : ℤ) → Rises b xs → j < k → k < length xs → get_or xs j d <ℤ get_or xs k d
Rises-differ b [] j k d h jk lt = absurd (not-suc-le-zero lt)
Rises-differ b (x ∷ xs) j zero d h jk lt = absurd (not-suc-le-zero jk)
Rises-differ b (x ∷ xs) zero (suc k) d h jk lt =
    omega (arith, ints, Rises-at (x +ℤ pos 1) xs k d h.1 (le_of_suc-le-suc lt))
Rises-differ b (x ∷ xs) (suc j) (suc k) d h jk lt =
    Rises-differ (x +ℤ pos 1) xs j k d h.1 (le_of_suc-le-suc jk) (le_of_suc-le-suc lt)

get_or-numbers_from : (x : ℤ) (n k : ℕ) (d : ℤ) → k < n → get_or (numbers_from x n) k d ≡ x +ℤ pos k
unfolding numbers_from
get_or-numbers_from x zero k d lt = absurd (not-suc-le-zero lt)
get_or-numbers_from x (suc n) zero d lt = omega (arith, ints)
get_or-numbers_from x (suc n) (suc k) d lt =
    get_or-numbers_from (x +ℤ pos 1) n k d (le_of_suc-le-suc lt) ∙ omega (arith, ints)

Contains-numbers_from : (i : Interval) (x : ℤ) → i.low ≤ℤ i.high → in_interval i x ≡ true → Contains (numbers_from i.low (size_of i)) x
Contains-numbers_from i x le h =
    let k = unsigned_abs (x -ℤ i.low) in
    let inside : (i.low ≤ℤ x) × (x ≤ℤ i.high) = grind (arith, in_interval_yields i x) in
    let lt : k < size_of i = omega (arith, ints, inside.0, inside.1) in
    (k, omega (arith, length-numbers_from i.low (size_of i)), get_or-numbers_from i.low (size_of i) k x lt ∙ omega (arith, ints, inside.0))

in_interval-from_Contains : (i : Interval) (x : ℤ) → i.low ≤ℤ i.high → Contains (numbers_from i.low (size_of i)) x → in_interval i x ≡ true
in_interval-from_Contains i x le h =
    let lt : h.0 < size_of i = omega (arith, h.1, length-numbers_from i.low (size_of i)) in
    let is : x ≡ i.low +ℤ pos h.0 = sym h.2 ∙ get_or-numbers_from i.low (size_of i) h.0 x lt in
    grind (arith, ints, in_interval_yields i x)

Contains-numbers_of : (b : ℤ) (s : List Interval) (x : ℤ) → IsSpreadFrom b s → contains s x ≡ true → Contains (numbers_of s) x
unfolding numbers_of
Contains-numbers_of b [] x h t = absurd (both_ways _ (contains-nil x) t)
Contains-numbers_of b (i ∷ s) x h t = elim (or_cases _ _ (sym (contains-cons i s x) ∙ t)) [
  | inl in_i ↦ Contains-append_left _ (numbers_of s) x (Contains-numbers_from i x h.1 in_i)
  | inr in_s ↦ Contains-append_right (numbers_from i.low (size_of i)) _ x (Contains-numbers_of (i.high +ℤ pos 2) s x h.3 in_s)
]

contains-from_Contains : (b : ℤ) (s : List Interval) (x : ℤ) → IsSpreadFrom b s → Contains (numbers_of s) x → contains s x ≡ true
unfolding numbers_of
contains-from_Contains b [] x h t = absurd (not-suc-le-zero t.1)
contains-from_Contains b (i ∷ s) x h t = elim (Contains-append_cases (numbers_from i.low (size_of i)) (numbers_of s) x t) [
  | inl in_i ↦ contains-cons i s x ∙ or_left _ _ (in_interval-from_Contains i x h.1 in_i)
  | inr in_s ↦ contains-cons i s x ∙ or_right _ _ (contains-from_Contains (i.high +ℤ pos 2) s x h.3 in_s)
]

pub IsCount-total_size : (s : List Interval) → IsSpread s → IsCount s (total_size s)
IsCount-total_size s h = record {
  numbers = numbers_of s;
  members = λ x. (Contains-numbers_of _ s x h, contains-from_Contains _ s x h);
  differ = λ j k d jk lt e. absurd (omega (arith, ints, Rises-differ _ (numbers_of s) j k d (Rises-numbers_of _ s h) jk lt));
  count = length-numbers_of s;
}
