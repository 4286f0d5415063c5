-- The gaps before a number and the intervals from there on: for `complement`.
use Rattle.std.proofs.Common.{◌≡◌, ◌^◌, Bool, true, false, ◌||◌, ◌&&◌, not, ℤ, pos, neg_ℤ, ◌+ℤ◌, ◌-ℤ◌, ◌<ℤ◌}
use Rattle.std.proofs.Common.{◌≤ℤ◌, int_le, List, [], ◌∷◌, refl, sym, ap, ◌∙◌, arith, ◌+◌}
use Rattle.std.proofs.lemmas.Int.{ints}
use Rattle.cs_ranges.specs.declared.range_set.Interval.{Interval}
use Rattle.cs_ranges.specs.Interval.{IsInside, in_interval}
use Rattle.cs_ranges.specs.RangeSet.{contains, IsSpread, IsSpreadFrom, last_low}
use Rattle.cs_ranges.proofs.Members.{in_interval_yields, contains-nil, contains-cons}
use Rattle.cs_ranges.proofs.Spread.{IsSpreadFrom-weaker, contains-from, last_low_or-nil}

-- below the number the gaps have what the whole set doesn't have, and from the number on the rest is the whole set
pub record Splits (whole gaps : List Interval) (next : ℤ) (rest : List Interval) : Type 0 where
  pub from : neg_ℤ (pos (2 ^ 126)) ≤ℤ next
  pub upto : next ≤ℤ pos (2 ^ 126 + 1)
  pub following : last_low gaps ≤ℤ next
  pub spread : IsSpreadFrom next rest
  pub members : (x : ℤ) → IsInside x → (contains gaps x || (int_le next x && not (contains rest x))) ≡ not (contains whole x)

at_least : (b : Bool) (x : ℤ) → IsInside x → (int_le (neg_ℤ (pos (2 ^ 126))) x && not b) ≡ not b
at_least b x h = grind (arith, ints)

pub Splits-start : (s : List Interval) → IsSpread s → Splits s [] (neg_ℤ (pos (2 ^ 126))) s
Splits-start s h = record {
  from = omega (arith, ints);
  upto = omega (arith, ints);
  following = rw last_low_or-nil (omega (arith, ints));
  spread = h;
  members = λ x inside. rw contains-nil (at_least (contains s x) x inside);
}

gap_added : (g r : Bool) (i j : Interval) (next n x : ℤ) → (r ≡ true → (i.high +ℤ pos 2) ≤ℤ x) → next <ℤ i.low → i.low ≤ℤ i.high
    → j.low ≡ next → j.high ≡ i.low -ℤ pos 1 → n ≡ i.high +ℤ pos 1
    → ((g || in_interval j x) || (int_le n x && not r)) ≡ (g || (int_le next x && not (in_interval i x || r)))
gap_added true r i j next n x h lt le e f k = refl
gap_added false true i j next n x h lt le e f k = grind (arith, ints, in_interval_yields i x, in_interval_yields j x, h refl)
gap_added false false i j next n x h lt le e f k = grind (arith, ints, in_interval_yields i x, in_interval_yields j x)

no_gap : (g r : Bool) (i : Interval) (next n x : ℤ) → (r ≡ true → (i.high +ℤ pos 2) ≤ℤ x) → next ≡ i.low → i.low ≤ℤ i.high
    → n ≡ i.high +ℤ pos 1 → (g || (int_le n x && not r)) ≡ (g || (int_le next x && not (in_interval i x || r)))
no_gap true r i next n x h e le k = refl
no_gap false true i next n x h e le k = grind (arith, ints, in_interval_yields i x, h refl)
no_gap false false i next n x h e le k = grind (arith, ints, in_interval_yields i x)

-- one interval further, with a gap before it
pub Splits-gap : (whole gaps : List Interval) (next n : ℤ) (i j : Interval) (new rest : List Interval) → Splits whole gaps next (i ∷ rest)
    → ((x : ℤ) → contains new x ≡ (contains gaps x || in_interval j x)) → last_low new ≤ℤ next → next <ℤ i.low → j.low ≡ next
    → j.high ≡ i.low -ℤ pos 1 → n ≡ i.high +ℤ pos 1 → Splits whole new n rest
Splits-gap whole gaps next n i j new rest h members last lt e f k =
    let spread = h.spread in
    record {
      from = omega (arith, ints, h.from, spread.1);
      upto = omega (arith, ints, spread.2);
      following = omega (arith, ints, spread.1);
      spread = IsSpreadFrom-weaker _ _ rest (omega (arith, ints)) spread.3;
      members = λ x inside. ap (λ b. b || (int_le n x && not (contains rest x))) (members x)
          ∙ gap_added (contains gaps x) (contains rest x) i j next n x (contains-from _ rest x spread.3) lt spread.1 e f k
          ∙ ap (λ b. contains gaps x || (int_le next x && not b)) (sym (contains-cons i rest x))
          ∙ h.members x inside;
    }

-- one interval further, without a gap before it
pub Splits-no_gap : (whole gaps : List Interval) (next n : ℤ) (i : Interval) (rest : List Interval) → Splits whole gaps next (i ∷ rest)
    → i.low ≤ℤ next → n ≡ i.high +ℤ pos 1 → Splits whole gaps n rest
Splits-no_gap whole gaps next n i rest h ge k =
    let spread = h.spread in
    record {
      from = omega (arith, ints, h.from, spread.0, spread.1);
      upto = omega (arith, ints, spread.2);
      following = omega (arith, ints, h.following, spread.0, spread.1);
      spread = IsSpreadFrom-weaker _ _ rest (omega (arith, ints)) spread.3;
      members = λ x inside.
          no_gap (contains gaps x) (contains rest x) i next n x (contains-from _ rest x spread.3) (omega (arith, ints, spread.0)) spread.1 k
          ∙ ap (λ b. contains gaps x || (int_le next x && not b)) (sym (contains-cons i rest x))
          ∙ h.members x inside;
    }

last_gap : (g : Bool) (j : Interval) (next x : ℤ) → IsInside x → j.low ≡ next → j.high ≡ pos (2 ^ 126)
    → (g || in_interval j x) ≡ (g || (int_le next x && true))
last_gap true j next x h e f = refl
last_gap false j next x h e f = grind (arith, ints, in_interval_yields j x)

no_last_gap : (g : Bool) (next x : ℤ) → IsInside x → pos (2 ^ 126) <ℤ next → g ≡ (g || (int_le next x && true))
no_last_gap true next x h lt = refl
no_last_gap false next x h lt = grind (arith, ints)

-- after the last interval, with a gap up to 2^126
pub Splits-last_gap : (whole gaps : List Interval) (next : ℤ) (j : Interval) (new : List Interval) → Splits whole gaps next []
    → ((x : ℤ) → contains new x ≡ (contains gaps x || in_interval j x)) → j.low ≡ next → j.high ≡ pos (2 ^ 126) → (x : ℤ) → IsInside x
    → contains new x ≡ not (contains whole x)
Splits-last_gap whole gaps next j new h members e f x inside =
    members x ∙ last_gap (contains gaps x) j next x inside e f
    ∙ ap (λ b. contains gaps x || (int_le next x && not b)) (sym (contains-nil x)) ∙ h.members x inside

-- after the last interval, without a gap up to 2^126
pub Splits-no_last_gap : (whole gaps : List Interval) (next : ℤ) → Splits whole gaps next [] → pos (2 ^ 126) <ℤ next → (x : ℤ) → IsInside x
    → contains gaps x ≡ not (contains whole x)
Splits-no_last_gap whole gaps next h lt x inside =
    no_last_gap (contains gaps x) next x inside lt
    ∙ ap (λ b. contains gaps x || (int_le next x && not b)) (sym (contains-nil x)) ∙ h.members x inside
