-- The numbers at which a line has values in a set, interval by interval: for `Line::preimage`.
use Rattle.std.proofs.Common.{◌≡◌, Bool, true, false, ◌||◌, ◌&&◌, ℤ, ◌<ℤ◌, ◌≤ℤ◌, int_le, List, [], ◌∷◌, refl, sym, ap}
use Rattle.std.proofs.Common.{ap₂, ◌∙◌, arith}
use Rattle.std.proofs.lemmas.Int.{ints}
use Rattle.std.proofs.lemmas.Bool.{false≢true, and_right, or_left, or_right}
use Rattle.cs_ranges.specs.declared.range_set.Interval.{Interval}
use Rattle.cs_ranges.specs.declared.range_set.affine.Line.{Line}
use Rattle.cs_ranges.specs.Interval.{IsProper, in_interval}
use Rattle.cs_ranges.specs.Line.{is_over, value_of, IsPreimage}
use Rattle.cs_ranges.specs.RangeSet.{contains, IsSpread, last_low}
use Rattle.cs_ranges.proofs.Lines.{over_yields}
use Rattle.cs_ranges.proofs.Members.{in_interval_yields, in_interval-low, in_interval-none, contains-nil, contains-cons, or-false}
use Rattle.cs_ranges.proofs.Spread.{IsSpreadFrom-weaker, contains-from, last_low_or-nil}

-- the numbers at which the line has a value in the whole set were found already or are those for the rest, which come after those found
pub record Draws (line : Line) (whole found rest : List Interval) : Type 0 where
  pub spread : IsSpread rest
  pub following : (s : ℤ) → is_over line s ≡ true → contains rest (value_of line s) ≡ true → last_low found ≤ℤ s
  pub members : (s : ℤ) → (contains found s || (is_over line s && contains rest (value_of line s))) ≡ (is_over line s && contains whole (value_of line s))

pub Draws-start : (line : Line) (set : List Interval) → IsSpread set → Draws line set [] set
Draws-start line set h = record {
  spread = h;
  following = λ s over t.
      let within = over_yields line.first line.last s over in
      rw last_low_or-nil (omega (arith, ints, line.over, within.0));
  members = λ s. rw contains-nil;
}

in_interval-is : (i : Interval) (x : ℤ) → in_interval i x ≡ (int_le i.low x && int_le x i.high)
unfolding in_interval
in_interval-is i x = refl

same_test : (line : Line) (i j : Interval) (s : ℤ) → IsPreimage line i j → is_over line s ≡ true → in_interval i (value_of line s) ≡ in_interval j s
same_test line i j s h over =
    in_interval-is i (value_of line s) ∙ ap₂ ◌&&◌ (h.lows s over) (h.highs s over) ∙ sym (in_interval-is j s)

pub is_over-within : (line : Line) (s : ℤ) → line.first ≤ℤ s → s ≤ℤ line.last → is_over line s ≡ true
is_over-within line s from upto = grind (arith, ints)

-- the line is over each number of the interval
over_interval : (line : Line) (i j : Interval) (s : ℤ) → IsPreimage line i j → in_interval j s ≡ true → is_over line s ≡ true
over_interval line i j s h t =
    let within : (j.low ≤ℤ s) × (s ≤ℤ j.high) = grind (arith, in_interval_yields j s) in
    is_over-within line s (omega (arith, ints, h.from, within.0)) (omega (arith, ints, h.upto, within.1))

-- the numbers are inside the bounds
pub IsProper-numbers : (line : Line) (i j : Interval) → IsPreimage line i j → j.low ≤ℤ j.high → IsProper j
IsProper-numbers line i j h le = record {
  from = omega (arith, ints, h.from, line.over);
  ordered = le;
  upto = omega (arith, ints, h.upto, line.over);
}

pub Draws-following : (line : Line) (whole found rest : List Interval) (i j : Interval) → Draws line whole found (i ∷ rest) → IsPreimage line i j
    → j.low ≤ℤ j.high → last_low found ≤ℤ j.low
Draws-following line whole found rest i j h a le =
    let has = in_interval-low j le in
    let over = over_interval line i j j.low a has in
    h.following j.low over (contains-cons i rest _ ∙ or_left _ _ (same_test line i j j.low a over ∙ has))

moved : (f o n r : Bool) (m : Bool) → (n ≡ true → o ≡ true) → (o ≡ true → m ≡ n) → ((f || n) || (o && r)) ≡ (f || (o && (m || r)))
moved true o n r m p q = refl
moved false true n r m p q = ap (λ b. b || r) (sym (q refl))
moved false false true r m p q = absurd (false≢true (p refl))
moved false false false r m p q = refl

int_le-yields : (x y : ℤ) → int_le x y ≡ true → x ≤ℤ y
int_le-yields x y h = grind (arith, ints)

-- the numbers for the first interval of the rest are added
pub Draws-more : (line : Line) (whole found new rest : List Interval) (i j : Interval) → Draws line whole found (i ∷ rest) → IsPreimage line i j
    → ((s : ℤ) → contains new s ≡ (contains found s || in_interval j s)) → last_low new ≤ℤ j.low → Draws line whole new rest
Draws-more line whole found new rest i j h a members last =
    let spread = h.spread in
    record {
      spread = IsSpreadFrom-weaker _ _ rest (omega (arith, ints, spread.0, spread.1)) spread.3;
      following = λ s over t.
          let high = contains-from _ rest (value_of line s) spread.3 t in
          let reached : int_le i.low (value_of line s) ≡ true = grind (arith, ints, spread.1) in
          let low : j.low ≤ℤ s = int_le-yields _ _ (sym (a.lows s over) ∙ reached) in
          omega (arith, ints, low, last);
      members = λ s. ap (λ t. t || (is_over line s && contains rest (value_of line s))) (members s)
          ∙ moved (contains found s) (is_over line s) (in_interval j s) (contains rest (value_of line s)) (in_interval i (value_of line s))
          (over_interval line i j s a) (same_test line i j s a)
          ∙ ap (λ t. contains found s || (is_over line s && t)) (sym (contains-cons i rest (value_of line s)))
          ∙ h.members s;
    }

-- there are no numbers for the first interval of the rest
pub Draws-skip : (line : Line) (whole found rest : List Interval) (i j : Interval) → Draws line whole found (i ∷ rest) → IsPreimage line i j
    → j.high <ℤ j.low → Draws line whole found rest
Draws-skip line whole found rest i j h a lt =
    let spread = h.spread in
    let none = λ (s : ℤ). in_interval-none j s lt in
    record {
      spread = IsSpreadFrom-weaker _ _ rest (omega (arith, ints, spread.0, spread.1)) spread.3;
      following = λ s over t. h.following s over (contains-cons i rest _ ∙ or_right _ _ t);
      members = λ s. ap (λ t. t || (is_over line s && contains rest (value_of line s))) (sym (ap (λ b. contains found s || b) (none s) ∙ or-false _))
          ∙ moved (contains found s) (is_over line s) (in_interval j s) (contains rest (value_of line s)) (in_interval i (value_of line s))
          (over_interval line i j s a) (same_test line i j s a)
          ∙ ap (λ t. contains found s || (is_over line s && t)) (sym (contains-cons i rest (value_of line s)))
          ∙ h.members s;
    }

pub Draws-end : (line : Line) (whole found rest : List Interval) → Draws line whole found rest → rest ≡ []
    → (s : ℤ) → contains found s ≡ (is_over line s && contains whole (value_of line s))
Draws-end line whole found rest h e s =
    sym (ap (λ t. contains found s || t) (and_right (is_over line s) _ (ap (λ l. contains l (value_of line s)) e ∙ contains-nil _)) ∙ or-false _)
    ∙ h.members s
