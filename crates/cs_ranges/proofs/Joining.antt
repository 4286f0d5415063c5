-- The numbers of either of two lists, while the interval that begins first is removed in turn: for `union` and `push_all`.
use Rattle.std.proofs.Common.{◌≡◌, ◌⊎◌, Bool, true, false, ◌||◌, inl, inr, ℤ, ◌<ℤ◌, ◌≤ℤ◌, List, [], ◌∷◌, refl, sym, ap}
use Rattle.std.proofs.Common.{◌∙◌, arith}
use Rattle.std.proofs.lemmas.Int.{ints}
use Rattle.cs_ranges.specs.declared.range_set.Interval.{Interval}
use Rattle.cs_ranges.specs.Interval.{in_interval}
use Rattle.cs_ranges.specs.RangeSet.{contains, IsSpread, IsSpreadFrom, last_low}
use Rattle.cs_ranges.proofs.Members.{contains-nil, contains-cons, or_assoc, or-false}
use Rattle.cs_ranges.proofs.Spread.{IsSpreadFrom-weaker, last_low_or-nil}

-- an interval and the rest after it, from where it begins
from_low : (bound n : ℤ) (i : Interval) (rest : List Interval) → IsSpreadFrom bound (i ∷ rest) → n ≤ℤ i.low → IsSpreadFrom n (i ∷ rest)
from_low bound n i rest h le = (le, h.1, h.2, h.3)

from_rest : (bound n : ℤ) (i : Interval) (rest : List Interval) → IsSpreadFrom bound (i ∷ rest) → n ≤ℤ i.low → IsSpreadFrom n rest
from_rest bound n i rest h le = IsSpreadFrom-weaker _ n rest (omega (arith, ints, h.1)) h.3

-- the union of both sets is found already or in the rest, which comes after what was found
pub record Adds (one other found rest : List Interval) : Type 0 where
  pub spread : IsSpread rest
  pub following : IsSpreadFrom (last_low found) rest
  pub members : (x : ℤ) → (contains found x || contains rest x) ≡ (contains one x || contains other x)

-- the first interval of the rest is added
pub Adds-more : (one other found new rest : List Interval) (i : Interval) → Adds one other found (i ∷ rest)
    → ((x : ℤ) → contains new x ≡ (contains found x || in_interval i x)) → last_low new ≤ℤ i.low → Adds one other new rest
Adds-more one other found new rest i h members last = record {
  spread = from_rest _ _ i rest h.spread h.spread.0;
  following = from_rest _ _ i rest h.spread last;
  members = λ x. ap (λ t. t || contains rest x) (members x)
      ∙ sym (or_assoc (contains found x) (in_interval i x) (contains rest x))
      ∙ ap (λ t. contains found x || t) (sym (contains-cons i rest x))
      ∙ h.members x;
}

-- nothing remains
pub Adds-end : (one other found rest : List Interval) → Adds one other found rest → rest ≡ []
    → (x : ℤ) → contains found x ≡ (contains one x || contains other x)
Adds-end one other found rest h e x =
    sym (ap (λ t. contains found x || t) (ap (λ l. contains l x) e ∙ contains-nil x) ∙ or-false _) ∙ h.members x

-- the same for two rests, of which neither begins before what was found
pub record Joins (one other found left right : List Interval) : Type 0 where
  pub left_spread : IsSpread left
  pub right_spread : IsSpread right
  pub left_following : IsSpreadFrom (last_low found) left
  pub right_after : IsSpreadFrom (last_low found) right
  pub members : (x : ℤ) → (contains found x || (contains left x || contains right x)) ≡ (contains one x || contains other x)

pub Joins-start : (one other : List Interval) → IsSpread one → IsSpread other → Joins one other [] one other
Joins-start one other h k = record {
  left_spread = h;
  right_spread = k;
  left_following = rw last_low_or-nil h;
  right_after = rw last_low_or-nil k;
  members = λ x. rw contains-nil;
}

move_left : (f a l r : Bool) → ((f || a) || (l || r)) ≡ (f || ((a || l) || r))
move_left true a l r = refl
move_left false true l r = refl
move_left false false l r = refl

move_right : (f b l r : Bool) → ((f || b) || (l || r)) ≡ (f || (l || (b || r)))
move_right true b l r = refl
move_right false true true r = refl
move_right false true false r = refl
move_right false false l r = refl

-- the left rest begins first
pub Joins-left : (one other found new left right : List Interval) (a b : Interval) → Joins one other found (a ∷ left) (b ∷ right) → a.low <ℤ b.low
    → ((x : ℤ) → contains new x ≡ (contains found x || in_interval a x)) → last_low new ≤ℤ a.low → Joins one other new left (b ∷ right)
Joins-left one other found new left right a b h lt members last = record {
  left_spread = from_rest _ _ a left h.left_spread h.left_spread.0;
  right_spread = h.right_spread;
  left_following = from_rest _ _ a left h.left_spread last;
  right_after = from_low _ _ b right h.right_spread (omega (arith, ints));
  members = λ x. ap (λ t. t || (contains left x || contains (b ∷ right) x)) (members x)
      ∙ move_left (contains found x) (in_interval a x) (contains left x) (contains (b ∷ right) x)
      ∙ ap (λ t. contains found x || (t || contains (b ∷ right) x)) (sym (contains-cons a left x))
      ∙ h.members x;
}

-- the right rest begins first, or both at one number
pub Joins-right : (one other found new left right : List Interval) (a b : Interval) → Joins one other found (a ∷ left) (b ∷ right) → b.low ≤ℤ a.low
    → ((x : ℤ) → contains new x ≡ (contains found x || in_interval b x)) → last_low new ≤ℤ b.low → Joins one other new (a ∷ left) right
Joins-right one other found new left right a b h le members last = record {
  left_spread = h.left_spread;
  right_spread = from_rest _ _ b right h.right_spread h.right_spread.0;
  left_following = from_low _ _ a left h.left_spread (omega (arith, ints));
  right_after = from_rest _ _ b right h.right_spread last;
  members = λ x. ap (λ t. t || (contains (a ∷ left) x || contains right x)) (members x)
      ∙ move_right (contains found x) (in_interval b x) (contains (a ∷ left) x) (contains right x)
      ∙ ap (λ t. contains found x || (contains (a ∷ left) x || t)) (sym (contains-cons b right x))
      ∙ h.members x;
}

-- both rests are added, one of which is empty
pub Joins-end : (one other found more all left right : List Interval) → Joins one other found left right
    → ((x : ℤ) → contains more x ≡ (contains found x || contains left x)) → ((x : ℤ) → contains all x ≡ (contains more x || contains right x))
    → (x : ℤ) → contains all x ≡ (contains one x || contains other x)
Joins-end one other found more all left right h with_left with_right x =
    with_right x ∙ ap (λ t. t || contains right x) (with_left x)
    ∙ sym (or_assoc (contains found x) (contains left x) (contains right x)) ∙ h.members x

-- the right rest comes after what was found and after the left rest
pub Joins-following : (one other found more left right : List Interval) → Joins one other found left right → (left ≡ [] → more ≡ found)
    → (left ≡ []) ⊎ (right ≡ []) → IsSpreadFrom (last_low more) right
Joins-following one other found more left right h kept used = elim used [
  | inl left_used ↦ rw (kept left_used) h.right_after
  | inr right_used ↦ rw right_used tt
]
