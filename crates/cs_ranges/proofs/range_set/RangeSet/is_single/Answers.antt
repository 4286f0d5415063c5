use Rattle.std.proofs.Common.{◌≡◌, ◌≢◌, ◌⊎◌, true, inl, inr, pos, List, [], ◌∷◌, length, get_or, sym, ap, ◌∙◌, subst, arith}
use Rattle.std.proofs.Common.{FitsSigned, of_z}
use Rattle.std.specs.Int.{w128}
use Rattle.std.proofs.lemmas.Bool.{or_left, or_right}
use Rattle.std.proofs.lemmas.Int.{ints, to_z-of_z}
use Rattle.cs_ranges.specs.declared.range_set.Interval.{Interval}
use Rattle.cs_ranges.specs.Interval.{in_interval}
use Rattle.cs_ranges.specs.RangeSet.{IsEmpty, IsSpread, IsOnly, HasTwo}
use Rattle.cs_ranges.proofs.Members.{contains-nil, contains-cons, contains-single, in_interval_yields, in_interval-low, in_interval-high}
use Rattle.cs_ranges.proofs.Spread.{IsSpreadFrom-at}
use Rattle.cs_ranges.proofs.range_set.RangeSet.is_single.Goals as goal

-- one interval with equal ends has one number
IsOnly-single : (s : List Interval) (d : Interval) → length s ≡ 1 → (get_or s 0 d).low ≡ (get_or s 0 d).high → IsSpread s
    → IsOnly s (get_or s 0 d).low
IsOnly-single [] d len e h = absurd (omega arith)
IsOnly-single (i ∷ j ∷ s) d len e h = absurd (omega arith)
IsOnly-single (i ∷ []) d len e h = record {
  member = contains-single i i.low ∙ in_interval-low i h.1;
  alone = λ y t.
      let in_i : in_interval i y ≡ true = sym (contains-single i y) ∙ t in
      grind (arith, ints, in_interval_yields i y);
}

-- every other list of intervals has no number or two
HasTwo-other : (s : List Interval) (d : Interval) → (length s ≡ 1 → (get_or s 0 d).low ≢ (get_or s 0 d).high) → IsSpread s → IsEmpty s ⊎ HasTwo s
HasTwo-other [] d other h = inl contains-nil
HasTwo-other (i ∷ []) d other h = inr (record {
  one = i.low;
  another = i.high;
  differ = other (omega arith);
  one_is_member = contains-single i i.low ∙ in_interval-low i h.1;
  another_is_member = contains-single i i.high ∙ in_interval-high i h.1;
})
HasTwo-other (i ∷ j ∷ s) d other h = inr (record {
  one = i.low;
  another = j.low;
  differ = λ e. absurd (omega (arith, ints, h.1, h.3.0));
  one_is_member = contains-cons i (j ∷ s) i.low ∙ or_left _ _ (in_interval-low i h.1);
  another_is_member = contains-cons i (j ∷ s) j.low ∙ or_right _ _ (contains-cons j s j.low ∙ or_left _ _ (in_interval-low j h.3.1));
})

pub returns-in-len1 : goal.returns-in-len1
returns-in-len1 c =
    let s = c.as_slice.result.now in
    let h : IsSpread s = subst IsSpread (sym c.as_slice.ensures) c.self.invariant in
    let d : Interval = record { low = pos 0; high = pos 0 } in
    let at = IsSpreadFrom-at _ s 0 d h (omega arith) in
    let low : FitsSigned w128 (get_or s 0 d).low = omega (arith, ints, at.0, at.1, at.2) in
    rw (← c.self.view_is, ← c.as_slice.ensures, to_z-of_z w128 _ low)
    (IsOnly-single s d (omega arith) (omega (arith, ints, at.0, at.1, at.2)) h)

pub returns-in_default : goal.returns-in_default
returns-in_default c =
    rw (← c.self.view_is, ← c.as_slice.ensures)
    (HasTwo-other _ (record { low = pos 0; high = pos 0 }) (λ len. absurd (omega arith)) (subst IsSpread (sym c.as_slice.ensures) c.self.invariant))

pub returns-in_default-2 : goal.returns-in_default-2
returns-in_default-2 c =
    rw (← c.self.view_is, ← c.as_slice.ensures)
    (HasTwo-other _ (record { low = pos 0; high = pos 0 }) (λ len e. c.if-only.false (ap (of_z w128) e))
    (subst IsSpread (sym c.as_slice.ensures) c.self.invariant))

pub returns-in_default-3 : goal.returns-in_default-3
returns-in_default-3 c =
    rw (← c.self.view_is, ← c.as_slice.ensures)
    (HasTwo-other _ (record { low = pos 0; high = pos 0 }) (λ len. absurd (omega arith)) (subst IsSpread (sym c.as_slice.ensures) c.self.invariant))
