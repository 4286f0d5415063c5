-- The least and the greatest number of a set: for `least` and `greatest`.
use Rattle.std.proofs.Common.{◌<◌, ◌-◌, inl, inr, List, [], ◌∷◌, ◌++◌, length, get_or, refl, sym, ◌∙◌, subst, arith, not-suc-le-zero}
use Rattle.std.proofs.lemmas.Int.{ints}
use Rattle.std.proofs.lemmas.List.{get_or_default}
use Rattle.std.proofs.lemmas.Bool.{or_cases, or_left, or_right}
use Rattle.cs_ranges.specs.declared.range_set.Interval.{Interval}
use Rattle.cs_ranges.specs.RangeSet.{IsSpread, IsLeast, IsGreatest}
use Rattle.cs_ranges.proofs.LastItem.{front_last}
use Rattle.cs_ranges.proofs.Members.{in_interval_yields, in_interval-low, in_interval-high, contains-cons, contains-push}
use Rattle.cs_ranges.proofs.Spread.{IsSpreadFrom-last, contains-from, contains-before_last}

pub IsLeast-first : (s : List Interval) (d : Interval) → 0 < length s → IsSpread s → IsLeast s (get_or s 0 d).low
IsLeast-first [] d lt h = absurd (not-suc-le-zero lt)
IsLeast-first (i ∷ s) d lt h = record {
  member = contains-cons i s i.low ∙ or_left _ _ (in_interval-low i h.1);
  least = λ y t. contains-from i.low (i ∷ s) y (omega (arith, ints), h.1, h.2, h.3) t;
}

-- the greatest number of a list that ends with the interval
IsGreatest-push : (s : List Interval) (i : Interval) → IsSpread (s ++ i ∷ []) → IsGreatest (s ++ i ∷ []) i.high
IsGreatest-push s i h =
    let last = IsSpreadFrom-last _ s i h in
    record {
      member = contains-push s i i.high ∙ or_right _ _ (in_interval-high i last.2);
      greatest = λ y t. elim (or_cases _ _ (sym (contains-push s i y) ∙ t)) [
        | inl in_s ↦ omega (arith, ints, contains-before_last _ s i y h in_s, last.2)
        | inr in_i ↦ grind (arith, ints, in_interval_yields i y)
      ];
    }

pub IsGreatest-last : (s : List Interval) (d : Interval) → 0 < length s → IsSpread s → IsGreatest s (get_or s (length s - 1) d).high
IsGreatest-last s d lt h =
    let i = get_or s (length s - 1) d in
    let split = front_last s (length s) i refl lt (get_or_default s (length s - 1) d i (omega arith)) in
    let P : List Interval → Type 0 = λ l. IsGreatest l i.high in
    subst P (sym split) (IsGreatest-push _ i (subst IsSpread split h))
