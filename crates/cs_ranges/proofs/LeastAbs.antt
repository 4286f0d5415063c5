-- The number nearest to zero, interval by interval: for `least_abs`.
use Rattle.std.proofs.Common.{◌≡◌, ◌⊎◌, true, inl, inr, ℤ, List, [], ◌∷◌, ◌++◌, sym, ap, ◌∙◌, arith}
use Rattle.std.proofs.lemmas.Int.{ints}
use Rattle.std.proofs.lemmas.Bool.{or_cases, or_left, or_right}
use Rattle.cs_ranges.specs.declared.range_set.Interval.{Interval}
use Rattle.cs_ranges.specs.Interval.{in_interval}
use Rattle.cs_ranges.specs.RangeSet.{contains, IsNearest, IsLeastAbs}
use Rattle.cs_ranges.proofs.Members.{contains-push, contains-single}

IsNearest-trans : (x y z : ℤ) → IsNearest x y → IsNearest y z → IsNearest x z
IsNearest-trans x y z p q = grind (arith, ints)

-- for the first interval
pub IsLeastAbs-first : (i : Interval) (x : ℤ) → in_interval i x ≡ true → ((y : ℤ) → in_interval i y ≡ true → IsNearest x y)
    → IsLeastAbs (i ∷ []) x
IsLeastAbs-first i x h near = record {
  member = contains-single i x ∙ h;
  nearest = λ y t. near y (sym (contains-single i y) ∙ t);
}

-- for one interval more: r is the nearer one of found and x
pub IsLeastAbs-push : (s : List Interval) (i : Interval) (found x r : ℤ) → IsLeastAbs s found → in_interval i x ≡ true
    → ((y : ℤ) → in_interval i y ≡ true → IsNearest x y) → (r ≡ found) ⊎ (r ≡ x) → IsNearest r found → IsNearest r x
    → IsLeastAbs (s ++ i ∷ []) r
IsLeastAbs-push s i found x r h has near one p q = record {
  member = elim one [
    | inl e ↦ contains-push s i r ∙ or_left _ _ (ap (contains s) e ∙ h.member)
    | inr e ↦ contains-push s i r ∙ or_right _ _ (ap (in_interval i) e ∙ has)
  ];
  nearest = λ y t. elim (or_cases _ _ (sym (contains-push s i y) ∙ t)) [
    | inl in_s ↦ IsNearest-trans r found y p (h.nearest y in_s)
    | inr in_i ↦ IsNearest-trans r x y q (near y in_i)
  ];
}
