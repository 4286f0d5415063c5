use Rattle.std.proofs.Common.{◌≡◌, ◌<◌, ◌≤◌, ℕ, Bool, true, false, ℤ, pos, ◌<ℤ◌, ◌≤ℤ◌, int_lt, int_le, to_z, of_z, List}
use Rattle.std.proofs.Common.{length, get_or, sym, ap, ◌∙◌, subst, arith, rules, FitsSigned}
use Rattle.std.specs.Int.{w128}
use Rattle.std.specs.List.Sorted.{IsPartitionedBy, IsPartitionPoint}
use Rattle.std.proofs.lemmas.Int.{ints, to_z-of_z}
use Rattle.std.proofs.lemmas.Bool.{le-ltb}
use Rattle.std.proofs.lemmas.List.Sorted.{IsPartitionPoint-from_clause}
use Rattle.cs_ranges.specs.declared.range_set.Interval.{Interval}
use Rattle.cs_ranges.specs.RangeSet.{contains, IsSpread}
use Rattle.cs_ranges.proofs.Search.{IsSpreadFrom-rises, contains-past, contains-at}
use Rattle.cs_ranges.proofs.Spread.{IsSpreadFrom-at}
use Rattle.cs_ranges.proofs.range_set.RangeSet.contains.Goals as goal

-- the test of the search, as the closure computes it: the interval ends below the number
abbrev ends_below : ℤ → Interval → Bool
ends_below x i = int_lt (to_z w128 (of_z w128 i.high)) (to_z w128 (of_z w128 x))

ends_below-is : (x : ℤ) (s : List Interval) (k : ℕ) (d : Interval) → FitsSigned w128 x → IsSpread s → k < length s
    → ends_below x (get_or s k d) ≡ int_lt (get_or s k d).high x
ends_below-is x s k d fits h lt =
    let at = IsSpreadFrom-at _ s k d h lt in
    let high : FitsSigned w128 (get_or s k d).high = omega (arith, ints, at.0, at.1, at.2) in
    rw (to_z-of_z w128 x fits, to_z-of_z w128 _ high)

int_lt-true : (x y : ℤ) → int_lt x y ≡ true → x <ℤ y
int_lt-true x y h = grind (arith, ints)

int_lt-false : (x y : ℤ) → int_lt x y ≡ false → y ≤ℤ x
int_lt-false x y h = grind (arith, ints)

int_lt-mono : (x y z : ℤ) → x ≤ℤ y → int_lt y z ≡ true → int_lt x z ≡ true
int_lt-mono x y z le h = grind (arith, ints)

partitioned : (x : ℤ) (s : List Interval) → FitsSigned w128 x → IsSpread s → IsPartitionedBy (ends_below x) s
partitioned x s fits h = λ i j d le lt t.
    ends_below-is x s i d fits h (omega arith)
    ∙ int_lt-mono _ _ x (IsSpreadFrom-rises _ s i j d h le lt) (sym (ends_below-is x s j d fits h lt) ∙ t)

-- the result of the search
found_at : (x : ℤ) (s : List Interval) (k : ℕ) (d : Interval) → FitsSigned w128 x → IsSpread s
    → IsPartitionPoint (λ i. ends_below x i ≡ true) (λ i. ends_below x i ≡ false) s k → k < length s → contains s x ≡ int_le (get_or s k d).low x
found_at x s k d fits h point lt =
    contains-at _ s k d x h lt
    (λ j below. int_lt-true _ _ (sym (ends_below-is x s j d fits h (omega arith)) ∙ point.0 j d (omega arith) below))
    (int_lt-false _ _ (sym (ends_below-is x s k d fits h lt) ∙ point.1 k d (omega arith) lt))

found_none : (x : ℤ) (s : List Interval) (k : ℕ) (d : Interval) → FitsSigned w128 x → IsSpread s
    → IsPartitionPoint (λ i. ends_below x i ≡ true) (λ i. ends_below x i ≡ false) s k → length s ≤ k → contains s x ≡ false
found_none x s k d fits h point le =
    contains-past s d x (λ j below. int_lt-true _ _ (sym (ends_below-is x s j d fits h below) ∙ point.0 j d (omega arith) (omega arith)))

pub returns-then-at-intervals : goal.returns-then-at-intervals
returns-then-at-intervals c =
    let s = c.as_slice-intervals.result.now in
    let x = c.args.number in
    let zero : Interval = record { low = pos 0; high = pos 0 } in
    let h : IsSpread s = subst IsSpread (sym c.as_slice-intervals.ensures) c.self.invariant in
    let point = IsPartitionPoint-from_clause (ends_below x) s _ c.partition_point-at.ensures.partitioned (partitioned x s c.ranges.number h)
    (λ a r q k. search rules) in
    let k = c.partition_point-at.result in
    let at = IsSpreadFrom-at _ s k zero h c.if-at-intervals.true in
    let low : FitsSigned w128 (get_or s k zero).low = omega (arith, ints, at.0, at.1, at.2) in
    rw (to_z-of_z w128 _ low, to_z-of_z w128 x c.ranges.number)
    (sym (found_at x s k zero c.ranges.number h point c.if-at-intervals.true) ∙ ap (λ l. contains l x) (c.as_slice-intervals.ensures ∙ c.self.view_is))

pub returns-else-at-intervals : goal.returns-else-at-intervals
returns-else-at-intervals c =
    let s = c.as_slice-intervals.result.now in
    let x = c.args.number in
    let h : IsSpread s = subst IsSpread (sym c.as_slice-intervals.ensures) c.self.invariant in
    let point = IsPartitionPoint-from_clause (ends_below x) s _ c.partition_point-at.ensures.partitioned (partitioned x s c.ranges.number h)
    (λ a r q k. search rules) in
    le-ltb _ _ c.if-at-intervals.false
    ∙ sym (ap (λ l. contains l x) (sym (c.as_slice-intervals.ensures ∙ c.self.view_is))
    ∙ found_none x s _ (record { low = pos 0; high = pos 0 }) c.ranges.number h point c.if-at-intervals.false)
