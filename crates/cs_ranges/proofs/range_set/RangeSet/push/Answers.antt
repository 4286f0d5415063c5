use Rattle.std.proofs.Common.{◌≡◌, ◌-◌, ◌<◌, ◌≤◌, ◌<ℤ◌, ℕ, Bool, true, false, ◌||◌, ℤ, ◌≤ℤ◌, ◌+ℤ◌, pos, List}
use Rattle.std.proofs.Common.{[], ◌∷◌, ◌++◌, length, take, get_or, refl, sym}
use Rattle.std.proofs.Common.{ap, ◌∙◌, subst, arith, to_z, of_z, FitsSigned}
use Rattle.std.specs.Int.{int_max, w128}
use Rattle.std.proofs.lemmas.Int.{ints, clamps, to_z-of_z}
use Rattle.std.proofs.lemmas.List.{nil_from_length, get_or_default}
use Rattle.cs_ranges.specs.declared.range_set.Interval.{Interval}
use Rattle.cs_ranges.specs.Interval.{IsProper, in_interval}
use Rattle.cs_ranges.specs.RangeSet.{contains, IsSpread, last_low}
use Rattle.cs_ranges.proofs.LastItem.{front_last}
use Rattle.cs_ranges.proofs.Members.{contains-push, in_interval_yields}
use Rattle.cs_ranges.proofs.Spread.{IsSpreadFrom-at, IsSpreadFrom-replace_last, IsSpreadFrom-push, last_low_or-push}
use Rattle.cs_ranges.proofs.range_set.RangeSet.push.Goals.{then-len-gt0+else-interval-last, else-len-gt0}
use Rattle.cs_ranges.proofs.range_set.RangeSet.push.Goals as goal

abbrev zero : Interval
zero = record { low = pos 0; high = pos 0 }

-- the last interval of a list of this length
abbrev last_of : List Interval → ℕ → Interval
last_of s n = get_or s (n - 1) zero

split_last : (s : List Interval) (n : ℕ) → n ≡ length s → 0 < n → s ≡ take (length s - 1) s ++ last_of s n ∷ []
split_last s n len some =
    front_last s n (last_of s n) len some (get_or_default s (n - 1) zero (last_of s n) (omega arith))
    ∙ ap (λ k. take (k - 1) s ++ last_of s n ∷ []) len

-- the last interval has a number, and is inside the bounds
last_is : (s : List Interval) (n : ℕ) → n ≡ length s → 0 < n → IsSpread s → IsProper (last_of s n)
last_is s n len some h =
    let at = IsSpreadFrom-at _ s (n - 1) zero h (omega arith) in
    record { from = at.0; ordered = at.1; upto = at.2 }

-- two intervals that overlap or touch have what their hull has
hull : (b : Bool) (last i j : Interval) (x : ℤ) → last.low ≤ℤ i.low → last.low ≤ℤ last.high → i.low ≤ℤ (last.high +ℤ pos 1)
    → j.low ≡ last.low → j.high ≡ int_max last.high i.high → (b || in_interval j x) ≡ ((b || in_interval last x) || in_interval i x)
hull true last i j x p q r e f = refl
hull false last i j x p q r e f =
    grind (arith, ints, clamps, in_interval_yields last x, in_interval_yields i x, in_interval_yields j x)

-- the interval begins at the last one of the list or after it, and touches it
record Touches (s : List Interval) (n : ℕ) (i : Interval) : Type 0 where
  len : n ≡ length s
  some : 0 < n
  spread : IsSpread s
  proper : IsProper i
  following : last_low s ≤ℤ i.low
  touching : i.low ≤ℤ ((last_of s n).high +ℤ pos 1)

-- the list with the hull of both as its last interval
record IsJoined (s : List Interval) (n : ℕ) (i j : Interval) (new : List Interval) : Type 0 where
  low : j.low ≡ (last_of s n).low
  high : j.high ≡ int_max (last_of s n).high i.high
  items : new ≡ take (length s - 1) s ++ j ∷ []

last_low-is : (s : List Interval) (n : ℕ) → n ≡ length s → 0 < n → last_low s ≡ (last_of s n).low
last_low-is s n len some = ap last_low (split_last s n len some) ∙ last_low_or-push _ _ _

joined_spread : (s : List Interval) (n : ℕ) (i j : Interval) (new : List Interval) → Touches s n i → IsJoined s n i j new → IsSpread new
joined_spread s n i j new h e =
    let last = last_is s n h.len h.some h.spread in
    subst IsSpread (sym e.items) (IsSpreadFrom-replace_last _ _ (last_of s n) j (subst IsSpread (split_last s n h.len h.some) h.spread) e.low
    (omega (arith, ints, clamps, e.low, e.high, last.ordered))
    (omega (arith, ints, clamps, e.high, last.upto, h.proper.upto)))

joined_members : (s : List Interval) (n : ℕ) (i j : Interval) (new : List Interval) → Touches s n i → IsJoined s n i j new
    → (x : ℤ) → contains new x ≡ (contains s x || in_interval i x)
joined_members s n i j new h e x =
    let last = last_is s n h.len h.some h.spread in
    ap (λ l. contains l x) e.items
    ∙ contains-push _ j x
    ∙ hull _ (last_of s n) i j x (omega (arith, ints, h.following, last_low-is s n h.len h.some)) last.ordered h.touching e.low e.high
    ∙ ap (λ b. b || in_interval i x) (sym (ap (λ l. contains l x) (split_last s n h.len h.some) ∙ contains-push _ (last_of s n) x))

joined_last : (s : List Interval) (n : ℕ) (i j : Interval) (new : List Interval) → Touches s n i → IsJoined s n i j new → last_low new ≤ℤ i.low
joined_last s n i j new h e =
    omega (arith, ints, ap last_low e.items ∙ last_low_or-push _ _ j, e.low, last_low-is s n h.len h.some, h.following)

-- an interval after the last one, with a gap
spread_after : (s : List Interval) (n : ℕ) (i : Interval) → n ≡ length s → 0 < n → IsSpread s → IsProper i
    → ((last_of s n).high +ℤ pos 1) <ℤ i.low → IsSpread (s ++ i ∷ [])
spread_after s n i len some h p gap =
    let split = split_last s n len some in
    subst (λ l. IsSpread (l ++ i ∷ [])) (sym split) (IsSpreadFrom-push _ _ _ i (subst IsSpread split h) gap p.ordered p.upto)

-- the first interval
spread_first : (s : List Interval) (n : ℕ) (i : Interval) → n ≡ length s → n ≤ 0 → IsProper i → IsSpread (s ++ i ∷ [])
spread_first s n i len none p =
    subst (λ l. IsSpread (l ++ i ∷ [])) (sym (nil_from_length s (omega arith))) (p.from, p.ordered, p.upto, tt)

pub overflow_add-last : goal.overflow_add-last
overflow_add-last c =
    let last = last_is c.as_slice.result.now c.len-len.result (c.len-len.ensures.value ∙ ap length (sym c.as_slice.ensures)) c.if-len-gt0.true
    (subst IsSpread (sym c.as_slice.ensures) c.self.invariant) in
    let high : FitsSigned w128 (last_of c.as_slice.result.now c.len-len.result).high = omega (arith, ints, last.from, last.ordered, last.upto) in
    rw (to_z-of_z w128 _ high) (omega (arith, ints, last.from, last.ordered, last.upto))

touches : (c : goal.After-push_reserved) → Touches c.as_slice.result.now c.len-len.result c.args.interval
touches c =
    let s = c.as_slice.result.now in
    let len = c.len-len.ensures.value ∙ ap length (sym c.as_slice.ensures) in
    let spread = subst IsSpread (sym c.as_slice.ensures) c.self.invariant in
    let last = last_is s c.len-len.result len c.if-len-gt0.true spread in
    let high : FitsSigned w128 (last_of s c.len-len.result).high = omega (arith, ints, last.from, last.ordered, last.upto) in
    record {
      len = len;
      some = c.if-len-gt0.true;
      spread = spread;
      proper = c.requires.proper;
      following = rw (c.as_slice.ensures ∙ c.self.view_is) c.requires.following;
      touching = omega (arith, ints, to_z-of_z w128 _ high, c.if-interval-last.true);
    }

joined : (c : goal.After-push_reserved)
    → (j : Interval) × IsJoined c.as_slice.result.now c.len-len.result c.args.interval j c.push_reserved.new.self.items
joined c =
    let s = c.as_slice.result.now in
    let len = c.len-len.ensures.value ∙ ap length (sym c.as_slice.ensures) in
    let last = last_is s c.len-len.result len c.if-len-gt0.true (subst IsSpread (sym c.as_slice.ensures) c.self.invariant) in
    let low : FitsSigned w128 (last_of s c.len-len.result).low = omega (arith, ints, last.from, last.ordered, last.upto) in
    let high : FitsSigned w128 (last_of s c.len-len.result).high = omega (arith, ints, last.from, last.ordered, last.upto) in
    let own_high : FitsSigned w128 c.args.interval.high =
    omega (arith, ints, c.requires.proper.from, c.requires.proper.ordered, c.requires.proper.upto) in
    let hull_is : c.max-high.result ≡ int_max (last_of s c.len-len.result).high c.args.interval.high =
    rw (to_z-of_z w128 _ high, to_z-of_z w128 _ own_high) at c.max-high.ensures.value in
    let hull_high : FitsSigned w128 c.max-high.result = omega (arith, ints, c.max-high.type_inv) in
    let j : Interval = record { low = to_z w128 (of_z w128 (last_of s c.len-len.result).low); high = to_z w128 (of_z w128 c.max-high.result) } in (
      j,
      record {
        low = to_z-of_z w128 _ low;
        high = to_z-of_z w128 _ hull_high ∙ hull_is;
        items = c.push_reserved.ensures.items ∙ ap (λ l. l ++ j ∷ []) (c.pop.ensures.rest ∙ ap (λ l. take (length l - 1) l) (sym c.as_slice.ensures));
      },
    )

pub invariant_of-self : goal.invariant_of-self
invariant_of-self c = joined_spread _ _ _ _ _ (touches c) (joined c).1

pub returns-then-interval-last-clause-members : goal.returns-then-interval-last-clause-members
returns-then-interval-last-clause-members c =
    λ x. joined_members _ _ _ _ _ (touches c) (joined c).1 x
    ∙ ap (λ l. contains l x || in_interval c.args.interval x) (c.as_slice.ensures ∙ c.self.view_is)

pub returns-then-interval-last-clause-last : goal.returns-then-interval-last-clause-last
returns-then-interval-last-clause-last c = joined_last _ _ _ _ _ (touches c) (joined c).1

pub invariant_of-self-2 : goal.invariant_of-self-2
invariant_of-self-2 c =
    let s = c.self.inside.intervals.items in
    subst IsSpread (sym c.in_ok-push.ensures.ok) (elim c.if-len-gt0.branch [
      | then-len-gt0+else-interval-last w ↦
          let spread : IsSpread s = c.self.invariant in
          let last = last_is s c.len-len.result c.len-len.ensures.value w.if-len-gt0.true spread in
          let high : FitsSigned w128 (last_of s c.len-len.result).high = omega (arith, ints, last.from, last.ordered, last.upto) in
          spread_after s c.len-len.result c.args.interval c.len-len.ensures.value w.if-len-gt0.true spread c.requires.proper
          (omega (arith, ints, to_z-of_z w128 _ high, rw w.as_slice.ensures at w.if-interval-last.false))
      | else-len-gt0 w ↦ spread_first s c.len-len.result c.args.interval c.len-len.ensures.value w.if-len-gt0.false c.requires.proper
    ])

pub returns-clause-members : goal.returns-clause-members
returns-clause-members c =
    λ x. ap (λ l. contains l x) c.in_ok-push.ensures.ok ∙ contains-push _ _ x
    ∙ ap (λ l. contains l x || in_interval c.args.interval x) c.self.view_is

pub returns-clause-last : goal.returns-clause-last
returns-clause-last c =
    omega (arith, ints, ap last_low c.in_ok-push.ensures.ok ∙ last_low_or-push _ _ _)
