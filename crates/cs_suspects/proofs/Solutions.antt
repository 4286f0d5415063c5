-- Constraints under which each symbol can have a number have exactly one solution.
use Rattle.std.proofs.Common.{◌≡◌, ◌<◌, ◌≤◌, ℕ, zero, suc, ℤ, pos, negsuc, neg_ℤ, Bool, true, false, true≢false, refl, sym, ap, ◌∙◌, subst}
use Rattle.std.proofs.Common.{inl, inr, below_more, arith}
use Rattle.std.specs.Prelude.{◌⊎◌, ◌||◌, List, Option, None, Some, MatchOption, unwrap_or, unsigned_abs}
use Rattle.std.proofs.lemmas.Int.{ints}
use Rattle.std.proofs.lemmas.Bool.{or_cases, or_left, or_right}
use Rattle.std.proofs.lemmas.Option.{same_Some}
use Rattle.cs_ranges.specs.declared.range_set.Interval.{Interval}
use Rattle.cs_ranges.specs.RangeSet.{contains, IsInhabited, IsNearest, IsLeastAbs}
use Rattle.cs_terms.specs.Term.{Valuation}
use Rattle.cs_constraints.specs.Constraints.{Sets, set_of, AreInhabited}
use Rattle.cs_suspects.specs.Suspected.{IsSolution}
use Rattle.cs_suspects.specs.Solved.{IsNumberOf}

-- two numbers that are both nearest to zero are equal
nearest_both : (x y : ℤ) → IsNearest x y → IsNearest y x → x ≡ y
nearest_both x y one other = grind (arith, ints)

one_least_abs : (set : List Interval) (x y : ℤ) → IsLeastAbs set x → IsLeastAbs set y → x ≡ y
one_least_abs set x y one other = nearest_both x y (one.nearest y other.member) (other.nearest x one.member)

-- the least number that passes a test
record LeastOf (p : ℕ → Bool) : Type 0 where
  number : ℕ
  passes : p number ≡ true
  least : (k : ℕ) → p k ≡ true → number ≤ k

least_or_none : (p : ℕ → Bool) (bound : ℕ) → LeastOf p ⊎ ((k : ℕ) → k < bound → p k ≡ false)
least_or_none p zero = inr (λ k below. absurd (omega arith))
least_or_none p (suc bound) = elim (least_or_none p bound) [
  | inl found ↦ inl found
  | inr none ↦ by none (p bound) refl
]
  where
    at_least : ((k : ℕ) → k < bound → p k ≡ false) → (k : ℕ) → p k ≡ true → bound ≤ k
    at_least none k passes =
        let not_below : k < bound → ⊥ = λ below. true≢false (sym passes ∙ none k below) in
        omega (arith, not_below)

    up_to : ((k : ℕ) → k < bound → p k ≡ false) → p bound ≡ false → (k : ℕ) → k < suc bound → p k ≡ false
    up_to none last k below = below_more (λ (k : ℕ). p k ≡ false) bound none last k (omega (arith, below))

    by : ((k : ℕ) → k < bound → p k ≡ false) → (b : Bool) → p bound ≡ b → LeastOf p ⊎ ((k : ℕ) → k < suc bound → p k ≡ false)
    by none true e = inl (record { number = bound; passes = e; least = at_least none })
    by none false e = inr (up_to none e)

least_of : (p : ℕ → Bool) (n : ℕ) → p n ≡ true → LeastOf p
least_of p n passes = elim (least_or_none p (suc n)) [
  | inl found ↦ found
  | inr none ↦ absurd (true≢false (sym passes ∙ none n (omega arith)))
]

-- a number is its distance from zero, or the negative of this
sides : (x : ℤ) → (x ≡ pos (unsigned_abs x)) ⊎ (x ≡ neg_ℤ (pos (unsigned_abs x)))
sides (pos n) = inl (omega (arith, ints))
sides (negsuc n) = inr (omega (arith, ints))

module _ (set : List Interval) where
  -- some number of the set has this distance from zero
  is_at : ℕ → Bool
  is_at distance = contains set (pos distance) || contains set (neg_ℤ (pos distance))

  at_distance : (x : ℤ) → contains set x ≡ true → is_at (unsigned_abs x) ≡ true
  unfolding is_at
  at_distance x member = elim (sides x) [
    | inl up ↦ or_left _ _ (sym (ap (contains set) up) ∙ member)
    | inr down ↦ or_right _ _ (sym (ap (contains set) down) ∙ member)
  ]

  module _ (nearest : LeastOf is_at) where
    -- the positive one of the two
    least_abs_up : contains set (pos nearest.number) ≡ true → IsLeastAbs set (pos nearest.number)
    least_abs_up member = record {
      member = member;
      nearest = λ y there.
          let far : nearest.number ≤ unsigned_abs y = nearest.least (unsigned_abs y) (at_distance y there) in
          near_up nearest.number y far;
    }
      where
        near_up : (distance : ℕ) (y : ℤ) → distance ≤ unsigned_abs y → IsNearest (pos distance) y
        near_up distance y far = grind (arith, ints)

    least_abs_down : contains set (pos nearest.number) ≡ false → contains set (neg_ℤ (pos nearest.number)) ≡ true
        → IsLeastAbs set (neg_ℤ (pos nearest.number))
    least_abs_down none member = record {
      member = member;
      nearest = λ y there.
          let far : nearest.number ≤ unsigned_abs y = nearest.least (unsigned_abs y) (at_distance y there) in
          near_down nearest.number y far (λ same. true≢false (sym there ∙ ap (contains set) same ∙ none));
    }
      where
        near_down : (distance : ℕ) (y : ℤ) → distance ≤ unsigned_abs y → (y ≡ pos distance → ⊥) → IsNearest (neg_ℤ (pos distance)) y
        near_down distance y far other = grind (arith, ints)

    on_one_side : (contains set (pos nearest.number) || contains set (neg_ℤ (pos nearest.number))) ≡ true
    unfolding is_at
    on_one_side = nearest.passes

    nearest_one : (x : ℤ) × IsLeastAbs set x
    nearest_one = by (contains set (pos nearest.number)) refl
      where
        by : (b : Bool) → contains set (pos nearest.number) ≡ b → (x : ℤ) × IsLeastAbs set x
        by true e = (pos nearest.number, least_abs_up e)
        by false e = elim (or_cases _ _ on_one_side) [
          | inl up ↦ absurd (true≢false (sym up ∙ e))
          | inr down ↦ (neg_ℤ (pos nearest.number), least_abs_down e down)
        ]

  has_least_abs : IsInhabited set → (x : ℤ) × IsLeastAbs set x
  has_least_abs some = nearest_one (least_of is_at (unsigned_abs some.0) (at_distance some.0 some.1))

-- the number of a symbol
record Solves (sets : Sets) (sym : ℕ) : Type 0 where
  number : ℤ
  declared : (set : List Interval) → set_of sets sym ≡ Some set → IsLeastAbs set number
  others : set_of sets sym ≡ None → number ≡ pos 0

solves : (sets : Sets) → AreInhabited sets → (sym : ℕ) → Solves sets sym
solves sets inhabited s = by (set_of sets s) refl
  where
    by : (known : Option (List Interval)) → set_of sets s ≡ known → Solves sets s
    by None e = record {
      number = pos 0;
      declared = λ set f. let clash : None ≡ Some set = sym e ∙ f in absurd (cc);
      others = λ none. refl;
    }
    by (Some range) e =
        let least = has_least_abs range (inhabited s range e) in
        record {
          number = least.0;
          declared = λ set f. subst (λ (z : List Interval). IsLeastAbs z least.0) (same_Some range set (sym e ∙ f)) least.1;
          others = λ none. let clash : Some range ≡ None = sym e ∙ none in absurd (cc);
        }

pub has_solution : (sets : Sets) → AreInhabited sets → (v : Valuation) × IsSolution sets v
has_solution sets inhabited = (
  λ s. (solves sets inhabited s).number,
  record {
    declared = λ s set known. (solves sets inhabited s).declared set known;
    others = λ s none. (solves sets inhabited s).others none;
  },
)

-- the number found for a symbol is that of the solution
pub is_number : (sets : Sets) (s : ℕ) (found : Option ℤ)
    → MatchOption found (set_of sets s ≡ None) (λ number. (set : List Interval) × (set_of sets s ≡ Some set) × IsLeastAbs set number)
    → IsNumberOf sets s (unwrap_or found (pos 0))
is_number sets s None none v solution = sym (solution.others s none)
is_number sets s (Some number) found v solution = one_least_abs found.0 number (v s) found.2 (solution.declared s found.0 found.1)
