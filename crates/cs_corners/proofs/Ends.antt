-- The least and the greatest number of each symbol.
use Rattle.std.proofs.Common.{◌≡◌, ◌⊎◌, inl, inr, ℕ, true, false, ℤ, List, [], ◌∷◌, Option, None, Some, refl, sym, subst, ◌∙◌}
use Rattle.std.proofs.Common.{arith}
use Rattle.std.specs.Prelude.{◌≤ℤ◌, ◌<ℤ◌, pos}
use Rattle.std.proofs.lemmas.Bool.{or_cases, or_left, or_right}
use Rattle.std.proofs.lemmas.Int.{ints, by_lt_z}
use Rattle.std.proofs.lemmas.Option.{same_Some}
use Rattle.cs_ranges.specs.declared.range_set.Interval.{Interval}
use Rattle.cs_ranges.specs.Interval.{in_interval}
use Rattle.cs_ranges.specs.RangeSet.{contains, IsEmpty, IsInhabited, IsLeast, IsGreatest}
use Rattle.cs_ranges.proofs.Members.{in_interval_yields, in_interval-low, in_interval-high, in_interval-none, contains-cons, contains-nil}
use Rattle.cs_terms.specs.declared.symbol.Sym.{Sym}
use Rattle.cs_constraints.specs.Constraints.{Sets, set_of, AreInhabited}
use Rattle.cs_corners.specs.Corners.{IsEnd}

-- the ends of a set
record HasBoth (set : List Interval) : Type 0 where
  low : ℤ
  high : ℤ
  least : IsLeast set low
  greatest : IsGreatest set high

between : (i : Interval) (x : ℤ) → in_interval i x ≡ true → (i.low ≤ℤ x) × (x ≤ℤ i.high)
between i x here = elim (in_interval_yields i x) [
  | inl inside ↦ (inside.1, inside.2)
  | inr outside ↦ let clash : true ≡ false = sym here ∙ outside.0 in absurd (cc)
]

module _ (i : Interval) (rest : List Interval) where
  split : (y : ℤ) → contains (i ∷ rest) y ≡ true → ((i.low ≤ℤ y) × (y ≤ℤ i.high)) ⊎ (contains rest y ≡ true)
  split y t = elim (or_cases _ _ (sym (contains-cons i rest y) ∙ t)) [
    | inl here ↦ inl (between i y here)
    | inr there ↦ inr there
  ]

  of_rest : (y : ℤ) → contains rest y ≡ true → contains (i ∷ rest) y ≡ true
  of_rest y t = contains-cons i rest y ∙ or_right _ _ t

  -- an interval without numbers adds none
  module _ (turned : i.high <ℤ i.low) where
    same : (y : ℤ) → contains (i ∷ rest) y ≡ contains rest y
    same y = contains-cons i rest y ∙ rw (in_interval-none i y turned) refl

    ends_of_rest : HasBoth rest → HasBoth (i ∷ rest)
    ends_of_rest h = record {
      low = h.low;
      high = h.high;
      least = record { member = same h.low ∙ h.least.member; least = λ y t. h.least.least y (sym (same y) ∙ t) };
      greatest = record { member = same h.high ∙ h.greatest.member; greatest = λ y t. h.greatest.greatest y (sym (same y) ∙ t) };
    }

  module _ (order : i.low ≤ℤ i.high) where
    first_low : contains (i ∷ rest) i.low ≡ true
    first_low = contains-cons i rest i.low ∙ or_left _ _ (in_interval-low i order)

    first_high : contains (i ∷ rest) i.high ≡ true
    first_high = contains-cons i rest i.high ∙ or_left _ _ (in_interval-high i order)

    -- the ends of the first interval are those of the set
    ends_of_first : IsEmpty rest → HasBoth (i ∷ rest)
    ends_of_first empty = record {
      low = i.low;
      high = i.high;
      least = record { member = first_low; least = λ y t. (inside y t).0 };
      greatest = record { member = first_high; greatest = λ y t. (inside y t).1 };
    }
      where
        inside : (y : ℤ) → contains (i ∷ rest) y ≡ true → (i.low ≤ℤ y) × (y ≤ℤ i.high)
        inside y t = elim (split y t) [
          | inl here ↦ here
          | inr there ↦ let clash : true ≡ false = sym there ∙ empty y in absurd (cc)
        ]

    -- the ends of the first interval and of the others together
    module _ (h : HasBoth rest) where
      lesser_end : (low : ℤ) × IsLeast (i ∷ rest) low
      lesser_end = by_lt_z h.low i.low
          (λ lt. (
            h.low,
            record {
              member = of_rest h.low h.least.member;
              least = λ y t. elim (split y t) [ inl a ↦ omega (arith, ints, a.0) | inr b ↦ h.least.least y b ];
            },
          ))
          (λ le. (
            i.low,
            record {
              member = first_low;
              least = λ y t. elim (split y t) [ inl a ↦ a.0 | inr b ↦ omega (arith, ints, h.least.least y b) ];
            },
          ))

      greater_end : (high : ℤ) × IsGreatest (i ∷ rest) high
      greater_end = by_lt_z i.high h.high
          (λ lt. (
            h.high,
            record {
              member = of_rest h.high h.greatest.member;
              greatest = λ y t. elim (split y t) [ inl a ↦ omega (arith, ints, a.1) | inr b ↦ h.greatest.greatest y b ];
            },
          ))
          (λ le. (
            i.high,
            record {
              member = first_high;
              greatest = λ y t. elim (split y t) [ inl a ↦ a.1 | inr b ↦ omega (arith, ints, h.greatest.greatest y b) ];
            },
          ))

      ends_of_both : HasBoth (i ∷ rest)
      ends_of_both = record { low = lesser_end.0; high = greater_end.0; least = lesser_end.1; greatest = greater_end.1 }

empty_or_both : (set : List Interval) → IsEmpty set ⊎ HasBoth set
empty_or_both [] = inl contains-nil
empty_or_both (i ∷ rest) = elim (empty_or_both rest) [
  | inl empty ↦ by_lt_z i.high i.low (λ turned. inl (λ y. same i rest turned y ∙ empty y)) (λ order. inr (ends_of_first i rest order empty))
  | inr h ↦ by_lt_z i.high i.low (λ turned. inr (ends_of_rest i rest turned h)) (λ order. inr (ends_of_both i rest order h))
]

both_ends : (set : List Interval) → IsInhabited set → HasBoth set
both_ends set some = elim (empty_or_both set) [
  | inl empty ↦ let clash : true ≡ false = sym some.1 ∙ empty some.0 in absurd (cc)
  | inr h ↦ h
]

-- the ends of a symbol, if it is declared
pub record HasEndsAt (sets : Sets) (sym : ℕ) : Type 0 where
  pub low : ℤ
  pub high : ℤ
  pub least : (set : List Interval) → set_of sets sym ≡ Some set → IsLeast set low
  pub greatest : (set : List Interval) → set_of sets sym ≡ Some set → IsGreatest set high

-- the ends of all symbols
abbrev pub AllEnds : Sets → Type 0
AllEnds sets = (n : ℕ) → HasEndsAt sets n

pub all_ends : (sets : Sets) → AreInhabited sets → AllEnds sets
all_ends sets inhabited n = by (set_of sets n) refl
  where
    by : (known : Option (List Interval)) → set_of sets n ≡ known → HasEndsAt sets n
    by None e = record {
      low = pos 0;
      high = pos 0;
      least = λ set f. let clash : None ≡ Some set = sym e ∙ f in absurd (cc);
      greatest = λ set f. let clash : None ≡ Some set = sym e ∙ f in absurd (cc);
    }
    by (Some range) e =
        let h = both_ends range (inhabited n range e) in
        record {
          low = h.low;
          high = h.high;
          least = λ set f. subst (λ (z : List Interval). IsLeast z h.low) (same_Some range set (sym e ∙ f)) h.least;
          greatest = λ set f. subst (λ (z : List Interval). IsGreatest z h.high) (same_Some range set (sym e ∙ f)) h.greatest;
        }

module _ (sets : Sets) (ends : AllEnds sets) (s : Sym) (set : List Interval) (known : set_of sets s.0 ≡ Some set) where
  pub low_is_end : IsEnd sets s (ends s.0).low
  low_is_end = record { set = set; known = known; at_end = inl ((ends s.0).least set known) }

  pub high_is_end : IsEnd sets s (ends s.0).high
  high_is_end = record { set = set; known = known; at_end = inr ((ends s.0).greatest set known) }

-- an end is the least or the greatest number of the symbol's set, and there is one of each: for those who have noted them
pub which_end : (sets : Sets) (s : Sym) (set : List Interval) (low high number : ℤ) → set_of sets s.0 ≡ Some set → IsLeast set low
    → IsGreatest set high
    → IsEnd sets s number → (number ≡ low) ⊎ (number ≡ high)
which_end sets s set low high number known least greatest h =
    let same = same_Some h.set set (sym h.known ∙ known) in
    elim h.at_end [
      | inl a ↦ inl (one_least number low (subst (λ (z : List Interval). IsLeast z number) same a) least)
      | inr b ↦ inr (one_greatest number high (subst (λ (z : List Interval). IsGreatest z number) same b) greatest)
    ]
  where
    one_least : (x y : ℤ) → IsLeast set x → IsLeast set y → x ≡ y
    one_least x y a b = let p = a.least y b.member in let q = b.least x a.member in omega (arith, ints)

    one_greatest : (x y : ℤ) → IsGreatest set x → IsGreatest set y → x ≡ y
    one_greatest x y a b = let p = a.greatest y b.member in let q = b.greatest x a.member in omega (arith, ints)
