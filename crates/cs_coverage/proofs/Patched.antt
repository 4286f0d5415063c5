-- A valuation that fits some sets, and agrees with another one on each symbol whose set permits it: for states with equal live parts.
use Rattle.std.proofs.Common.{◌≡◌, ℕ, ℤ, Bool, true, false, List, Option, None, Some, if◌then◌else◌, refl, sym, ap, ◌∙◌, subst}
use Rattle.std.specs.Prelude.{IsTrue}
use Rattle.cs_ranges.specs.declared.range_set.Interval.{Interval}
use Rattle.cs_ranges.specs.RangeSet.{contains}
use Rattle.cs_terms.specs.Term.{Valuation}
use Rattle.cs_constraints.specs.Constraints.{Sets, set_of, Fits}

abbrev pub patched_in : Option (List Interval) → ℤ → ℤ → ℤ
patched_in None number other = number
patched_in (Some set) number other = if contains set number then number else other

-- the numbers of the first valuation if the sets have them, else those of the second
abbrev pub patched : Sets → Valuation → Valuation → Valuation
patched sets valuation other symbol = patched_in (set_of sets symbol) (valuation symbol) (other symbol)

either_contained : (set : List Interval) (number other : ℤ) (b : Bool) → contains set number ≡ b → IsTrue (contains set other)
    → IsTrue (contains set (if b then number else other))
either_contained set number other true is there = is
either_contained set number other false is there = there

pub patched_fits : (sets : Sets) (valuation other : Valuation) → Fits other sets → Fits (patched sets valuation other) sets
patched_fits sets valuation other fits symbol set is =
    subst (λ found. IsTrue (contains set (patched_in found (valuation symbol) (other symbol)))) (sym is)
    (either_contained set (valuation symbol) (other symbol) (contains set (valuation symbol)) refl (fits symbol set is))

-- a symbol with the same set in both has the number of the first valuation
pub patched_agrees : (sets own : Sets) (valuation other : Valuation) → Fits valuation own → (symbol : ℕ) → set_of own symbol ≡ set_of sets symbol
    → patched sets valuation other symbol ≡ valuation symbol
patched_agrees sets own valuation other fits symbol same = by (set_of own symbol) refl same
  where
    by : (found : Option (List Interval)) → set_of own symbol ≡ found → found ≡ set_of sets symbol
        → patched_in (set_of sets symbol) (valuation symbol) (other symbol) ≡ valuation symbol
    by None is e = ap (λ o. patched_in o (valuation symbol) (other symbol)) (sym e)
    by (Some set) is e =
        ap (λ o. patched_in o (valuation symbol) (other symbol)) (sym e)
        ∙ ap (λ b. if b then valuation symbol else other symbol) (fits symbol set is)
