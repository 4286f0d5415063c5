-- Valuations with own numbers or noted ends for the operands of a guess: for `IsMoved`.
use Rattle.std.proofs.Common.{◌≡◌, ◌⊎◌, inl, inr, ℤ, List, Option, Some, refl, sym, subst, ◌∙◌}
use Rattle.std.specs.Prelude.{IsTrue}
use Rattle.std.proofs.lemmas.Option.{same_Some}
use Rattle.cs_ranges.specs.declared.range_set.Interval.{Interval}
use Rattle.cs_ranges.specs.RangeSet.{contains}
use Rattle.cs_terms.specs.declared.symbol.Sym.{Sym}
use Rattle.cs_terms.specs.Term.{Valuation}
use Rattle.cs_constraints.specs.Constraints.{Sets, Fits}
use Rattle.cs_state.specs.declared.asked.Asked.{Asked}
use Rattle.cs_eval.specs.Noted.{IsRangeOf}
use Rattle.cs_corners.proofs.Moving.{is_over}
use Rattle.cs_guesses.specs.Asking.{IsMoved}
use Rattle.cs_guesses.proofs.SameEnds.{named}

-- a valuation has its own numbers
pub moved_nowhere : (asked : Asked) (v : Valuation) → IsMoved asked v v
moved_nowhere asked v = record { left = λ sym is. inl refl; right = λ sym is. inl refl; others = λ other left right. refl }

-- such a valuation fits the sets whose ends were noted, if the first one does
pub moved_fits : (sets : Sets) (asked : Asked) (v w : Valuation) → IsRangeOf sets asked.left.sym asked.ends.left
    → IsRangeOf sets asked.right.sym asked.ends.right → Fits v sets → IsMoved asked v w → Fits w sets
moved_fits sets asked v w left right fits moved n set known = elim (is_over asked.left.sym (named n)) [
  | inl over ↦ own_or_end asked.left.sym asked.ends.left left over (moved.left (named n) over)
  | inr not ↦ elim (is_over asked.right.sym (named n)) [
    | inl over ↦ own_or_end asked.right.sym asked.ends.right right over (moved.right (named n) over)
    | inr neither ↦ own (moved.others (named n) not neither)
  ]
]
  where
    own : w n ≡ v n → IsTrue (contains set (w n))
    own same = subst (λ (x : ℤ). IsTrue (contains set x)) (sym same) (fits n set known)

    own_or_end : (symbol : Option Sym) (ends : Interval) → IsRangeOf sets symbol ends → symbol ≡ Some (named n)
        → (w n ≡ v n) ⊎ ((w n ≡ ends.low) ⊎ (w n ≡ ends.high)) → IsTrue (contains set (w n))
    own_or_end symbol ends range over number =
        let there = range (named n) over in
        let member : (x : ℤ) → IsTrue (contains there.0 x) → w n ≡ x → IsTrue (contains set (w n))
        = λ x in_set same.
        subst (λ (y : ℤ). IsTrue (contains set y)) (sym same)
        (subst (λ (s : List Interval). IsTrue (contains s x)) (same_Some there.0 set (sym there.1 ∙ known)) in_set) in
        elim number [
          | inl same ↦ own same
          | inr (inl low) ↦ member ends.low there.2.member low
          | inr (inr high) ↦ member ends.high there.3.member high
        ]
