-- The parts of a difference: for the contract of `comparison`.
use Rattle.std.proofs.Common.{◌≡◌, ◌≤◌, ◌^◌, ℕ, ℤ, ◌+ℤ◌, ◌-ℤ◌, unsigned_abs, Option, sym, ap, subst}
use Rattle.std.proofs.Common.{◌∙◌, arith}
use Rattle.std.specs.Prelude.{IsNone, neg_ℤ}
use Rattle.std.proofs.lemmas.Int.{ints}
use Rattle.cs_ranges.specs.RangeSet.{IsLeast}
use Rattle.cs_terms.specs.declared.symbol.Sym.{Sym}
use Rattle.cs_terms.specs.declared.term.Lin.{Lin}
use Rattle.cs_terms.specs.declared.term.Lin2.{Lin2}
use Rattle.cs_terms.specs.Conditions.{CanAdd}
use Rattle.cs_terms.specs.Term.{Valuation, value_of, value_of_sum, value_at, IsTerm}
use Rattle.cs_constraints.specs.Constraints.{Sets}
use Rattle.cs_constraints.specs.Prepared.{IsPrepared}
use Rattle.cs_constraints.proofs.PreparedTerms.{prepared_add}
use Rattle.cs_eval.specs.Operands.{IsBetween, IsTermBetween, IsReadyOperand, LOWEST, HIGHEST}
use Rattle.cs_eval.proofs.Ends.{wide_integer}

-- an operand is within the bounds of order tests
pub ready_between : (sets : Sets) (term : Lin) → IsReadyOperand sets term → IsTermBetween sets LOWEST HIGHEST term
ready_between sets term h = record {
  is_term = h.prepared.is_term;
  declared = h.integers.declared;
  constant = λ none. wide_integer term.value (h.integers.constant none);
  values = λ s set e known x member. wide_integer (value_at term x) (h.integers.values s set e known x member);
}

negative_between : (n : ℤ) → IsBetween LOWEST HIGHEST n → IsBetween LOWEST HIGHEST (neg_ℤ n)
negative_between n h = (omega (arith, ints, h.1), omega (arith, ints, h.0))

module _ (sets : Sets) (left right : Lin) (term : Lin2) (l : IsReadyOperand sets left) (r : IsReadyOperand sets right)
    (value : (v : Valuation) → value_of_sum v term ≡ value_of v left -ℤ value_of v right) (first : term.first ≡ left) (is_term : IsTerm term.second)
    (symbol : term.second.sym ≡ right.sym) (slope : term.second.slope ≡ neg_ℤ right.slope) (place : term.second.at ≡ right.at)
    (value_there : term.second.value ≡ neg_ℤ right.value) where
  second_value : (v : Valuation) → value_of v term.second ≡ neg_ℤ (value_of v right)
  second_value v = by (value_of v term.first) (value_of v term.second) (value_of v left) (value_of v right) (value v) (ap (value_of v) first)
    where
      by : (a b x y : ℤ) → a +ℤ b ≡ x -ℤ y → a ≡ x → b ≡ neg_ℤ y
      by a b x y e h = omega (arith, ints, e, h)

  pub first_between : IsTermBetween sets LOWEST HIGHEST term.first
  first_between = subst (λ (t : Lin). IsTermBetween sets LOWEST HIGHEST t) (sym first) (ready_between sets left l)

  pub second_between : IsTermBetween sets LOWEST HIGHEST term.second
  second_between =
      let own = ready_between sets right r in
      record {
        is_term = is_term;
        declared = λ s e. own.declared s (sym symbol ∙ e);
        constant = λ none.
            subst (λ (n : ℤ). IsBetween LOWEST HIGHEST n) (sym value_there)
            (negative_between right.value (own.constant (subst (λ (o : Option Sym). IsNone o) symbol none)));
        values = λ s set e known x member.
            subst (λ (n : ℤ). IsBetween LOWEST HIGHEST n) (sym (second_value (λ any. x)))
            (negative_between (value_at right x) (own.values s set (sym symbol ∙ e) known x member));
      }

  second_prepared : IsPrepared sets term.second
  second_prepared = record {
    is_term = is_term;
    declared = λ s e. r.prepared.declared s (sym symbol ∙ e);
    place = λ s set e known. subst (λ (n : ℤ). IsLeast set n) (sym place) (r.prepared.place s set (sym symbol ∙ e) known);
    small = record {
      slope = size term.second.slope right.slope (2 ^ 65) slope r.prepared.small.slope;
      value = size term.second.value right.value (2 ^ 64) value_there r.prepared.small.value;
    };
  }
    where
      size : (a b : ℤ) (n : ℕ) → a ≡ neg_ℤ b → unsigned_abs b ≤ n → unsigned_abs a ≤ n
      size a b n e h = omega (arith, ints, e, h)

  pub parts_add : CanAdd term.first term.second
  parts_add = subst (λ (t : Lin). CanAdd t term.second) (sym first) (prepared_add sets left term.second l.prepared second_prepared)
