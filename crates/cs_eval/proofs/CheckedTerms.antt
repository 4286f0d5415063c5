-- Terms whose values were checked: for the contracts of `checked`.
use Rattle.std.proofs.Common.{◌≡◌, ◌^◌, ◌-◌, ℤ, pos, List, Option, Some, None, sym, ap, subst, ◌∙◌, arith}
use Rattle.std.specs.Prelude.{IsTrue, neg_ℤ}
use Rattle.std.proofs.lemmas.Int.{ints}
use Rattle.std.proofs.lemmas.Option.{none-some, same_Some}
use Rattle.cs_ranges.specs.declared.range_set.Interval.{Interval}
use Rattle.cs_ranges.specs.RangeSet.{contains, IsLeast, IsGreatest}
use Rattle.cs_ranges.specs.Affine.{affine}
use Rattle.cs_ranges.proofs.Lines.{affine-between}
use Rattle.cs_types.specs.IntType.{IsIntegerOfC}
use Rattle.cs_terms.specs.declared.symbol.Sym.{Sym}
use Rattle.cs_terms.specs.declared.term.Lin.{Lin}
use Rattle.cs_terms.specs.Term.{value_at, IsTerm, IsTermWith}
use Rattle.cs_terms.proofs.Cutting.{value_at-affine}
use Rattle.cs_constraints.specs.Constraints.{Sets, set_of, HasValuesInside, HasOneNumber}
use Rattle.cs_constraints.specs.Prepared.{HasIntegers, IsSameFunction}
use Rattle.cs_eval.specs.Operands.{IsBetween, IsTermBetween, IsTermInside, IsReadyOperand, IsSeveral, LOWEST, HIGHEST}
use Rattle.cs_eval.proofs.Ends.{wide, wide_integer}
use Rattle.cs_eval.proofs.OperandValues.{none_is}

-- a term over a declared symbol, with its values over that symbol's numbers
pub over_symbol : (sets : Sets) (low high : ℤ) (term : Lin) (s : Sym) (range : List Interval) → term.sym ≡ Some s → set_of sets s.0 ≡ Some range
    → IsTerm term → ((x : ℤ) → IsTrue (contains range x) → IsBetween low high (value_at term x)) → IsTermBetween sets low high term
over_symbol sets low high term s range over known is_term h = record {
  is_term = is_term;
  declared = λ t e none. none-some range (sym none ∙ ap (λ (k : Sym). set_of sets k.0) (sym (same_Some s t (sym over ∙ e))) ∙ known);
  constant = λ none. absurd (none-some s (sym (none_is term.sym none) ∙ over));
  values = λ t set e there x member.
      let own : range ≡ set = same_Some range set (sym known ∙ ap (λ (k : Sym). set_of sets k.0) (same_Some s t (sym over ∙ e)) ∙ there) in
      h x (subst (λ (z : List Interval). IsTrue (contains z x)) (sym own) member);
}

-- a constant between the bounds
pub constant_between : (sets : Sets) (low high : ℤ) (term : Lin) → term.sym ≡ None → term.slope ≡ pos 0 → IsBetween low high term.value
    → IsTermBetween sets low high term
constant_between sets low high term none slope h = record {
  is_term = subst (λ (o : Option Sym). IsTermWith o term.slope) (sym none) slope;
  declared = λ t e. absurd (none-some t (sym none ∙ e));
  constant = λ _. h;
  values = λ t set e there x member. absurd (none-some t (sym none ∙ e));
}

-- the values at both ends of the range decide
pub from_ends : (term : Lin) (range : List Interval) (low high least greatest first last x : ℤ) → IsTerm term → IsLeast range least
    → IsGreatest range greatest → first ≡ affine term.slope term.at term.value least → last ≡ affine term.slope term.at term.value greatest
    → IsBetween low high first → IsBetween low high last → IsTrue (contains range x) → IsBetween low high (value_at term x)
from_ends term range low high least greatest first last x is_term from upto at_first at_last a b t =
    let there = affine-between low high term.slope term.at term.value least greatest x (from.least x t) (upto.greatest x t)
    (subst (λ (n : ℤ). IsBetween low high n) at_first a) (subst (λ (n : ℤ). IsBetween low high n) at_last b) in
    subst (λ (n : ℤ). IsBetween low high n) (sym (value_at-affine term x is_term)) there

-- what `Constraints::prepared` requires of the values
pub wide_values : (sets : Sets) (term : Lin) → IsTermBetween sets LOWEST HIGHEST term → HasValuesInside sets term
wide_values sets term h s set e known x member = wide (value_at term x) (h.values s set e known x member)

pub integer_values : (sets : Sets) (term : Lin) → HasIntegers sets term → HasValuesInside sets term
integer_values sets term h s set e known x member = wide (value_at term x) (wide_integer (value_at term x) (h.values s set e known x member))

-- the symbol of a prepared term has at least two numbers
pub prepared_several : (sets : Sets) (term made : Lin) → ((number : ℤ) → HasOneNumber sets term.sym number → made.sym ≡ None)
    → (¬ ((number : ℤ) × HasOneNumber sets term.sym number) → IsSameFunction made term) → IsSeveral sets made
prepared_several sets term made constant function number one =
    let not_one : ¬ ((n : ℤ) × HasOneNumber sets term.sym n) = λ p. none-some one.sym (sym (constant p.0 p.1) ∙ one.symbol_is) in
    not_one (number, subst (λ (o : Option Sym). HasOneNumber sets o number) (function not_one).symbol one)

-- a term with integers of C as values
pub integers_between : (sets : Sets) (term : Lin) → IsTermBetween sets (neg_ℤ (pos (2 ^ 63))) (pos (2 ^ 64 - 1)) term → HasIntegers sets term
integers_between sets term h = record {
  declared = h.declared;
  constant = λ none. integer term.value (h.constant none);
  values = λ s set e known x member. integer (value_at term x) (h.values s set e known x member);
}
  where
    integer : (n : ℤ) → IsBetween (neg_ℤ (pos (2 ^ 63))) (pos (2 ^ 64 - 1)) n → IsIntegerOfC n
    integer n h = record { from_least = omega (arith, ints, h.0); to_greatest = omega (arith, ints, h.1) }

-- an operand has its values inside
pub ready_inside : (sets : Sets) (term : Lin) → IsReadyOperand sets term → IsTermInside sets term
ready_inside sets term h = record {
  is_term = h.prepared.is_term;
  declared = h.integers.declared;
  constant = λ none. wide term.value (wide_integer term.value (h.integers.constant none));
  values = integer_values sets term h.integers;
}
