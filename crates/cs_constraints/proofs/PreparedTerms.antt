-- Prepared terms: for the contracts of `prepared_over` and `Constraints::prepared`.
use Rattle.std.proofs.Common.{◌≡◌, ◌≤◌, ◌^◌, true, ℤ, pos, unsigned_abs, List, Option, Some, None, inl, inr, refl, sym, ap, subst, ◌∙◌}
use Rattle.std.proofs.Common.{arith}
use Rattle.std.specs.Prelude.{IsNone}
use Rattle.std.proofs.lemmas.Int.{ints}
use Rattle.std.proofs.lemmas.Option.{none-some, same_Some}
use Rattle.cs_ranges.specs.declared.range_set.Interval.{Interval}
use Rattle.cs_ranges.specs.Affine.{affine}
use Rattle.cs_ranges.specs.RangeSet.{contains, IsLeast}
use Rattle.cs_ranges.proofs.AffineLaws.{affine-affine}
use Rattle.cs_types.specs.IntType.{IsIntegerOfC}
use Rattle.cs_terms.specs.declared.symbol.Sym.{Sym}
use Rattle.cs_terms.specs.declared.term.Lin.{Lin}
use Rattle.cs_terms.specs.Conditions.{CanAdd, CanScale, HaveOneSymbol, IsSmall, AreSeenTogether}
use Rattle.cs_terms.specs.Term.{Valuation, value_with, value_of, value_at, IsTermWith, IsTerm}
use Rattle.cs_terms.proofs.Cutting.{value_with-affine, value_at-affine, none-slope}
use Rattle.cs_terms.proofs.Small.{value_at-own, CanAdd-small, CanScale-small, integer_small, slope_small}
use Rattle.cs_constraints.specs.Constraints.{Sets, set_of, Fits, HasNoSet, IsSetOf}
use Rattle.cs_constraints.specs.Prepared.{HasIntegers, IsCollapsed, IsMoved, IsPrepared, IsPreparedOver, IsSeenFromLeast}
use Rattle.cs_constraints.proofs.Assuming.{value_of-symbol}

-- the same function, given at another number
pub seen_from : (term : Lin) (at value x : ℤ) → IsTerm term → value ≡ affine term.slope term.at term.value at
    → value_with (λ s. x) term.sym term.slope at value ≡ value_at term x
seen_from term at value x h e =
    value_with-affine term.sym term.slope at value x (none-slope term.sym term.slope h)
    ∙ ap (λ n. affine term.slope at n x) e
    ∙ affine-affine term.slope term.at term.value at x
    ∙ sym (value_at-affine term x h)

-- a term without a symbol has its value under each valuation
value_of-constant : (v : Valuation) (term : Lin) → term.sym ≡ None → value_of v term ≡ term.value
value_of-constant v term e = ap (λ o. value_with v o term.slope term.at term.value) e

-- the prepared form has the same value under each valuation that fits
pub value_kept : (sets : Sets) (term made : Lin) (range : List Interval) (v : Valuation) → IsSetOf sets term.sym range → IsPreparedOver range term made
    → Fits v sets → value_of v made ≡ value_of v term
value_kept sets term made range v own (inl h) fits =
    let number = h.only.alone (v own.sym.0) (fits own.sym.0 range own.set_is) in
    value_of-constant v made h.constant.symbol ∙ h.constant.value ∙ ap (value_at term) (sym number)
    ∙ sym (value_of-symbol v term own.sym own.symbol_is)
value_kept sets term made range v own (inr h) fits =
    value_of-symbol v made own.sym (h.function.symbol ∙ own.symbol_is) ∙ h.function.values (v own.sym.0)
    ∙ sym (value_of-symbol v term own.sym own.symbol_is)

-- the term itself is prepared, if its symbol has no set
pub none_prepared : (sets : Sets) (term : Lin) → IsTerm term → HasNoSet sets term.sym → HasIntegers sets term → IsPrepared sets term
none_prepared sets term h none i = record {
  is_term = h;
  declared = i.declared;
  place = λ s set e f. absurd (none-some set (sym (none s e) ∙ f));
  small = by term.sym refl;
}
  where
    by : (symbol : Option Sym) → term.sym ≡ symbol → IsSmall term
    by None e =
        let none_there : IsNone term.sym = subst (λ (o : Option Sym). IsNone o) (sym e) refl in
        let flat : term.slope ≡ pos 0 = none-slope term.sym term.slope h none_there in
        record { slope = omega (arith, ints, flat); value = omega (arith, integer_small term.value (i.constant none_there)) }
    by (Some s) e = absurd (i.declared s e (none s e))

-- the prepared form of a term over the numbers of its symbol
module _ (sets : Sets) (term made : Lin) (range : List Interval) (h : IsTerm term) (own : IsSetOf sets term.sym range) (i : HasIntegers sets term) where
  integer_at : (x : ℤ) → contains range x ≡ true → unsigned_abs (value_at term x) ≤ 2 ^ 64
  integer_at x t = integer_small (value_at term x) (i.values own.sym range own.symbol_is own.set_is x t)

  collapsed_prepared : IsCollapsed range term made → IsPrepared sets made
  collapsed_prepared c = record {
    is_term = subst (λ o. IsTermWith o made.slope) (sym c.constant.symbol) c.constant.slope;
    declared = λ s e. absurd (none-some s (sym c.constant.symbol ∙ e));
    place = λ s set e f. absurd (none-some s (sym c.constant.symbol ∙ e));
    small =
        record {
          slope = omega (arith, ints, c.constant.slope);
          value = subst (λ x. unsigned_abs x ≤ 2 ^ 64) (sym c.constant.value) (integer_at c.number c.only.member);
        };
  }

  moved_small : IsMoved range term made → IsSmall made
  moved_small m =
      let integer : (x : ℤ) → contains range x ≡ true → IsIntegerOfC (value_at term x) = λ x t. i.values own.sym range own.symbol_is own.set_is x t in
      let slope = slope_small term m.two.one m.two.another h m.two.differ (integer _ m.two.one_is_member) (integer _ m.two.another_is_member) in
      let value = sym (value_at-own made made.at refl) ∙ m.function.values made.at in
      record {
        slope = subst (λ x. unsigned_abs x ≤ 2 ^ 65) (sym m.function.slope) slope;
        value = subst (λ x. unsigned_abs x ≤ 2 ^ 64) (sym value) (integer_at made.at m.place.member);
      }

  moved_place : IsMoved range term made → IsSeenFromLeast sets made
  moved_place m s set e f =
      let same : own.sym ≡ s = same_Some own.sym s (sym own.symbol_is ∙ sym m.function.symbol ∙ e) in
      let range_is : range ≡ set = same_Some range set (sym own.set_is ∙ ap (λ (z : Sym). set_of sets z.0) same ∙ f) in
      subst (λ z. IsLeast z made.at) range_is m.place

  moved_prepared : IsMoved range term made → IsPrepared sets made
  moved_prepared m = record {
    is_term =
        subst (λ o. IsTermWith o made.slope) (sym m.function.symbol) (subst (λ k. IsTermWith term.sym k) (sym m.function.slope) h);
    declared = λ s e. i.declared s (sym m.function.symbol ∙ e);
    place = moved_place m;
    small = moved_small m;
  }

  pub over_prepared : IsPreparedOver range term made → IsPrepared sets made
  over_prepared (inl c) = collapsed_prepared c
  over_prepared (inr m) = moved_prepared m

-- a set has only one least number
one_least : (set : List Interval) (x y : ℤ) → IsLeast set x → IsLeast set y → x ≡ y
one_least set x y a b = omega (arith, ints, a.least y b.member, b.least x a.member)

-- prepared terms over the same symbol are given at the same number
seen_together : (sets : Sets) (left right : Lin) → IsPrepared sets left → IsPrepared sets right → AreSeenTogether left right
seen_together sets left right l r one = by left.sym right.sym refl refl one
  where
    with_set : (s : Sym) → left.sym ≡ Some s → right.sym ≡ Some s → (o : Option (List Interval)) → set_of sets s.0 ≡ o → left.at ≡ right.at
    with_set s e f None g = absurd (l.declared s e g)
    with_set s e f (Some set) g = one_least set left.at right.at (l.place s set e g) (r.place s set f g)

    by : (a b : Option Sym) → left.sym ≡ a → right.sym ≡ b → HaveOneSymbol a b → left.at ≡ right.at
    by None b e f same = absurd same
    by (Some s) None e f same = absurd same
    by (Some s) (Some t) e f same = with_set s e (f ∙ ap (λ z. Some z) (sym same)) (set_of sets s.0) refl

pub prepared_add : (sets : Sets) (left right : Lin) → IsPrepared sets left → IsPrepared sets right → CanAdd left right
prepared_add sets left right l r = CanAdd-small left right l.small r.small (seen_together sets left right l r)

pub prepared_scale : (sets : Sets) (term : Lin) (factor : ℤ) → IsPrepared sets term → unsigned_abs factor ≤ 2 ^ 61 → CanScale term factor
prepared_scale sets term factor h k = CanScale-small term factor h.small k
