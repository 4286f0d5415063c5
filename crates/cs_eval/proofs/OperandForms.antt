-- What an operand and its prepared form have in common: for the contract of `answers`.
use Rattle.std.proofs.Common.{◌≡◌, ◌≢◌, ◌⊎◌, inl, inr, Bool, true, false, ℤ, List, Option, Some, None, refl, sym, ap, subst, ◌∙◌}
use Rattle.std.proofs.Common.{arith}
use Rattle.std.specs.Ordering.{int_eq}
use Rattle.std.proofs.lemmas.Int.{ints}
use Rattle.std.proofs.lemmas.Option.{none-some, same_Some}
use Rattle.cs_ranges.specs.declared.range_set.Interval.{Interval}
use Rattle.cs_ranges.specs.RangeSet.{contains}
use Rattle.cs_terms.specs.declared.symbol.Sym.{Sym}
use Rattle.cs_terms.specs.declared.term.Lin.{Lin}
use Rattle.cs_terms.specs.Term.{Valuation, value_of, value_at}
use Rattle.cs_constraints.specs.Constraints.{Sets, set_of, Fits, HasOneNumber}
use Rattle.cs_constraints.proofs.Assuming.{value_of-symbol}
use Rattle.cs_eval.specs.Followed.{FitsFixed}
use Rattle.cs_eval.specs.Forms.{IsFormOf}
use Rattle.cs_eval.specs.Operands.{IsFixed, AreOverOne, IsSeveral}
use Rattle.cs_eval.proofs.OperandValues.{value_of-none}

decide_int : (x y : ℤ) → (x ≡ y) ⊎ (x ≢ y)
decide_int x y = by (int_eq x y) refl
  where
    by : (b : Bool) → int_eq x y ≡ b → (x ≡ y) ⊎ (x ≢ y)
    by true e = inl (grind (arith, ints))
    by false e = inr (λ same. grind (arith, ints))

-- under a valuation that fits, a symbol that has only one number has that number
pub fits_fixed : (v : Valuation) (sets : Sets) → Fits v sets → FitsFixed v sets
fits_fixed v sets fits s set number known only = only.alone (v s) (fits s set known)

-- the only number of a symbol
one_number : (v : Valuation) (sets : Sets) (s : Sym) (number : ℤ) → FitsFixed v sets → HasOneNumber sets (Some s) number → v s.0 ≡ number
one_number v sets s number fits one =
    fits s.0 one.set number (ap (λ (t : Sym). set_of sets t.0) (same_Some s one.sym one.symbol_is) ∙ one.set_is) one.only

module _ (sets : Sets) (given made : Lin) (form : IsFormOf sets given made) (w : Valuation) (w_fits : Fits w sets) where
  -- a symbol has only one number if this can't be refuted
  stable : (s : Sym) → given.sym ≡ Some s → (o : Option (List Interval)) → set_of sets s.0 ≡ o
      → ¬ ¬ ((number : ℤ) × HasOneNumber sets given.sym number)
      → (number : ℤ) × HasOneNumber sets given.sym number
  stable s e None known not_not = absurd (form.declared s e known)
  stable s e (Some set) known not_not = (
    w s.0,
    record {
      sym = s;
      set = set;
      symbol_is = e;
      set_is = known;
      only = record { member = w_fits s.0 set known; alone = alone };
    },
  )
    where
      alone : (y : ℤ) → contains set y ≡ true → y ≡ w s.0
      alone y t = elim (decide_int y (w s.0)) [
        | inl same ↦ same
        | inr differ ↦
            absurd (not_not (λ p.
            let one : HasOneNumber sets given.sym p.0 = p.1 in
            let there : s ≡ one.sym = same_Some s one.sym (sym e ∙ one.symbol_is) in
            let own : set ≡ one.set = same_Some set one.set (sym known ∙ ap (λ (t : Sym). set_of sets t.0) there ∙ one.set_is) in
            let y_is : y ≡ p.0 = one.only.alone y (subst (λ (z : List Interval). contains z y ≡ true) own t) in
            let w_is : w s.0 ≡ p.0 =
            one.only.alone (w s.0) (subst (λ (z : List Interval). contains z (w s.0) ≡ true) own (w_fits s.0 set known)) in
            differ (y_is ∙ sym w_is)))
      ]

  pub form_given : made.sym ≡ None → IsFixed sets given
  form_given none = by given.sym refl
    where
      by : (o : Option Sym) → given.sym ≡ o → IsFixed sets given
      by None e = inl e
      by (Some s) e =
          inr (stable s e (set_of sets s.0) refl (λ not_one. none-some s (sym none ∙ (form.function not_one).symbol ∙ e)))

  pub form_made : IsFixed sets given → made.sym ≡ None
  form_made (inl none) = (form.function (λ p. none-some p.1.sym (sym none ∙ p.1.symbol_is))).symbol ∙ none
  form_made (inr one) = form.constant one.0 one.1

  not_one : (s : Sym) → made.sym ≡ Some s → ¬ ((number : ℤ) × HasOneNumber sets given.sym number)
  not_one s e p = none-some s (sym (form.constant p.0 p.1) ∙ e)

  pub form_symbol : (s : Sym) → made.sym ≡ Some s → given.sym ≡ Some s
  form_symbol s e = sym (form.function (not_one s e)).symbol ∙ e

  -- a fixed operand has one value
  fixed_value : (v : Valuation) → FitsFixed v sets → IsFixed sets given → value_of w given ≡ value_of v given
  fixed_value v fits (inl none) = value_of-none w given none ∙ sym (value_of-none v given none)
  fixed_value v fits (inr one) =
      let s = one.1.sym in
      let e : given.sym ≡ Some s = one.1.symbol_is in
      let there : HasOneNumber sets (Some s) one.0 = subst (λ (o : Option Sym). HasOneNumber sets o one.0) e one.1 in
      value_of-symbol w given s e
      ∙ ap (value_at given) (one_number w sets s one.0 (fits_fixed w sets w_fits) there ∙ sym (one_number v sets s one.0 fits there))
      ∙ sym (value_of-symbol v given s e)

  pub form_value : (v : Valuation) → FitsFixed v sets → value_of v made ≡ value_of v given
  form_value v fits = by made.sym refl
    where
      by : (o : Option Sym) → made.sym ≡ o → value_of v made ≡ value_of v given
      by None e =
          value_of-none v made e ∙ sym (value_of-none w made e) ∙ form.value w w_fits ∙ fixed_value v fits (form_given e)
      by (Some s) e =
          value_of-symbol v made s e ∙ (form.function (not_one s e)).values (v s.0)
          ∙ sym (value_of-symbol v given s (form_symbol s e))

-- if an operand whose symbol has several numbers is fixed, it has no symbol
pub fixed_none : (sets : Sets) (term : Lin) → IsSeveral sets term → IsFixed sets term → term.sym ≡ None
fixed_none sets term several (inl none) = none
fixed_none sets term several (inr one) = absurd (several one.0 one.1)

-- an operand and its prepared form
pub record IsReadyForm (sets : Sets) (given made : Lin) : Type 0 where
  pub to_given : IsFixed sets made → IsFixed sets given
  pub to_made : IsFixed sets given → IsFixed sets made
  pub symbol : (s : Sym) → made.sym ≡ Some s → given.sym ≡ Some s
  pub value : (v : Valuation) → FitsFixed v sets → value_of v made ≡ value_of v given

pub ready_form : (sets : Sets) (given made : Lin) → IsFormOf sets given made → IsSeveral sets made → (w : Valuation) → Fits w sets
    → IsReadyForm sets given made
ready_form sets given made form several w fits = record {
  to_given = λ fixed. form_given sets given made form w fits (fixed_none sets made several fixed);
  to_made = λ fixed. inl (form_made sets given made form w fits fixed);
  symbol = form_symbol sets given made form w fits;
  value = form_value sets given made form w fits;
}

module _ (sets : Sets) (left right l r : Lin) (f : IsReadyForm sets left l) (g : IsReadyForm sets right r) where
  pub over_one_given : AreOverOne sets l r → AreOverOne sets left right
  over_one_given (inl fixed) = inl (f.to_given fixed)
  over_one_given (inr (inl fixed)) = inr (inl (g.to_given fixed))
  over_one_given (inr (inr same)) = by l.sym refl
    where
      by : (o : Option Sym) → l.sym ≡ o → AreOverOne sets left right
      by None e = inl (f.to_given (inl e))
      by (Some s) e = inr (inr (f.symbol s e ∙ sym (g.symbol s (sym same ∙ e))))

  pub over_one_made : AreOverOne sets left right → AreOverOne sets l r
  over_one_made (inl fixed) = inl (f.to_made fixed)
  over_one_made (inr (inl fixed)) = inr (inl (g.to_made fixed))
  over_one_made (inr (inr same)) = by l.sym r.sym refl refl
    where
      by : (o p : Option Sym) → l.sym ≡ o → r.sym ≡ p → AreOverOne sets l r
      by None p e h = inl (inl e)
      by (Some s) None e h = inr (inl (inl h))
      by (Some s) (Some t) e h = inr (inr (e ∙ sym (f.symbol s e) ∙ same ∙ g.symbol t h ∙ sym h))
