-- A sum as one term: for the contracts of `added` and `difference`.
use Rattle.std.proofs.Common.{◌≡◌, ◌⊎◌, inl, inr, ◌↔◌, ℤ, ◌+ℤ◌, Option, Some, None, refl, sym, ap, subst}
use Rattle.std.proofs.Common.{◌∙◌}
use Rattle.std.specs.Prelude.{IsNone, IfSome}
use Rattle.std.proofs.lemmas.Option.{same_Some}
use Rattle.cs_terms.specs.declared.symbol.Sym.{Sym}
use Rattle.cs_terms.specs.declared.term.Lin.{Lin}
use Rattle.cs_terms.specs.Term.{Valuation, value_of, IsTerm, HaveTwoSymbols}
use Rattle.cs_eval.specs.Wraps.{IsSumOf}

pub none_it : (sum : Option Lin) → sum ≡ None → IsNone sum
none_it sum e = subst (λ (o : Option Lin). IsNone o) (sym e) refl

-- what `add` of cs_terms returns
pub sum_of : (left right first second : Lin) (number : Valuation → ℤ) (sum : Option Lin)
    → ((v : Valuation) → value_of v first +ℤ value_of v second ≡ number v) → first.sym ≡ left.sym → second.sym ≡ right.sym
    → IfSome sum (λ exact. (v : Valuation) → value_of v exact ≡ value_of v first +ℤ value_of v second)
    → IsNone sum ↔ HaveTwoSymbols first.sym second.sym
    → IfSome sum (λ exact. IsTerm exact)
    → IfSome sum (λ exact. (s : Sym) → exact.sym ≡ Some s → (first.sym ≡ Some s) ⊎ (second.sym ≡ Some s)) → IsSumOf left right number sum
sum_of left right first second number None same f g value none term symbol = record {
  value = λ exact v e. absurd (cc);
  is_term = λ exact e. absurd (cc);
  symbol = λ exact s e k. absurd (cc);
  one = λ exact e k. absurd (cc);
  none = λ e.
      subst (λ (o : Option Sym). HaveTwoSymbols o right.sym) f (subst (λ (o : Option Sym). HaveTwoSymbols first.sym o) g (none.0 refl));
}
sum_of left right first second number (Some sum) same f g value none term symbol = record {
  value = λ exact v e. ap (value_of v) (sym (only e)) ∙ value v ∙ same v;
  is_term = λ exact e. subst (λ (t : Lin). IsTerm t) (only e) term;
  symbol = λ exact s e k. elim (symbol s (ap (λ (t : Lin). t.sym) (only e) ∙ k)) [ inl a ↦ inl (sym f ∙ a) | inr b ↦ inr (sym g ∙ b) ];
  one = λ exact e two. none_is (none.1 (back two));
  none = λ e. absurd (cc);
}
  where
    only : {exact : Lin} → Some sum ≡ Some exact → sum ≡ exact
    only e = same_Some _ _ e

    none_is : IsNone (Some sum) → ⊥
    none_is e = absurd (cc)

    back : HaveTwoSymbols left.sym right.sym → HaveTwoSymbols first.sym second.sym
    back two = subst (λ (o : Option Sym). HaveTwoSymbols o second.sym) (sym f) (subst (λ (o : Option Sym). HaveTwoSymbols left.sym o) (sym g) two)
