-- Terms over a symbol with two numbers: they have two values, and their least and greatest value at the ends of the symbol's numbers.
use Rattle.std.proofs.Common.{◌≡◌, ◌≢◌, ◌⊎◌, inl, inr, ℕ, ℤ, pos, List, Option, None, Some, refl, sym, subst, ◌∙◌, arith}
use Rattle.std.specs.Prelude.{◌≤ℤ◌, ◌<ℤ◌}
use Rattle.std.proofs.lemmas.Int.{ints, by_lt_z}
use Rattle.cs_ranges.specs.declared.range_set.Interval.{Interval}
use Rattle.cs_ranges.proofs.Lines.{affine-between}
use Rattle.cs_terms.specs.declared.symbol.Sym.{Sym}
use Rattle.cs_terms.specs.declared.term.Lin.{Lin}
use Rattle.cs_terms.specs.Term.{Valuation, value_of, value_at, IsTerm, IsTermWith}
use Rattle.cs_terms.proofs.Cutting.{value_at-affine}
use Rattle.cs_constraints.specs.Constraints.{Sets, set_of, Fits, IsDeclared, HasOneNumber}
use Rattle.cs_constraints.proofs.Assuming.{value_of-symbol}
use Rattle.cs_eval.specs.Operands.{IsFixed}
use Rattle.cs_corners.specs.Corners.{IsEnd}
use Rattle.cs_corners.proofs.Numbers.{same_or_not, affine_apart}
use Rattle.cs_corners.proofs.Ends.{AllEnds, low_is_end, high_is_end}

module _ (term : Lin) (s : Sym) (is_term : IsTerm term) (over : term.sym ≡ Some s) where
  slope_is : term.slope ≢ pos 0
  slope_is = subst (λ (o : Option Sym). IsTermWith o term.slope) over is_term

  pub values_apart : (x y : ℤ) → x ≢ y → value_at term x ≢ value_at term y
  values_apart x y differ e =
      affine_apart term.slope term.at term.value x y slope_is differ (sym (value_at-affine term x is_term) ∙ e ∙ value_at-affine term y is_term)

-- the term is over a symbol with two numbers
pub record IsMovable (sets : Sets) (ends : AllEnds sets) (term : Lin) : Type 0 where
  pub symbol : Sym
  pub set : List Interval
  pub over : term.sym ≡ Some symbol
  pub known : set_of sets symbol.0 ≡ Some set
  pub apart : (ends symbol.0).low ≢ (ends symbol.0).high

pub fixed_or_movable : (sets : Sets) (ends : AllEnds sets) (term : Lin) → IsDeclared sets term.sym → IsFixed sets term ⊎ IsMovable sets ends term
fixed_or_movable sets ends term declared = by term.sym refl
  where
    only : (s : Sym) (set : List Interval) → term.sym ≡ Some s → set_of sets s.0 ≡ Some set → (ends s.0).low ≡ (ends s.0).high
        → HasOneNumber sets term.sym (ends s.0).low
    only s set e known same =
        let least = (ends s.0).least set known in
        let greatest = (ends s.0).greatest set known in
        record {
          sym = s;
          set = set;
          symbol_is = e;
          set_is = known;
          only = record {
            member = least.member;
            alone = λ y t. let p = least.least y t in let q = greatest.greatest y t in omega (arith, ints);
          };
        }

    with_set : (s : Sym) → term.sym ≡ Some s → (known : Option (List Interval)) → set_of sets s.0 ≡ known
        → IsFixed sets term ⊎ IsMovable sets ends term
    with_set s e None f = absurd (declared s e f)
    with_set s e (Some set) f = elim (same_or_not (ends s.0).low (ends s.0).high) [
      | inl same ↦ inl (inr ((ends s.0).low, only s set e f same))
      | inr differ ↦ inr (record { symbol = s; set = set; over = e; known = f; apart = differ })
    ]

    by : (symbol : Option Sym) → term.sym ≡ symbol → IsFixed sets term ⊎ IsMovable sets ends term
    by None e = inl (inl e)
    by (Some s) e = with_set s e (set_of sets s.0) refl

-- the end that differs from a number
module _ (sets : Sets) (ends : AllEnds sets) (n : ℕ) (x : ℤ) where
  pub away : ℤ
  away = elim (same_or_not x (ends n).low) [ inl same ↦ (ends n).high | inr differ ↦ (ends n).low ]

  pub away_apart : (ends n).low ≢ (ends n).high → away ≢ x
  unfolding away
  away_apart apart = by (same_or_not x (ends n).low)
    where
      by : (w : (x ≡ (ends n).low) ⊎ (x ≢ (ends n).low)) → elim w [ inl same ↦ (ends n).high | inr differ ↦ (ends n).low ] ≢ x
      by (inl same) e = apart (sym same ∙ sym e)
      by (inr differ) e = differ (sym e)

pub away_is_end : (sets : Sets) (ends : AllEnds sets) (s : Sym) (x : ℤ) (set : List Interval) → set_of sets s.0 ≡ Some set
    → IsEnd sets s (away sets ends s.0 x)
unfolding away
away_is_end sets ends s x set known = by (same_or_not x (ends s.0).low)
  where
    by : (w : (x ≡ (ends s.0).low) ⊎ (x ≢ (ends s.0).low)) → IsEnd sets s (elim w [ inl same ↦ (ends s.0).high | inr differ ↦ (ends s.0).low ])
    by (inl same) = high_is_end sets ends s set known
    by (inr differ) = low_is_end sets ends s set known

-- the ends at which the term has its least and its greatest value, which differ
pub record IsStretched (sets : Sets) (term : Lin) (s : Sym) : Type 0 where
  pub at_low : ℤ
  pub at_high : ℤ
  pub low_end : IsEnd sets s at_low
  pub high_end : IsEnd sets s at_high
  pub order : value_at term at_low <ℤ value_at term at_high
  pub bounds : (v : Valuation) → Fits v sets → (value_at term at_low ≤ℤ value_of v term) × (value_of v term ≤ℤ value_at term at_high)

module _ (sets : Sets) (ends : AllEnds sets) (term : Lin) (is_term : IsTerm term) (m : IsMovable sets ends term) where
  -- a term's value is between bounds for its values at both ends
  pub inside : (low high : ℤ) → let first = value_at term (ends m.symbol.0).low in let last = value_at term (ends m.symbol.0).high in
      (low ≤ℤ first) × (first ≤ℤ high) → (low ≤ℤ last) × (last ≤ℤ high)
      → (v : Valuation) → Fits v sets → (low ≤ℤ value_of v term) × (value_of v term ≤ℤ high)
  inside low high a b v fits =
      let x = v m.symbol.0 in
      let member = fits m.symbol.0 m.set m.known in
      let e = ends m.symbol.0 in
      let there = affine-between low high term.slope term.at term.value e.low e.high x ((e.least m.set m.known).least x member)
      ((e.greatest m.set m.known).greatest x member)
      (subst (λ (n : ℤ). (low ≤ℤ n) × (n ≤ℤ high)) (value_at-affine term e.low is_term) a)
      (subst (λ (n : ℤ). (low ≤ℤ n) × (n ≤ℤ high)) (value_at-affine term e.high is_term) b) in
      subst (λ (n : ℤ). (low ≤ℤ n) × (n ≤ℤ high)) (sym (value_of-symbol v term m.symbol m.over ∙ value_at-affine term x is_term)) there

  pub stretched : IsStretched sets term m.symbol
  stretched =
      let e = ends m.symbol.0 in
      let first = value_at term e.low in
      let last = value_at term e.high in
      let differ = values_apart term m.symbol is_term m.over e.low e.high m.apart in
      by_lt_z first last
      (λ lt. record {
        at_low = e.low;
        at_high = e.high;
        low_end = low_is_end sets ends m.symbol m.set m.known;
        high_end = high_is_end sets ends m.symbol m.set m.known;
        order = lt;
        bounds = inside first last (omega (arith, ints), omega (arith, ints)) (omega (arith, ints), omega (arith, ints));
      })
      (λ le. record {
        at_low = e.high;
        at_high = e.low;
        low_end = high_is_end sets ends m.symbol m.set m.known;
        high_end = low_is_end sets ends m.symbol m.set m.known;
        order = strict first last le differ;
        bounds = inside last first (le, omega (arith, ints)) (omega (arith, ints), le);
      })
    where
      strict : (x y : ℤ) → y ≤ℤ x → x ≢ y → y <ℤ x
      strict x y le differ = by_lt_z y x (λ lt. lt) (λ back. absurd (differ (omega (arith, ints))))
