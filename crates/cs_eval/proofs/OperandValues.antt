-- The values of operands: for the functions that split constraints by a term.
use Rattle.std.proofs.Common.{◌≡◌, ◌≢◌, ◌⊎◌, inl, inr, ◌^◌, ℕ, Bool, true, ℤ, pos, ◌+ℤ◌, List, Option, Some, None, refl, sym}
use Rattle.std.proofs.Common.{ap, subst, ◌∙◌, arith}
use Rattle.std.specs.Prelude.{IsNone, neg_ℤ, if◌then◌else◌}
use Rattle.std.proofs.lemmas.Bool.{eq-eqb, ne_eqb}
use Rattle.std.proofs.lemmas.Bool.Decides.{eqb_tells}
use Rattle.std.proofs.lemmas.Int.{ints}
use Rattle.std.proofs.lemmas.Option.{same_Some}
use Rattle.cs_ranges.specs.declared.range_set.Interval.{Interval}
use Rattle.cs_ranges.specs.RangeSet.{contains}
use Rattle.cs_terms.specs.declared.symbol.Sym.{Sym}
use Rattle.cs_terms.specs.declared.term.Lin.{Lin}
use Rattle.cs_terms.specs.declared.term.Lin2.{Lin2}
use Rattle.cs_terms.specs.Term.{Valuation, value_with, value_of, value_of_sum, value_at, IsTerm}
use Rattle.cs_constraints.specs.Constraints.{Sets, set_of, AreInhabited, Fits}
use Rattle.cs_constraints.proofs.Assuming.{fitting, value_of-symbol}
use Rattle.cs_eval.specs.Operands.{IsBetween, IsTermBetween, IsTermInside, LOWEST, HIGHEST}
use Rattle.cs_eval.specs.Parts.{with_number}

-- whether two numbers are equal
pub decide : (m n : ℕ) → (m ≡ n) ⊎ (m ≢ n)
decide m n = elim (eqb_tells m n) [ inl same ↦ inl same.1 | inr differ ↦ inr differ.1 ]

pub none_is : (symbol : Option Sym) → IsNone symbol → symbol ≡ None
none_is None h = refl
none_is (Some s) h = absurd (cc)

-- a term without a symbol has its value under each valuation
pub value_of-none : (v : Valuation) (term : Lin) → term.sym ≡ None → value_of v term ≡ term.value
value_of-none v term e = ap (λ (o : Option Sym). value_with v o term.slope term.at term.value) e

-- under each valuation that fits, an operand's value is between its bounds
pub value_between : (sets : Sets) (low high : ℤ) (term : Lin) (v : Valuation) → IsTermBetween sets low high term → Fits v sets
    → IsBetween low high (value_of v term)
value_between sets low high term v h fits = by term.sym refl
  where
    with_set : (s : Sym) → term.sym ≡ Some s → (o : Option (List Interval)) → set_of sets s.0 ≡ o → IsBetween low high (value_of v term)
    with_set s e None f = absurd (h.declared s e f)
    with_set s e (Some set) f =
        subst (λ (x : ℤ). IsBetween low high x) (sym (value_of-symbol v term s e)) (h.values s set e f (v s.0) (fits s.0 set f))

    by : (symbol : Option Sym) → term.sym ≡ symbol → IsBetween low high (value_of v term)
    by None e =
        let none_there : IsNone term.sym = subst (λ (o : Option Sym). IsNone o) (sym e) refl in
        subst (λ (x : ℤ). IsBetween low high x) (sym (value_of-none v term e)) (h.constant none_there)
    by (Some s) e = with_set s e (set_of sets s.0) refl

pub with_number-same : (guess : ℕ) (number : ℤ) (v : Valuation) (s : ℕ) → s ≡ guess → with_number guess number v s ≡ number
with_number-same guess number v s e = ap (λ (b : Bool). if b then number else v s) (eq-eqb s guess e)

pub with_number-other : (guess : ℕ) (number : ℤ) (v : Valuation) (s : ℕ) → s ≢ guess → with_number guess number v s ≡ v s
with_number-other guess number v s d = ap (λ (b : Bool). if b then number else v s) (ne_eqb s guess d)

-- a valuation that fits still fits with another number of a symbol's set
pub fits_with : (sets : Sets) (s : ℕ) (set : List Interval) (x : ℤ) (v : Valuation) → set_of sets s ≡ Some set → contains set x ≡ true
    → Fits v sets
    → Fits (with_number s x v) sets
fits_with sets s set x v known member fits other found e = elim (decide other s) [
  | inl same ↦
      let own : set ≡ found = same_Some set found (sym known ∙ ap (set_of sets) (sym same) ∙ e) in
      ap (contains found) (with_number-same s x v other same) ∙ ap (λ (z : List Interval). contains z x) (sym own) ∙ member
  | inr differ ↦ ap (contains found) (with_number-other s x v other differ) ∙ fits other found e
]

-- the value of a sum over one symbol is inside if those of its parts are within the bounds of order tests
pub sum_inside : (sets : Sets) (term : Lin2) (sum : Lin) → AreInhabited sets → IsTermBetween sets LOWEST HIGHEST term.first
    → IsTermBetween sets LOWEST HIGHEST term.second → IsTerm sum → ((v : Valuation) → value_of v sum ≡ value_of_sum v term)
    → ((s : Sym) → sum.sym ≡ Some s → (term.first.sym ≡ Some s) ⊎ (term.second.sym ≡ Some s)) → IsTermInside sets sum
sum_inside sets term sum inhabited f g is_term same symbol = record {
  is_term = is_term;
  declared = λ s e. elim (symbol s e) [ inl a ↦ f.declared s a | inr b ↦ g.declared s b ];
  constant = λ none.
      let v = fitting sets inhabited in
      subst (λ (n : ℤ). IsBetween (neg_ℤ (pos (2 ^ 126))) (pos (2 ^ 126)) n) (value_of-none v.0 sum (none_is sum.sym none)) (at v.0 v.1);
  values = λ s set e known x member.
      let v = fitting sets inhabited in
      let w = with_number s.0 x v.0 in
      let here : value_of w sum ≡ value_at sum x = value_of-symbol w sum s e ∙ ap (value_at sum) (with_number-same s.0 x v.0 s.0 refl) in
      subst (λ (n : ℤ). IsBetween (neg_ℤ (pos (2 ^ 126))) (pos (2 ^ 126)) n) here (at w (fits_with sets s.0 set x v.0 known member v.1));
}
  where
    bound : (a b : ℤ) → IsBetween LOWEST HIGHEST a → IsBetween LOWEST HIGHEST b → IsBetween (neg_ℤ (pos (2 ^ 126))) (pos (2 ^ 126)) (a +ℤ b)
    bound a b h k = (omega (arith, ints, h.0, k.0), omega (arith, ints, h.1, k.1))

    at : (v : Valuation) → Fits v sets → IsBetween (neg_ℤ (pos (2 ^ 126))) (pos (2 ^ 126)) (value_of v sum)
    at v fits =
        subst (λ (n : ℤ). IsBetween (neg_ℤ (pos (2 ^ 126))) (pos (2 ^ 126)) n) (sym (same v))
        (bound (value_of v term.first) (value_of v term.second) (value_between sets LOWEST HIGHEST term.first v f fits)
        (value_between sets LOWEST HIGHEST term.second v g fits))
