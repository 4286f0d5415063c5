-- An answer that depends on its symbol doesn't change, and any other becomes a constant: for the contract of `settled`.
use Rattle.std.proofs.Common.{◌≡◌, ◌≢◌, ◌≤◌, ◌⊎◌, inl, inr, ℤ, pos, ◌+ℤ◌, ◌-ℤ◌, ◌*ℤ◌, unsigned_abs, List}
use Rattle.std.proofs.Common.{Option, None, Some, refl, sym, ap, ◌∙◌}
use Rattle.std.proofs.Common.{subst, true≢false, arith}
use Rattle.std.proofs.lemmas.Int.{ints}
use Rattle.cs_ranges.specs.declared.range_set.Interval.{Interval}
use Rattle.cs_ranges.specs.Affine.{affine}
use Rattle.cs_ranges.specs.RangeSet.{IsOnly, IsEmpty, IsInhabited, HasTwo}
use Rattle.cs_ranges.proofs.AffineLaws.{affine-affine}
use Rattle.cs_terms.specs.declared.symbol.Sym.{Sym}
use Rattle.cs_terms.specs.declared.term.Lin.{Lin}
use Rattle.cs_terms.specs.Term.{Valuation, value_with, value_of}
use Rattle.cs_terms.proofs.Products.{abs-product}
use Rattle.cs_constraints.specs.Constraints.{Sets, set_of}
use Rattle.cs_pieces.specs.Settled.{DependsOn, IsSettled, IsConstantAt}

-- a function with a slope that isn't 0 has different values at different numbers
values_differ : (slope at value one other : ℤ) → slope ≢ pos 0 → one ≢ other → affine slope at value one ≢ affine slope at value other
values_differ slope at value one other steep apart same =
    let rise : ℤ = slope *ℤ (one -ℤ other) in
    let moves : affine slope at value other +ℤ rise ≡ affine slope at value one = affine-affine slope at value other one in
    let far : one -ℤ other ≢ pos 0 = λ e. apart (omega (arith, ints, e)) in
    none (affine slope at value one) (affine slope at value other) rise slope moves same (abs-product slope (one -ℤ other) far) steep
  where
    none : (u v rise slope : ℤ) → v +ℤ rise ≡ u → u ≡ v → unsigned_abs slope ≤ unsigned_abs rise → slope ≢ pos 0 → ⊥
    none u v rise slope e f le steep = steep (omega (arith, ints, e, f, le))

module _ (before : Sets) (guess : Option Sym) (term : Lin) (symbol : Sym) (is : term.sym ≡ Some symbol) where
  -- the term's values
  value_is : (v : Valuation) → value_of v term ≡ affine term.slope term.at term.value (v symbol.0)
  value_is v = ap (λ (o : Option Sym). value_with v o term.slope term.at term.value) is

  none_over : (made : Lin) → made.sym ≡ None → (other : Sym) → made.sym ≡ Some other → (guess ≡ Some other) ⊎ DependsOn before made other
  none_over made none other over = let wrong : None ≡ Some other = sym none ∙ over in cc

  constant_is : (made : Lin) → made.sym ≡ None → (v : Valuation) → value_of v made ≡ made.value
  constant_is made none v = ap (λ (o : Option Sym). value_with v o made.slope made.at made.value) none

  -- a constant function
  pub level_settled : (made : Lin) → made.sym ≡ None → made.value ≡ term.value → term.slope ≡ pos 0 → IsSettled before guess term made
  level_settled made none value level = record {
    values = λ v fits.
        constant_is made none v ∙ value
        ∙ sym (value_is v ∙ ap (λ (slope : ℤ). affine slope term.at term.value (v symbol.0)) level ∙ flat (v symbol.0 -ℤ term.at) term.value);
    over = none_over made none;
  }
    where
      flat : (x value : ℤ) → value +ℤ pos 0 *ℤ x ≡ value
      flat x value = omega (arith, ints)

  module _ (set : List Interval) (there : set_of before symbol.0 ≡ Some set) where
    -- a function of a symbol with only one number
    pub constant_settled : (only : ℤ) → IsOnly set only → (made : Lin) → IsConstantAt term only made → IsSettled before guess term made
    constant_settled only one made at = record {
      values = λ v fits.
          constant_is made at.no_symbol v ∙ at.value
          ∙ ap (affine term.slope term.at term.value) (sym (one.alone (v symbol.0) (fits symbol.0 set there))) ∙ sym (value_is v);
      over = none_over made at.no_symbol;
    }

    -- a function with a slope that isn't 0, of a symbol with two numbers
    pub term_settled : term.slope ≢ pos 0 → IsInhabited set → IsEmpty set ⊎ HasTwo set → IsSettled before guess term term
    term_settled steep some either = elim either [
      | inl empty ↦ absurd (true≢false (sym some.1 ∙ empty some.0))
      | inr two ↦ record {
        values = λ v fits. refl;
        over = λ other over.
            let one : symbol ≡ other = cc in
            inr (record {
              set = set;
              there = ap (λ (s : Sym). set_of before s.0) (sym one) ∙ there;
              one = two.one;
              other = two.another;
              has_one = two.one_is_member;
              has_other = two.another_is_member;
              differ = λ same.
                  values_differ term.slope term.at term.value two.one two.another steep two.differ
                  (sym (value_is (λ s. two.one)) ∙ same ∙ value_is (λ s. two.another));
            });
      }
    ]

-- an answer that is settled for equal arguments
pub settled_as : {before sets : Sets} {one guess : Option Sym} {given term answer : Lin} → before ≡ sets → one ≡ guess → given ≡ term
    → IsSettled before one given answer → IsSettled sets guess term answer
settled_as {before = before} {one = one} {guess = guess} {term = term} {answer = answer} same_sets same_guess same settled =
    subst (λ (sets : Sets). IsSettled sets guess term answer) same_sets
    (subst (λ (found : Option Sym). IsSettled before found term answer) same_guess
    (subst (λ (it : Lin). IsSettled before one it answer) same settled))
