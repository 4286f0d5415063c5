-- The order test of `calloc`: for the contracts of `product_test` and of the functions that it calls.
use Rattle.std.proofs.Common.{◌≡◌, ◌⊎◌, inl, inr, ℕ, zero, suc, ◌*◌, ◌/◌, ◌≤◌, Bool, true, false, ℤ, pos, negsuc, ◌+ℤ◌}
use Rattle.std.proofs.Common.{◌-ℤ◌}
use Rattle.std.proofs.Common.{◌*ℤ◌, List, Option, Some, None, refl, sym, ap, subst, ◌∙◌, arith, to_z, of_z, FitsSigned}
use Rattle.std.specs.Prelude.{◌≤ℤ◌, ◌<ℤ◌, int_le, neg_ℤ}
use Rattle.std.proofs.lemmas.Int.{ints, quot_fits, to_z-of_z}
use Rattle.std.specs.Int.{w128}
use Rattle.std.proofs.lemmas.Nat.{mul-le}
use Rattle.std.proofs.Math.Nat.{le-div_iff_mul-le}
use Rattle.std.proofs.Math.IntN.{*ℤ_comm, *ℤ-zero, pos-*ℤ-pos, pos-*ℤ-negsuc}
use Rattle.std.specs.Int.RustNames.{int_div}
use Rattle.std.proofs.lemmas.Option.{none-some, same_Some}
use Rattle.cs_ranges.specs.declared.range_set.Interval.{Interval}
use Rattle.cs_types.specs.declared.data_model.DataModel.{DataModel}
use Rattle.cs_types.specs.DataModel.{product_bound_of}
use Rattle.cs_ast.specs.declared.typed.operator.CmpOp.TheVariants.{AtMost}
use Rattle.cs_terms.specs.declared.symbol.Sym.{Sym}
use Rattle.cs_terms.specs.declared.term.Lin.{Lin}
use Rattle.cs_terms.specs.Term.{Valuation, value_of, value_at}
use Rattle.cs_constraints.specs.Constraints.{Sets, set_of, Fits}
use Rattle.cs_events.specs.declared.event.Label.TheVariants as label
use Rattle.cs_eval.specs.declared.piece.Piece.{Piece}
use Rattle.cs_eval.specs.declared.question.Question.TheVariants as question
use Rattle.cs_eval.specs.declared.truths.Followed.{Followed}
use Rattle.cs_eval.specs.declared.truths.Followed.TheVariants.{Where, Always as AlwaysIs, No}
use Rattle.cs_eval.specs.Followed.{IsProductDecided, asking_of, AreAnswers}
use Rattle.cs_eval.specs.Operands.{IsBetween, IsFixed, IsRaised, IsSeveral, IsTermBetween, IsTermInside, LOWEST, HIGHEST, HasEnds, constant_of, constant_with}
use Rattle.cs_eval.specs.ProductTests.{IsTermOfCounts, is_few, IsFollowedByFactor, IsFollowedByEnds, IsFollowedByProduct}
use Rattle.cs_eval.specs.Truths.{IsReady, ArePiecesOf}
use Rattle.cs_eval.proofs.OperandForms.{fixed_none}
use Rattle.cs_eval.proofs.OperandValues.{value_between, value_of-none}
use Rattle.cs_eval.proofs.PartPieces.{raised_value}
use Rattle.cs_eval.proofs.TruthPieces.{IsTruth, is_true-number, where_split, all_split, guess_split}

-- the bounds of counts are inside those of order tests
pub counts_wide : (sets : Sets) (term : Lin) → IsTermOfCounts sets term → IsTermBetween sets LOWEST HIGHEST term
counts_wide sets term h = record {
  is_term = h.is_term;
  declared = h.declared;
  constant = λ none. wider term.value (h.constant none);
  values = λ s set e known x member. wider (value_at term x) (h.values s set e known x member);
}
  where
    wider : (n : ℤ) → IsBetween (pos 0) (pos 18446744073709551615) n → IsBetween LOWEST HIGHEST n
    wider n b = (omega (arith, ints, b.0), omega (arith, ints, b.1))

same_truth : (a b : Bool) → (a ≡ true → b ≡ true) → (b ≡ true → a ≡ true) → a ≡ b
same_truth true b f g = sym (f refl)
same_truth false true f g = g refl
same_truth false false f g = refl

-- the product of a number from 0 and a positive factor is within a bound exactly if the number is at most the quotient
pub few_by_quotient : (bound : ℕ) (n factor : ℤ) → pos 0 ≤ℤ n → pos 0 <ℤ factor
    → int_le (n *ℤ factor) (pos bound) ≡ int_le (n +ℤ neg_ℤ (int_div (pos bound) factor)) (pos 0)
few_by_quotient bound (negsuc m) factor low above = absurd (omega (arith, ints, low))
few_by_quotient bound (pos m) (negsuc k) low above = absurd (omega (arith, ints, above))
few_by_quotient bound (pos m) (pos zero) low above = absurd (omega (arith, ints, above))
few_by_quotient bound (pos m) (pos (suc k)) low above =
    let product = pos-*ℤ-pos m (suc k) in
    let both = le-div_iff_mul-le {k = suc k} {x = m} {y = bound} (omega arith) in
    same_truth (int_le (pos m *ℤ pos (suc k)) (pos bound)) (int_le (pos m +ℤ neg_ℤ (pos (bound / suc k))) (pos 0))
    (λ t. below m (bound / suc k) (both.1 (at_most (m * suc k) bound (sym (ap (λ (n : ℤ). int_le n (pos bound)) product) ∙ t))))
    (λ t. ap (λ (n : ℤ). int_le n (pos bound)) product ∙ few_is (m * suc k) bound (both.0 (under m (bound / suc k) t)))
  where
    at_most : (a b : ℕ) → int_le (pos a) (pos b) ≡ true → a ≤ b
    at_most a b t = grind (arith, ints)

    few_is : (a b : ℕ) → a ≤ b → int_le (pos a) (pos b) ≡ true
    few_is a b h = grind (arith, ints)

    below : (a b : ℕ) → a ≤ b → int_le (pos a +ℤ neg_ℤ (pos b)) (pos 0) ≡ true
    below a b h = grind (arith, ints)

    under : (a b : ℕ) → int_le (pos a +ℤ neg_ℤ (pos b)) (pos 0) ≡ true → a ≤ b
    under a b t = grind (arith, ints)

negative_few : (n bound : ℕ) → int_le (neg_ℤ (pos n)) (pos bound) ≡ true
negative_few n bound = grind (arith, ints)

-- the product of a number from 0 and a factor up to 0 is within each bound
pub few_by_none : (bound : ℕ) (n factor : ℤ) → pos 0 ≤ℤ n → factor ≤ℤ pos 0 → int_le (n *ℤ factor) (pos bound) ≡ true
few_by_none bound (negsuc m) factor low none = absurd (omega (arith, ints, low))
few_by_none bound (pos m) (pos (suc k)) low none = absurd (omega (arith, ints, none))
few_by_none bound (pos m) (pos zero) low none = ap (λ (n : ℤ). int_le n (pos bound)) (*ℤ-zero (pos m)) ∙ negative_few 0 bound
few_by_none bound (pos m) (negsuc k) low none =
    ap (λ (n : ℤ). int_le n (pos bound)) (pos-*ℤ-negsuc m k) ∙ negative_few (m * suc k) bound

-- products of numbers from 0 grow with these
product_grows : (a b m n : ℤ) → pos 0 ≤ℤ a → a ≤ℤ m → pos 0 ≤ℤ b → b ≤ℤ n → (a *ℤ b) ≤ℤ (m *ℤ n)
product_grows (negsuc a) b m n la ha lb hb = absurd (omega (arith, ints, la))
product_grows (pos a) (negsuc b) m n la ha lb hb = absurd (omega (arith, ints, lb))
product_grows (pos a) (pos b) (negsuc m) n la ha lb hb = absurd (omega (arith, ints, ha))
product_grows (pos a) (pos b) (pos m) (negsuc n) la ha lb hb = absurd (omega (arith, ints, hb))
product_grows (pos a) (pos b) (pos m) (pos n) la ha lb hb =
    let less = mul-le a b m n (omega (arith, ints, ha)) (omega (arith, ints, hb)) in
    subst (λ (x : ℤ). x ≤ℤ (pos m *ℤ pos n)) (sym (pos-*ℤ-pos a b))
    (subst (λ (x : ℤ). pos (a * b) ≤ℤ x) (sym (pos-*ℤ-pos m n)) (grows (a * b) (m * n) less))
  where
    grows : (j k : ℕ) → j ≤ k → pos j ≤ℤ pos k
    grows j k h = omega (arith, ints, h)

few_below : (x y b : ℤ) → x ≤ℤ y → int_le y b ≡ true → int_le x b ≡ true
few_below x y b h t = grind (arith, ints)

many_above : (x y b : ℤ) → x ≤ℤ y → int_le x b ≡ false → int_le y b ≡ false
many_above x y b h t = grind (arith, ints)

-- products between the ends of both factors
module _ (model : DataModel) (sets : Sets) (count size : Lin) (c s : Interval) (counts : IsTermOfCounts sets count) (sizes : IsTermOfCounts sets size)
    (c_ends : HasEnds sets count c) (s_ends : HasEnds sets size s) where
  count_low : (v : Valuation) → Fits v sets → pos 0 ≤ℤ value_of v count
  count_low v fits = (value_between sets (pos 0) (pos 18446744073709551615) count v counts fits).0

  size_low : (v : Valuation) → Fits v sets → pos 0 ≤ℤ value_of v size
  size_low v fits = (value_between sets (pos 0) (pos 18446744073709551615) size v sizes fits).0

  -- an end is the value under some valuation
  count_end : (v : Valuation) → Fits v sets → pos 0 ≤ℤ c.low
  count_end v fits = let p = c_ends.low v fits in subst (λ (n : ℤ). pos 0 ≤ℤ n) p.value (count_low p.at p.fits)

  size_end : (v : Valuation) → Fits v sets → pos 0 ≤ℤ s.low
  size_end v fits = let p = s_ends.low v fits in subst (λ (n : ℤ). pos 0 ≤ℤ n) p.value (size_low p.at p.fits)

  count_high : (v : Valuation) → Fits v sets → pos 0 ≤ℤ c.high
  count_high v fits = let p = c_ends.high v fits in subst (λ (n : ℤ). pos 0 ≤ℤ n) p.value (count_low p.at p.fits)

  size_high : (v : Valuation) → Fits v sets → pos 0 ≤ℤ s.high
  size_high v fits = let p = s_ends.high v fits in subst (λ (n : ℤ). pos 0 ≤ℤ n) p.value (size_low p.at p.fits)

  pub all_few : (within : Bool) → (pos 0 ≤ℤ c.high → pos 0 ≤ℤ s.high → within ≡ is_few model c.high s.high) → within ≡ true
      → (v w : Valuation) → Fits v sets → Fits w sets → is_few model (value_of v count) (value_of w size) ≡ true
  all_few within says t v w v_fits w_fits =
      few_below (value_of v count *ℤ value_of w size) (c.high *ℤ s.high) (pos (product_bound_of model))
      (product_grows (value_of v count) (value_of w size) c.high s.high (count_low v v_fits) (c_ends.bounds v v_fits).1 (size_low w w_fits)
      (s_ends.bounds w w_fits).1)
      (sym (says (count_high v v_fits) (size_high v v_fits)) ∙ t)

  pub none_few : (within : Bool) → (pos 0 ≤ℤ c.low → pos 0 ≤ℤ s.low → within ≡ is_few model c.low s.low) → within ≡ false
      → (v w : Valuation) → Fits v sets → Fits w sets → is_few model (value_of v count) (value_of w size) ≡ false
  none_few within says t v w v_fits w_fits =
      many_above (c.low *ℤ s.low) (value_of v count *ℤ value_of w size) (pos (product_bound_of model))
      (product_grows c.low s.low (value_of v count) (value_of w size) (count_end v v_fits) (c_ends.bounds v v_fits).0 (size_end v v_fits)
      (s_ends.bounds w w_fits).0)
      (sym (says (count_end v v_fits) (size_end v v_fits)) ∙ t)

  pub some_few : (high low : Bool) → (pos 0 ≤ℤ c.high → pos 0 ≤ℤ s.high → high ≡ is_few model c.high s.high) → high ≡ false
      → (pos 0 ≤ℤ c.low → pos 0 ≤ℤ s.low → low ≡ is_few model c.low s.low) → low ≡ true
      → (v : Valuation) → Fits v sets → ¬ IsProductDecided model sets count size
  some_few high low says_high t says_low u v fits decided =
      let a = c_ends.high v fits in
      let b = s_ends.high v fits in
      let p = c_ends.low v fits in
      let q = s_ends.low v fits in
      let at_high : is_few model c.high s.high ≡ decided.0 =
      sym (ap (λ (n : ℤ). is_few model n (value_of b.at size)) a.value ∙ ap (λ (n : ℤ). is_few model c.high n) b.value)
      ∙ decided.1 a.at b.at a.fits b.fits in
      let at_low : is_few model c.low s.low ≡ decided.0 =
      sym (ap (λ (n : ℤ). is_few model n (value_of q.at size)) p.value ∙ ap (λ (n : ℤ). is_few model c.low n) q.value)
      ∙ decided.1 p.at q.at p.fits q.fits in
      let clash : true ≡ false =
      sym u ∙ says_low (count_end v fits) (size_end v fits) ∙ at_low ∙ sym at_high
      ∙ sym (says_high (count_high v fits) (size_high v fits)) ∙ t in
      absurd (cc)

-- a constant's value
constant_value : (v : Valuation) (term : Lin) (factor : ℤ) → term.sym ≡ None → term.value ≡ factor → value_of v term ≡ factor
constant_value v term factor none e = value_of-none v term none ∙ e

few_swaps : (model : DataModel) (a b : ℤ) → is_few model a b ≡ is_few model b a
few_swaps model a b = ap (λ (n : ℤ). int_le n (pos (product_bound_of model))) (*ℤ_comm a b)

pub constant_parts : (term : Lin) (number : ℤ) → constant_of term ≡ Some number → (term.sym ≡ None) × (term.value ≡ number)
constant_parts term number e = by term.sym refl e
  where
    by : (o : Option Sym) → term.sym ≡ o → constant_with o term.value ≡ Some number → (term.sym ≡ None) × (term.value ≡ number)
    by None none h = (none, same_Some term.value number h)
    by (Some s) some h = absurd (cc)

pub no_constant : (term : Lin) → constant_of term ≡ None → ¬ (term.sym ≡ None)
no_constant term e none =
    none-some term.value (sym e ∙ ap (λ (o : Option Sym). constant_with o term.value) none)

-- a term with a positive factor
pub by_quotient : (model : DataModel) (sets : Sets) (term above : Lin) (factor : ℤ) → IsTermOfCounts sets term → pos 0 <ℤ factor
    → IsRaised term (neg_ℤ (int_div (pos (product_bound_of model)) factor)) above → IsTermInside sets above
    → IsFollowedByFactor model sets term factor (Where AtMost above)
by_quotient model sets term above factor counts positive raised inside = record {
  inside = inside;
  truth = λ v fits.
      few_by_quotient (product_bound_of model) (value_of v term) factor
      (value_between sets (pos 0) (pos 18446744073709551615) term v counts fits).0 positive
      ∙ ap (λ (n : ℤ). int_le n (pos 0)) (sym (raised_value v term (neg_ℤ (int_div (pos (product_bound_of model)) factor)) above raised));
  symbol = λ s e. sym raised.symbol ∙ e;
}

quotient_low : (b : ℕ) (factor : ℤ) → pos 0 <ℤ factor → pos 0 ≤ℤ int_div (pos b) factor
quotient_low b (negsuc k) above = absurd (omega (arith, ints, above))
quotient_low b (pos k) above = omega (arith, ints)

-- the negative quotient as the code computes it
pub raised_by : (term above : Lin) (bound factor : ℤ) (b : ℕ) → FitsSigned w128 bound → FitsSigned w128 factor → bound ≡ pos b → pos 0 <ℤ factor
    → IsRaised term (to_z w128 (of_z w128 (pos 0 -ℤ to_z w128 (of_z w128 (int_div (to_z w128 (of_z w128 bound)) (to_z w128 (of_z w128 factor))))))) above
    → IsRaised term (neg_ℤ (int_div (pos b) factor)) above
raised_by term above bound factor b f g e positive h =
    let q : FitsSigned w128 (int_div bound factor) = quot_fits w128 bound factor f positive in
    let low : pos 0 ≤ℤ int_div bound factor = subst (λ (x : ℤ). pos 0 ≤ℤ int_div x factor) (sym e) (quotient_low b factor positive) in
    let n : FitsSigned w128 (pos 0 -ℤ int_div bound factor) = fits_below (int_div bound factor) low q in
    subst (λ (x : ℤ). IsRaised term x above)
    (ap (λ (x : ℤ). to_z w128 (of_z w128 (pos 0 -ℤ to_z w128 (of_z w128 (int_div x (to_z w128 (of_z w128 factor))))))) (to_z-of_z w128 bound f)
    ∙ ap (λ (x : ℤ). to_z w128 (of_z w128 (pos 0 -ℤ to_z w128 (of_z w128 (int_div bound x))))) (to_z-of_z w128 factor g)
    ∙ ap (λ (x : ℤ). to_z w128 (of_z w128 (pos 0 -ℤ x))) (to_z-of_z w128 (int_div bound factor) q)
    ∙ to_z-of_z w128 (pos 0 -ℤ int_div bound factor) n ∙ minus (int_div bound factor) ∙ ap (λ (x : ℤ). neg_ℤ (int_div x factor)) e)
    h
  where
    minus : (z : ℤ) → pos 0 -ℤ z ≡ neg_ℤ z
    minus z = omega (arith, ints)

    fits_below : (z : ℤ) → pos 0 ≤ℤ z → FitsSigned w128 z → FitsSigned w128 (pos 0 -ℤ z)
    fits_below z low f = omega (arith, ints, low, f)

-- a term with a factor up to 0
pub by_no_factor : (model : DataModel) (sets : Sets) (term : Lin) (factor : ℤ) → IsTermOfCounts sets term → factor ≤ℤ pos 0
    → IsFollowedByFactor model sets term factor (AlwaysIs true)
by_no_factor model sets term factor counts none v fits =
    few_by_none (product_bound_of model) (value_of v term) factor
    (value_between sets (pos 0) (pos 18446744073709551615) term v counts fits).0 none

-- the size is constant
pub product_by_size : (model : DataModel) (sets : Sets) (count size : Lin) (factor : ℤ) (followed : Followed) → size.sym ≡ None → size.value ≡ factor
    → IsFollowedByFactor model sets count factor followed → IsFollowedByProduct model sets count size followed
product_by_size model sets count size factor (Where op by) none e h = record {
  fixed = inr (inl none);
  inside = h.inside;
  truth = λ v fits. ap (λ (n : ℤ). is_few model (value_of v count) n) (constant_value v size factor none e) ∙ h.truth v fits;
  symbol = λ t z. inl (h.symbol t z);
}
product_by_size model sets count size factor (AlwaysIs holds) none e h = (
  λ v fits. ap (λ (n : ℤ). is_few model (value_of v count) n) (constant_value v size factor none e) ∙ h v fits,
  inr (inl (inl none)),
)
product_by_size model sets count size factor No none e h = absurd h

-- the count is constant
pub product_by_count : (model : DataModel) (sets : Sets) (count size : Lin) (factor : ℤ) (followed : Followed) → count.sym ≡ None
    → count.value ≡ factor
    → IsFollowedByFactor model sets size factor followed → IsFollowedByProduct model sets count size followed
product_by_count model sets count size factor (Where op by) none e h = record {
  fixed = inl (inl none);
  inside = h.inside;
  truth = λ v fits.
      few_swaps model (value_of v count) (value_of v size)
      ∙ ap (λ (n : ℤ). is_few model (value_of v size) n) (constant_value v count factor none e) ∙ h.truth v fits;
  symbol = λ t z. inr (h.symbol t z);
}
product_by_count model sets count size factor (AlwaysIs holds) none e h = (
  λ v fits.
      few_swaps model (value_of v count) (value_of v size)
      ∙ ap (λ (n : ℤ). is_few model (value_of v size) n) (constant_value v count factor none e) ∙ h v fits,
  inl (inl none),
)
product_by_count model sets count size factor No none e h = absurd h

-- neither is constant
pub product_by_ends : (model : DataModel) (sets : Sets) (count size : Lin) (followed : Followed) → IsSeveral sets count → IsSeveral sets size
    → ¬ (count.sym ≡ None) → ¬ (size.sym ≡ None) → IsFollowedByEnds model sets count size followed
    → IsFollowedByProduct model sets count size followed
product_by_ends model sets count size (Where op by) c s c_some s_some h = absurd h
product_by_ends model sets count size (AlwaysIs holds) c s c_some s_some h = (λ v fits. h v v fits fits, inr (inr (holds, h)))
product_by_ends model sets count size No c s c_some s_some h = λ v fits followed. elim followed [
  | inl fixed ↦ c_some (fixed_none sets count c fixed)
  | inr (inl fixed) ↦ s_some (fixed_none sets size s fixed)
  | inr (inr decided) ↦ h v fits decided
]

pub product_ready : (model : DataModel) (sets : Sets) (count size : Lin) (followed : Followed) → IsFollowedByProduct model sets count size followed
    → IsReady sets followed
product_ready model sets count size (Where op by) h = h.inside
product_ready model sets count size (AlwaysIs holds) h = tt
product_ready model sets count size No h = tt

product_shows : (model : DataModel) (sets : Sets) (count size : Lin)
    → IsTruth model (asking_of model sets (question.Product count size)) (λ v. is_few model (value_of v count) (value_of v size))
product_shows model sets count size = record {
  shown = λ v. ap (λ (b : Bool). label.Truth b) (is_true-number (is_few model (value_of v count) (value_of v size)));
  own = λ v. refl;
  shown_guess = λ v number. refl;
  to_guess = λ v number h. h;
  from_guess = λ v number h. h;
}

pub product_split : (model : DataModel) (sets : Sets) (guess : ℕ) (count size : Lin) (followed : Followed) (pieces : List Piece)
    → set_of sets guess ≡ None → IsFollowedByProduct model sets count size followed → ArePiecesOf sets guess followed pieces
    → AreAnswers model sets guess (question.Product count size) pieces
product_split model sets guess count size (Where op by) pieces fresh h made =
    where_split model sets guess (asking_of model sets (question.Product count size)) (λ v. is_few model (value_of v count) (value_of v size))
    (product_shows model sets count size) op by pieces made h.truth (λ v fits. either h.fixed) h.symbol
  where
    either : IsFixed sets count ⊎ IsFixed sets size → IsFixed sets count ⊎ (IsFixed sets size ⊎ IsProductDecided model sets count size)
    either (inl fixed) = inl fixed
    either (inr fixed) = inr (inl fixed)
product_split model sets guess count size (AlwaysIs holds) pieces fresh h made =
    all_split model sets guess (asking_of model sets (question.Product count size)) (λ v. is_few model (value_of v count) (value_of v size))
    (product_shows model sets count size) holds pieces made h.0 (λ v fits. h.1)
product_split model sets guess count size No pieces fresh h made =
    guess_split model sets guess (asking_of model sets (question.Product count size)) (λ v. is_few model (value_of v count) (value_of v size))
    (product_shows model sets count size) fresh h pieces made
