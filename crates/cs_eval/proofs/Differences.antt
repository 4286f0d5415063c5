-- Differences of offsets: for the contracts of `pointer_difference` and of the functions that it calls.
use Rattle.std.proofs.Common.{◌≡◌, ◌≢◌, ◌⊎◌, inl, inr, ℕ, zero, suc, ◌*◌, ◌/◌, ℤ, pos, negsuc, ◌+ℤ◌, ◌-ℤ◌}
use Rattle.std.proofs.Common.{◌*ℤ◌, List, [], ◌∷◌, Option, Some, None, refl, sym, ap, subst, ◌∙◌, arith, FitsSigned}
use Rattle.std.specs.Prelude.{◌≤ℤ◌, ◌<ℤ◌, neg_ℤ, MatchOption}
use Rattle.std.specs.Int.{w32, w64}
use Rattle.std.specs.Int.RustNames.{int_div, int_rem}
use Rattle.std.proofs.lemmas.Int.{ints, quot-rem, quot_fits}
use Rattle.std.proofs.Math.Nat.{mul-div_cancel, zero-div}
use Rattle.std.proofs.Math.IntN.{*ℤ-zero, zero-*ℤ, pos-*ℤ-pos, negsuc-*ℤ-pos}
use Rattle.cs_ranges.specs.Affine.{affine}
use Rattle.cs_types.specs.declared.data_model.DataModel.{DataModel}
use Rattle.cs_types.specs.declared.data_model.DataModel.TheVariants.{Lp64, Ilp32}
use Rattle.cs_types.specs.DataModel.{difference_type_of}
use Rattle.cs_types.proofs.FloorDivision.{add-*ℤ}
use Rattle.cs_types.specs.IntType.{least_of, greatest_of}
use Rattle.cs_terms.specs.declared.symbol.Sym.{Sym}
use Rattle.cs_terms.specs.declared.term.Lin.{Lin}
use Rattle.cs_terms.specs.Term.{Valuation, value_with, value_of, value_at, IsTermWith, HaveTwoSymbols}
use Rattle.cs_terms.proofs.Cutting.{value_at-affine}
use Rattle.cs_terms.proofs.Values.{value_with-scale}
use Rattle.cs_constraints.specs.Constraints.{Sets, set_of, Fits, AreInhabited, HasOneNumber}
use Rattle.cs_constraints.proofs.Assuming.{value_of-symbol}
use Rattle.cs_events.specs.declared.event.Label.TheVariants as label
use Rattle.cs_events.specs.declared.event.Wrap.TheVariants.{Same, Guessed}
use Rattle.cs_events.specs.Operations.{elements_between}
use Rattle.cs_state.specs.declared.asked.Asks.TheVariants as asks
use Rattle.cs_eval.specs.declared.guesses.Inexact.{Inexact}
use Rattle.cs_eval.specs.declared.piece.Piece.{Piece}
use Rattle.cs_eval.specs.declared.question.Question.TheVariants as question
use Rattle.cs_eval.specs.Followed.{IsDivided, FitsFixed, asking_of, AreAnswers}
use Rattle.cs_eval.specs.Guesses.{AreNumbers}
use Rattle.cs_eval.specs.Offsets.{IsDividedTerm, IsMultiple, AreElements, HasRest, AreElementsBetween}
use Rattle.cs_eval.specs.Offsets.{half_difference_of, IsTermOfOffsets}
use Rattle.cs_eval.specs.Operands.{IsBetween, IsReadyOperand, AreOverOne, HaveSymbol}
use Rattle.cs_eval.specs.Parts.{with_number, unguessed}
use Rattle.cs_eval.specs.Recorded.{IsRecordOfQuestion, AreRecordedAnswers}
use Rattle.cs_eval.specs.Wraps.{IsSumOf, IsWholeGuess}
use Rattle.cs_eval.proofs.Comparisons.{over_one, not_over_one}
use Rattle.cs_eval.proofs.OperandForms.{fits_fixed, fixed_none}
use Rattle.cs_eval.proofs.OperandValues.{decide, value_between, value_of-none, with_number-same, with_number-other}
use Rattle.cs_eval.proofs.OnePiece.{one_exact_split, one_guess_split}
use Rattle.cs_eval.proofs.Records.{difference_is, recorded, unguessed_records, whole_records}
use Rattle.cs_eval.proofs.PartPieces.{times_one}

quotient_neg : (a d : ℕ) → int_div (neg_ℤ (pos a)) (pos d) ≡ neg_ℤ (pos (a / d))
quotient_neg zero d = rw (zero-div d) refl
quotient_neg (suc a) d = refl

-- a multiple, divided
pub multiple_quotient : (n : ℤ) (k : ℕ) → int_div (n *ℤ pos (suc k)) (pos (suc k)) ≡ n
multiple_quotient (pos m) k =
    ap (λ (x : ℤ). int_div x (pos (suc k))) (pos-*ℤ-pos m (suc k)) ∙ ap (λ (j : ℕ). pos j) (mul-div_cancel m {n = suc k} (omega arith))
multiple_quotient (negsuc m) k =
    ap (λ (x : ℤ). int_div x (pos (suc k))) (negsuc-*ℤ-pos m (suc k)) ∙ quotient_neg (suc m * suc k) (suc k)
    ∙ ap (λ (j : ℕ). neg_ℤ (pos j)) (mul-div_cancel (suc m) {n = suc k} (omega arith))

-- a number without a remainder is a multiple
pub multiple_is : (a d : ℤ) → int_rem a d ≡ pos 0 → a ≡ int_div a d *ℤ d
multiple_is a d e = let h = quot-rem a d in omega (arith, ints, h, e)

-- and a multiple has no remainder
pub multiple_rest : (a : ℤ) (k : ℕ) → IsMultiple a (pos (suc k)) → int_rem a (pos (suc k)) ≡ pos 0
multiple_rest a k h =
    let same : a ≡ h.0 *ℤ pos (suc k) = h.1 in
    let quotient : int_div a (pos (suc k)) ≡ h.0 = ap (λ (x : ℤ). int_div x (pos (suc k))) same ∙ multiple_quotient h.0 k in
    let split : int_div a (pos (suc k)) *ℤ pos (suc k) +ℤ int_rem a (pos (suc k)) ≡ a = quot-rem a (pos (suc k)) in
    let moved : h.0 *ℤ pos (suc k) +ℤ int_rem a (pos (suc k)) ≡ a =
    ap (λ (x : ℤ). x *ℤ pos (suc k) +ℤ int_rem a (pos (suc k))) (sym quotient) ∙ split in
    omega (arith, ints, moved, same)

pub no_multiple : (a d : ℤ) → pos 0 <ℤ d → int_rem a d ≢ pos 0 → ¬ IsMultiple a d
no_multiple a (pos zero) above rest h = absurd (omega (arith, ints, above))
no_multiple a (negsuc k) above rest h = absurd (omega (arith, ints, above))
no_multiple a (pos (suc k)) above rest h = rest (multiple_rest a k h)

-- the value of a divided term
pub divided_value : (bytes made : Lin) (size : ℤ) → IsDividedTerm bytes size made → (v : Valuation) → value_of v bytes ≡ value_of v made *ℤ size
divided_value bytes made size h v =
    ap (λ (n : ℤ). value_with v bytes.sym n bytes.at bytes.value) h.slope
    ∙ ap (λ (n : ℤ). value_with v bytes.sym (made.slope *ℤ size) bytes.at n) h.value
    ∙ value_with-scale v bytes.sym made.slope bytes.at made.value size
    ∙ ap (λ (o : Option Sym). value_with v o made.slope bytes.at made.value *ℤ size) (sym h.symbol)
    ∙ ap (λ (n : ℤ). value_with v made.sym made.slope n made.value *ℤ size) (sym h.place)

-- a difference that is divided
pub divided_elements : (left right bytes made : Lin) (size k : ℕ) → size ≡ suc k
    → ((v : Valuation) → value_of v bytes ≡ value_of v left -ℤ value_of v right) → ¬ HaveTwoSymbols left.sym right.sym
    → IsDividedTerm bytes (pos size) made → AreElements left right size made
divided_elements left right bytes made size k e value one h =
    subst (λ (n : ℕ). AreElements left right n made) (sym e) (record {
      value = λ v.
          let same = there v in
          sym (ap (λ (n : ℤ). int_div n (pos (suc k))) same ∙ multiple_quotient (value_of v made) k);
      followed = inr (one, λ v. (value_of v made, there v));
    })
  where
    there : (v : Valuation) → value_of v left -ℤ value_of v right ≡ value_of v made *ℤ pos (suc k)
    there v =
        sym (value v) ∙ divided_value bytes made (pos size) h v ∙ ap (λ (n : ℕ). value_of v made *ℤ pos n) e

positive : (n : ℕ) → n ≢ 0 → (k : ℕ) × (n ≡ suc k)
positive zero some = absurd (some refl)
positive (suc k) some = (k, refl)

-- the elements between two offsets, from the division of their difference in bytes
pub elements_of : (left right bytes : Lin) (size : ℕ) (between made : Option Lin) → size ≢ 0
    → IsSumOf left right (λ v. value_of v left -ℤ value_of v right) between → between ≡ Some bytes
    → MatchOption made (¬ (IsMultiple bytes.value (pos size) × IsMultiple bytes.slope (pos size))) (IsDividedTerm bytes (pos size))
    → AreElementsBetween left right size made
elements_of left right bytes size between None some h e rest = (
  some,
  inr (record {
    bytes = bytes;
    is_term = h.is_term bytes e;
    value = λ v. h.value bytes v e;
    symbol = λ s over. h.symbol bytes s e over;
    rest = rest;
  }),
)
elements_of left right bytes size between (Some made) some h e divided =
    let k = positive size some in
    divided_elements left right bytes made size k.0 k.1 (λ v. h.value bytes v e) (h.one bytes e) divided

-- elements of size 0
pub no_elements : (left right made : Lin) (size : ℕ) → size ≡ 0 → ((v : Valuation) → value_of v made ≡ pos 0) → AreElements left right size made
no_elements left right made size e value =
    subst (λ (n : ℕ). AreElements left right n made) (sym e) (record { value = value; followed = inl refl })

module _ (model : DataModel) (sets : Sets) (guess : ℕ) (left right : Lin) (size : ℕ) (l : IsReadyOperand sets left) (r : IsReadyOperand sets right) where
  pub difference_split : (made : Lin) (pieces : List Piece) → AreElements left right size made → AreInhabited sets
      → pieces ≡ unguessed (label.Wrap Same) made sets ∷ [] → AreRecordedAnswers model sets guess (question.Difference left right size) pieces
  difference_split made pieces h inhabited shape = record {
    answers = one_exact_split model sets guess (asking_of model sets (question.Difference left right size)) (label.Wrap Same) made pieces
        (record {
          inhabited = inhabited;
          followed = λ v fits. elim h.followed [
            | inl none ↦ inr (inr none)
            | inr divided ↦ inr (inl (over_one sets left right right.sym refl divided.0, λ w fixed. divided.1 w))
          ];
          shown = λ v fits. refl;
          own = λ v fits. h.value v;
        })
        shape;
    records = unguessed_records (IsRecordOfQuestion model sets (question.Difference left right size)) (label.Wrap Same) made sets pieces shape;
  }

  -- a difference whose constants aren't all multiples of the size isn't a multiple for each number of its symbol
  module _ (rest : HasRest left right size) (v : Valuation) (fits : Fits v sets) where
    at_multiple : IsDivided sets left right size → (w : Valuation) → FitsFixed w sets → IsMultiple (value_of w rest.bytes) (pos size)
    at_multiple divided w fixed = let n = divided w fixed in (n.0, rest.value w ∙ n.1)

    -- another number for the symbol of the difference
    other_fits : (s : Sym) → rest.bytes.sym ≡ Some s → (x : ℤ) → FitsFixed (with_number s.0 x v) sets
    other_fits s e x t set number known only = elim (decide t s.0) [
      | inl same ↦
          let made : ℕ → Sym = λ k. record { 0 = k } in
          let one : (o : Option Sym) → o ≡ Some s → HasOneNumber sets o number = λ o z.
          record { sym = made t; set = set; symbol_is = z ∙ ap (λ (k : ℕ). Some (made k)) (sym same); set_is = known; only = only } in
          absurd (elim (rest.symbol s e) [
            | inl a ↦ l.several number (one left.sym a)
            | inr b ↦ r.several number (one right.sym b)
          ])
      | inr differ ↦ with_number-other s.0 x v t differ ∙ fits_fixed v sets fits t set number known only
    ]

    value_here : (s : Sym) → rest.bytes.sym ≡ Some s → (x : ℤ)
        → value_of (with_number s.0 x v) rest.bytes ≡ affine rest.bytes.slope rest.bytes.at rest.bytes.value x
    value_here s e x =
        value_of-symbol (with_number s.0 x v) rest.bytes s e ∙ ap (value_at rest.bytes) (with_number-same s.0 x v s.0 refl)
        ∙ value_at-affine rest.bytes x rest.is_term

    slope_multiple : (slope at value size m n : ℤ) → affine slope at value at ≡ m *ℤ size → affine slope at value (at +ℤ pos 1) ≡ n *ℤ size
        → (value ≡ m *ℤ size) × (slope ≡ (n -ℤ m) *ℤ size)
    slope_multiple slope at value size m n e h =
        let here : slope *ℤ (at -ℤ at) ≡ pos 0 = ap (λ (d : ℤ). slope *ℤ d) (self at) ∙ *ℤ-zero slope in
        let next : slope *ℤ (at +ℤ pos 1 -ℤ at) ≡ slope = ap (λ (d : ℤ). slope *ℤ d) (step at) ∙ times_one slope in
        let value_is : value ≡ m *ℤ size = omega (arith, ints, e, here) in
        let parts : n *ℤ size ≡ (n -ℤ m) *ℤ size +ℤ m *ℤ size = ap (λ (k : ℤ). k *ℤ size) (rejoin n m) ∙ add-*ℤ (n -ℤ m) m size in
        (value_is, omega (arith, ints, h, next, value_is, parts))
      where
        self : (x : ℤ) → x -ℤ x ≡ pos 0
        self x = omega (arith, ints)

        step : (x : ℤ) → x +ℤ pos 1 -ℤ x ≡ pos 1
        step x = omega (arith, ints)

        rejoin : (x y : ℤ) → x ≡ (x -ℤ y) +ℤ y
        rejoin x y = omega (arith, ints)

    undivided : ¬ IsDivided sets left right size
    undivided divided = by rest.bytes.sym refl
      where
        by : (o : Option Sym) → rest.bytes.sym ≡ o → ⊥
        by None e =
            let n = at_multiple divided v (fits_fixed v sets fits) in
            let slope : rest.bytes.slope ≡ pos 0 = subst (λ (o : Option Sym). IsTermWith o rest.bytes.slope) e rest.is_term in
            rest.rest ((n.0, sym (value_of-none v rest.bytes e) ∙ n.1), (pos 0, slope ∙ sym (zero-*ℤ (pos size))))
        by (Some s) e =
            let at = rest.bytes.at in
            let m = at_multiple divided (with_number s.0 at v) (other_fits s e at) in
            let n = at_multiple divided (with_number s.0 (at +ℤ pos 1) v) (other_fits s e (at +ℤ pos 1)) in
            let both = slope_multiple rest.bytes.slope at rest.bytes.value (pos size) m.0 n.0 (sym (value_here s e at) ∙ m.1)
            (sym (value_here s e (at +ℤ pos 1)) ∙ n.1) in
            rest.rest ((m.0, both.0), (n.0 -ℤ m.0, both.1))

  pub not_followed : HaveSymbol left right → AreElementsBetween left right size None → (v : Valuation) → Fits v sets
      → ¬ ((AreOverOne sets left right × IsDivided sets left right size) ⊎ (size ≡ 0))
  not_followed some h v fits (inr zero_is) = h.0 zero_is
  not_followed some h v fits (inl over) = elim h.1 [
    | inl two ↦ not_over_one sets left right right.sym refl l.several r.several two over.0
    | inr rest ↦ undivided rest v fits over.1
  ]

-- a difference of offsets, divided by a size, is in its type
own_between : (model : DataModel) (a b : ℤ) (size : ℕ) → size ≢ 0
    → IsBetween (neg_ℤ (pos (half_difference_of model))) (pos (half_difference_of model)) a
    → IsBetween (neg_ℤ (pos (half_difference_of model))) (pos (half_difference_of model)) b
    → IsBetween (least_of model (difference_type_of model)) (greatest_of model (difference_type_of model)) (elements_between a b size)
own_between model a b zero some h k = absurd (some refl)
own_between Lp64 a b (suc n) some h k =
    let fits : FitsSigned w64 (a -ℤ b) = omega (arith, ints, h.0, h.1, k.0, k.1) in
    let q : FitsSigned w64 (int_div (a -ℤ b) (pos (suc n))) = quot_fits w64 (a -ℤ b) (pos (suc n)) fits (omega (arith, ints)) in
    (omega (arith, ints, q), omega (arith, ints, q))
own_between Ilp32 a b (suc n) some h k =
    let fits : FitsSigned w32 (a -ℤ b) = omega (arith, ints, h.0, h.1, k.0, k.1) in
    let q : FitsSigned w32 (int_div (a -ℤ b) (pos (suc n))) = quot_fits w32 (a -ℤ b) (pos (suc n)) fits (omega (arith, ints)) in
    (omega (arith, ints, q), omega (arith, ints, q))

difference_guessed : (model : DataModel) (sets : Sets) (guess : ℕ) (left right : Lin) (size : ℕ) (inexact : Inexact) (pieces : List Piece)
    → IsReadyOperand sets left → IsReadyOperand sets right → HaveSymbol left right → AreElementsBetween left right size None
    → IsTermOfOffsets model sets left → IsTermOfOffsets model sets right → inexact.asks ≡ asks.Difference → set_of sets guess ≡ None
    → IsWholeGuess model sets guess inexact pieces → AreAnswers model sets guess (question.Difference left right size) pieces
difference_guessed model sets guess left right size inexact pieces l r some h lo ro asked fresh whole =
    let numbers = whole.guessed.numbers in
    let are : AreNumbers model asks.Difference inexact.left inexact.right numbers =
    subst (λ k. AreNumbers model k inexact.left inexact.right numbers) asked whole.guessed.are.are in
    let half = pos (half_difference_of model) in
    let least = least_of model (difference_type_of model) in
    let greatest = greatest_of model (difference_type_of model) in
    one_guess_split model sets guess (asking_of model sets (question.Difference left right size)) (label.Wrap Guessed) numbers
    (record {
      unfollowed = λ v fits followed. elim followed [
        | inl fixed ↦ some (fixed_none sets left l.several fixed.0, fixed_none sets right r.several fixed.1)
        | inr other ↦ not_followed model sets guess left right size l r some h v fits other
      ];
      shown = λ v number. refl;
      to_guess = λ v number b. record {
        from_least = subst (λ (x : ℤ). x ≤ℤ number) are.low b.0;
        to_greatest = subst (λ (x : ℤ). number ≤ℤ x) are.high b.1;
      };
      from_guess = λ v number b. (
        subst (λ (x : ℤ). x ≤ℤ number) (sym are.low) b.from_least,
        subst (λ (x : ℤ). number ≤ℤ x) (sym are.high) b.to_greatest,
      );
      own = λ v fits.
          let own = own_between model (value_of v left) (value_of v right) size h.0 (value_between sets (neg_ℤ half) half left v lo fits)
          (value_between sets (neg_ℤ half) half right v ro fits) in
          let own_is = elements_between (value_of v left) (value_of v right) size in (
            subst (λ (x : ℤ). x ≤ℤ own_is) (sym are.low) own.0,
            subst (λ (x : ℤ). own_is ≤ℤ x) (sym are.high) own.1,
          );
    })
    whole.piece whole.guessed.piece_is fresh pieces whole.made

pub difference_guess : (model : DataModel) (sets : Sets) (guess : ℕ) (left right : Lin) (size : ℕ) (inexact : Inexact) (pieces : List Piece)
    → IsReadyOperand sets left → IsReadyOperand sets right → HaveSymbol left right → AreElementsBetween left right size None
    → IsTermOfOffsets model sets left → IsTermOfOffsets model sets right
    → inexact ≡ record { asks = asks.Difference; left = left; right = right; fact = None } → set_of sets guess ≡ None
    → IsWholeGuess model sets guess inexact pieces → AreRecordedAnswers model sets guess (question.Difference left right size) pieces
difference_guess model sets guess left right size inexact pieces l r some h lo ro same fresh whole =
    recorded model sets (question.Difference left right size) inexact asks.Difference left right None same
    (difference_is model sets left right size) guess pieces
    (difference_guessed model sets guess left right size inexact pieces l r some h lo ro (ap (λ (i : Inexact). i.asks) same) fresh whole)
    (whole_records model sets guess inexact pieces whole)
