-- Sums and differences of offsets: for the contracts of `pointers`.
use Rattle.std.proofs.Common.{◌≡◌, ◌≢◌, ◌⊎◌, inl, inr, ℕ, zero, suc, Bool, true, false, ◌&&◌, ℤ, pos, ◌+ℤ◌}
use Rattle.std.proofs.Common.{◌*ℤ◌, List, [], ◌∷◌, Option, Some, None, refl, sym, ap, subst, ◌∙◌, arith}
use Rattle.std.specs.Prelude.{◌≤◌, ◌≤ℤ◌, int_le, neg_ℤ, unsigned_abs, if◌then◌else◌}
use Rattle.std.proofs.lemmas.Int.{ints}
use Rattle.std.proofs.Math.IntN.{*ℤ-zero}
use Rattle.cs_types.specs.declared.data_model.DataModel.{DataModel}
use Rattle.cs_types.specs.DataModel.{offset_bound_of}
use Rattle.cs_terms.specs.declared.symbol.Sym.{Sym}
use Rattle.cs_terms.specs.declared.term.Lin.{Lin}
use Rattle.cs_terms.specs.Term.{Valuation, value_of, IsTerm, IsTermWith, HaveTwoSymbols, HasNoOtherSymbol}
use Rattle.cs_terms.proofs.Products.{abs-product}
use Rattle.cs_constraints.specs.Constraints.{Sets, set_of, AreInhabited}
use Rattle.cs_events.specs.declared.event.Label.TheVariants as label
use Rattle.cs_events.specs.declared.event.Wrap.TheVariants.{Same, Guessed}
use Rattle.cs_events.specs.Operations.{within_bound}
use Rattle.cs_state.specs.declared.asked.Asks.TheVariants as asks
use Rattle.cs_eval.specs.declared.guesses.Inexact.{Inexact}
use Rattle.cs_eval.specs.declared.piece.Piece.{Piece}
use Rattle.cs_eval.specs.declared.question.Question.TheVariants as question
use Rattle.cs_eval.specs.Followed.{asking_of, AreAnswers}
use Rattle.cs_eval.specs.Guesses.{AreNumbers}
use Rattle.cs_eval.specs.Offsets.{IsMovedOffset}
use Rattle.cs_eval.specs.Operands.{IsBetween, IsTermBetween, IsReadyOperand}
use Rattle.cs_eval.specs.Parts.{unguessed}
use Rattle.cs_eval.specs.Recorded.{IsRecordOfQuestion, AreRecordedAnswers}
use Rattle.cs_eval.specs.Wraps.{IsSumOf, IsWholeGuess}
use Rattle.cs_eval.proofs.Comparisons.{over_one, not_over_one}
use Rattle.cs_eval.proofs.OperandValues.{value_between}
use Rattle.cs_eval.proofs.OnePiece.{one_exact_split, one_guess_split}
use Rattle.cs_eval.proofs.Records.{recorded, sum_is, unguessed_records, whole_records}

-- a number times a positive one is 0 only if the number is 0
factor_zero : (n : ℤ) (k : ℕ) → n *ℤ pos (suc k) ≡ pos 0 → n ≡ pos 0
factor_zero n k e =
    let size : unsigned_abs n ≤ 0 =
    subst (λ (x : ℤ). unsigned_abs n ≤ unsigned_abs x) e (abs-product n (pos (suc k)) (λ zero_is. omega (arith, ints, zero_is))) in
    omega (arith, ints, size)

-- a scaled term has the same symbol, but none if the factor is 0
module _ (amount by : Lin) (size : ℕ) (is_amount : IsTerm amount) (is_by : IsTerm by) (slope : by.slope ≡ amount.slope *ℤ pos size)
    (symbol : HasNoOtherSymbol by.sym amount.sym) where
  scaled_none : size ≡ 0 → by.sym ≡ None
  scaled_none none = cases by.sym refl is_by
    where
      cases : (o : Option Sym) → by.sym ≡ o → IsTermWith o by.slope → by.sym ≡ None
      cases None e h = e
      cases (Some s) e h = absurd (h (slope ∙ ap (λ (k : ℕ). amount.slope *ℤ pos k) none ∙ *ℤ-zero amount.slope))

  scaled_symbol : (k : ℕ) → size ≡ suc k → by.sym ≡ amount.sym
  scaled_symbol k some = cases by.sym amount.sym refl refl is_by is_amount
    where
      cases : (o p : Option Sym) → by.sym ≡ o → amount.sym ≡ p → IsTermWith o by.slope → IsTermWith p amount.slope → by.sym ≡ amount.sym
      cases None None e f h g = e ∙ sym f
      cases None (Some s) e f h g =
          absurd (g (factor_zero amount.slope k (sym (slope ∙ ap (λ (n : ℕ). amount.slope *ℤ pos n) some) ∙ h)))
      cases (Some s) p e f h g = e ∙ sym (symbol s e)

-- the sum of an offset and a scaled amount
pub moved_offset : (offset amount by : Lin) (size : ℕ) (sum : Option Lin) → IsTerm amount → IsTerm by → by.slope ≡ amount.slope *ℤ pos size
    → HasNoOtherSymbol by.sym amount.sym → ((v : Valuation) → value_of v by ≡ value_of v amount *ℤ pos size)
    → IsSumOf offset by (λ v. value_of v offset +ℤ value_of v by) sum → IsMovedOffset offset amount size sum
moved_offset offset amount by size sum is_amount is_by slope symbol value h = record {
  value = λ exact v e. h.value exact v e ∙ ap (λ (n : ℤ). value_of v offset +ℤ n) (value v);
  one = λ exact e. one size refl exact e;
  none = λ e. none size refl (h.none e);
}
  where
    one : (n : ℕ) → size ≡ n → (exact : Lin) → sum ≡ Some exact → (size ≡ 0) ⊎ ¬ HaveTwoSymbols offset.sym amount.sym
    one zero e exact f = inl e
    one (suc k) e exact f =
        inr (subst (λ (o : Option Sym). ¬ HaveTwoSymbols offset.sym o) (scaled_symbol amount by size is_amount is_by slope symbol k e) (h.one exact f))

    no_second : (o : Option Sym) → HaveTwoSymbols o None → ⊥
    no_second None two = two
    no_second (Some s) two = two

    none : (n : ℕ) → size ≡ n → HaveTwoSymbols offset.sym by.sym → (size ≢ 0) × HaveTwoSymbols offset.sym amount.sym
    none zero e two =
        absurd (no_second offset.sym
        (subst (λ (o : Option Sym). HaveTwoSymbols offset.sym o) (scaled_none amount by size is_amount is_by slope symbol e) two))
    none (suc k) e two = (
      λ zero_is. let clash : suc k ≡ 0 = sym e ∙ zero_is in omega arith,
      subst (λ (o : Option Sym). HaveTwoSymbols offset.sym o) (scaled_symbol amount by size is_amount is_by slope symbol k e) two,
    )

-- a number within the bounds of offsets is kept
pub within_itself : (model : DataModel) (n : ℤ) → IsBetween (neg_ℤ (pos (offset_bound_of model))) (pos (offset_bound_of model)) n
    → within_bound model n ≡ n
within_itself model n h =
    let low = h.0 in
    let high = h.1 in
    let is : (int_le (neg_ℤ (pos (offset_bound_of model))) n && int_le n (pos (offset_bound_of model))) ≡ true = grind (arith, ints) in
    ap (λ (b : Bool). if b then n else pos 0) is

within_between : (model : DataModel) (n : ℤ) → IsBetween (neg_ℤ (pos (offset_bound_of model))) (pos (offset_bound_of model)) (within_bound model n)
within_between model n = by (int_le (neg_ℤ (pos (offset_bound_of model))) n && int_le n (pos (offset_bound_of model))) refl
  where
    by : (b : Bool) → (int_le (neg_ℤ (pos (offset_bound_of model))) n && int_le n (pos (offset_bound_of model))) ≡ b
        → IsBetween (neg_ℤ (pos (offset_bound_of model))) (pos (offset_bound_of model)) (if b then n else pos 0)
    by true e = (grind (arith, ints), grind (arith, ints))
    by false e = (omega (arith, ints), omega (arith, ints))

module _ (model : DataModel) (sets : Sets) (guess : ℕ) (offset amount : Lin) (size : ℕ) (sum : Option Lin)
    (o : IsReadyOperand sets offset) (a : IsReadyOperand sets amount) (moved : IsMovedOffset offset amount size sum) where
  pub sum_split : (exact : Lin) (pieces : List Piece) → sum ≡ Some exact
      → IsTermBetween sets (neg_ℤ (pos (offset_bound_of model))) (pos (offset_bound_of model)) exact → AreInhabited sets
      → pieces ≡ unguessed (label.Wrap Same) exact sets ∷ [] → AreRecordedAnswers model sets guess (question.Sum offset amount size) pieces
  sum_split exact pieces e within inhabited made = record {
    answers = one_exact_split model sets guess (asking_of model sets (question.Sum offset amount size)) (label.Wrap Same) exact pieces
        (record {
          inhabited = inhabited;
          followed = λ v fits. elim (moved.one exact e) [
            | inl none ↦ inr none
            | inr one ↦ inl (over_one sets offset amount amount.sym refl one)
          ];
          shown = λ v fits. refl;
          own = λ v fits.
              let same = moved.value exact v e in
              same
              ∙ sym (within_itself model (value_of v offset +ℤ value_of v amount *ℤ pos size)
              (subst (λ (n : ℤ). IsBetween (neg_ℤ (pos (offset_bound_of model))) (pos (offset_bound_of model)) n) same
              (value_between sets (neg_ℤ (pos (offset_bound_of model))) (pos (offset_bound_of model)) exact v within fits)));
        })
        made;
    records = unguessed_records (IsRecordOfQuestion model sets (question.Sum offset amount size)) (label.Wrap Same) exact sets pieces made;
  }

  sum_guessed : (inexact : Inexact) (pieces : List Piece) → sum ≡ None → inexact.asks ≡ asks.Sum → set_of sets guess ≡ None
      → IsWholeGuess model sets guess inexact pieces → AreAnswers model sets guess (question.Sum offset amount size) pieces
  sum_guessed inexact pieces e asked fresh whole =
      let none = moved.none e in
      let numbers = whole.guessed.numbers in
      let are : AreNumbers model asks.Sum inexact.left inexact.right numbers =
      subst (λ k. AreNumbers model k inexact.left inexact.right numbers) asked whole.guessed.are.are in
      let bound = pos (offset_bound_of model) in
      one_guess_split model sets guess (asking_of model sets (question.Sum offset amount size)) (label.Wrap Guessed) numbers
      (record {
        unfollowed = λ v fits followed. elim followed [
          | inl over ↦ not_over_one sets offset amount amount.sym refl o.several a.several none.1 over
          | inr zero_is ↦ none.0 zero_is
        ];
        shown = λ v number. refl;
        to_guess = λ v number b. bounds numbers.low (neg_ℤ bound) numbers.high bound number are.low_is are.high_is b;
        from_guess = λ v number b. bounds (neg_ℤ bound) numbers.low bound numbers.high number (sym are.low_is) (sym are.high_is) b;
        own = λ v fits.
            bounds (neg_ℤ bound) numbers.low bound numbers.high (within_bound model (value_of v offset +ℤ value_of v amount *ℤ pos size))
            (sym are.low_is) (sym are.high_is) (within_between model (value_of v offset +ℤ value_of v amount *ℤ pos size));
      })
      whole.piece whole.guessed.piece_is fresh pieces whole.made
    where
      bounds : (a b c d n : ℤ) → a ≡ b → c ≡ d → IsBetween a c n → IsBetween b d n
      bounds a b c d n e f h = (subst (λ (x : ℤ). x ≤ℤ n) e h.0, subst (λ (x : ℤ). n ≤ℤ x) f h.1)

  pub sum_guess : (inexact : Inexact) (pieces : List Piece) → sum ≡ None
      → inexact ≡ record { asks = asks.Sum; left = offset; right = amount; fact = None } → set_of sets guess ≡ None
      → IsWholeGuess model sets guess inexact pieces → AreRecordedAnswers model sets guess (question.Sum offset amount size) pieces
  sum_guess inexact pieces e same fresh whole =
      recorded model sets (question.Sum offset amount size) inexact asks.Sum offset amount None same (sum_is model sets offset amount size) guess
      pieces (sum_guessed inexact pieces e (ap (λ (i : Inexact). i.asks) same) fresh whole) (whole_records model sets guess inexact pieces whole)
