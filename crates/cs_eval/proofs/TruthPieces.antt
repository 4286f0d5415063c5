-- The pieces of a truth: for the contracts of comparisons and order tests.
use Rattle.std.proofs.Common.{◌≡◌, ◌≢◌, ◌⊎◌, inl, inr, ℕ, Bool, true, false, ◌&&◌, ℤ, pos, List, Option}
use Rattle.std.proofs.Common.{Some, None}
use Rattle.std.proofs.Common.{refl, sym, ap, subst, ◌∙◌, arith}
use Rattle.std.specs.Prelude.{int_le}
use Rattle.std.proofs.lemmas.Int.{ints}
use Rattle.std.proofs.lemmas.Option.{none-some, same_Some}
use Rattle.cs_types.specs.declared.data_model.DataModel.{DataModel}
use Rattle.cs_ast.specs.declared.typed.operator.CmpOp.{CmpOp}
use Rattle.cs_ranges.specs.declared.range_set.Interval.{Interval}
use Rattle.cs_ranges.specs.RangeSet.{contains}
use Rattle.cs_terms.specs.declared.symbol.Sym.{Sym}
use Rattle.cs_terms.specs.declared.term.Lin.{Lin}
use Rattle.cs_terms.specs.Term.{Valuation, value_of}
use Rattle.cs_constraints.specs.Constraints.{Sets, set_of, Fits, IsNarrowed}
use Rattle.cs_constraints.proofs.Assuming.{fitting}
use Rattle.cs_events.specs.declared.event.Label.{Label}
use Rattle.cs_events.specs.declared.event.Label.TheVariants as label
use Rattle.cs_events.specs.Operations.{compares, own_result, shows, truth_number, is_true}
use Rattle.cs_eval.specs.declared.piece.Guessed.{Guessed}
use Rattle.cs_eval.specs.declared.piece.Piece.{Piece}
use Rattle.cs_eval.specs.Guesses.{symbol_term}
use Rattle.cs_eval.specs.Operands.{IsBetween}
use Rattle.cs_eval.specs.Parts.{Truths, number_term, unguessed, with_number}
use Rattle.cs_eval.specs.Splits.{Asking, IsOfGuess, IsPieceWith, IsPieceOf, IsIn, IsSplit}
use Rattle.cs_eval.specs.Truths.{AreOfHalves, IsOfAll, IsGuessOf, AreOfGuess}
use Rattle.cs_eval.proofs.OperandValues.{decide, with_number-same, with_number-other}
use Rattle.cs_eval.proofs.TwoWays.{IsShownBy, halves_split}

-- an operation that shows a truth
pub record IsTruth (model : DataModel) (asking : Asking) (truth : Truths) : Type 0 where
  pub shown : (v : Valuation) → shows model (asking.operation v) None ≡ label.Truth (truth v)
  pub own : (v : Valuation) → own_result model (asking.operation v) ≡ truth_number (truth v)
  pub shown_guess : (v : Valuation) (number : ℤ) → shows model (asking.operation v) (Some number) ≡ label.Truth (is_true number)
  pub to_guess : (v : Valuation) (number : ℤ) → IsBetween (pos 0) (pos 1) number → asking.IsGuess v number
  pub from_guess : (v : Valuation) (number : ℤ) → asking.IsGuess v number → IsBetween (pos 0) (pos 1) number

-- the truth of a label
abbrev truth_in : Label → Bool
truth_in (label.Truth holds) = holds
truth_in (label.Branch holds) = holds
truth_in (label.Case number) = true
truth_in (label.Wrap wrap) = true
truth_in (label.Look holds) = holds
truth_in (label.Offset offset) = true
truth_in (label.Callee function) = true
truth_in (label.Alloc holds) = holds

truths_apart : label.Truth false ≢ label.Truth true
truths_apart e = let same : false ≡ true = ap truth_in e in absurd (cc)

pub is_true-number : (holds : Bool) → is_true (truth_number holds) ≡ holds
is_true-number true = refl
is_true-number false = refl

number_between : (holds : Bool) → IsBetween (pos 0) (pos 1) (truth_number holds)
number_between true = (omega (arith, ints), omega (arith, ints))
number_between false = (omega (arith, ints), omega (arith, ints))

number_from_truth : (number : ℤ) (holds : Bool) → IsBetween (pos 0) (pos 1) number → is_true number ≡ holds → number ≡ truth_number holds
number_from_truth number true b e = grind (arith, ints)
number_from_truth number false b e = grind (arith, ints)

only_number : (n x : ℤ) → (int_le n x && int_le x n) ≡ true → x ≡ n
only_number n x e = grind (arith, ints)

only_itself : (n : ℤ) → (int_le n n && int_le n n) ≡ true
only_itself n = grind (arith, ints)

-- the valuations that fit after a new symbol is declared
module _ (before after : Sets) (guess : ℕ) (set : List Interval) (fresh : set_of before guess ≡ None) (narrowed : IsNarrowed before guess set after) where
  pub declared_fits : (v : Valuation) → Fits v after → Fits v before × (contains set (v guess) ≡ true)
  declared_fits v fits = (
    λ s found e. elim (decide s guess) [
      | inl same ↦ absurd (none-some found (sym fresh ∙ ap (set_of before) (sym same) ∙ e))
      | inr differ ↦ fits s found (narrowed.elsewhere s differ ∙ e)
    ],
    fits guess set narrowed.here,
  )

  pub fits_declared : (v : Valuation) (number : ℤ) → Fits v before → contains set number ≡ true → Fits (with_number guess number v) after
  fits_declared v number fits has s found e = elim (decide s guess) [
    | inl same ↦
        let own : set ≡ found = same_Some set found (sym narrowed.here ∙ ap (set_of after) (sym same) ∙ e) in
        ap (contains found) (with_number-same guess number v s same) ∙ ap (λ (z : List Interval). contains z number) (sym own) ∙ has
    | inr differ ↦
        ap (contains found) (with_number-other guess number v s differ) ∙ fits s found (sym (narrowed.elsewhere s differ) ∙ e)
  ]

module _ (model : DataModel) (before : Sets) (guess : ℕ) (asking : Asking) (truth : Truths) (is : IsTruth model asking truth) where
  pub where_split : (op : CmpOp) (sum : Lin) (pieces : List Piece) → AreOfHalves before op sum pieces
      → ((v : Valuation) → Fits v before → truth v ≡ compares op (value_of v sum) (pos 0))
      → ((v : Valuation) → Fits v before → asking.IsFollowed v)
      → ((s : Sym) → sum.sym ≡ Some s → asking.Mentions s) → IsSplit model before guess asking pieces
  where_split op sum pieces h same followed mentioned =
      let by_sign : Truths = λ v. compares op (value_of v sum) (pos 0) in
      let shown_label : Bool → Label = λ b. label.Truth b in
      let number : Bool → Lin = λ b. number_term (truth_number b) in
      let given : IsShownBy model before asking by_sign shown_label number = record {
        followed = followed;
        shown = λ v fits. is.shown v ∙ ap shown_label (same v fits);
        own = λ v fits. ap truth_number (sym (same v fits)) ∙ sym (is.own v);
        apart = truths_apart;
      } in
      subst (λ (ps : List Piece). IsSplit model before guess asking ps) (sym h.made)
      (halves_split model before guess asking sum.sym by_sign shown_label number given mentioned h.halves h.are)

  pub all_split : (holds : Bool) (pieces : List Piece) → IsOfAll before holds pieces
      → ((v : Valuation) → Fits v before → truth v ≡ holds)
      → ((v : Valuation) → Fits v before → asking.IsFollowed v) → IsSplit model before guess asking pieces
  all_split holds pieces h same followed =
      let piece = unguessed (label.Truth holds) (number_term (truth_number holds)) before in
      let made : IsPieceOf model before guess asking piece = record {
        meaning = record {
          from = λ v fits. (fits, followed v fits, is.shown v ∙ ap (λ b. label.Truth b) (same v fits));
          back = λ v fits followed_too shown. fits;
          answer = λ v fits. ap truth_number (sym (same v fits)) ∙ sym (is.own v);
        };
        some = fitting before h.inhabited;
        others = λ other apart unmentioned. refl;
      } in
      subst (λ (ps : List Piece). IsSplit model before guess asking ps) (sym h.made)
      (record { each = (made, tt); labels = (tt, tt); covers = λ v fits. inl fits })

  module _ (fresh : set_of before guess ≡ None) (unfollowed : (v : Valuation) → Fits v before → ¬ asking.IsFollowed v) where
    guess_meaning : (holds : Bool) (piece : Piece) → IsGuessOf before guess holds piece → IsOfGuess model before guess asking piece
    guess_meaning holds piece g = record {
      from = λ v fits.
          let d = declared_fits before piece.constraints guess g.set fresh g.declared v fits in
          let e : v guess ≡ truth_number holds = only_number (truth_number holds) (v guess) (sym (g.numbers_are (v guess)) ∙ d.1) in (
            d.0,
            unfollowed v d.0,
            is.to_guess v (v guess) (subst (λ (n : ℤ). IsBetween (pos 0) (pos 1) n) (sym e) (number_between holds)),
            is.shown_guess v (v guess) ∙ ap (λ (n : ℤ). label.Truth (is_true n)) e ∙ ap (λ (b : Bool). label.Truth b) (is_true-number holds)
                ∙ sym g.shown,
          );
      back = λ v number fits unfollowed_too may shown.
          let t : is_true number ≡ holds = ap truth_in (sym (is.shown_guess v number) ∙ shown ∙ g.shown) in
          let e : number ≡ truth_number holds = number_from_truth number holds (is.from_guess v number may) t in
          fits_declared before piece.constraints guess g.set fresh g.declared v number fits
          (ap (contains g.set) e ∙ g.numbers_are (truth_number holds) ∙ only_itself (truth_number holds));
      answer = λ v fits. ap (value_of v) g.answer ∙ value_of-symbol_term v;
    }
      where
        value_of-symbol_term : (v : Valuation) → value_of v (symbol_term (record { 0 = guess })) ≡ v guess
        value_of-symbol_term v = omega (arith, ints)

    guess_piece : (holds : Bool) (piece : Piece) → IsGuessOf before guess holds piece → IsPieceOf model before guess asking piece
    guess_piece holds piece g = record {
      meaning = subst (λ (o : Option Guessed). IsPieceWith model before guess asking o piece) (sym g.guessed) (guess_meaning holds piece g);
      some = fitting piece.constraints g.inhabited;
      others = λ other apart unmentioned. g.declared.elsewhere other.0 apart;
    }

    own_in : (holds : Bool) (piece : Piece) (v : Valuation) → IsGuessOf before guess holds piece → Fits v before → truth v ≡ holds
        → IsIn model guess asking v piece.guessed piece
    own_in holds piece v g fits t =
        let own : own_result model (asking.operation v) ≡ truth_number holds = is.own v ∙ ap truth_number t in
        subst (λ (o : Option Guessed). IsIn model guess asking v o piece) (sym g.guessed)
        (fits_declared before piece.constraints guess g.set fresh g.declared v (own_result model (asking.operation v)) fits
        (ap (contains g.set) own ∙ g.numbers_are (truth_number holds) ∙ only_itself (truth_number holds)))

    covered : (v : Valuation) (h : Piece) (f : Piece) → IsGuessOf before guess true h → IsGuessOf before guess false f → Fits v before
        → (b : Bool) → truth v ≡ b
        → IsIn model guess asking v h.guessed h ⊎ (IsIn model guess asking v f.guessed f ⊎ ⊥)
    covered v h f g k fits true t = inl (own_in true h v g fits t)
    covered v h f g k fits false t = inr (inl (own_in false f v k fits t))

    pub guess_split : (pieces : List Piece) → AreOfGuess before guess pieces → IsSplit model before guess asking pieces
    guess_split pieces h =
        subst (λ (ps : List Piece). IsSplit model before guess asking ps) (sym h.made) (record {
          each = (guess_piece true h.held h.held_is, (guess_piece false h.failed h.failed_is, tt));
          labels = ((λ e. truths_apart (sym h.failed_is.shown ∙ e ∙ h.held_is.shown), tt), (tt, tt));
          covers = λ v fits. covered v h.held h.failed h.held_is h.failed_is fits (truth v) refl;
        })
