-- An operation with one piece: for the contracts of constants, and of sums and differences of offsets.
use Rattle.std.proofs.Common.{◌≡◌, inl, ◌&&◌, ℕ, true, ℤ, List, [], ◌∷◌, Option, Some, None, refl, sym, ap, subst, ◌∙◌, arith}
use Rattle.std.specs.Prelude.{int_le}
use Rattle.std.proofs.lemmas.Int.{ints}
use Rattle.cs_types.specs.declared.data_model.DataModel.{DataModel}
use Rattle.cs_ranges.specs.declared.range_set.Interval.{Interval}
use Rattle.cs_ranges.specs.RangeSet.{contains}
use Rattle.cs_ranges.proofs.Lines.{over_yields}
use Rattle.cs_terms.specs.declared.term.Lin.{Lin}
use Rattle.cs_terms.specs.Term.{Valuation, value_of}
use Rattle.cs_constraints.specs.Constraints.{Sets, set_of, Fits, AreInhabited}
use Rattle.cs_constraints.proofs.Assuming.{fitting}
use Rattle.cs_events.specs.declared.event.Label.{Label}
use Rattle.cs_events.specs.Operations.{own_result, shows}
use Rattle.cs_eval.specs.declared.piece.Guessed.{Guessed}
use Rattle.cs_eval.specs.declared.piece.Piece.{Piece}
use Rattle.cs_eval.specs.declared.pieces.Shown.{Shown}
use Rattle.cs_eval.specs.Guesses.{IsGuessPiece, symbol_term}
use Rattle.cs_eval.specs.Operands.{IsBetween}
use Rattle.cs_eval.specs.Parts.{unguessed}
use Rattle.cs_eval.specs.Splits.{Asking, IsOfGuess, IsPieceWith, IsPieceOf, IsIn, IsSplit}
use Rattle.cs_eval.proofs.TruthPieces.{declared_fits, fits_declared}

-- an operation that is followed under each valuation that fits, and always shows the same label
pub record IsOneExact (model : DataModel) (sets : Sets) (asking : Asking) (what : Label) (answer : Lin) : Type 0 where
  pub inhabited : AreInhabited sets
  pub followed : (v : Valuation) → Fits v sets → asking.IsFollowed v
  pub shown : (v : Valuation) → Fits v sets → shows model (asking.operation v) None ≡ what
  pub own : (v : Valuation) → Fits v sets → value_of v answer ≡ own_result model (asking.operation v)

-- an operation that isn't followed under any valuation that fits, and may be guessed as each number of an interval
pub record IsOneGuess (model : DataModel) (sets : Sets) (asking : Asking) (what : Label) (numbers : Interval) : Type 0 where
  pub unfollowed : (v : Valuation) → Fits v sets → ¬ asking.IsFollowed v
  pub shown : (v : Valuation) (number : ℤ) → shows model (asking.operation v) (Some number) ≡ what
  pub to_guess : (v : Valuation) (number : ℤ) → IsBetween numbers.low numbers.high number → asking.IsGuess v number
  pub from_guess : (v : Valuation) (number : ℤ) → asking.IsGuess v number → IsBetween numbers.low numbers.high number
  pub own : (v : Valuation) → Fits v sets → IsBetween numbers.low numbers.high (own_result model (asking.operation v))

pub both_in : (low high x : ℤ) → IsBetween low high x → (int_le low x && int_le x high) ≡ true
both_in low high x h = let a = h.0 in let b = h.1 in grind (arith, ints)

module _ (model : DataModel) (sets : Sets) (guess : ℕ) (asking : Asking) (what : Label) where
  pub one_exact_split : (answer : Lin) (pieces : List Piece) → IsOneExact model sets asking what answer
      → pieces ≡ unguessed what answer sets ∷ [] → IsSplit model sets guess asking pieces
  one_exact_split answer pieces h made =
      let is : IsPieceOf model sets guess asking (unguessed what answer sets) = record {
        meaning = record { from = λ v fits. (fits, h.followed v fits, h.shown v fits); back = λ v fits followed shown. fits; answer = h.own };
        some = fitting sets h.inhabited;
        others = λ other apart unmentioned. refl;
      } in
      subst (λ (ps : List Piece). IsSplit model sets guess asking ps) (sym made)
      (record { each = (is, tt); labels = (tt, tt); covers = λ v fits. inl fits })

  module _ (numbers : Interval) (h : IsOneGuess model sets asking what numbers) (piece : Piece) (g : IsGuessPiece sets guess what numbers piece)
      (fresh : set_of sets guess ≡ None) where
    declared_between : (number : ℤ) → contains g.set number ≡ true → IsBetween numbers.low numbers.high number
    declared_between number t = over_yields numbers.low numbers.high number (sym (g.numbers_are number) ∙ t)

    between_declared : (number : ℤ) → IsBetween numbers.low numbers.high number → contains g.set number ≡ true
    between_declared number b = g.numbers_are number ∙ both_in numbers.low numbers.high number b

    meaning : IsOfGuess model sets guess asking piece
    meaning = record {
      from = λ v fits.
          let d = declared_fits sets piece.constraints guess g.set fresh g.declared v fits in (
            d.0,
            h.unfollowed v d.0,
            h.to_guess v (v guess) (declared_between (v guess) d.1),
            h.shown v (v guess) ∙ sym g.shown,
          );
      back = λ v number fits unfollowed may shown.
          fits_declared sets piece.constraints guess g.set fresh g.declared v number fits (between_declared number (h.from_guess v number may));
      answer = λ v fits. ap (value_of v) g.answer ∙ itself v;
    }
      where
        itself : (v : Valuation) → value_of v (symbol_term (record { 0 = guess })) ≡ v guess
        itself v = omega (arith, ints)

    covered : (v : Valuation) → Fits v sets → IsIn model guess asking v piece.guessed piece
    covered v fits =
        subst (λ (o : Option Guessed). IsIn model guess asking v o piece) (sym g.guessed)
        (fits_declared sets piece.constraints guess g.set fresh g.declared v (own_result model (asking.operation v)) fits
        (between_declared (own_result model (asking.operation v)) (h.own v fits)))

    pub one_guess_split : (pieces : List Piece) → pieces ≡ piece ∷ [] → IsSplit model sets guess asking pieces
    one_guess_split pieces made =
        let is : IsPieceOf model sets guess asking piece = record {
          meaning = subst (λ (o : Option Guessed). IsPieceWith model sets guess asking o piece) (sym g.guessed) meaning;
          some = fitting piece.constraints g.inhabited;
          others = λ other apart unmentioned. g.declared.elsewhere other.0 apart;
        } in
        subst (λ (ps : List Piece). IsSplit model sets guess asking ps) (sym made)
        (record { each = (is, tt); labels = (tt, tt); covers = λ v fits. inl (covered v fits) })

-- what is shown
pub shown_pieces : (sets : Sets) (shown : Shown) (what : Label) (answer : Lin) (pieces : List Piece) → shown.label ≡ what → shown.answer ≡ answer
    → pieces ≡ unguessed shown.label shown.answer sets ∷ [] → pieces ≡ unguessed what answer sets ∷ []
shown_pieces sets shown what answer pieces e h made =
    made ∙ ap (λ (l : Label). unguessed l shown.answer sets ∷ []) e ∙ ap (λ (a : Lin). unguessed what a sets ∷ []) h
