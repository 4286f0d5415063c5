-- A split of a question is one of any question that is the same under each valuation that fits: for the contract of `answers`.
use Rattle.std.proofs.Common.{◌≡◌, inl, inr, ℕ, ℤ, List, [], ◌∷◌, Option, Some, None, sym, ap, subst, ◌∙◌}
use Rattle.cs_types.specs.declared.data_model.DataModel.{DataModel}
use Rattle.cs_terms.specs.declared.symbol.Sym.{Sym}
use Rattle.cs_terms.specs.Term.{Valuation}
use Rattle.cs_constraints.specs.Constraints.{Sets, Fits}
use Rattle.cs_events.specs.declared.operation.Operation.{Operation}
use Rattle.cs_events.specs.Operations.{own_result, shows}
use Rattle.cs_eval.specs.declared.piece.Piece.{Piece}
use Rattle.cs_eval.specs.declared.piece.Guessed.{Guessed}
use Rattle.cs_eval.specs.Parts.{with_number}
use Rattle.cs_eval.specs.Splits.{Asking, IsExact, IsOfGuess, IsPieceWith, IsPieceOf, Each, IsIn, IsCovered, IsSplit}

-- both ask the same under each valuation that fits, and the first one mentions no other symbols
pub record IsSameAsking (before : Sets) (made given : Asking) : Type 0 where
  pub operation : (v : Valuation) → Fits v before → made.operation v ≡ given.operation v
  pub to_given : (v : Valuation) → Fits v before → made.IsFollowed v → given.IsFollowed v
  pub to_made : (v : Valuation) → Fits v before → given.IsFollowed v → made.IsFollowed v
  pub guess_given : (v : Valuation) (number : ℤ) → Fits v before → made.IsGuess v number → given.IsGuess v number
  pub guess_made : (v : Valuation) (number : ℤ) → Fits v before → given.IsGuess v number → made.IsGuess v number
  pub mentions : (s : Sym) → made.Mentions s → given.Mentions s

module _ (model : DataModel) (before : Sets) (guess : ℕ) (made given : Asking) where
  module _ (same : IsSameAsking before made given) where
    shows_same : (v : Valuation) (number : Option ℤ) → Fits v before
        → shows model (made.operation v) number ≡ shows model (given.operation v) number
    shows_same v number fits = ap (λ (o : Operation). shows model o number) (same.operation v fits)

    exact_same : (piece : Piece) → IsExact model before made piece → IsExact model before given piece
    exact_same piece e = record {
      from = λ v fits. let h = e.from v fits in (h.0, same.to_given v h.0 h.1, sym (shows_same v None h.0) ∙ h.2);
      back = λ v fits followed shown. e.back v fits (same.to_made v fits followed) (shows_same v None fits ∙ shown);
      answer = λ v fits. e.answer v fits ∙ ap (own_result model) (same.operation v (e.from v fits).0);
    }

    guess_same : (piece : Piece) → IsOfGuess model before guess made piece → IsOfGuess model before guess given piece
    guess_same piece e = record {
      from = λ v fits.
          let h = e.from v fits in (
            h.0,
            λ followed. h.1 (same.to_made v h.0 followed),
            same.guess_given v (v guess) h.0 h.2,
            sym (shows_same v (Some (v guess)) h.0) ∙ h.3,
          );
      back = λ v number fits unfollowed may shown.
          e.back v number fits (λ followed. unfollowed (same.to_given v fits followed)) (same.guess_made v number fits may)
          (shows_same v (Some number) fits ∙ shown);
      answer = e.answer;
    }

    with_same : (piece : Piece) (guessed : Option Guessed) → IsPieceWith model before guess made guessed piece
        → IsPieceWith model before guess given guessed piece
    with_same piece None e = exact_same piece e
    with_same piece (Some guessed) e = guess_same piece e

    piece_same : (piece : Piece) → IsPieceOf model before guess made piece → IsPieceOf model before guess given piece
    piece_same piece h = record {
      meaning = with_same piece piece.guessed h.meaning;
      some = h.some;
      others = λ other apart unmentioned. h.others other apart (λ mentioned. unmentioned (same.mentions other mentioned));
    }

    each_same : (pieces : List Piece) → Each (IsPieceOf model before guess made) pieces → Each (IsPieceOf model before guess given) pieces
    each_same [] h = tt
    each_same (piece ∷ pieces) h = (piece_same piece h.0, each_same pieces h.1)

    in_same : (v : Valuation) → Fits v before → (guessed : Option Guessed) (piece : Piece) → IsIn model guess made v guessed piece
        → IsIn model guess given v guessed piece
    in_same v fits None piece h = h
    in_same v fits (Some guessed) piece h =
        subst (λ (o : Operation). Fits (with_number guess (own_result model o) v) piece.constraints) (same.operation v fits) h

    covered_same : (v : Valuation) → Fits v before → (pieces : List Piece) → IsCovered model guess made v pieces
        → IsCovered model guess given v pieces
    covered_same v fits [] h = h
    covered_same v fits (piece ∷ pieces) (inl h) = inl (in_same v fits piece.guessed piece h)
    covered_same v fits (piece ∷ pieces) (inr h) = inr (covered_same v fits pieces h)

  -- a valuation that fits a piece fits the constraints before it
  fits_before : (piece : Piece) (guessed : Option Guessed) (v : Valuation) → IsPieceWith model before guess made guessed piece
      → Fits v piece.constraints → Fits v before
  fits_before piece None v e fits = (e.from v fits).0
  fits_before piece (Some guessed) v e fits = (e.from v fits).0

  pub split_same : ((w : Valuation) → Fits w before → IsSameAsking before made given) → (pieces : List Piece)
      → IsSplit model before guess made pieces → IsSplit model before guess given pieces
  split_same same [] split = record { each = tt; labels = tt; covers = split.covers }
  split_same same (piece ∷ pieces) split =
      let one = split.each.0 in
      let there = same one.some.0 (fits_before piece piece.guessed one.some.0 one.meaning one.some.1) in
      record {
        each = each_same there (piece ∷ pieces) split.each;
        labels = split.labels;
        covers = λ v fits. covered_same there v fits (piece ∷ pieces) (split.covers v fits);
      }
