-- What is noted about the guesses of pieces, from the question: for the contract of `find`.
use Rattle.std.proofs.Common.{◌≡◌, ℕ, ℤ, List, [], ◌∷◌, Option, Some, refl, subst}
use Rattle.cs_types.specs.declared.data_model.DataModel.{DataModel}
use Rattle.cs_terms.specs.Term.{Valuation}
use Rattle.cs_constraints.specs.Constraints.{Sets}
use Rattle.cs_eval.specs.declared.piece.Guessed.{Guessed}
use Rattle.cs_eval.specs.declared.piece.Piece.{Piece}
use Rattle.cs_eval.specs.declared.question.Question.{Question}
use Rattle.cs_eval.specs.Followed.{IsFollowed, IsGuess, asking_of}
use Rattle.cs_eval.specs.Noted.{IsNoted, NotesGuess}
use Rattle.cs_eval.specs.Questions.{operation_of}
use Rattle.cs_eval.specs.Splits.{Asking, IsOfGuess, IsPieceWith, IsPieceOf, Each}

module _ (model : DataModel) (sets : Sets) where
  -- what is noted about a guess: a question that asks the same
  pub record IsNotedOf (asking : Asking) (what : Guessed) : Type 0 where
    pub given : Question
    pub noted : IsNoted model sets given what.asks what.left what.right what.ends what.fact
    pub operation : (v : Valuation) → asking.operation v ≡ operation_of v given
    pub followed : (v : Valuation) → IsFollowed model sets given v → asking.IsFollowed v
    pub guesses : (v : Valuation) (number : ℤ) → asking.IsGuess v number → IsGuess model sets given v number

  abbrev pub NotesAsked : Asking → Piece → Type 0
  NotesAsked asking piece = (what : Guessed) → piece.guessed ≡ Some what → IsNotedOf asking what

  -- the pieces of a question note that question
  pub question_noted : (given : Question) (pieces : List Piece) → Each (NotesGuess model sets given) pieces
      → Each (NotesAsked (asking_of model sets given)) pieces
  question_noted given [] notes = tt
  question_noted given (piece ∷ pieces) notes = (
    λ what some. record {
      given = given;
      noted = notes.0 what some;
      operation = λ v. refl;
      followed = λ v followed. followed;
      guesses = λ v number may. may;
    },
    question_noted given pieces notes.1,
  )

  -- if nothing may be guessed, no piece has a guess
  pub none_noted : (guess : ℕ) (asking : Asking) → ((v : Valuation) (number : ℤ) → asking.IsGuess v number → ⊥) → (pieces : List Piece)
      → Each (IsPieceOf model sets guess asking) pieces → Each (NotesAsked asking) pieces
  none_noted guess asking never [] each = tt
  none_noted guess asking never (piece ∷ pieces) each = (
    λ what some.
        let inexact : IsOfGuess model sets guess asking piece =
        subst (λ (given : Option Guessed). IsPieceWith model sets guess asking given piece) some each.0.meaning in
        absurd (never each.0.some.0 _ (inexact.from each.0.some.0 each.0.some.1).2),
    none_noted guess asking never pieces each.1,
  )
