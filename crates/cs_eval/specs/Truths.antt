-- How a truth is followed, and its pieces.
use Rattle.std.specs.Prelude.{◌≡◌, ◌⊎◌, ℕ, Bool, true, false, pos, List, [], ◌∷◌, ◌++◌, Some}
use Rattle.cs_ast.specs.declared.typed.operator.CmpOp.{CmpOp}
use Rattle.cs_terms.specs.declared.symbol.Sym.{Sym}
use Rattle.cs_terms.specs.declared.term.Lin.{Lin}
use Rattle.cs_terms.specs.declared.term.Lin2.{Lin2}
use Rattle.cs_terms.specs.Term.{Valuation, value_of, value_of_sum, HaveTwoSymbols}
use Rattle.cs_constraints.specs.Constraints.{Sets, Fits, AreInhabited}
use Rattle.cs_events.specs.declared.event.Label.TheVariants as label
use Rattle.cs_events.specs.Operations.{compares, truth_number}
use Rattle.cs_eval.specs.declared.halves.Halves.{Halves}
use Rattle.cs_eval.specs.declared.piece.Piece.{Piece}
use Rattle.cs_eval.specs.declared.truths.Followed.{Followed}
use Rattle.cs_eval.specs.declared.truths.Followed.TheVariants.{Where, Always as AlwaysIs, No}
use Rattle.cs_eval.specs.Followed.{IsDecided}
use Rattle.cs_eval.specs.Guesses.{IsGuessPiece}
use Rattle.cs_eval.specs.Operands.{IsTermInside}
use Rattle.cs_eval.specs.Parts.{AreHalves, number_term, unguessed, unguessed_if}

-- the term that determines a truth has its values inside
abbrev pub IsReady : Sets → Followed → Type 0
IsReady sets (Where op term) = IsTermInside sets term
IsReady sets (AlwaysIs holds) = Unit {0}
IsReady sets No = Unit {0}

-- the pieces of a truth's halves
pub record AreOfHalves (sets : Sets) (op : CmpOp) (term : Lin) (pieces : List Piece) : Type 0 where
  pub halves : Halves
  pub are : AreHalves sets term.sym (λ v. compares op (value_of v term) (pos 0)) halves
  pub made : pieces
      ≡ unguessed_if (label.Truth true) (number_term (truth_number true)) halves.holds
      ++ unguessed_if (label.Truth false) (number_term (truth_number false)) halves.fails

-- the one piece of a truth that is the same under all valuations
pub record IsOfAll (sets : Sets) (holds : Bool) (pieces : List Piece) : Type 0 where
  pub made : pieces ≡ unguessed (label.Truth holds) (number_term (truth_number holds)) sets ∷ []
  pub inhabited : AreInhabited sets

-- the piece of a guessed truth
abbrev pub IsGuessOf : Sets → ℕ → Bool → Piece → Type 0
IsGuessOf sets guess holds piece =
    IsGuessPiece sets guess (label.Truth holds) (record { low = truth_number holds; high = truth_number holds }) piece

-- both pieces of a guessed truth
pub record AreOfGuess (sets : Sets) (guess : ℕ) (pieces : List Piece) : Type 0 where
  pub held : Piece
  pub failed : Piece
  pub made : pieces ≡ held ∷ failed ∷ []
  pub held_is : IsGuessOf sets guess true held
  pub failed_is : IsGuessOf sets guess false failed

-- the pieces of a truth, depending on how it is followed
abbrev pub ArePiecesOf : Sets → ℕ → Followed → List Piece → Type 0
ArePiecesOf sets guess (Where op term) pieces = AreOfHalves sets op term pieces
ArePiecesOf sets guess (AlwaysIs holds) pieces = IsOfAll sets holds pieces
ArePiecesOf sets guess No pieces = AreOfGuess sets guess pieces

-- a comparison of a sum with 0 is one of a single term
pub record IsFollowedWhere (sets : Sets) (op : CmpOp) (term : Lin2) (by : CmpOp) (sum : Lin) : Type 0 where
  pub comparison : by ≡ op
  pub inside : IsTermInside sets sum
  pub value : (v : Valuation) → value_of v sum ≡ value_of_sum v term
  pub symbol : (s : Sym) → sum.sym ≡ Some s → (term.first.sym ≡ Some s) ⊎ (term.second.sym ≡ Some s)
  pub one_symbol : ¬ HaveTwoSymbols term.first.sym term.second.sym

-- how a comparison of a sum with 0 is followed
abbrev pub IsFollowedBySign : Sets → CmpOp → Lin2 → Followed → Type 0
IsFollowedBySign sets op term (Where by sum) = IsFollowedWhere sets op term by sum
IsFollowedBySign sets op term (AlwaysIs holds) =
    ((v : Valuation) → Fits v sets → compares op (value_of_sum v term) (pos 0) ≡ holds) × IsDecided sets op (λ v. value_of_sum v term)
IsFollowedBySign sets op term No = HaveTwoSymbols term.first.sym term.second.sym × ¬ IsDecided sets op (λ v. value_of_sum v term)
