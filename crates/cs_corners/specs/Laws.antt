-- The purpose of corners: they show that an operation can't be followed exactly, and which numbers its result may have.
use Rattle.std.specs.Prelude.{◌⊎◌, ℤ, IsTrue}
use Rattle.cs_types.specs.declared.data_model.DataModel.{DataModel}
use Rattle.cs_terms.specs.Term.{Valuation}
use Rattle.cs_constraints.specs.Constraints.{Sets, AreInhabited}
use Rattle.cs_findings.specs.Narrower.{may_be_used, fits_left, fits_right}
use Rattle.cs_eval.specs.declared.question.Question.{Question}
use Rattle.cs_eval.specs.Followed.{IsFollowed, IsGuess}
use Rattle.cs_eval.specs.Questions.{operation_of}
use Rattle.cs_corners.specs.Corners.{HasGroundAtCorners, HasOtherLeft, HasOtherRight}
use Rattle.cs_corners.specs.Operands.{HasOperands, HasDivisor}

-- for an operation that isn't followed exactly under a valuation, one or two corners are the ground of its guess there
abbrev pub CornersHaveGround : Type 0
CornersHaveGround = (model : DataModel) (sets : Sets) (asked : Question) (v : Valuation) → AreInhabited sets → HasOperands sets v asked
    → ¬ IsFollowed model sets asked v → HasGroundAtCorners model sets asked v

-- a run would use the number in place of the operation's own result, and the number could also be the result with an operand that is the same at all corners
pub record IsUsable (model : DataModel) (sets : Sets) (asked : Question) (v : Valuation) (number : ℤ) : Type 0 where
  pub used : IsTrue (may_be_used model (operation_of v asked) number)
  pub left : IsTrue (fits_left (operation_of v asked) number) ⊎ HasOtherLeft sets asked v
  pub right : IsTrue (fits_right (operation_of v asked) number) ⊎ HasOtherRight sets asked v

-- this holds for each number that may be guessed
abbrev pub GuessesAreUsable : Type 0
GuessesAreUsable = (model : DataModel) (sets : Sets) (asked : Question) (v : Valuation) (number : ℤ) → AreInhabited sets → HasOperands sets v asked
    → HasDivisor sets v asked → IsGuess model sets asked v number → IsUsable model sets asked v number
