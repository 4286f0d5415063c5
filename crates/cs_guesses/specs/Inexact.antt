-- The operation of a guess, which isn't followed exactly.
use Rattle.cs_types.specs.declared.data_model.DataModel.{DataModel}
use Rattle.cs_terms.specs.Term.{Valuation}
use Rattle.cs_constraints.specs.Constraints.{Sets, AreInhabited}
use Rattle.cs_state.specs.declared.asked.Asked.{Asked}
use Rattle.cs_eval.specs.declared.question.Question.{Question}
use Rattle.cs_eval.specs.Followed.{IsFollowed, IsGuess}
use Rattle.cs_eval.specs.Noted.{IsRangeOf}

-- ranges of symbols, each with some number, where those of the operands' symbols have the noted ends
pub record AreRanges (asked : Asked) (sets : Sets) : Type 0 where
  pub inhabited : AreInhabited sets
  pub left : IsRangeOf sets asked.left.sym asked.ends.left
  pub right : IsRangeOf sets asked.right.sym asked.ends.right

-- for all ranges with these ends: the operation isn't followed exactly, and the number of the guess symbol may be guessed instead of its result
abbrev pub IsInexact : DataModel → Asked → Question → Valuation → Type 0
IsInexact model asked meant v = (sets : Sets) → AreRanges asked sets
    → ¬ IsFollowed model sets meant v × IsGuess model sets meant v (v asked.guess.0)
