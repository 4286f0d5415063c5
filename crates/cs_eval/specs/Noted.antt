-- What is noted about a guess.
use Rattle.std.specs.Prelude.{◌≡◌, ℕ, ℤ, pos, List, Option, Some, None, IsSome, IsNone}
use Rattle.cs_types.specs.declared.data_model.DataModel.{DataModel}
use Rattle.cs_ranges.specs.declared.range_set.Interval.{Interval}
use Rattle.cs_ranges.specs.RangeSet.{IsLeast, IsGreatest}
use Rattle.cs_terms.specs.declared.symbol.Sym.{Sym}
use Rattle.cs_terms.specs.declared.term.Lin.{Lin}
use Rattle.cs_terms.specs.Term.{Valuation, value_of_sum}
use Rattle.cs_constraints.specs.Constraints.{Sets, set_of, Fits}
use Rattle.cs_events.specs.Operations.{own_result, truth_number, compares}
use Rattle.cs_state.specs.declared.asked.Asks.{Asks}
use Rattle.cs_state.specs.declared.asked.Asks.TheVariants as asks
use Rattle.cs_state.specs.declared.asked.Ends.{Ends}
use Rattle.cs_state.specs.declared.asked.Fact.{Fact}
use Rattle.cs_eval.specs.declared.piece.Guessed.{Guessed}
use Rattle.cs_eval.specs.declared.piece.Piece.{Piece}
use Rattle.cs_eval.specs.declared.question.Question.{Question}
use Rattle.cs_eval.specs.declared.question.Question.TheVariants as question
use Rattle.cs_eval.specs.Followed.{IsFollowed, IsGuess}
use Rattle.cs_eval.specs.Questions.{operation_of}
use Rattle.cs_eval.specs.Ready.{HasReadyOperands}

-- the question of an operation on two operands. The size of the elements, for a sum or a difference of pointers, isn't noted
abbrev pub IsQuestionOf : Asks → Lin → Lin → Question → Type 0
IsQuestionOf (asks.Binary op ty) left right meant = meant ≡ question.Binary op ty left right
IsQuestionOf (asks.Convert ty) left right meant = meant ≡ question.Convert ty left
IsQuestionOf (asks.Compare op) left right meant = meant ≡ question.Compare op left right
IsQuestionOf asks.Order left right meant = meant ≡ question.Order left right
IsQuestionOf asks.Product left right meant = meant ≡ question.Product left right
IsQuestionOf asks.Sum left right meant = (bytes : ℕ) × (meant ≡ question.Sum left right bytes)
IsQuestionOf asks.Difference left right meant = (bytes : ℕ) × (meant ≡ question.Difference left right bytes)

-- there is a fact exactly for comparisons and for order tests other than that of `calloc`. The operands of such an order test are the two
-- parts of the fact's term
abbrev pub HasFact : Asks → Lin → Lin → Option Fact → Type 0
HasFact (asks.Compare op) left right fact = IsSome fact
HasFact asks.Order left right fact = (found : Fact) × (fact ≡ Some found) × (found.term ≡ record { first = left; second = right })
HasFact other left right fact = IsNone fact

-- the operation's own result is 1 if the fact's comparison of its term with 0 holds, else 0
abbrev pub DeterminesResult : DataModel → Option Fact → Question → Valuation → Type 0
DeterminesResult model None meant v = Unit {0}
DeterminesResult model (Some fact) meant v = own_result model (operation_of v meant) ≡ truth_number (compares fact.op (value_of_sum v fact.term) (pos 0))

-- the ends are the least and the greatest number of the symbol's range, if there is a symbol
abbrev pub IsRangeOf : Sets → Option Sym → Interval → Type 0
IsRangeOf sets symbol ends = (sym : Sym) → symbol ≡ Some sym
    → (set : List Interval) × (set_of sets sym.0 ≡ Some set) × IsLeast set ends.low × IsGreatest set ends.high

-- without a symbol, both ends are 0
abbrev pub HasNoEnds : Option Sym → Interval → Type 0
HasNoEnds symbol ends = symbol ≡ None → ends ≡ record { low = pos 0; high = pos 0 }

-- what is noted about a guess for a question under these sets: a question with the same operation under each valuation that fits, in the
-- form in which it was decided
pub record IsNoted (model : DataModel) (sets : Sets) (given : Question) (what : Asks) (left right : Lin) (ends : Ends) (fact : Option Fact) : Type 0 where
  pub meant : Question
  pub asked : IsQuestionOf what left right meant
  pub operands : HasReadyOperands sets meant
  pub same : (v : Valuation) → Fits v sets → operation_of v meant ≡ operation_of v given
  pub followed : (v : Valuation) → Fits v sets → IsFollowed model sets meant v → IsFollowed model sets given v
  pub guesses : (v : Valuation) (number : ℤ) → Fits v sets → IsGuess model sets given v number → IsGuess model sets meant v number
  pub has_fact : HasFact what left right fact
  pub determines : (v : Valuation) → Fits v sets → DeterminesResult model fact meant v
  pub left_range : IsRangeOf sets left.sym ends.left
  pub right_range : IsRangeOf sets right.sym ends.right
  pub left_ends : HasNoEnds left.sym ends.left
  pub right_ends : HasNoEnds right.sym ends.right

-- a piece with a guess notes it
abbrev pub NotesGuess : DataModel → Sets → Question → Piece → Type 0
NotesGuess model sets given piece = (noted : Guessed) → piece.guessed ≡ Some noted
    → IsNoted model sets given noted.asks noted.left noted.right noted.ends noted.fact
