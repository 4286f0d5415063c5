-- What the pieces with a guess record about it: the question, with its operands in the form that arithmetic on terms requires.
use Rattle.std.specs.Prelude.{◌≡◌, ℕ, List, Option, None, IfSome}
use Rattle.cs_types.specs.declared.data_model.DataModel.{DataModel}
use Rattle.cs_ranges.specs.declared.range_set.Interval.{Interval}
use Rattle.cs_terms.specs.declared.symbol.Sym.{Sym}
use Rattle.cs_terms.specs.declared.term.Lin.{Lin}
use Rattle.cs_terms.specs.Term.{Valuation}
use Rattle.cs_constraints.specs.Constraints.{Sets, Fits, IsDeclared}
use Rattle.cs_state.specs.declared.asked.Asks.{Asks}
use Rattle.cs_state.specs.declared.asked.Asks.TheVariants as asks
use Rattle.cs_state.specs.declared.asked.Fact.{Fact}
use Rattle.cs_eval.specs.declared.guesses.Inexact.{Inexact}
use Rattle.cs_eval.specs.declared.piece.Guessed.{Guessed}
use Rattle.cs_eval.specs.declared.piece.Piece.{Piece}
use Rattle.cs_eval.specs.declared.question.Question.{Question}
use Rattle.cs_eval.specs.Followed.{AreAnswers}
use Rattle.cs_eval.specs.Noted.{IsQuestionOf, HasFact, DeterminesResult, IsRangeOf, HasNoEnds}
use Rattle.cs_eval.specs.Splits.{Each}

-- the ends of a symbol's range, if it is declared; both are 0 without a symbol
pub record AreEndsOf (sets : Sets) (symbol : Option Sym) (ends : Interval) : Type 0 where
  pub range : IsDeclared sets symbol → IsRangeOf sets symbol ends
  pub none : HasNoEnds symbol ends

-- the operation itself is recorded, with the ends of its operands' symbols
pub record IsRecordOf (sets : Sets) (inexact : Inexact) (noted : Guessed) : Type 0 where
  pub operation : noted.asks ≡ inexact.asks
  pub left : noted.left ≡ inexact.left
  pub right : noted.right ≡ inexact.right
  pub fact : noted.fact ≡ inexact.fact
  pub left_ends : AreEndsOf sets noted.left.sym noted.ends.left
  pub right_ends : AreEndsOf sets noted.right.sym noted.ends.right

-- a piece with a guess records the operation
abbrev pub RecordsInexact : Sets → Inexact → Piece → Type 0
RecordsInexact sets inexact piece = IfSome piece.guessed (IsRecordOf sets inexact)

-- a conversion has one operand; the other is a constant
abbrev pub HasNoOther : Asks → Lin → Type 0
HasNoOther (asks.Convert ty) right = right.sym ≡ None
HasNoOther other right = Unit {0}

-- an operation on two terms, with its fact if it has one, is that of the question
pub record IsInexactOf (model : DataModel) (sets : Sets) (question : Question) (what : Asks) (left right : Lin) (fact : Option Fact) : Type 0 where
  pub asked : IsQuestionOf what left right question
  pub other : HasNoOther what right
  pub has_fact : HasFact what left right fact
  pub determines : (v : Valuation) → Fits v sets → DeterminesResult model fact question v

-- the question itself is recorded
pub record IsRecordOfQuestion (model : DataModel) (sets : Sets) (question : Question) (noted : Guessed) : Type 0 where
  pub meant : IsInexactOf model sets question noted.asks noted.left noted.right noted.fact
  pub left_ends : AreEndsOf sets noted.left.sym noted.ends.left
  pub right_ends : AreEndsOf sets noted.right.sym noted.ends.right

-- a piece with a guess records the question
abbrev pub RecordsQuestion : DataModel → Sets → Question → Piece → Type 0
RecordsQuestion model sets question piece = IfSome piece.guessed (IsRecordOfQuestion model sets question)

-- the pieces of a question; those with a guess record it
pub record AreRecordedAnswers (model : DataModel) (sets : Sets) (guess : ℕ) (question : Question) (pieces : List Piece) : Type 0 where
  pub answers : AreAnswers model sets guess question pieces
  pub records : Each (RecordsQuestion model sets question) pieces
