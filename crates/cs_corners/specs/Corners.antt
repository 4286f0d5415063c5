-- Corners: valuations under which the symbols of a question's operands have the least or the greatest of the numbers that they may have,
-- and all other symbols keep theirs.
use Rattle.std.specs.Prelude.{◌≡◌, ◌≢◌, ◌⊎◌, ℤ, IsTrue, List, Some}
use Rattle.cs_ranges.specs.declared.range_set.Interval.{Interval}
use Rattle.cs_ranges.specs.RangeSet.{IsLeast, IsGreatest}
use Rattle.cs_types.specs.declared.data_model.DataModel.{DataModel}
use Rattle.cs_terms.specs.declared.symbol.Sym.{Sym}
use Rattle.cs_terms.specs.Term.{Valuation}
use Rattle.cs_constraints.specs.Constraints.{Sets, set_of, Fits}
use Rattle.cs_results.specs.declared.run.Others.{Others}
use Rattle.cs_results.specs.declared.run.Others.TheVariants.{One, Two}
use Rattle.cs_findings.specs.Runs.{each_other}
use Rattle.cs_findings.specs.Operands.{operands}
use Rattle.cs_findings.specs.Grounds.{Pair, has_ground}
use Rattle.cs_eval.specs.declared.question.Question.{Question}
use Rattle.cs_eval.specs.Followed.{Mentions}
use Rattle.cs_eval.specs.Questions.{operation_of}

-- the symbol is declared, and the number is the least or the greatest that it may have
pub record IsEnd (sets : Sets) (sym : Sym) (number : ℤ) : Type 0 where
  pub set : List Interval
  pub known : set_of sets sym.0 ≡ Some set
  pub at_end : IsLeast set number ⊎ IsGreatest set number

-- each of these symbols has one of its ends, and each other symbol keeps its number; so the corner fits if the first valuation does
pub record IsCornerOf (sets : Sets) (IsMoved : Sym → Type 0) (v w : Valuation) : Type 0 where
  pub ends : (sym : Sym) → IsMoved sym → IsEnd sets sym (w sym.0)
  pub others : (other : Sym) → ¬ IsMoved other → w other.0 ≡ v other.0
  pub fits : Fits v sets → Fits w sets

-- a corner of the symbols of the question's operands
abbrev pub IsCorner : Sets → Question → Valuation → Valuation → Type 0
IsCorner sets asked v w = IsCornerOf sets (Mentions asked) v w

-- each of one or two valuations has the property
abbrev pub EachIs : (Valuation → Type 0) → Others Valuation → Type 0
EachIs Is (One first) = Is first
EachIs Is (Two first second) = Is first × Is second

-- the two operands of the question's operation under a valuation
abbrev pub operands_under : Question → Valuation → Pair
operands_under asked v = operands (operation_of v asked)

-- one or two corners are the ground of the guess
pub record HasGroundAtCorners (model : DataModel) (sets : Sets) (asked : Question) (v : Valuation) : Type 0 where
  pub others : Others Valuation
  pub corners : EachIs (IsCorner sets asked v) others
  pub has_reason : IsTrue (has_ground model (operation_of v asked) (each_other (operands_under asked) others))

-- some corner has another left operand
pub record HasOtherLeft (sets : Sets) (asked : Question) (v : Valuation) : Type 0 where
  pub corner : Valuation
  pub is_corner : IsCorner sets asked v corner
  pub differs : (operands_under asked corner).0 ≢ (operands_under asked v).0

-- some corner has another right operand
pub record HasOtherRight (sets : Sets) (asked : Question) (v : Valuation) : Type 0 where
  pub corner : Valuation
  pub is_corner : IsCorner sets asked v corner
  pub differs : (operands_under asked corner).1 ≢ (operands_under asked v).1
