-- The case of a `switch` that a number takes, and the pieces of a `switch`.
use Rattle.std.specs.Prelude.{◌≡◌, ◌↔◌, ℕ, ◌<◌, ◌≤◌, ℤ, true, suc, List, [], ◌∷◌, Some, if◌then◌else◌}
use Rattle.std.specs.Ordering.{int_eq}
use Rattle.cs_types.specs.declared.data_model.DataModel.{DataModel}
use Rattle.cs_cfg.specs.declared.code.SwitchCase.{SwitchCase}
use Rattle.cs_ranges.specs.declared.range_set.Interval.{Interval}
use Rattle.cs_ranges.specs.Interval.{IsInside}
use Rattle.cs_ranges.specs.RangeSet.{contains}
use Rattle.cs_terms.specs.declared.term.Lin.{Lin}
use Rattle.cs_terms.specs.Term.{Valuation, value_of}
use Rattle.cs_constraints.specs.Constraints.{Sets, Fits}
use Rattle.cs_events.specs.declared.event.Label.TheVariants as label
use Rattle.cs_events.specs.declared.operation.Operation.TheVariants as operation
use Rattle.cs_eval.specs.declared.piece.Piece.{Piece}
use Rattle.cs_eval.specs.Splits.{Asking, IsPieceOf, Each, HaveOwnLabels, IsCovered, IsSplit}

-- how many cases precede the first one with the number: all, if none has it
abbrev pub case_of : List SwitchCase → ℤ → ℕ
case_of [] number = 0
case_of (one ∷ cases) number = if int_eq one.value number then 0 else suc (case_of cases number)

-- the question of a `switch`: which case the term's value takes. It is always followed, and the operation continues without a number
abbrev pub asking_of_cases : Lin → List SwitchCase → Asking
asking_of_cases term cases = record {
  operation = λ v. operation.Show (label.Case (case_of cases (value_of v term)));
  IsFollowed = λ v. Unit {0};
  IsGuess = λ v number. ⊥;
  Mentions = λ sym. term.sym ≡ Some sym;
}

-- the pieces of a `switch`: one for each case that some valuation takes, with exactly the valuations that take it
abbrev pub AreCases : Sets → Lin → List SwitchCase → List Piece → Type 0
AreCases sets term cases pieces = (model : DataModel) (guess : ℕ) → IsSplit model sets guess (asking_of_cases term cases) pieces

-- the piece shows an earlier case
pub record IsBefore (n : ℕ) (piece : Piece) : Type 0 where
  pub number : ℕ
  pub before : number < n
  pub shown : piece.label ≡ label.Case number

-- the pieces of the first cases
pub record AreFirst (sets : Sets) (term : Lin) (cases : List SwitchCase) (n : ℕ) (pieces : List Piece) : Type 0 where
  pub each : (model : DataModel) (guess : ℕ) → Each (IsPieceOf model sets guess (asking_of_cases term cases)) pieces
  pub before : Each (IsBefore n) pieces
  pub labels : HaveOwnLabels pieces
  pub covers : (v : Valuation) → Fits v sets → case_of cases (value_of v term) < n → (model : DataModel) (guess : ℕ)
      → IsCovered model guess (asking_of_cases term cases) v pieces

-- the numbers that take none of the first cases
abbrev pub AreLeft : List SwitchCase → ℕ → List Interval → Type 0
AreLeft cases n left = (x : ℤ) → IsInside x → (contains left x ≡ true) ↔ (n ≤ case_of cases x)

-- a case with its number: the numbers that take it have its value, and its own value takes it or an earlier one
pub record IsCaseAt (cases : List SwitchCase) (n : ℕ) (value : ℤ) : Type 0 where
  pub alone : (x : ℤ) → case_of cases x ≡ n → x ≡ value
  pub reached : case_of cases value ≤ n

-- what a case adds to the pieces of the earlier cases, and which numbers remain
pub record IsCasePushed (sets : Sets) (term : Lin) (n : ℕ) (value : ℤ) (left rest : List Interval) (before after : List Piece) : Type 0 where
  pub left_is : (cases : List SwitchCase) → IsCaseAt cases n value → AreLeft cases n left → AreLeft cases (suc n) rest
  pub first : (cases : List SwitchCase) → IsCaseAt cases n value → AreLeft cases n left → AreFirst sets term cases n before
      → AreFirst sets term cases (suc n) after
