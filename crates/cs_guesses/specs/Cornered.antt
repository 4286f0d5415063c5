-- The corners of a guess, as runs of the program: the named symbols of its operands have the noted ends, and all others their own numbers. These runs reach
-- the guessed operation, and show that its result has to be guessed.
use Rattle.std.specs.Prelude.{◌≡◌, ◌≢◌, ◌⊎◌, ◌<◌, ℕ, suc, ℤ, IsTrue, List, length, Option, Some, slice_get, Contains}
use Rattle.std.specs.FinMap as finite
use Rattle.cs_types.specs.declared.data_model.DataModel.{DataModel}
use Rattle.cs_ranges.specs.declared.range_set.Interval.{Interval}
use Rattle.cs_ast.specs.declared.place.Place.{Place}
use Rattle.cs_ast.specs.TypedProgram.{TypedProgram}
use Rattle.cs_terms.specs.declared.symbol.Sym.{Sym}
use Rattle.cs_terms.specs.declared.symbol.SymName.{SymName}
use Rattle.cs_terms.specs.Term.{Valuation}
use Rattle.cs_constraints.specs.Constraints.{Fits}
use Rattle.cs_events.specs.declared.event.Event.{Event}
use Rattle.cs_events.specs.declared.outcome.RunBudgets.{RunBudgets}
use Rattle.cs_events.specs.PendingEvents.{Operates}
use Rattle.cs_state.specs.declared.asked.Asked.{Asked}
use Rattle.cs_state.specs.declared.state.State.{State}
use Rattle.cs_state.specs.Naming.{Naming}
use Rattle.cs_eval.specs.declared.question.Question.{Question}
use Rattle.cs_eval.specs.Noted.{IsQuestionOf}
use Rattle.cs_eval.specs.Questions.{operation_of}
use Rattle.cs_results.specs.declared.run.Others.{Others}
use Rattle.cs_findings.specs.Grounds.{Pair, has_ground}
use Rattle.cs_findings.specs.Narrower.{may_be_used, fits_left, fits_right}
use Rattle.cs_findings.specs.Operands.{with_operands}
use Rattle.cs_findings.specs.RealGuesses.{Comes}
use Rattle.cs_findings.specs.Runs.{before, each_other}
use Rattle.cs_compared.specs.Computable.{IsComputable}
use Rattle.cs_compared.specs.Wide.{IsSmall}
use Rattle.cs_corners.specs.Corners.{EachIs, operands_under}
use Rattle.cs_guesses.specs.Real.{run_at}

-- a symbol has a name
abbrev pub IsNamed : Naming → Sym → Type 0
IsNamed names sym = (name : SymName) × (slice_get names.syms sym.0 ≡ Some name)

-- the symbol, if there is one and it has a name, has one of the ends
abbrev pub HasEnd : Naming → Option Sym → Interval → Valuation → Type 0
HasEnd names symbol ends w = (sym : Sym) → symbol ≡ Some sym → IsNamed names sym → (w sym.0 ≡ ends.low) ⊎ (w sym.0 ≡ ends.high)

-- the symbol is that of an operand, and has a name
abbrev pub IsOfOperand : Naming → Asked → Sym → Type 0
IsOfOperand names asked sym = ((asked.left.sym ≡ Some sym) ⊎ (asked.right.sym ≡ Some sym)) × IsNamed names sym

-- the symbols of both operands have ends, if they have names, and all others have their own numbers
pub record IsAtEnds (names : Naming) (asked : Asked) (v w : Valuation) : Type 0 where
  pub left : HasEnd names asked.left.sym asked.ends.left w
  pub right : HasEnd names asked.right.sym asked.ends.right w
  pub others : (other : Sym) → ¬ IsOfOperand names asked other → w other.0 ≡ v other.0

-- under some corner of the first valuation an operand differs from its value under the second
abbrev pub HasOtherCorner : Naming → Asked → Question → Valuation → Valuation → (Pair → ℤ) → Type 0
HasOtherCorner names asked meant v w operand =
    (corner : Valuation) × IsAtEnds names asked v corner × (operand (operands_under meant corner) ≢ operand (operands_under meant w))

-- corners of the first valuation are the ground to guess the operation's result under the second, and the number that it guesses may be used
pub record HasReasonAt (model : DataModel) (names : Naming) (asked : Asked) (meant : Question) (v w : Valuation) : Type 0 where
  pub others : Others Valuation
  pub at_ends : EachIs (IsAtEnds names asked v) others
  pub has_reason : IsTrue (has_ground model (operation_of w meant) (each_other (operands_under meant) others))
  pub used : IsTrue (may_be_used model (operation_of w meant) (w asked.guess.0))
  pub left : IsTrue (fits_left (operation_of w meant) (w asked.guess.0)) ⊎ HasOtherCorner names asked meant v w (λ pair. pair.0)
  pub right : IsTrue (fits_right (operation_of w meant) (w asked.guess.0)) ⊎ HasOtherCorner names asked meant v w (λ pair. pair.1)
  pub computable : IsComputable (operation_of w meant)
  pub small : IsSmall (operands_under meant w)

module _ (program : TypedProgram) (entry : ℕ) (budgets : RunBudgets) (names : Naming) (state : State) where
  -- the run of a valuation with only the guesses before an event reaches the operation after these events
  abbrev pub ComesTo : ℕ → List Event → Place → Question → Valuation → Type 0
  ComesTo event passed at meant w = Comes program entry budgets (before event (run_at names state w)) passed (Operates at (operation_of w meant))

  -- a guess of the run of a valuation that fits is real, as corners show
  pub record IsCornered (asked : Asked) (v : Valuation) : Type 0 where
    pub passed : List Event
    pub number : asked.event ≡ suc (length passed)
    pub at : Place
    pub meant : Question
    pub asks : IsQuestionOf asked.asks asked.left asked.right meant
    pub same : (w : Valuation) → with_operands (operation_of v meant) (operands_under meant w) ≡ operation_of w meant
    pub left_named : (sym : Sym) → asked.left.sym ≡ Some sym → IsNamed names sym
    pub comes : Comes program entry budgets (run_at names state v) passed (Operates at (operation_of v meant))
    pub reason : HasReasonAt program.model names asked meant v v
    pub corners : (w : Valuation) → IsAtEnds names asked v w → ComesTo asked.event passed at meant w × IsSmall (operands_under meant w)
    -- the runs of the corners of later guesses reach it too, each with its own number for this guess
    pub later : (other : Asked) (w : Valuation) → Contains (finite.values state.asked) other → asked.event < other.event → IsAtEnds names other v w
        → ComesTo other.event passed at meant w × HasReasonAt program.model names asked meant v w

  -- this holds for all guesses of the runs of valuations that fit
  abbrev pub HasCorners : Type 0
  HasCorners = (v : Valuation) (asked : Asked) → Fits v state.constraints → Contains (finite.values state.asked) asked → IsCornered asked v
