-- What holds for each guess of a state: the operation whose result it represents is pending at its event, with the noted operands, and isn't followed
-- exactly.
use Rattle.std.specs.Prelude.{◌≡◌, ◌≢◌, ◌⊎◌, ◌<◌, ℕ, suc, nat_lt, ℤ, List, [], ◌∷◌, ◌++◌, length, filter, Option, Some}
use Rattle.std.specs.Prelude.{IsTrue, slice_get, Contains}
use Rattle.std.specs.FinMap as finite
use Rattle.cs_types.specs.declared.data_model.DataModel.{DataModel}
use Rattle.cs_inputs.specs.declared.path.Path.{Path}
use Rattle.cs_ranges.specs.declared.range_set.Interval.{Interval}
use Rattle.cs_ast.specs.TypedProgram.{TypedProgram}
use Rattle.cs_terms.specs.declared.symbol.Sym.{Sym}
use Rattle.cs_terms.specs.declared.symbol.SymName.TheVariants.{Guess as GuessAt}
use Rattle.cs_terms.specs.Term.{Valuation}
use Rattle.cs_constraints.specs.Constraints.{Sets, Fits}
use Rattle.cs_events.specs.declared.event.Event.{Event}
use Rattle.cs_events.specs.declared.guess.Guess.{Guess}
use Rattle.cs_events.specs.declared.outcome.RunBudgets.{RunBudgets}
use Rattle.cs_events.specs.Acts.{Act}
use Rattle.cs_events.specs.PendingEvents.{Pending, Operates}
use Rattle.cs_events.specs.Runs.{Setting, Log}
use Rattle.cs_event_runs.specs.First.{Step}
use Rattle.cs_cfg.specs.Graph.{Code}
use Rattle.cs_cfg.specs.Working.{CodeState}
use Rattle.cs_state.specs.declared.asked.Asked.{Asked}
use Rattle.cs_state.specs.declared.state.State.{State}
use Rattle.cs_state.specs.Naming.{Naming}
use Rattle.cs_state.specs.Meaning.{setting_of}
use Rattle.cs_eval.specs.declared.question.Question.{Question}
use Rattle.cs_eval.specs.Noted.{IsQuestionOf, HasFact, DeterminesResult, HasNoEnds}
use Rattle.cs_eval.specs.Questions.{operation_of}
use Rattle.cs_explored.specs.declared.explored.Row.{Row}
use Rattle.cs_results.specs.declared.run.Others.{Others}
use Rattle.cs_findings.specs.Grounds.{Pair, has_ground}
use Rattle.cs_findings.specs.Narrower.{may_be_used, fits_left, fits_right}
use Rattle.cs_findings.specs.Runs.{each_other}
use Rattle.cs_corners.specs.Corners.{EachIs, operands_under}
use Rattle.cs_exactness.specs.Chains.{IsChain}
use Rattle.cs_successors.specs.EntryRuns.{events_of, setting_with, HasLeft, PassesTo}
use Rattle.cs_guesses.specs.Inexact.{AreRanges, IsInexact}
use Rattle.cs_coverage.specs.OwnNumbers.{own_valuation, ListsOwn}

-- in the other valuation the symbol, if there is one, has its own number or one of the ends
abbrev pub HasOwnOrEnd : Option Sym → Interval → Valuation → Valuation → Type 0
HasOwnOrEnd symbol ends v w = (sym : Sym) → symbol ≡ Some sym → (w sym.0 ≡ v sym.0) ⊎ ((w sym.0 ≡ ends.low) ⊎ (w sym.0 ≡ ends.high))

-- the symbols of both operands have their own numbers or ends, and all others their own
pub record IsMoved (asked : Asked) (v w : Valuation) : Type 0 where
  pub left : HasOwnOrEnd asked.left.sym asked.ends.left v w
  pub right : HasOwnOrEnd asked.right.sym asked.ends.right v w
  pub others : (other : Sym) → asked.left.sym ≢ Some other → asked.right.sym ≢ Some other → w other.0 ≡ v other.0

-- one or two such valuations are the ground to guess
pub record HasGround (model : DataModel) (asked : Asked) (meant : Question) (v : Valuation) : Type 0 where
  pub others : Others Valuation
  pub moved : EachIs (IsMoved asked v) others
  pub has_reason : IsTrue (has_ground model (operation_of v meant) (each_other (operands_under meant) others))

-- under such a valuation an operand differs
abbrev pub HasOther : Asked → Question → Valuation → (Pair → ℤ) → Type 0
HasOther asked meant v operand = (w : Valuation) × IsMoved asked v w × (operand (operands_under meant w) ≢ operand (operands_under meant v))

-- the guessed number may be used, also with an operand that is the same under all such valuations
pub record IsUsable (model : DataModel) (asked : Asked) (meant : Question) (v : Valuation) : Type 0 where
  pub used : IsTrue (may_be_used model (operation_of v meant) (v asked.guess.0))
  pub left : IsTrue (fits_left (operation_of v meant) (v asked.guess.0)) ⊎ HasOther asked meant v (λ pair. pair.0)
  pub right : IsTrue (fits_right (operation_of v meant) (v asked.guess.0)) ⊎ HasOther asked meant v (λ pair. pair.1)

-- the setting of a run with only the guesses before this event
abbrev pub before_event : ℕ → Setting → Setting
before_event event setting = record setting { guesses = filter (λ (guess : Guess). nat_lt guess.event event) setting.guesses }

-- the pending operation at the event of a guess, with the operands' values under a valuation
abbrev pub pending_for : Event → Question → Valuation → Pending
pending_for event meant v = Operates event.place (operation_of v meant)

-- this is pending at a step, and the fact determines its own result
pub record IsStepOf (model : DataModel) (asked : Asked) (meant : Question) (event : Event) (one : Step) (v : Valuation) : Type 0 where
  pub pends : one.pending ≡ pending_for event meant v
  pub determines : DeterminesResult model asked.fact meant v

-- valuations that fit a state, also with ends as the numbers of the operands' symbols, fit the row to which the events before the guess lead
abbrev pub FitEarlier : List Row → State → Asked → List Event → Type 0
FitEarlier rows state asked before = (number : ℕ) (row : Row) (v w : Valuation) → slice_get rows number ≡ Some row → IsChain rows number before
    → Fits v state.constraints → IsMoved asked v w
    → Fits w row.state.value.constraints

module _ (code : Code) (program : TypedProgram) (entry : ℕ) (budgets : RunBudgets) (names : Naming) where
  -- the runs of these valuations, with only the guesses before the event, pass the events before it and reach the operation
  abbrev pub ComeMoved : State → Asked → Question → List Event → Event → Type 0
  ComeMoved state asked meant before event = (v w : Valuation) → Fits v state.constraints → IsMoved asked v w
      → PassesTo code program entry budgets (before_event asked.event (setting_of names budgets state w)) before (pending_for event meant w)
      × DeterminesResult program.model asked.fact meant w

  -- so does each run that passes these events and one more, if it has no guess, or before that event only truths, where the state guesses; with the numbers
  -- that this run has for symbols
  abbrev pub ComeOwn : State → Asked → Question → List Event → Event → Type 0
  ComeOwn state asked meant before event =
      (inputs : Path → ℤ) (guesses : List Guess) (steps : List Step) (one : Step) (left : Act CodeState) (log : Log)
      → ListsOwn state before (λ earlier. earlier < asked.event) guesses
      → HasLeft code program entry budgets (setting_with program budgets inputs guesses) (steps ++ one ∷ []) left log → events_of steps ≡ before
      → IsStepOf program.model asked meant event one (own_valuation program entry names (setting_with program budgets inputs guesses) steps log)

  -- what holds for a guess of a state to which a chain of events leads
  pub record IsAskedAlong (rows : List Row) (state : State) (chain : List Event) (asked : Asked) : Type 0 where
    pub before : List Event
    pub event : Event
    pub later : List Event
    pub along : chain ≡ before ++ event ∷ later
    pub number : asked.event ≡ suc (length before)
    pub named : slice_get names.syms asked.guess.0 ≡ Some (GuessAt asked.event)
    pub meant : Question
    pub asks : IsQuestionOf asked.asks asked.left asked.right meant
    pub has_fact : HasFact asked.asks asked.left asked.right asked.fact
    pub left_ends : HasNoEnds asked.left.sym asked.ends.left
    pub right_ends : HasNoEnds asked.right.sym asked.ends.right
    pub earlier : FitEarlier rows state asked before
    pub moved : ComeMoved state asked meant before event
    pub own : ComeOwn state asked meant before event
    pub has_ranges : (sets : Sets) × AreRanges asked sets
    pub inexact : (v : Valuation) → Fits v state.constraints → IsInexact program.model asked meant v
    pub grounds : (v : Valuation) → Fits v state.constraints → HasGround program.model asked meant v
    pub usable : (v : Valuation) → Fits v state.constraints → IsUsable program.model asked meant v

  -- this holds for all guesses of the state
  abbrev pub AreAskedAlong : List Row → State → List Event → Type 0
  AreAskedAlong rows state chain = (asked : Asked) → Contains (finite.values state.asked) asked → IsAskedAlong rows state chain asked
