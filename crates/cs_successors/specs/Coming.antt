-- The successors of a state, compared with the runs that have reached it: the states directly after its next events, and its ends.
use Rattle.std.specs.Prelude.{◌≡◌, ◌≢◌, ◌⊎◌, ◌≤◌, ℕ, suc, ℤ, pos, ◌≤ℤ◌, ◌<ℤ◌, Bool, true, List, [], ◌∷◌, All, length, Option, None}
use Rattle.std.specs.Prelude.{Some, option_map, unwrap_or}
use Rattle.std.specs.Prelude.{is_some, IsSome, slice_get, Contains}
use Rattle.std.specs.FinMap as finite
use Rattle.std.specs.Global.{Box}
use Rattle.cs_inputs.specs.declared.path.Path.{Path}
use Rattle.cs_ast.specs.declared.typed.operator.BinOp.{BinOp}
use Rattle.cs_ast.specs.declared.typed.operator.BinOp.TheVariants.{Div, Rem, Shl, Shr}
use Rattle.cs_ast.specs.TypedProgram.{TypedProgram}
use Rattle.cs_terms.specs.declared.symbol.Sym.{Sym}
use Rattle.cs_terms.specs.declared.symbol.SymName.TheVariants.{Guess as GuessAt}
use Rattle.cs_terms.specs.Term.{Valuation}
use Rattle.cs_constraints.specs.Constraints.{Sets, set_of, Fits, AreInhabited}
use Rattle.cs_events.specs.declared.event.Label.{Label}
use Rattle.cs_events.specs.declared.event.Label.TheVariants.{Truth}
use Rattle.cs_events.specs.declared.guess.Guess.{Guess}
use Rattle.cs_events.specs.declared.input.InputKind.{InputKind}
use Rattle.cs_events.specs.declared.outcome.Outcome.{Outcome}
use Rattle.cs_events.specs.declared.operation.Operation.{Operation}
use Rattle.cs_events.specs.declared.operation.Operation.TheVariants as operation
use Rattle.cs_events.specs.declared.outcome.RunBudgets.{RunBudgets}
use Rattle.cs_events.specs.Acts.{Act}
use Rattle.cs_events.specs.Objects.{Cell}
use Rattle.cs_events.specs.PendingEvents.{Pending, Operates}
use Rattle.cs_events.specs.Runs.{Setting, Log, guess_at, read_cell}
use Rattle.cs_event_runs.specs.ByEvents.{ShowsAfter}
use Rattle.cs_event_runs.specs.First.{Step, Ended, first_of}
use Rattle.cs_event_runs.specs.Left.{left_of}
use Rattle.cs_cfg.specs.Graph.{Code}
use Rattle.cs_cfg.specs.Working.{CodeState}
use Rattle.cs_cfg.specs.CodeSteps.{code_step}
use Rattle.cs_eval.specs.declared.question.Question.{Question}
use Rattle.cs_eval.specs.Followed.{IsFollowed, IsGuess}
use Rattle.cs_eval.specs.Noted.{IsNoted}
use Rattle.cs_eval.specs.Questions.{operation_of}
use Rattle.cs_state.specs.declared.asked.Asked.{Asked}
use Rattle.cs_state.specs.declared.state.State.{State}
use Rattle.cs_state.specs.Cells.{block_of}
use Rattle.cs_state.specs.Naming.{Naming}
use Rattle.cs_state.specs.Valuations.{Guessed as Guesses}
use Rattle.cs_cfg.specs.IntegerCode.{HasIntegerCode}
use Rattle.cs_progress.specs.Locals.{HasLocalsAlone}
use Rattle.cs_progress.specs.Stepping.{end_of, result_in, HasReturned, next_left, UsesAnswers}
use Rattle.cs_explored.specs.declared.child.Child.{Child}
use Rattle.cs_explored.specs.declared.watch.Rule.{Rule}
use Rattle.cs_explored.specs.Watching.{IsPhaseAfter}
use Rattle.cs_successors.specs.EntryRuns.{LeavesAfter, Proceeds}

-- whether a symbol is declared
abbrev pub is_declared : Sets → ℕ → Bool
is_declared sets symbol = is_some (set_of sets symbol)

-- a state of an integer function, whose operation in progress uses all answers under each valuation that fits; and some valuation fits. It mentions only
-- declared symbols, and has no block
pub record IsIntegerState (code : Code) (program : TypedProgram) (budgets : RunBudgets) (names : Naming) (state : State) : Type 0 where
  pub model : state.model ≡ program.model
  pub integers : HasIntegerCode code program state.frame.spot.function
  pub locals : HasLocalsAlone program names.bases (is_declared state.constraints) state
  pub blocks : (base : ℕ) → block_of state.blocks base ≡ None
  pub uses : (cells : Path → InputKind → Cell) (valuation : Valuation) → Fits valuation state.constraints
      → UsesAnswers code names program budgets cells state valuation
  pub possible : (valuation : Valuation) × Fits valuation state.constraints
  pub guessed : (asked : Asked) → Contains (finite.values state.asked) asked → asked.event ≤ state.counters.events

-- the guesses before the event with this number and directly after it, if the symbol represents the number guessed there, or if nothing was guessed
abbrev pub AreGuessesAfter : ℕ → Option Sym → Guesses → Guesses → Type 0
AreGuessesAfter event None before after = after ≡ before
AreGuessesAfter event (Some symbol) before after =
    (one : Asked) × (one.event ≡ event) × (one.guess ≡ symbol) × (after ≡ finite.insert before (event, 0) one)

-- the label is a truth, as that of a comparison or of an order test
abbrev pub IsTruth : Label → Type 0
IsTruth (Truth holds) = Unit {0}
IsTruth other = ⊥

-- the guesses have 0 or 1 for an event
abbrev pub ListsTruth : List Guess → ℕ → Type 0
ListsTruth guesses event = (guess_at guesses event ≡ Some (pos 0)) ⊎ (guess_at guesses event ≡ Some (pos 1))

-- a run has no guess at the event of a child; or the child guesses a truth there, of a comparison or of an order test, and the run's guess is 0 or 1
abbrev pub ListsNoneOrTruth : Setting → Child → Type 0
ListsNoneOrTruth setting child =
    (guess_at setting.guesses child.state.value.counters.events ≡ None)
    ⊎ (IsSome child.guess × IsTruth child.event.label × ListsTruth setting.guesses child.state.value.counters.events)

-- a valuation gives the symbol of a child's guess the number that the run guesses there, or if it guesses none, the operation's own result
abbrev pub GivesOwn : Setting → Child → ℤ → Valuation → Type 0
GivesOwn setting child answer valuation = (symbol : Sym) → child.guess ≡ Some symbol
    → valuation symbol.0 ≡ unwrap_or (guess_at setting.guesses child.state.value.counters.events) answer

-- an end of runs, with the state that represents them
abbrev pub StateEnd : Type 0
StateEnd = Outcome × Box State

-- no two ends have the same outcome
abbrev pub OutcomesDiffer : List StateEnd → Type 0
OutcomesDiffer ends = (one other : ℕ) (first second : StateEnd) → slice_get ends one ≡ Some first → slice_get ends other ≡ Some second
    → first.0 ≡ second.0 → one ≡ other

-- all symbols that are known in one set are known in the other
abbrev pub Includes : (ℕ → Bool) → (ℕ → Bool) → Type 0
Includes known more = (symbol : ℕ) → known symbol ≡ true → more symbol ≡ true

-- a number of bits by which a value of 64 bits may be shifted
abbrev pub IsCountOfBits : ℤ → Type 0
IsCountOfBits count = (pos 0 ≤ℤ count) × (count <ℤ pos 64)

-- what holds for a checked right operand: a divisor isn't 0, and the number of bits to shift by is from 0 to 63
abbrev pub IsCheckedRight : BinOp → ℤ → Type 0
IsCheckedRight Div right = right ≢ pos 0
IsCheckedRight Rem right = right ≢ pos 0
IsCheckedRight Shl right = IsCountOfBits right
IsCheckedRight Shr right = IsCountOfBits right
IsCheckedRight op right = Unit {0}

-- the operations in events of integer code: the right operand is checked, and it is no order test and no operation on offsets
abbrev pub IsAskedByIntegers : Operation → Type 0
IsAskedByIntegers (operation.Binary op ty left right) = IsCheckedRight op right
IsAskedByIntegers (operation.Order first second) = ⊥
IsAskedByIntegers (operation.Product count size) = ⊥
IsAskedByIntegers (operation.Sum offset amount size) = ⊥
IsAskedByIntegers (operation.Difference left right size) = ⊥
IsAskedByIntegers other = Unit {0}

module _ (code : Code) (program : TypedProgram) (budgets : RunBudgets) (names : Naming) where
  -- a state after another one mentions only symbols that the state before mentions
  abbrev pub MentionsNoOthers : State → State → Type 0
  MentionsNoOthers before after = (known : ℕ → Bool) → HasLocalsAlone program names.bases known before → HasLocalsAlone program names.bases known after

  -- a child's state mentions only symbols that the state before mentions, and that of its guess
  abbrev pub MentionsGuess : State → Child → Type 0
  MentionsGuess before child = (known more : ℕ → Bool) → HasLocalsAlone program names.bases known before → Includes known more
      → ((symbol : Sym) → child.guess ≡ Some symbol → more symbol.0 ≡ true) → HasLocalsAlone program names.bases more child.state.value

  -- a run has the program's model and these budgets
  pub record GoesBy (setting : Setting) : Type 0 where
    pub model : setting.model ≡ program.model
    pub limits : setting.budgets ≡ budgets

  -- a run has reached a state under a valuation that fits: this act remains for it to do, with this log
  pub record IsAt (state : State) (setting : Setting) (valuation : Valuation) (left : Act CodeState) (log : Log) : Type 0 where
    pub fits : Fits valuation state.constraints
    pub same : left_of (read_cell setting) [] left ≡ next_left code names program budgets (read_cell setting) state valuation
    pub passed : length log.events ≡ state.counters.events

  -- with this remaining act and this log, a run reaches a state without an event on the way
  pub record ComesSilently (state : State) (setting : Setting) (valuation : Valuation) (left : Act CodeState) (log : Log) : Type 0 where
    pub rest : Act CodeState
    pub later : Log
    pub proceeds : Proceeds (code_step code program budgets) setting left log [] rest later
    pub comes : IsAt state setting valuation rest later

  -- with this remaining act and this log, a run passes one event, and directly after it has reached a state
  pub record PassesTo (state : State) (setting : Setting) (valuation : Valuation) (left : Act CodeState) (log : Log) : Type 0 where
    pub one : Step
    pub rest : Act CodeState
    pub later : Log
    pub leaves : LeavesAfter (code_step code program budgets) setting (first_of setting log left) (one ∷ []) rest later
    pub comes : IsAt state setting valuation rest later

  -- with this remaining act and this log, a run passes no event and ends with this outcome at a state
  pub record EndsIn (outcome : Outcome) (state : State) (setting : Setting) (valuation : Valuation) (left : Act CodeState) (log : Log) : Type 0 where
    pub last : Act CodeState
    pub before : Log
    pub ended : Outcome
    pub after : Log
    pub proceeds : Proceeds (code_step code program budgets) setting left log [] last before
    pub comes : IsAt state setting valuation last before
    pub ends : first_of setting before last ≡ Ended ended after
    pub same : outcome ≡ end_of ended
    pub returned : HasReturned ended (result_in names.bases state.blocks valuation state.result)

  -- with this remaining act and this log, a run reaches its next event, and this operation is pending there
  pub record ComesToAsk (setting : Setting) (left : Act CodeState) (log : Log) (pending : Pending) : Type 0 where
    pub one : Step
    pub shows : ShowsAfter (code_step code program budgets) setting (first_of setting log left) [] one
    pub pends : one.pending ≡ pending

  -- what is noted about a child's guess. The question was asked under these sets of numbers. Their valuations fit the state, and runs under them reach
  -- the question; the child's valuations are among them, for which the operation isn't followed and the number of the guess symbol may be guessed; and each
  -- run that passes an event is under one of them
  pub record IsNotedAt (before : State) (child : Child) (asked : Asked) : Type 0 where
    pub sets : Sets
    pub inhabited : AreInhabited sets
    pub given : Question
    pub noted : IsNoted program.model sets given asked.asks asked.left asked.right asked.ends asked.fact
    pub within : (valuation : Valuation) → Fits valuation sets → Fits valuation before.constraints
    pub kept : (valuation : Valuation) → Fits valuation child.state.value.constraints → Fits valuation sets
    pub divides : (valuation : Valuation) → Fits valuation sets → IsAskedByIntegers (operation_of valuation given)
    pub comes : (setting : Setting) (valuation : Valuation) (left : Act CodeState) (log : Log) → GoesBy setting
        → IsAt before setting valuation left log → Fits valuation sets
        → ComesToAsk setting left log (Operates child.event.place (operation_of valuation given))
    pub inexact : (valuation : Valuation) → Fits valuation child.state.value.constraints
        → ¬ IsFollowed program.model sets given valuation × IsGuess program.model sets given valuation (valuation asked.guess.0)
    pub own : (setting : Setting) (valuation : Valuation) (left rest : Act CodeState) (log later : Log) (one : Step) → GoesBy setting
        → IsAt before setting valuation left log
        → LeavesAfter (code_step code program budgets) setting (first_of setting log left) (one ∷ []) rest later → Fits valuation sets

  -- the number that is guessed at the event of a child is the one that the valuation gives the symbol
  abbrev pub GuessesAs : Setting → Child → Valuation → Type 0
  GuessesAs setting child valuation =
      guess_at setting.guesses child.state.value.counters.events ≡ option_map (λ (symbol : Sym). valuation symbol.0) child.guess

  -- a child of a state: its valuations are among the state's, and runs that have reached the state under one of them pass its event and reach the child.
  -- A run without a guess there that passes the child's event has reached the child, and so has one whose guess is a truth, if the child guesses a truth there
  pub record IsChildOf (rules : List Rule) (before : State) (child : Child) : Type 0 where
    pub integer : IsIntegerState code program budgets names child.state.value
    pub number : child.state.value.counters.events ≡ suc before.counters.events
    pub phase : IsPhaseAfter rules before.phase child.event child.state.value.phase
    pub named : (symbol : Sym) → child.guess ≡ Some symbol
        → slice_get names.syms symbol.0 ≡ Some (GuessAt child.state.value.counters.events)
    pub asked : AreGuessesAfter child.state.value.counters.events child.guess before.asked child.state.value.asked
    pub notes : (symbol : Sym) (asked : Asked) → child.guess ≡ Some symbol
        → finite.get child.state.value.asked (child.state.value.counters.events, 0) ≡ Some asked → IsNotedAt before child asked
    pub blocks : child.state.value.blocks ≡ before.blocks
    pub fits : (valuation : Valuation) → Fits valuation child.state.value.constraints → Fits valuation before.constraints
    pub passes : (setting : Setting) (valuation : Valuation) (left : Act CodeState) (log : Log) → GoesBy setting
        → IsAt before setting valuation left log → Fits valuation child.state.value.constraints → GuessesAs setting child valuation
        → (to : PassesTo child.state.value setting valuation left log) × (to.one.event ≡ child.event)
    pub back : (setting : Setting) (valuation : Valuation) (left rest : Act CodeState) (log later : Log) (one : Step) → GoesBy setting
        → IsAt before setting valuation left log
        → LeavesAfter (code_step code program budgets) setting (first_of setting log left) (one ∷ []) rest later → one.event ≡ child.event
        → ListsNoneOrTruth setting child → GivesOwn setting child one.answer valuation
        → IsAt child.state.value setting valuation rest later
    pub mentions : MentionsGuess before child

  -- an end of a state: runs that have reached the state under one of the end's valuations end with its outcome
  pub record IsEndOf (before : State) (end : StateEnd) : Type 0 where
    pub model : end.1.value.model ≡ program.model
    pub possible : (valuation : Valuation) × Fits valuation end.1.value.constraints
    pub fits : (valuation : Valuation) → Fits valuation end.1.value.constraints → Fits valuation before.constraints
    pub phase : end.1.value.phase ≡ before.phase
    pub asked : end.1.value.asked ≡ before.asked
    pub blocks : end.1.value.blocks ≡ before.blocks
    pub mentions : MentionsNoOthers before end.1.value
    pub locals : HasLocalsAlone program names.bases (is_declared end.1.value.constraints) end.1.value
    pub integers : HasIntegerCode code program end.1.value.frame.spot.function
    pub ends : (setting : Setting) (valuation : Valuation) (left : Act CodeState) (log : Log) → GoesBy setting
        → IsAt before setting valuation left log → Fits valuation end.1.value.constraints
        → EndsIn end.0 end.1.value setting valuation left log

  -- a run passes its next event and reaches a child, under a valuation that differs only for the symbol of the child's guess, which has the number with
  -- which the run continues
  pub record ComesToChild (made : List Child) (setting : Setting) (valuation : Valuation) (left : Act CodeState) (log : Log) : Type 0 where
    pub place : ℕ
    pub child : Child
    pub there : slice_get made place ≡ Some child
    pub after : Valuation
    pub to : PassesTo child.state.value setting after left log
    pub others : (symbol : Sym) → child.guess ≢ Some symbol → after symbol.0 ≡ valuation symbol.0
    pub guess : (symbol : Sym) → child.guess ≡ Some symbol → after symbol.0 ≡ to.one.answer
    pub shown : child.guess ≡ None → to.one.event ≡ child.event
    pub phases : (rules : List Rule) (phase next : ℕ) → IsPhaseAfter rules phase child.event next → IsPhaseAfter rules phase to.one.event next

  -- a run ends with the outcome of one of the ends
  pub record ComesToEnd (ends : List StateEnd) (setting : Setting) (valuation : Valuation) (left : Act CodeState) (log : Log)
      : Type 0 where
    pub place : ℕ
    pub end : StateEnd
    pub there : slice_get ends place ≡ Some end
    pub ending : EndsIn end.0 end.1.value setting valuation left log

  -- all successors of a state: its children and its ends; each run without a guess at its next event reaches one of them
  pub record ComesOfState (rules : List Rule) (before : State) (made : List Child) (ends : List StateEnd) : Type 0 where
    pub children : All (IsChildOf rules before) made
    pub endings : All (IsEndOf before) ends
    pub covers : (setting : Setting) (valuation : Valuation) (left : Act CodeState) (log : Log) → GoesBy setting
        → IsAt before setting valuation left log → guess_at setting.guesses (suc before.counters.events) ≡ None
        → ComesToChild made setting valuation left log ⊎ ComesToEnd ends setting valuation left log
    pub labels_differ : (one other : ℕ) (first second : Child) → slice_get made one ≡ Some first → slice_get made other ≡ Some second
        → first.event.label ≡ second.event.label → one ≡ other
    pub outcomes_differ : OutcomesDiffer ends

  -- a state that runs reach silently from another one, under its valuations. These are among that one's: under the others, runs have reached ends
  pub record IsReachedFrom (before state : State) (ends : List StateEnd) : Type 0 where
    pub integer : IsIntegerState code program budgets names state
    pub events : state.counters.events ≡ before.counters.events
    pub phase : state.phase ≡ before.phase
    pub asked : state.asked ≡ before.asked
    pub blocks : state.blocks ≡ before.blocks
    pub mentions : MentionsNoOthers before state
    pub fits : (valuation : Valuation) → Fits valuation state.constraints → Fits valuation before.constraints
    pub endings : All (IsEndOf before) ends
    pub comes : (setting : Setting) (valuation : Valuation) (left : Act CodeState) (log : Log) → GoesBy setting
        → IsAt before setting valuation left log → Fits valuation state.constraints → ComesSilently state setting valuation left log
    pub covers : (setting : Setting) (valuation : Valuation) (left : Act CodeState) (log : Log) → GoesBy setting
        → IsAt before setting valuation left log
        → Fits valuation state.constraints ⊎ ComesToEnd ends setting valuation left log
