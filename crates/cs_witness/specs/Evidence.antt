-- Suspects that carry evidence: their runs end as suspected, and the corners of each guess show that it is real. The witness shows each such suspect.
use Rattle.std.specs.Prelude.{◌≡◌, ◌≢◌, ◌⊎◌, ℕ, suc, ◌<◌, ◌≤◌, nat_lt, nat_eq, ℤ, Bool, IsTrue, if◌then◌else◌, List, [], ◌∷◌, map, filter, length, All}
use Rattle.std.specs.Prelude.{Contains, Option, None, Some, slice_get}
use Rattle.cs_inputs.specs.declared.path.Path.{Path}
use Rattle.cs_inputs.specs.Inputs.{number_at}
use Rattle.cs_inputs.specs.PathOrder.{path_order}
use Rattle.cs_ast.specs.declared.place.Place.{Place}
use Rattle.cs_ast.specs.TypedProgram.{TypedProgram}
use Rattle.cs_terms.specs.declared.symbol.SymName.{SymName}
use Rattle.cs_terms.specs.declared.symbol.SymName.TheVariants.{Input, Guess as GuessAt}
use Rattle.cs_events.specs.declared.event.Event.{Event}
use Rattle.cs_events.specs.declared.guess.Guess.{Guess}
use Rattle.cs_events.specs.declared.operation.Operation.{Operation}
use Rattle.cs_events.specs.declared.outcome.Outcome.{Outcome}
use Rattle.cs_events.specs.declared.outcome.RunBudgets.{RunBudgets}
use Rattle.cs_events.specs.Objects.{is_equal}
use Rattle.cs_events.specs.PendingEvents.{Operates}
use Rattle.cs_events.specs.Runs.{Log}
use Rattle.cs_meaning.specs.Machine.{routine_of}
use Rattle.cs_meaning.specs.ProgramRuns.{ProgramRun, RunGives}
use Rattle.cs_meaning.specs.Steps.{parameters_of, parameter_path}
use Rattle.cs_results.specs.declared.run.Others.{Others}
use Rattle.cs_findings.specs.GoodFindings.{AllOthers, Ascend}
use Rattle.cs_findings.specs.RealGuesses.{Comes}
use Rattle.cs_findings.specs.Grounds.{Pair, has_ground}
use Rattle.cs_findings.specs.Narrower.{may_be_used, fits_left, fits_right}
use Rattle.cs_findings.specs.Operands.{operands, with_operands}
use Rattle.cs_compared.specs.Wide.{IsSmall}
use Rattle.cs_compared.specs.Computable.{IsComputable}
use Rattle.cs_suspect_types.specs.declared.suspect.OperandRange.{OperandRange}
use Rattle.cs_suspect_types.specs.declared.suspect.Suspect.{Suspect}
use Rattle.cs_suspect_types.specs.declared.suspect.SuspectedGuess.{SuspectedGuess}

-- other numbers for the symbols of a guess's operands
abbrev pub Changes : Type 0
Changes = List (SymName × ℤ)

-- the two ends of an operand's range
abbrev pub ends_of : Option OperandRange → List Changes
ends_of None = []
ends_of (Some range) = ((range.symbol, range.least) ∷ []) ∷ ((range.symbol, range.greatest) ∷ []) ∷ []

-- the four corners of two ranges
abbrev pub four_of : OperandRange → OperandRange → List Changes
four_of left right =
    ((left.symbol, left.least) ∷ (right.symbol, right.least) ∷ []) ∷ ((left.symbol, left.least) ∷ (right.symbol, right.greatest) ∷ [])
    ∷ ((left.symbol, left.greatest) ∷ (right.symbol, right.least) ∷ []) ∷ ((left.symbol, left.greatest) ∷ (right.symbol, right.greatest) ∷ []) ∷ []

-- the corners of a guess: the ends of the only range, or those of the left range if both have one symbol; otherwise all combinations of the ends of two symbols
pub data AreCorners : Option OperandRange → Option OperandRange → List Changes → Type 0 where
  of_right : {right : Option OperandRange} → AreCorners None right (ends_of right)
  of_left : {left : OperandRange} → AreCorners (Some left) None (ends_of (Some left))
  of_one : {left right : OperandRange} → left.symbol ≡ right.symbol → AreCorners (Some left) (Some right) (ends_of (Some left))
  of_both : {left right : OperandRange} → left.symbol ≢ right.symbol → AreCorners (Some left) (Some right) (four_of left right)

-- whether a symbol represents the input at a path, or the number guessed at an event
abbrev pub is_input : Path → SymName → Bool
is_input path (Input other) = is_equal (path_order path other)
is_input path (GuessAt event) = Bool.false

abbrev pub is_guess : ℕ → SymName → Bool
is_guess event (Input path) = Bool.false
is_guess event (GuessAt other) = nat_eq event other

-- the number of a symbol after changes: that of its last change
abbrev pub changed : (SymName → Bool) → Changes → ℤ → ℤ
changed is [] number = number
changed is ((symbol, other) ∷ changes) number = changed is changes (if is symbol then other else number)

abbrev pub changed_guess : Changes → Guess → Guess
changed_guess changes guess = record guess { number = changed (is_guess guess.event) changes guess.number }

module _ (program : TypedProgram) (entry : ℕ) where
  -- the path is that of a parameter
  abbrev pub IsParameter : Path → Type 0
  IsParameter path = Contains (map parameter_path (parameters_of (routine_of program entry))) path

  -- the parameters have the numbers that the suspect lists, and the guesses are the suspect's
  pub record IsRunOf (suspect : Suspect) (run : ProgramRun) : Type 0 where
    pub inputs : (path : Path) → IsParameter path → number_at run.inputs path ≡ number_at suspect.inputs path
    pub guesses : run.guesses ≡ map (λ (guess : SuspectedGuess). guess.guess) suspect.guesses.items

  -- the run lists the guesses before an event, and has other numbers for some symbols
  pub record IsChanged (changes : Changes) (event : ℕ) (run other : ProgramRun) : Type 0 where
    pub inputs : (path : Path) → IsParameter path → number_at other.inputs path ≡ changed (is_input path) changes (number_at run.inputs path)
    pub guesses : other.guesses ≡ map (changed_guess changes) (filter (λ (guess : Guess). nat_lt guess.event event) run.guesses)

-- with one or two of these pairs of operands there is a ground to guess an operation's result, and this number may be guessed
pub record HasReason (program : TypedProgram) (operation : Operation) (number : ℤ) (corners : List Pair) : Type 0 where
  pub others : Others Pair
  pub among : AllOthers (Contains corners) others
  pub computable : IsComputable operation
  pub small : IsSmall (operands operation)
  pub corners_small : All IsSmall corners
  pub has_reason : IsTrue (has_ground program.model operation others)
  pub used : IsTrue (may_be_used program.model operation number)
  pub left : IsTrue (fits_left operation number) ⊎ ((pair : Pair) × Contains corners pair × (pair.0 ≢ (operands operation).0))
  pub right : IsTrue (fits_right operation number) ⊎ ((pair : Pair) × Contains corners pair × (pair.1 ≢ (operands operation).1))

-- the same operation with a pair of operands has exactly this pair as its operands
abbrev pub KeepsPair : Operation → Pair → Type 0
KeepsPair operation pair = operands (with_operands operation pair) ≡ pair

module _ (program : TypedProgram) (entry : ℕ) (budgets : RunBudgets) (suspect : Suspect) where
  -- the suspect's runs with these changes, which list the guesses before an event, reach an operation after these events, with these operands
  abbrev pub ChangedCome : Changes → ℕ → List Event → Place → Operation → Pair → Type 0
  ChangedCome changes event before at operation pair = (run other : ProgramRun) → IsRunOf program entry suspect run
      → IsChanged program entry changes event run other → Comes program entry budgets other before (Operates at (with_operands operation pair))

  -- a guess of the suspect: its runs, those of the guess's corners and those of the corners of later guesses reach the same operation, and the operands of the
  -- corners show that its result has to be guessed
  pub record IsEvidentGuess (number : ℕ) (guess : SuspectedGuess) : Type 0 where
    pub before : List Event
    pub event : guess.guess.event ≡ suc (length before)
    pub at : Place
    pub operation : Operation
    pub comes : (run : ProgramRun) → IsRunOf program entry suspect run → Comes program entry budgets run before (Operates at operation)
    pub corners : List Changes
    pub are_corners : AreCorners guess.left guess.right corners
    pub pairs : List Pair
    pub as_many : length pairs ≡ length corners
    pub corners_come : (corner : ℕ) (changes : Changes) (pair : Pair) → slice_get corners corner ≡ Some changes → slice_get pairs corner ≡ Some pair
        → KeepsPair operation pair × ChangedCome changes guess.guess.event before at operation pair
    pub reason : HasReason program operation guess.guess.number pairs
    -- the corners of later guesses, each with its own number for this guess
    pub later : (later : ℕ) (other : SuspectedGuess) (its : List Changes) (changes : Changes) → number < later
        → slice_get suspect.guesses.items later ≡ Some other → AreCorners other.left other.right its → Contains its changes
        → (pair : Pair) × KeepsPair operation pair × ChangedCome changes other.guess.event before at operation pair
        × HasReason program (with_operands operation pair) (changed_guess changes guess.guess).number pairs

  -- a suspect whose runs end as suspected and read only the parameters, and whose guesses are evident
  pub record IsEvident : Type 0 where
    pub ends : (run : ProgramRun) (outcome : Outcome) (log : Log) → IsRunOf program entry suspect run → RunGives program entry run budgets outcome log
        → (outcome ≡ suspect.what) × (length log.events ≡ suspect.events) × (log.read ≡ [])
    pub ascending : Ascend (map (λ (guess : SuspectedGuess). guess.guess) suspect.guesses.items)
    pub passed : All (λ (guess : SuspectedGuess). guess.guess.event ≤ suspect.events) suspect.guesses.items
    pub guesses : (number : ℕ) (guess : SuspectedGuess) → slice_get suspect.guesses.items number ≡ Some guess → IsEvidentGuess number guess
