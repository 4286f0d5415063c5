-- Real guesses: other runs reach the guessed operation through the same events, and with these runs there is a ground to guess.
use Rattle.std.specs.Prelude.{◌≡◌, ◌≢◌, ℕ, zero, suc, ◌&&◌, nat_lt, IsTrue, List, length, Contains, ◌⊎◌}
use Rattle.cs_ast.specs.declared.place.Place.{Place}
use Rattle.cs_ast.specs.TypedProgram.{TypedProgram}
use Rattle.cs_events.specs.declared.event.Event.{Event}
use Rattle.cs_events.specs.declared.guess.Guess.{Guess}
use Rattle.cs_events.specs.declared.operation.Operation.{Operation}
use Rattle.cs_events.specs.declared.outcome.RunBudgets.{RunBudgets}
use Rattle.cs_events.specs.PendingEvents.{Pending, Operates}
use Rattle.cs_meaning.specs.ProgramRuns.{ProgramRun, RunPasses, RunIsPending}
use Rattle.cs_results.specs.declared.run.Others.{Others}
use Rattle.cs_findings.specs.Runs.{before, lists, AllRelated}
use Rattle.cs_findings.specs.Operands.{operands, with_operands}
use Rattle.cs_findings.specs.Grounds.{Pair, has_ground}
use Rattle.cs_findings.specs.Narrower.{may_be_used, fits_left, fits_right}

module _ (program : TypedProgram) (entry : ℕ) (budgets : RunBudgets) where
  -- a run passes these events first, and then this is pending
  pub record Comes (run : ProgramRun) (events : List Event) (pending : Pending) : Type 0 where
    pub passes : RunPasses program entry run budgets events
    pub pends : RunIsPending program entry run budgets (suc (length events)) pending

  -- given: what holds of runs whose guesses are before this one (`Earlier`)
  module _ (Earlier : ProgramRun → Type 0) (run : ProgramRun) (guess : Guess) (events : List Event) (at : Place) (operation : Operation) where
    -- another run has guesses at exactly the events before this guess at which the run has some, all real, and reaches the same operation
    -- through the same events, with these operands
    pub record ComesToo (other : ProgramRun) (pair : Pair) : Type 0 where
      pub listed : (event : ℕ) → lists other event ≡ (lists run event && nat_lt event guess.event)
      pub earlier : Earlier other
      pub comes : Comes other events (Operates at (with_operands operation pair))

    -- in some such run the left operand differs, or the right one
    pub record LeftDiffers : Type 0 where
      pub other : ProgramRun
      pub pair : Pair
      pub comes : ComesToo other pair
      pub differs : pair.0 ≢ (operands operation).0

    pub record RightDiffers : Type 0 where
      pub other : ProgramRun
      pub pair : Pair
      pub comes : ComesToo other pair
      pub differs : pair.1 ≢ (operands operation).1

  -- a guess of a run is real with these other runs: they reach the guessed operation as the run does, there is a ground among them, and the
  -- operation may have the number as its result, also if an operand is the same in all such runs
  pub record IsRealAmong (Earlier : ProgramRun → Type 0) (run : ProgramRun) (guess : Guess) (at : Place) (others : Others ProgramRun) : Type 0 where
    pub events : List Event
    pub number : guess.event ≡ suc (length events)
    pub operation : Operation
    pub pairs : Others Pair
    pub comes : Comes (before guess.event run) events (Operates at operation)
    pub come : AllRelated (ComesToo Earlier run guess events at operation) others pairs
    pub has_reason : IsTrue (has_ground program.model operation pairs)
    pub used : IsTrue (may_be_used program.model operation guess.number)
    pub left : IsTrue (fits_left operation guess.number) ⊎ LeftDiffers Earlier run guess events at operation
    pub right : IsTrue (fits_right operation guess.number) ⊎ RightDiffers Earlier run guess events at operation

  -- a guess of a run is real with some other runs
  pub record IsRealIf (Earlier : ProgramRun → Type 0) (run : ProgramRun) (guess : Guess) : Type 0 where
    pub at : Place
    pub others : Others ProgramRun
    pub real : IsRealAmong Earlier run guess at others

  -- all guesses of a run at events below this one are real
  unfoldable pub AreRealBelow : ℕ → ProgramRun → Type 0
  AreRealBelow zero run = Unit {0}
  AreRealBelow (suc n) run = AreRealBelow n run
      × ((guess : Guess) → Contains run.guesses guess → guess.event ≡ n → IsRealIf (AreRealBelow n) run guess)

  -- a guess is real with these other runs
  abbrev pub IsReal : ProgramRun → Guess → Place → Others ProgramRun → Type 0
  IsReal run guess at others = IsRealAmong (AreRealBelow guess.event) run guess at others

  -- all guesses of a run are real
  abbrev pub AreReal : ProgramRun → Type 0
  AreReal run = (n : ℕ) → AreRealBelow n run
