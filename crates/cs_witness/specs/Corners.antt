-- The corners of a guess: runs that list the same paths, and have other numbers for some symbols.
use Rattle.std.specs.Prelude.{◌≡◌, ℕ, ℤ, nat_lt, nat_eq, if◌then◌else◌, List, map, filter, Contains, Option}
use Rattle.std.specs.Map.{keys_of}
use Rattle.cs_inputs.specs.declared.path.Path.{Path}
use Rattle.cs_inputs.specs.Inputs.{number_at}
use Rattle.cs_terms.specs.declared.symbol.SymName.{SymName}
use Rattle.cs_terms.specs.declared.symbol.SymName.TheVariants.{Input}
use Rattle.cs_events.specs.declared.guess.Guess.{Guess}
use Rattle.cs_meaning.specs.ProgramRuns.{ProgramRun}
use Rattle.cs_results.specs.declared.run.Run.{Run}
use Rattle.cs_findings.specs.Runs.{run_of}
use Rattle.cs_findings.specs.GoodFindings.{IsEach}
use Rattle.cs_suspect_types.specs.declared.suspect.OperandRange.{OperandRange}
use Rattle.cs_witness.specs.Evidence.{Changes, AreCorners, is_input, is_guess, changed, changed_guess}

-- a path has another number, if it is listed
pub record IsPutInput (path : Path) (number : ℤ) (old new : List (Path × ℤ)) : Type 0 where
  pub paths : keys_of new ≡ keys_of old
  pub numbers : (other : Path) → Contains (keys_of old) other
      → number_at new other ≡ (if is_input other (Input path) then number else number_at old other)

-- the guess, with another number if it is at the event
abbrev pub put_guess : ℕ → ℤ → Guess → Guess
put_guess event number guess = record guess { number = if nat_eq guess.event event then number else guess.number }

-- a symbol has another number in a run, if it is a listed input or a guess
pub record IsPut (symbol : SymName) (number : ℤ) (old new : ProgramRun) : Type 0 where
  pub paths : keys_of new.inputs ≡ keys_of old.inputs
  pub numbers : (path : Path) → Contains (keys_of old.inputs) path
      → number_at new.inputs path ≡ (if is_input path symbol then number else number_at old.inputs path)
  pub guesses : new.guesses
      ≡ map (λ (guess : Guess). record guess { number = if is_guess guess.event symbol then number else guess.number }) old.guesses

-- the other run lists the same paths and the guesses before an event, with other numbers for some symbols
pub record IsCorner (changes : Changes) (event : ℕ) (run other : ProgramRun) : Type 0 where
  pub paths : keys_of other.inputs ≡ keys_of run.inputs
  pub numbers : (path : Path) → Contains (keys_of run.inputs) path
      → number_at other.inputs path ≡ changed (is_input path) changes (number_at run.inputs path)
  pub guesses : other.guesses ≡ map (changed_guess changes) (filter (λ (guess : Guess). nat_lt guess.event event) run.guesses)

-- runs with these changes, in order
abbrev pub AreRunsOf : ℕ → ProgramRun → List Changes → List Run → Type 0
AreRunsOf event run = IsEach (λ (changes : Changes) (other : Run). IsCorner changes event run (run_of other))

-- the runs of all corners of two ranges
pub record AreCornersOf (left right : Option OperandRange) (event : ℕ) (run : ProgramRun) (corners : List Run) : Type 0 where
  pub all : List Changes
  pub are : AreCorners left right all
  pub each : AreRunsOf event run all corners
