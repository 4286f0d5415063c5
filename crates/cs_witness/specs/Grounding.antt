-- Grounds that are taken from a pool.
use Rattle.std.specs.Prelude.{◌≡◌, ℕ, ℤ, suc, ◌<◌, List, length, Some, slice_get}
use Rattle.std.specs.Map.{keys_of}
use Rattle.cs_inputs.specs.declared.path.Path.{Path}
use Rattle.cs_ast.specs.declared.place.Place.{Place}
use Rattle.cs_events.specs.declared.guess.Guess.{Guess}
use Rattle.cs_events.specs.declared.operation.Operation.{Operation}
use Rattle.cs_results.specs.declared.finding.Ground.{Ground}
use Rattle.cs_results.specs.declared.run.Others.{Others}
use Rattle.cs_results.specs.declared.run.Run.{Run}
use Rattle.cs_findings.specs.Runs.{run_of, AllRelated}
use Rattle.cs_findings.specs.GoodFindings.{AllOthers}
use Rattle.cs_judge.specs.declared.pool.Kept.TheVariants as kept
use Rattle.cs_judge.specs.declared.pool.Partners.{Partners}
use Rattle.cs_judge.specs.declared.pool.Replay.{Replay}

-- the run with a number in a pool, which lists the same paths as these inputs
pub record IsListedRunAt (pool : List Replay) (inputs : List (Path × ℤ)) (number : ℕ) (run : Run) : Type 0 where
  pub replay : Replay
  pub there : slice_get pool number ≡ Some replay
  pub same : run_of run ≡ run_of replay.run
  pub paths : keys_of run.inputs ≡ keys_of inputs

abbrev pub AreRunsAt : List Replay → List (Path × ℤ) → Others ℕ → Others Run → Type 0
AreRunsAt pool inputs = AllRelated (IsListedRunAt pool inputs)

-- the operation that was kept at a guess is at this position
pub record IsPlaceAt (mine : Replay) (guess : Guess) (at : Place) : Type 0 where
  pub passed : ℕ
  pub number : guess.event ≡ suc passed
  pub operation : Operation
  pub kept : slice_get mine.kept.items passed ≡ Some (kept.Operates at operation)

-- the ground of the guess with this number among those of a replay: the runs of its partners, at the position of the operation
pub record IsGroundIn (pool : List Replay) (mine : Replay) (inputs : List (Path × ℤ)) (number : ℕ) (ground : Ground) : Type 0 where
  pub guess : slice_get mine.run.guesses.items number ≡ Some ground.guess
  pub place : IsPlaceAt mine ground.guess ground.place
  pub partners : Partners
  pub named : slice_get mine.partners.items number ≡ Some partners
  pub others : AreRunsAt pool inputs partners.others ground.others

-- one ground for each guess of a replay, in order
pub record AreGroundsIn (pool : List Replay) (mine : Replay) (inputs : List (Path × ℤ)) (grounds : List Ground) : Type 0 where
  pub count : length grounds ≡ length mine.run.guesses.items
  pub each : (number : ℕ) (ground : Ground) → slice_get grounds number ≡ Some ground → IsGroundIn pool mine inputs number ground

-- the run with this number lists the same paths as these inputs
pub record IsAlikeAt (pool : List Replay) (inputs : List (Path × ℤ)) (number : ℕ) : Type 0 where
  pub replay : Replay
  pub there : slice_get pool number ≡ Some replay
  pub paths : keys_of replay.run.inputs ≡ keys_of inputs

-- an operation was kept at a guess
pub record HasPlaceAt (mine : Replay) (guess : Guess) : Type 0 where
  pub at : Place
  pub is : IsPlaceAt mine guess at

-- the guess with this number has a ground: an operation was kept there, and the partners list the same paths as the inputs
pub record HasGroundIn (pool : List Replay) (mine : Replay) (inputs : List (Path × ℤ)) (number : ℕ) : Type 0 where
  pub guess : Guess
  pub listed : slice_get mine.run.guesses.items number ≡ Some guess
  pub place : HasPlaceAt mine guess
  pub partners : Partners
  pub named : slice_get mine.partners.items number ≡ Some partners
  pub alike : AllOthers (IsAlikeAt pool inputs) partners.others

-- each guess has a ground
abbrev pub HasGroundsIn : List Replay → Replay → List (Path × ℤ) → Type 0
HasGroundsIn pool mine inputs = (number : ℕ) → number < length mine.run.guesses.items → HasGroundIn pool mine inputs number
