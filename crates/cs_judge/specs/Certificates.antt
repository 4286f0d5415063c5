-- What the judge finds in a pool, guess by guess.
use Rattle.std.specs.Prelude.{◌≡◌, ◌≢◌, ℕ, suc, ◌≤◌, nat_lt, ◌&&◌, IsTrue, List, length, take, Some, slice_get, ◌⊎◌}
use Rattle.cs_types.specs.declared.data_model.DataModel.{DataModel}
use Rattle.cs_ast.specs.declared.place.Place.{Place}
use Rattle.cs_events.specs.declared.guess.Guess.{Guess}
use Rattle.cs_events.specs.declared.operation.Operation.{Operation}
use Rattle.cs_results.specs.declared.run.Others.{Others}
use Rattle.cs_findings.specs.Runs.{run_of, lists, AllRelated}
use Rattle.cs_findings.specs.Operands.{operands, with_operands}
use Rattle.cs_findings.specs.Grounds.{Pair, has_ground}
use Rattle.cs_findings.specs.Narrower.{may_be_used, fits_left, fits_right}
use Rattle.cs_events.specs.declared.event.Event.{Event}
use Rattle.cs_judge.specs.declared.judging.Judge.{Judge}
use Rattle.cs_judge.specs.declared.judging.Spot.{Spot}
use Rattle.cs_compared.specs.Agreement.{AgreeTo}
use Rattle.cs_judge.specs.Agreement.{AreShares, AreBefore, AreAtEvents}
use Rattle.cs_judge.specs.declared.pool.Partners.{Partners}
use Rattle.cs_judge.specs.declared.pool.Replay.{Replay}
use Rattle.cs_judge.specs.declared.pool.Kept.TheVariants.{Operates}

-- a replay reaches a guessed operation
pub record IsSpot (mine : Replay) (guess : Guess) (passed : ℕ) (at : Place) (operation : Operation) : Type 0 where
  pub number : guess.event ≡ suc passed
  pub enough : passed ≤ length mine.events.items
  pub kept : slice_get mine.kept.items passed ≡ Some (Operates at operation)

module _ (pool : List Replay) (mine : Replay) (guess : Guess) (passed : ℕ) (at : Place) (operation : Operation) where
  -- the replay with this number reaches the same operation through the same events, with these operands
  pub record IsMet (number : ℕ) (pair : Pair) : Type 0 where
    pub other : Replay
    pub there : slice_get pool number ≡ Some other
    pub listed : (event : ℕ) → lists (run_of other.run) event ≡ (lists (run_of mine.run) event && nat_lt event guess.event)
    pub enough : passed ≤ length other.events.items
    pub agree : take passed other.events.items ≡ take passed mine.events.items
    pub kept : slice_get other.kept.items passed ≡ Some (Operates at (with_operands operation pair))

  pub record IsLeftMet : Type 0 where
    pub number : ℕ
    pub pair : Pair
    pub met : IsMet number pair
    pub differs : pair.0 ≢ (operands operation).0

  pub record IsRightMet : Type 0 where
    pub number : ℕ
    pub pair : Pair
    pub met : IsMet number pair
    pub differs : pair.1 ≢ (operands operation).1

-- the guess at this place among those of a replay passes the judge
pub record IsJudged (model : DataModel) (pool : List Replay) (mine : Replay) (place : ℕ) (guess : Guess) : Type 0 where
  pub passed : ℕ
  pub at : Place
  pub operation : Operation
  pub spot : IsSpot mine guess passed at operation
  pub partners : Partners
  pub named : slice_get mine.partners.items place ≡ Some partners
  pub pairs : Others Pair
  pub met : AllRelated (IsMet pool mine guess passed at operation) partners.others pairs
  pub has_reason : IsTrue (has_ground model operation pairs)
  pub used : IsTrue (may_be_used model operation guess.number)
  pub left : IsTrue (fits_left operation guess.number) ⊎ IsLeftMet pool mine guess passed at operation
  pub right : IsTrue (fits_right operation guess.number) ⊎ IsRightMet pool mine guess passed at operation

-- each guess of a replay passes the judge, or each guess of each replay
abbrev pub IsReplayJudged : DataModel → List Replay → Replay → Type 0
IsReplayJudged model pool mine = (place : ℕ) (guess : Guess) → slice_get mine.run.guesses.items place ≡ Some guess
    → IsJudged model pool mine place guess

abbrev pub IsCertificate : DataModel → List Replay → Type 0
IsCertificate model pool = (number : ℕ) (mine : Replay) → slice_get pool number ≡ Some mine → IsReplayJudged model pool mine

-- the judge's notes about a guess: its place among a replay's guesses, and the guessed operation
pub record IsSpotAt (mine : Replay) (place : ℕ) (spot : Spot) : Type 0 where
  pub listed : slice_get mine.run.guesses.items place ≡ Some spot.guess
  pub same : spot.place ≡ place
  pub before : AreBefore place spot.guess.event mine.run.guesses.items
  pub comes : IsSpot mine spot.guess spot.passed spot.at spot.operation

-- the notes are right, and the replay is known to share this many first events with the shown run
pub record IsReady (shown : List Event) (mine : Replay) (known : ℕ) (spot : Spot) : Type 0 where
  pub share : AgreeTo known mine.events.items shown
  pub notes : IsSpotAt mine spot.place spot

-- what the judge knows of its pool
abbrev pub IsSeated : Judge → Type 0
IsSeated judge = AreShares judge.shown.now judge.pool.now judge.shares.now

-- another replay has guesses at exactly the events before this guess at which this replay has some, and passes the same events before it
pub record ComesAlong (mine : Replay) (spot : Spot) (other : Replay) : Type 0 where
  pub listed : AreAtEvents spot.place mine.run.guesses.items other.run.guesses.items
  pub enough : spot.passed ≤ length other.events.items
  pub agree : AgreeTo spot.passed mine.events.items other.events.items

-- another replay keeps the same operation there, with these operands
pub record KeepsWith (other : Replay) (spot : Spot) (pair : Pair) : Type 0 where
  pub kept : slice_get other.kept.items spot.passed ≡ Some (Operates spot.at (with_operands spot.operation pair))
  pub same : operands (with_operands spot.operation pair) ≡ pair
