-- What convinces the judge: partners in the pool that prove a guess, according to their replays.
use Rattle.std.specs.Prelude.{◌≡◌, ◌≢◌, ◌⊎◌, ℕ, suc, ◌<◌, ◌≤◌, ℤ, IsTrue, List, length, map, Option, Some, slice_get, Vec}
use Rattle.std.specs.declared.alloc.Global.{Global}
use Rattle.cs_types.specs.declared.data_model.DataModel.{DataModel}
use Rattle.cs_ast.specs.declared.place.Place.{Place}
use Rattle.cs_events.specs.declared.event.Event.{Event}
use Rattle.cs_events.specs.declared.guess.Guess.{Guess}
use Rattle.cs_events.specs.declared.operation.Operation.{Operation}
use Rattle.cs_results.specs.declared.run.Others.{Others}
use Rattle.cs_findings.specs.Runs.{AllRelated}
use Rattle.cs_findings.specs.Operands.{operands, with_operands}
use Rattle.cs_findings.specs.Grounds.{Pair, has_ground}
use Rattle.cs_findings.specs.Narrower.{may_be_used, fits_left, fits_right}
use Rattle.cs_compared.specs.Agreement.{AgreeTo}
use Rattle.cs_compared.specs.Computable.{IsComputable}
use Rattle.cs_compared.specs.Wide.{IsSmall, AreSmall}
use Rattle.cs_judge.specs.Agreement.{AreBefore, AreAtEvents}
use Rattle.cs_judge.specs.declared.pool.Kept.{Kept}
use Rattle.cs_judge.specs.declared.pool.Kept.TheVariants.{Operates}
use Rattle.cs_judge.specs.declared.pool.Partners.{Partners}
use Rattle.cs_judge.specs.declared.pool.Replay.{Replay}

-- a replay without its inputs and its partners
pub record Bare : Type 0 where
  pub guesses : List Guess
  pub events : List Event
  pub kept : List Kept

abbrev pub bare : Replay → Bare
bare replay = record { guesses = replay.run.guesses.items; events = replay.events.items; kept = replay.kept.items }

module _ (pool : List Bare) (mine : Bare) (place : ℕ) where
  -- the guess at this place comes after this many events, at which this operation was pending
  pub record IsGuessedAt (guess : Guess) (passed : ℕ) (at : Place) (operation : Operation) : Type 0 where
    pub listed : slice_get mine.guesses place ≡ Some guess
    pub number : guess.event ≡ suc passed
    pub before : AreBefore place guess.event mine.guesses
    pub enough : passed ≤ length mine.events
    pub kept : slice_get mine.kept passed ≡ Some (Operates at operation)

  -- the replay with a number has guesses at exactly the events of those before this one and passes the same events, and then the same operation is pending,
  -- with these operands
  pub record IsPartner (passed : ℕ) (at : Place) (operation : Operation) (number : ℕ) (both : Pair) : Type 0 where
    pub other : Bare
    pub there : slice_get pool number ≡ Some other
    pub listed : AreAtEvents place mine.guesses other.guesses
    pub enough : passed ≤ length other.events
    pub agree : AgreeTo passed mine.events other.events
    pub kept : slice_get other.kept passed ≡ Some (Operates at (with_operands operation both))
    pub same : operands (with_operands operation both) ≡ both

  -- a partner whose operand differs
  pub record HasOther (passed : ℕ) (at : Place) (operation : Operation) (operand : Pair → ℤ) (named : Option ℕ) : Type 0 where
    pub number : ℕ
    pub is : named ≡ Some number
    pub both : Pair
    pub partner : IsPartner passed at operation number both
    pub differs : operand both ≢ operand (operands operation)

  -- these partners prove the guess: with them there is a ground, and the number is one that may be guessed
  pub record ProvesGuess (model : DataModel) (partners : Partners) : Type 0 where
    pub guess : Guess
    pub passed : ℕ
    pub at : Place
    pub operation : Operation
    pub guessed : IsGuessedAt guess passed at operation
    pub pairs : Others Pair
    pub are : AllRelated (IsPartner passed at operation) partners.others pairs
    pub computable : IsComputable operation
    pub small : IsSmall (operands operation)
    pub others_small : AreSmall pairs
    pub has_reason : IsTrue (has_ground model operation pairs)
    pub used : IsTrue (may_be_used model operation guess.number)
    pub left : IsTrue (fits_left operation guess.number) ⊎ HasOther passed at operation (λ pair. pair.0) partners.left
    pub right : IsTrue (fits_right operation guess.number) ⊎ HasOther passed at operation (λ pair. pair.1) partners.right

  -- some partners prove the guess
  abbrev pub HasProof : DataModel → Type 0
  HasProof model = (partners : Partners) × ProvesGuess model partners

-- the partners that a replay names for a guess prove it
pub record IsProved (model : DataModel) (pool : List Bare) (mine : Replay) (place : ℕ) : Type 0 where
  pub partners : Partners
  pub named : slice_get mine.partners.items place ≡ Some partners
  pub proves : ProvesGuess pool (bare mine) place model partners

-- all guesses of the pool are proved by their named partners
abbrev pub AreProved : DataModel → List Replay → Type 0
AreProved model pool = (number : ℕ) (mine : Replay) (place : ℕ) → slice_get pool number ≡ Some mine → place < length mine.run.guesses.items
    → IsProved model (map bare pool) mine place

-- partners that prove a guess are found for each guess of a replay for which the pool has some
pub record FindsProofs (model : DataModel) (pool : List Bare) (mine : Bare) (found : List Partners) : Type 0 where
  pub count : length found ≡ length mine.guesses
  pub each : (place : ℕ) (partners : Partners) → slice_get found place ≡ Some partners → HasProof pool mine place model
      → ProvesGuess pool mine place model partners

-- the same for each replay of the pool
pub record FindAllProofs (model : DataModel) (pool : List Replay) (found : List (Vec Partners Global)) : Type 0 where
  pub count : length found ≡ length pool
  pub each : (number : ℕ) (mine : Replay) (row : Vec Partners Global) → slice_get pool number ≡ Some mine → slice_get found number ≡ Some row
      → FindsProofs model (map bare pool) (bare mine) row.items
