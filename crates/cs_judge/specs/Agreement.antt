-- Replays that pass the same events up to an index, and guesses at the same events.
use Rattle.std.specs.Prelude.{◌≡◌, ℕ, ◌≤◌, nat_lt, List, length, Some, slice_get}
use Rattle.cs_events.specs.declared.event.Event.{Event}
use Rattle.cs_events.specs.declared.guess.Guess.{Guess}
use Rattle.cs_compared.specs.Agreement.{AgreeTo}
use Rattle.cs_judge.specs.declared.pool.Replay.{Replay}

-- each replay of a pool shares this many first events with the shown run
abbrev pub AreShares : List Event → List Replay → List ℕ → Type 0
AreShares shown pool shares = (number : ℕ) (replay : Replay) (share : ℕ) → slice_get pool number ≡ Some replay
    → slice_get shares number ≡ Some share
    → AgreeTo share replay.events.items shown

-- exactly the guesses at indices below this place are before an event
abbrev pub AreBefore : ℕ → ℕ → List Guess → Type 0
AreBefore place event guesses = (index : ℕ) (guess : Guess) → slice_get guesses index ≡ Some guess → nat_lt guess.event event ≡ nat_lt index place

-- the other guesses are at the events of the first ones of mine, as many as this place
pub record AreAtEvents (place : ℕ) (mine other : List Guess) : Type 0 where
  pub count : length other ≡ place
  pub enough : place ≤ length mine
  pub same : (index : ℕ) (guess its : Guess) → slice_get mine index ≡ Some guess → slice_get other index ≡ Some its → its.event ≡ guess.event
