-- The chains of rows: the events by which runs reach them, and where numbers are guessed.
use Rattle.std.specs.Prelude.{◌≡◌, ◌<◌, ℕ, List, [], ◌∷◌, ◌++◌, Some, None, length, slice_get}
use Rattle.cs_terms.specs.declared.symbol.Sym.{Sym}
use Rattle.cs_events.specs.declared.event.Event.{Event}
use Rattle.cs_explored.specs.declared.explored.Row.{Row}

module _ (rows : List Row) where
  -- these events lead from the first row to the row with this number
  pub data IsChain : ℕ → List Event → Type 0 where
    first : {row : Row} → slice_get rows 0 ≡ Some row → row.event ≡ None → IsChain 0 []
    further : {number : ℕ} {row : Row} {event : Event} {events : List Event} → slice_get rows number ≡ Some row → row.parent < number
        → row.event ≡ Some event → IsChain row.parent events → IsChain number (events ++ event ∷ [])

  -- among the events that lead to a row, the one with this number guesses a number, and the symbol represents it
  pub data IsGuessedAlong : ℕ → ℕ → Sym → Type 0 where
    here : {number : ℕ} {row : Row} {sym : Sym} {events : List Event} → slice_get rows number ≡ Some row → row.guess ≡ Some sym
        → IsChain number events
        → IsGuessedAlong number (length events) sym
    before : {number : ℕ} {row : Row} {event : ℕ} {sym : Sym} → slice_get rows number ≡ Some row → row.parent < number
        → IsGuessedAlong row.parent event sym
        → IsGuessedAlong number event sym
