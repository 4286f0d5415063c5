-- What a state notes about the events that lead to it: its guesses, and the phase of a watched protocol.
use Rattle.std.specs.Prelude.{◌≡◌, ◌↔◌, ℕ, List, Some, slice_get, Contains}
use Rattle.std.specs.FinMap as finite
use Rattle.cs_terms.specs.declared.symbol.Sym.{Sym}
use Rattle.cs_events.specs.declared.event.Event.{Event}
use Rattle.cs_state.specs.declared.asked.Asked.{Asked}
use Rattle.cs_state.specs.declared.state.State.{State}
use Rattle.cs_explored.specs.declared.explored.End.{End}
use Rattle.cs_explored.specs.declared.explored.Row.{Row}
use Rattle.cs_explored.specs.declared.watch.Rule.{Rule}
use Rattle.cs_coverage.specs.Phases.{IsPhaseAlong}
use Rattle.cs_exactness.specs.Chains.{IsChain, IsGuessedAlong}

-- the state's guesses are in the order of their events, one for each
abbrev pub IsInEventOrder : State → Type 0
IsInEventOrder state = (key : ℕ × ℕ) (asked : Asked) → finite.get state.asked key ≡ Some asked → key ≡ (asked.event, 0)

-- the state has a guess at this event, and the symbol represents the guessed number
abbrev pub HasGuess : State → ℕ → Sym → Type 0
HasGuess state event sym = (asked : Asked) × Contains (finite.values state.asked) asked × (asked.event ≡ event) × (asked.guess ≡ sym)

-- the state has exactly the guesses of the events that lead to a row
abbrev pub RecordsGuesses : List Row → ℕ → State → Type 0
RecordsGuesses rows number state = (event : ℕ) (sym : Sym) → IsGuessedAlong rows number event sym ↔ HasGuess state event sym

-- it has these, in order, and the phase that the rules determine for the events
pub record NotesEvents (rules : List Rule) (rows : List Row) (number : ℕ) (state : State) (chain : List Event) : Type 0 where
  pub in_order : IsInEventOrder state
  pub guesses : RecordsGuesses rows number state
  pub phase : IsPhaseAlong rules chain state.phase

-- each row's state has a property, with the row's number and the events that lead to it, and each end's state has it with those of its row
pub record EachState (rows : List Row) (ends : List End) (Has : ℕ → State → List Event → Type 0) : Type 0 where
  pub of_rows : (number : ℕ) (row : Row) (chain : List Event) → slice_get rows number ≡ Some row → IsChain rows number chain
      → Has number row.state.value chain
  pub of_ends : (number : ℕ) (end : End) (chain : List Event) → slice_get ends number ≡ Some end → IsChain rows end.row chain
      → Has end.row end.state.value chain

-- each state notes its guesses and its phase
abbrev pub EachNotesEvents : List Rule → List Row → List End → Type 0
EachNotesEvents rules rows ends = EachState rows ends (λ number state chain. NotesEvents rules rows number state chain)
