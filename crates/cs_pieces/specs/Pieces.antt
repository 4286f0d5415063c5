-- The successors of a state whose operation shows a label: a child for each piece of it, and the ends of its faulty parts.
use Rattle.std.specs.Prelude.{◌≡◌, ℕ, ◌+◌, ◌<◌, ◌≤◌, Bool, true, false, List, [], ◌∷◌, ◌++◌, map}
use Rattle.std.specs.Prelude.{Option, None, Some, option_map, slice_get}
use Rattle.std.specs.FinMap as finite
use Rattle.std.specs.List.{AllZip}
use Rattle.std.specs.Global.{Box}
use Rattle.cs_types.specs.declared.data_model.DataModel.{DataModel}
use Rattle.cs_ast.specs.declared.place.Place.{Place}
use Rattle.cs_terms.specs.declared.symbol.Sym.{Sym}
use Rattle.cs_terms.specs.declared.symbol.SymName.TheVariants.{Guess as GuessAt}
use Rattle.cs_terms.specs.declared.term.Lin.{Lin}
use Rattle.cs_constraints.specs.Constraints.{set_of, IsDeclared}
use Rattle.cs_events.specs.declared.event.Event.{Event}
use Rattle.cs_events.specs.declared.outcome.Outcome.TheVariants.{Fault, Over}
use Rattle.cs_events.specs.declared.outcome.Budget.TheVariants.{Events}
use Rattle.cs_cfg.specs.declared.code.SwitchCase.{SwitchCase}
use Rattle.cs_cfg.specs.Graph.{Switch, Code}
use Rattle.cs_cfg.specs.GraphView as view
use Rattle.cs_cfg.specs.Spots.{point_of}
use Rattle.cs_access.specs.declared.checking.FaultyPart.{FaultyPart}
use Rattle.cs_access.specs.declared.checking.Rest.{Rest}
use Rattle.cs_access.specs.declared.checking.Rest.TheVariants.{Whole, Part, Nothing}
use Rattle.cs_eval.specs.declared.piece.Guessed.{Guessed}
use Rattle.cs_eval.specs.declared.piece.Piece.{Piece}
use Rattle.cs_eval.specs.declared.question.Question.{Question}
use Rattle.cs_eval.specs.Cases.{AreCases}
use Rattle.cs_eval.specs.Followed.{AreAnswers}
use Rattle.cs_eval.specs.Noted.{NotesGuess}
use Rattle.cs_eval.specs.Splits.{Each}
use Rattle.cs_state.specs.declared.asked.Asked.{Asked}
use Rattle.cs_state.specs.declared.state.State.{State}
use Rattle.cs_state.specs.Naming.{Naming}
use Rattle.cs_state.specs.Valuations.{Guessed as Guesses}
use Rattle.cs_explored.specs.declared.child.Child.{Child}
use Rattle.cs_explored.specs.declared.watch.Rule.{Rule}
use Rattle.cs_explored.specs.Answering.{leads_on}
use Rattle.cs_explored.specs.Watching.{IsPhaseAfter}
use Rattle.cs_pieces.specs.Settled.{IsSettled}
use Rattle.cs_successors.specs.Coming.{StateEnd}

-- a state directly after an event, with the answer with which it continues and the phase of a watched protocol
abbrev pub after_event : Lin → ℕ → State → State
after_event answer phase state = record state {
  answers = state.answers ++ answer ∷ [];
  counters = record state.counters { events = state.counters.events + 1 };
  phase = phase;
}

-- a state passes an event
abbrev pub IsPassed : List Rule → Event → Lin → State → State → Type 0
IsPassed rules event answer before after = IsPhaseAfter rules before.phase event after.phase × (after ≡ after_event answer after.phase before)

-- what a state notes about a guess at an event; the symbol represents the guessed result
abbrev pub asked_for : ℕ → Sym → Guessed → Asked
asked_for event guess what = record {
  event = event;
  guess = guess;
  asks = what.asks;
  left = what.left;
  right = what.right;
  ends = what.ends;
  fact = what.fact;
}

-- the guesses before an event and directly after it, if this was guessed there, or nothing
abbrev pub AreNotedAfter : ℕ → Sym → Option Guessed → Guesses → Guesses → Type 0
AreNotedAfter event guess None before after = after ≡ before
AreNotedAfter event guess (Some what) before after = after ≡ finite.insert before (event, 0) (asked_for event guess what)

-- the child of a state for a piece
pub record IsOfPiece (rules : List Rule) (before : State) (place : Place) (guess : Sym) (piece : Piece) (child : Child) : Type 0 where
  pub event : child.event ≡ record { place = place; label = piece.label }
  pub guessed : child.guess ≡ option_map (λ guessed. guess) piece.guessed
  pub answer : Lin
  pub settled : IsSettled before.constraints child.guess (leads_on piece.label piece.answer) answer
  pub declared : IsDeclared piece.constraints answer.sym
  pub phase : IsPhaseAfter rules before.phase child.event child.state.value.phase
  pub asked : AreNotedAfter (before.counters.events + 1) guess piece.guessed before.asked child.state.value.asked
  pub state : child.state.value ≡ record (after_event answer child.state.value.phase before) {
    constraints = piece.constraints;
    asked = child.state.value.asked;
  }

-- the children of pieces, in order
abbrev pub AreOfPieces : List Rule → State → Place → Sym → List Piece → List Child → Type 0
AreOfPieces rules before place guess pieces made = AllZip (IsOfPiece rules before place guess) pieces made

-- an event is the next one, and the budget of events permits it
abbrev pub IsNextEvent : ℕ → ℕ → ℕ → Type 0
IsNextEvent limit passed event = (passed < limit) × (event ≡ passed + 1)

-- the successors of a state whose operation shows a label: an end if the budget of events is used up, else a child for each piece
pub data ComesOfPieces (limit : ℕ) (rules : List Rule) (state : Box State) (place : Place) (AreSplit : Sym → List Piece → Type 0)
    : List Child → List StateEnd → Type 0 where
  over : limit ≤ state.value.counters.events → ComesOfPieces limit rules state place AreSplit [] ((Over Events place, state) ∷ [])
  shows : {pieces : List Piece} {made : List Child} (guess : Sym) → state.value.counters.events < limit → AreSplit guess pieces
      → AreOfPieces rules state.value place guess pieces made → ComesOfPieces limit rules state place AreSplit made []

-- the pieces of a question, whose guess symbol represents a guess at the next event and isn't declared yet
pub record AreOfQuestion (model : DataModel) (names : Naming) (state : State) (question : Question) (guess : Sym) (pieces : List Piece) : Type 0 where
  pub named : slice_get names.syms guess.0 ≡ Some (GuessAt (state.counters.events + 1))
  pub fresh : set_of state.constraints guess.0 ≡ None
  pub answers : AreAnswers model state.constraints guess.0 question pieces
  pub notes : Each (NotesGuess model state.constraints question) pieces

-- the pieces of the `switch` at a state's spot
pub record AreOfSwitch (code : Code) (state : State) (term : Lin) (guess : Sym) (pieces : List Piece) : Type 0 where
  pub place : Place
  pub temporary : ℕ
  pub cases : List SwitchCase
  pub otherwise : ℕ
  pub stands : point_of code state.frame.spot
      ≡ record { operations = []; end = Switch place temporary (map view.switch_case cases) otherwise }
  pub selects : AreCases state.constraints term cases pieces

-- the ends of faulty parts
abbrev pub IsFaultyEnd : Place → FaultyPart → StateEnd → Type 0
IsFaultyEnd place part end = (end.0 ≡ Fault part.kind place) × (end.1.value ≡ part.state)

abbrev pub AreFaultyEnds : Place → List FaultyPart → List StateEnd → Type 0
AreFaultyEnds place parts ends = AllZip (IsFaultyEnd place) parts ends

-- the rest of a state continues, if there is one
abbrev pub GoesOn : Rest → Bool → State → State → Type 0
GoesOn Whole goes before after = (goes ≡ true) × (after ≡ before)
GoesOn (Part part) goes before after = (goes ≡ true) × (after ≡ part.value)
GoesOn Nothing goes before after = (goes ≡ false) × (after ≡ before)
