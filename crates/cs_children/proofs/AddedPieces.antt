-- The successors that are added for a state whose operation shows a label: for the contracts of `ask` and `select`.
use Rattle.std.proofs.Common.{◌≡◌, ℕ, ◌<◌, ◌≤◌, Bool, true, false, not, List, [], ◌∷◌, Option, None, Some, sym}
use Rattle.std.proofs.Common.{subst}
use Rattle.std.specs.Prelude.{Result, OnOk, MatchOption, is_some, option_map}
use Rattle.std.specs.Global.{Box}
use Rattle.std.proofs.lemmas.Result.{on_ok_weaker}
use Rattle.cs_ast.specs.declared.place.Place.{Place}
use Rattle.cs_terms.specs.declared.symbol.Sym.{Sym}
use Rattle.cs_events.specs.declared.outcome.Outcome.{Outcome}
use Rattle.cs_events.specs.declared.outcome.Outcome.TheVariants.{Over}
use Rattle.cs_events.specs.declared.outcome.Budget.TheVariants.{Events}
use Rattle.cs_eval.specs.declared.piece.Piece.{Piece}
use Rattle.cs_state.specs.declared.state.State.{State}
use Rattle.cs_explored.specs.declared.watch.Rule.{Rule}
use Rattle.cs_children.specs.declared.children.Children.{Children}
use Rattle.cs_children.specs.Adding.{Adds, AddsChildren, AddsPieces}
use Rattle.cs_pieces.specs.Pieces.{IsNextEvent, over, shows}

-- the next event has a number exactly if the budget of events isn't used up
pub full_of : (found : Option ℕ) (limit passed : ℕ) (none : Bool) → MatchOption found (limit ≤ passed) (IsNextEvent limit passed)
    → is_some found ≡ not none → none ≡ true → limit ≤ passed
full_of None limit passed none next some is = next
full_of (Some number) limit passed true next some is = cc
full_of (Some number) limit passed false next some is = cc

pub room_of : (found : Option ℕ) (limit passed : ℕ) (none : Bool) → MatchOption found (limit ≤ passed) (IsNextEvent limit passed)
    → is_some found ≡ not none → none ≡ false → passed < limit
room_of None limit passed true next some is = cc
room_of None limit passed false next some is = cc
room_of (Some number) limit passed none next some is = next.0

-- a symbol that isn't found has no set
pub not_found : {T X : Type 0} (found : Option T) (f : T → X) (set : Option X) (some : Bool) → option_map f found ≡ set → some ≡ is_some found
    → some ≡ false → set ≡ None
not_found None f set some is known isnt = sym is
not_found (Some x) f set true is known isnt = cc
not_found (Some x) f set false is known isnt = cc

module _ {X Y : Type 0} (result : Result X Y) (limit : ℕ) (rules : List Rule) (state : Box State) (at : Place) (AreSplit : Sym → List Piece → Type 0)
    (before after : Children) where
  -- the end if the budget of events is used up
  pub over_added : (outcome : Outcome) → outcome ≡ Over Events at → limit ≤ state.value.counters.events
      → OnOk result (Adds before after [] ((outcome, state) ∷ [])) → OnOk result (AddsPieces limit rules state at AreSplit before after)
  over_added outcome is full adds =
      on_ok_weaker result (λ (added : Adds before after [] ((outcome, state) ∷ [])).
      ([], (Over Events at, state) ∷ [], subst (λ (o : Outcome). Adds before after [] ((o, state) ∷ [])) is added, over full)) adds

  -- the children of pieces
  pub pieces_added : (guess : Sym) (pieces : List Piece) → state.value.counters.events < limit → AreSplit guess pieces
      → OnOk result (AddsChildren rules state.value at guess pieces before after) → OnOk result (AddsPieces limit rules state at AreSplit before after)
  pieces_added guess pieces room are adds =
      on_ok_weaker result (λ (more : AddsChildren rules state.value at guess pieces before after).
      (more.0, [], more.1, shows guess room are more.2)) adds
