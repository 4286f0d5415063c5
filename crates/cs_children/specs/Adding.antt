-- What is added to the successors of a state: the children of the pieces of the label that it shows, and the ends of faulty parts.
use Rattle.std.specs.Prelude.{◌≡◌, ◌≢◌, ℕ, List, [], ◌++◌, All}
use Rattle.std.specs.Global.{Box}
use Rattle.cs_ast.specs.declared.place.Place.{Place}
use Rattle.cs_terms.specs.declared.symbol.Sym.{Sym}
use Rattle.cs_events.specs.declared.outcome.Outcome.{Outcome}
use Rattle.cs_access.specs.declared.checking.FaultyPart.{FaultyPart}
use Rattle.cs_eval.specs.declared.piece.Piece.{Piece}
use Rattle.cs_state.specs.declared.state.State.{State}
use Rattle.cs_explored.specs.declared.child.Child.{Child}
use Rattle.cs_explored.specs.declared.watch.Rule.{Rule}
use Rattle.cs_children.specs.declared.children.Children.{Children}
use Rattle.cs_successors.specs.Coming.{StateEnd, OutcomesDiffer}
use Rattle.cs_pieces.specs.Pieces.{AreOfPieces, ComesOfPieces, AreFaultyEnds}

-- children and ends are added, and no cut
pub record Adds (before after : Children) (made : List Child) (ends : List StateEnd) : Type 0 where
  pub children : after.made.items ≡ before.made.items ++ made
  pub endings : after.ends.items ≡ before.ends.items ++ ends
  pub cuts : after.cuts.items ≡ before.cuts.items

-- if the outcomes of the ends differed before, they still do
abbrev pub KeepApart : Children → Children → Type 0
KeepApart before after = OutcomesDiffer before.ends.items → OutcomesDiffer after.ends.items

-- no end has this outcome
abbrev pub HaveOthers : Outcome → List StateEnd → Type 0
HaveOthers outcome ends = All (λ (end : StateEnd). end.0 ≢ outcome) ends

-- the children of pieces are added
abbrev pub AddsChildren : List Rule → State → Place → Sym → List Piece → Children → Children → Type 0
AddsChildren rules state place guess pieces before after =
    (made : List Child) × Adds before after made [] × AreOfPieces rules state place guess pieces made

-- children and ends are added that are all successors of a state whose operation shows a label
abbrev pub AddsPieces : ℕ → List Rule → Box State → Place → (Sym → List Piece → Type 0) → Children → Children → Type 0
AddsPieces limit rules state place AreSplit before after = (made : List Child) × (ends : List StateEnd) × Adds before after made ends
    × ComesOfPieces limit rules state place AreSplit made ends

-- the ends of faulty parts are added
abbrev pub AddsFaulty : Place → List FaultyPart → Children → Children → Type 0
AddsFaulty place parts before after = (ends : List StateEnd) × Adds before after [] ends × AreFaultyEnds place parts ends
