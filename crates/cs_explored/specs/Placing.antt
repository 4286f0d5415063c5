-- Placing children in a graph, one after another: each becomes a row unless one has its key.
use Rattle.std.specs.Prelude.{◌≡◌, ℕ, nat_eq, Bool, true, false, List, [], ◌∷◌, ◌++◌, map, All, None, Some, length, slice_get}
use Rattle.std.specs.Global.{Box}
use Rattle.std.specs.Cmp.Lexicographic.{pointwise}
use Rattle.cs_events.specs.declared.outcome.Outcome.{Outcome}
use Rattle.cs_results.specs.declared.result.Cut.{Cut}
use Rattle.cs_results.specs.declared.result.Cut.TheVariants.{Nodes}
use Rattle.cs_state.specs.declared.state.State.{State}
use Rattle.cs_state.specs.ReadCells.{HasPlainCells}
use Rattle.cs_store.specs.Held.{HasPlainKeys}
use Rattle.cs_keys.specs.Live.{live_part}
use Rattle.cs_keys.specs.Words.{words_of}
use Rattle.cs_graph.specs.Adding.{IsAdded, IsUnseen}
use Rattle.cs_graph.specs.Contents.{Contents}
use Rattle.cs_graph.specs.declared.adding.Added.{Added}
use Rattle.cs_explored.specs.declared.child.Child.{Child}
use Rattle.cs_explored.specs.declared.explored.End.{End}
use Rattle.cs_explored.specs.declared.explored.Row.{Row}
use Rattle.cs_explored.specs.declared.findings.Findings.{Findings}

-- rows with their keys
abbrev pub RowGraph : Type 0
RowGraph = Contents (List ℕ) Row

-- the row of a child
abbrev pub child_row : ℕ → Child → Row
child_row parent child = record { parent = parent; event = Some child.event; guess = child.guess; state = child.state }

-- a row with an equal key exists, or this row is appended
abbrev pub PlacesRow : Row → RowGraph → RowGraph → Type 0
PlacesRow row before after =
    (visits : ℕ) × (added : Added) × IsAdded (pointwise nat_eq) (words_of (live_part row.state.value)) visits row added before after

-- all children of a row are placed, one after another
abbrev pub PlacesAll : ℕ → List Child → RowGraph → RowGraph → Type 0
PlacesAll parent [] before after = after ≡ before
PlacesAll parent (child ∷ made) before after =
    (between : RowGraph) × PlacesRow (child_row parent child) before between × PlacesAll parent made between after

-- an end as one of this row
abbrev pub end_of_row : ℕ → Outcome × Box State → End
end_of_row row one = record { row = row; outcome = one.0; state = one.1 }

-- the row in which an entry begins, which is its own parent
abbrev pub first_row : Box State → Row
first_row state = record { parent = 0; event = None; guess = None; state = state }

-- ends and tables don't change
pub record KeepsEnds (before after : Findings) : Type 0 where
  pub ends : after.ends.items ≡ before.ends.items
  pub tables : after.tables ≡ before.tables

-- rows and tables don't change
pub record KeepsRows (before after : Findings) : Type 0 where
  pub graph : after.graph ≡ before.graph
  pub tables : after.tables ≡ before.tables

-- each value that a state holds or has read is kept under numbers beside zeros, so that the live part has all of it
pub record IsPlain (state : State) : Type 0 where
  pub store : HasPlainKeys state.store
  pub read : HasPlainCells state.read

-- the states of ends are plain
abbrev pub ArePlainEnds : List (Outcome × Box State) → Type 0
ArePlainEnds ends = All (λ (one : Outcome × Box State). IsPlain one.1.value) ends

-- ends of a row are added, with plain states, and nothing else changes
pub record AddsEnds (row : ℕ) (new : List (Outcome × Box State)) (before after : Findings) : Type 0 where
  pub ends : after.ends.items ≡ before.ends.items ++ map (end_of_row row) new
  pub plain : ArePlainEnds new
  pub cuts : after.cuts.items ≡ before.cuts.items
  pub rows : KeepsRows before after

-- cuts are added, and nothing else changes
pub record AddsCuts (new : List Cut) (before after : Findings) : Type 0 where
  pub cuts : after.cuts.items ≡ before.cuts.items ++ new
  pub ends : after.ends.items ≡ before.ends.items
  pub rows : KeepsRows before after

-- the states of children are plain
abbrev pub ArePlainChildren : List Child → Type 0
ArePlainChildren made = All (λ (child : Child). IsPlain child.state.value) made

-- the first few of a row's children are placed
pub record PlacesFirst (parent : ℕ) (made : List Child) (before after : RowGraph) : Type 0 where
  pub some : List Child
  pub left : List Child
  pub all : made ≡ some ++ left
  pub placed : PlacesAll parent some before after

-- the first few of a row's children are placed, and the next one is refused: no row has its key, and the graph is full
pub record PlacesUntilFull (parent : ℕ) (made : List Child) (before after : RowGraph) : Type 0 where
  pub first : PlacesFirst parent made before after
  pub refused : Child
  pub next : slice_get made (length first.some) ≡ Some refused
  pub unseen : IsUnseen (pointwise nat_eq) (words_of (live_part refused.state.value)) after.keys
  pub full : length after.rows ≡ after.nodes

-- all children of a row are placed, without a cut; or the first few of them, and the graph is full, which is a cut
abbrev pub PlacesChildren : ℕ → List Child → Bool → Findings → Findings → Type 0
PlacesChildren parent made true before after =
    PlacesAll parent made before.graph after.graph × (after.cuts.items ≡ before.cuts.items) × ArePlainChildren made
PlacesChildren parent made false before after =
    PlacesUntilFull parent made before.graph after.graph × (after.cuts.items ≡ before.cuts.items ++ Nodes before.nodes ∷ [])
