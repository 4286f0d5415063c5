-- What an exploration has found so far.
use Rattle.std.specs.Prelude.{◌≡◌, ◌⊎◌, ◌<◌, ◌≤◌, ℕ, Bool, true, false, nat_eq, List, [], ◌∷◌, ◌++◌, Some, length, slice_get}
use Rattle.std.specs.List.{All}
use Rattle.std.specs.Cmp.Lexicographic.{pointwise}
use Rattle.cs_results.specs.declared.result.Cut.TheVariants.{Nodes}
use Rattle.cs_graph.specs.Adding.{IsAdded, IsRefused}
use Rattle.cs_graph.specs.declared.adding.Added.{Added}
use Rattle.cs_graph.specs.declared.adding.GraphRefusal.TheVariants.{Full}
use Rattle.cs_explored.specs.declared.explored.Row.{Row}
use Rattle.cs_explored.specs.declared.explored.End.{End}
use Rattle.cs_explored.specs.declared.findings.Findings.{Findings}

-- the row with this number has a parent before it; the first row is its own parent
abbrev pub ComesFromBefore : ℕ → Row → Type 0
ComesFromBefore number row = (row.parent < number) ⊎ ((number ≡ 0) × (row.parent ≡ 0))

-- each row but the first has a parent before it
abbrev pub AreLinked : List Row → Type 0
AreLinked rows = (number : ℕ) (row : Row) → slice_get rows number ≡ Some row → ComesFromBefore number row

-- each end belongs to a row
abbrev pub AreOfRows : List Row → List End → Type 0
AreOfRows rows ends = All (λ (end : End). end.row < length rows) ends

-- there are no more rows than the budget of nodes allows, each has a parent before it, and each end belongs to a row
pub record IsSound (findings : Findings) : Type 0 where
  pub budget : findings.graph.nodes ≡ findings.nodes
  pub few : length findings.graph.rows ≤ findings.nodes
  pub linked : AreLinked findings.graph.rows
  pub ends : AreOfRows findings.graph.rows findings.ends.items

-- no row is lost, and sound findings stay sound
pub record Grows (before after : Findings) : Type 0 where
  pub nodes : after.nodes ≡ before.nodes
  pub rows : length before.graph.rows ≤ length after.graph.rows
  pub sound : IsSound before → IsSound after

-- a row with an equal key exists, or this row is appended; or the graph is full, which is a cut
abbrev pub IsPlaced : List ℕ → Row → Bool → Findings → Findings → Type 0
IsPlaced key row true before after =
    ((visits : ℕ) × (added : Added) × IsAdded (pointwise nat_eq) key visits row added before.graph after.graph)
    × (after.cuts.items ≡ before.cuts.items)
IsPlaced key row false before after =
    IsRefused (pointwise nat_eq) key Full before.graph after.graph × (after.cuts.items ≡ before.cuts.items ++ Nodes before.nodes ∷ [])
