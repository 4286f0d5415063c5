-- What holds of every graph.
use Rattle.std.specs.Prelude.{◌≡◌, ◌<◌, ◌≤◌, ℕ, List, Some, length, slice_get}
use Rattle.cs_graph.specs.Waiting.{IsWaiting}

-- the keys are in the order of the rows, each with its row's number; only rows wait; and there aren't too many rows
pub record IsSound {K R : Type 0} (entries : List (K × ℕ)) (rows : List R) (work : List (ℕ × ℕ)) (nodes : ℕ) : Type 0 where
  pub as_many : length entries ≡ length rows
  pub numbers : (place : ℕ) (entry : K × ℕ) → slice_get entries place ≡ Some entry → entry.1 ≡ place
  pub waiting : (visits row : ℕ) → IsWaiting work visits row → row < length rows
  pub few : length rows ≤ nodes
  pub most : nodes ≤ 200000
