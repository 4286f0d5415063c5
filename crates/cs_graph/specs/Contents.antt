-- The contents of a graph.
use Rattle.std.specs.Prelude.{ℕ, List}
use Rattle.std.specs.Map.{keys_of}

-- a key for each row, in the order of the rows; the rows that wait, with their visits; and the greatest number of rows
pub record Contents (K R : Type 0) : Type 0 where
  pub keys : List K
  pub rows : List R
  pub work : List (ℕ × ℕ)
  pub nodes : ℕ

-- the contents, if the keys are those of a map
abbrev pub contents : {K R : Type 0} → List (K × ℕ) → List R → List (ℕ × ℕ) → ℕ → Contents K R
contents entries rows work nodes = record { keys = keys_of entries; rows = rows; work = work; nodes = nodes }
