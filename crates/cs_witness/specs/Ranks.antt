-- The suspects in the order in which they are examined.
use Rattle.std.specs.Prelude.{ℕ, ◌<◌, List, map, Contains}
use Rattle.cs_witness.specs.declared.witness.Rank.{Rank}

-- each suspect, up to this count, has a rank
abbrev pub AreRanked : ℕ → List Rank → Type 0
AreRanked count ranks = (number : ℕ) → number < count → Contains (map (λ (rank : Rank). rank.number) ranks) number
