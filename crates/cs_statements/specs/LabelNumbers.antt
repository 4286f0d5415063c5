-- The labels of a function and a table of their names: no look-up searches a list.
use Rattle.std.specs.Prelude.{◌≡◌, ℕ, List, nat_eq}
use Rattle.std.specs.Cmp.Lexicographic.{pointwise}
use Rattle.indexmap.specs.IndexMap.{IndexMap, get}
use Rattle.cs_statements.specs.Statements.{label_number}

-- the table has the number of each name's first label
pub record Numbered {S : Type 0} (numbers : IndexMap (List ℕ) ℕ S) (labels : List (List ℕ)) : Type 0 where
  pub each : (name : List ℕ) → get (pointwise nat_eq) numbers name ≡ label_number name labels
