-- The files that a text names: each once, in order of first occurrence.
use Rattle.std.specs.Prelude.{◌≡◌, ℕ, nat_eq, nat_lt, List, [], ◌∷◌, ◌++◌, length, Option, Some, if◌then◌else◌}
use Rattle.std.specs.List.{position, position_or_len}
use Rattle.std.specs.Ordering.{nat_cmp, is_eq}
use Rattle.std.specs.Cmp.Lexicographic.{pointwise, slice_cmp}
use Rattle.std.specs.BTreeMap.{get, BTreeMap}

-- the number of a file: the index of its name, or the next number if it is new
abbrev pub file_number : List (List ℕ) → List ℕ → ℕ
file_number files name = position_or_len (pointwise nat_eq name) files

-- the files, with this one added if it is new
abbrev pub with_file : List (List ℕ) → List ℕ → List (List ℕ)
with_file files name = if nat_lt (file_number files name) (length files) then files else files ++ name ∷ []

-- the number of a name in a map
abbrev pub number_at : BTreeMap (List ℕ) ℕ → List ℕ → Option ℕ
number_at numbers name = get (slice_cmp nat_cmp) numbers name

-- the map has the index of each name
pub record Numbered (numbers : BTreeMap (List ℕ) ℕ) (names : List (List ℕ)) : Type 0 where
  pub each : (name : List ℕ) → number_at numbers name ≡ position (pointwise nat_eq name) names

-- the name has this number now, and every other name keeps its number
abbrev pub HasEntered : BTreeMap (List ℕ) ℕ → BTreeMap (List ℕ) ℕ → List ℕ → ℕ → Type 0
HasEntered old new name number = (other : List ℕ)
    → number_at new other ≡ (if is_eq (slice_cmp nat_cmp name other) then Some number else number_at old other)
