-- Base regions, numbered by their indexes in a list.
use Rattle.std.specs.Prelude.{◌≡◌, ◌⊎◌, ℕ, Some, List, [], ◌∷◌, ◌++◌, slice_get}
use Rattle.std.specs.List.{Contains}
use Rattle.cs_regions.specs.declared.base.Base.{Base}

-- the number is the index of the base region
abbrev pub IsNumberOf : List Base → Base → ℕ → Type 0
IsNumberOf bases base number = slice_get bases number ≡ Some base

-- no base region has two numbers
abbrev pub IsNumbered : List Base → Type 0
IsNumbered bases = (base : Base) (one other : ℕ) → IsNumberOf bases base one → IsNumberOf bases base other → one ≡ other

-- the list doesn't change if it has the base region; else the base region is appended
abbrev pub IsSeenAfter : List Base → Base → List Base → Type 0
IsSeenAfter before base after =
    (Contains before base × (after ≡ before)) ⊎ ((Contains before base → ⊥) × (after ≡ before ++ base ∷ []))
