-- A table that numbers names, as the list of the names.
use Rattle.std.specs.Prelude.{◌≡◌, ◌⊎◌, ℕ, List, [], ◌∷◌, ◌++◌, length, slice_get, Some}
use Rattle.std.specs.List.{Contains}

-- no name has two indexes
abbrev pub HasEachOnce : {Name : Type 0} → List Name → Type 0
HasEachOnce {Name} names = (j k : ℕ) (name : Name) → slice_get names j ≡ Some name → slice_get names k ≡ Some name → j ≡ k

-- the name has this index: it had it before, or it is new and follows all others
abbrev pub IsNumbered : {Name : Type 0} → List Name → Name → ℕ → List Name → Type 0
IsNumbered before name place after =
    ((slice_get before place ≡ Some name) × (after ≡ before))
    ⊎ (¬ Contains before name × (place ≡ length before) × (after ≡ before ++ name ∷ []))
