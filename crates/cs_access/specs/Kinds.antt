-- The kinds of faults for which checkers have conditions, with the values of the deciding term at which an operation has such a fault.
use Rattle.std.specs.Prelude.{◌≡◌, ◌⊎◌, false, List, [], ◌∷◌, ◌++◌, Option, map}
use Rattle.std.specs.List.{All}
use Rattle.cs_model.specs.declared.kind.Kind.{Kind}
use Rattle.cs_ranges.specs.RangeSet.{contains}
use Rattle.cs_terms.specs.Term.{Valuation, value_of}
use Rattle.cs_checker.specs.declared.answer.Cond.{Cond}
use Rattle.cs_checker.specs.declared.subject.Subject.{Subject}
use Rattle.cs_checker.specs.Faults.{is_faulty_for}
use Rattle.cs_access.specs.Subjects.{term_of, CanDecide, AreFaultyValues}
use Rattle.cs_access.specs.declared.checking.FaultyKind.{FaultyKind}

-- the operation is faulty for the kind exactly at these values of the deciding term
abbrev pub HasFaultyValues : Subject → FaultyKind → Type 0
HasFaultyValues subject faulty =
    (v : Valuation) → CanDecide subject v → contains faulty.values (value_of v (term_of subject)) ≡ is_faulty_for faulty.kind subject v

-- this holds for each of some kinds
abbrev pub HaveFaultyValues : Subject → List FaultyKind → Type 0
HaveFaultyValues subject found = All (HasFaultyValues subject) found

-- the operation is never faulty for the kind
abbrev pub HasNoFaults : Subject → Kind → Type 0
HasNoFaults subject kind = (v : Valuation) → CanDecide subject v → is_faulty_for kind subject v ≡ false

abbrev pub kinds_of : List FaultyKind → List Kind
kinds_of found = map (λ (faulty : FaultyKind). faulty.kind) found

-- the operation is never faulty for the kind, and nothing is added; or the kind is added with its faulty values
abbrev pub IsNextKind : Subject → Kind → List FaultyKind → List FaultyKind → Type 0
IsNextKind subject kind before after =
    (HasNoFaults subject kind × (after ≡ before))
    ⊎ ((faulty : FaultyKind) × (faulty.kind ≡ kind) × HasFaultyValues subject faulty × (after ≡ before ++ faulty ∷ []))

-- the kind is added with the values for which one of the conditions holds
abbrev pub IsListed : Kind → List (Option Cond) → List FaultyKind → List FaultyKind → Type 0
IsListed kind conds before after =
    (faulty : FaultyKind) × (faulty.kind ≡ kind) × AreFaultyValues conds faulty.values × (after ≡ before ++ faulty ∷ [])

-- the kinds for which the operation can be faulty are listed in order, with their faulty values; others may be listed too
abbrev pub AreFaultyKinds : Subject → List Kind → List FaultyKind → Type 0
AreFaultyKinds subject [] found = found ≡ []
AreFaultyKinds subject (kind ∷ kinds) found =
    (HasNoFaults subject kind × AreFaultyKinds subject kinds found)
    ⊎ ((faulty : FaultyKind) × (rest : List FaultyKind) × (found ≡ faulty ∷ rest) × (faulty.kind ≡ kind) × HasFaultyValues subject faulty
    × AreFaultyKinds subject kinds rest)
