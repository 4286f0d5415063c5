-- The parts of a state in which an operation is faulty, and the rest.
use Rattle.std.specs.Prelude.{◌≡◌, ◌≢◌, ◌⊎◌, ◌↔◌, ℕ, ℤ, Bool, true, false, not, IsTrue, IsNone, List, [], ◌∷◌, ◌++◌, None}
use Rattle.std.specs.Prelude.{Some}
use Rattle.std.specs.List.{list_any}
use Rattle.cs_model.specs.declared.kind.Kind.{Kind}
use Rattle.cs_ranges.specs.declared.range_set.Interval.{Interval}
use Rattle.cs_ranges.specs.Interval.{IsInside}
use Rattle.cs_ranges.specs.RangeSet.{contains}
use Rattle.cs_terms.specs.declared.symbol.Sym.{Sym}
use Rattle.cs_terms.specs.declared.term.Lin.{Lin}
use Rattle.cs_terms.specs.Term.{Valuation, value_of, value_at, IsTerm}
use Rattle.cs_constraints.specs.Constraints.{Sets, set_of, Fits, IsDeclared, HasValuesInside}
use Rattle.cs_checker.specs.declared.subject.Subject.{Subject}
use Rattle.cs_checker.specs.declared.subject.Subject.TheVariants as subject_of
use Rattle.cs_checker.specs.Faults.{is_faulty_for}
use Rattle.cs_checker.specs.Asked.{CountsOne}
use Rattle.cs_state.specs.declared.state.State.{State}
use Rattle.cs_state.specs.Writes.{with_constraints}
use Rattle.cs_state.specs.MeaningOfWrites.{MeansTheSame}
use Rattle.cs_access.specs.Subjects.{IsKnownSum}
use Rattle.cs_access.specs.declared.checking.FaultyPart.{FaultyPart}
use Rattle.cs_access.specs.declared.checking.Rest.{Rest}
use Rattle.cs_access.specs.declared.checking.Rest.TheVariants.{Whole, Part, Nothing}

-- the term is over a declared symbol, if it is over any, and its values are from -2^126 to 2^126
pub record IsKnown (sets : Sets) (term : Lin) : Type 0 where
  pub is_term : IsTerm term
  pub declared : IsDeclared sets term.sym
  pub values : HasValuesInside sets term
  pub constant : IsNone term.sym → IsInside term.value

-- the symbol is declared, and the term's values for its numbers are from -2^126 to 2^126
pub record IsKnownOver (sets : Sets) (term : Lin) (sym : Sym) : Type 0 where
  pub declared : set_of sets sym.0 ≢ None
  pub values : (set : List Interval) → set_of sets sym.0 ≡ Some set → (x : ℤ) → IsTrue (contains set x) → IsInside (value_at term x)

-- the terms of the operation are known
abbrev pub CanCheck : Sets → Subject → Type 0
CanCheck sets (subject_of.Move null amount) = IsKnown sets amount
CanCheck sets (subject_of.Divisor term) = IsKnown sets term
CanCheck sets (subject_of.Rest term) = IsKnownSum term.first term.second
CanCheck sets (subject_of.Release block offset) = IsKnown sets offset
CanCheck sets (subject_of.Shift count width) = IsKnown sets count
CanCheck sets other = Unit {0}

-- the part has exactly the valuations with which the test holds, and has at least one; nothing else of the state changes
pub record IsPart (before : State) (test : Valuation → Bool) (part : State) : Type 0 where
  pub exactly : (v : Valuation) → Fits v part.constraints ↔ (Fits v before.constraints × IsTrue (test v))
  pub some : (v : Valuation) × Fits v part.constraints
  pub rest : part ≡ with_constraints part.constraints before
  pub means : MeansTheSame before part

-- whether the operation is faulty for one of these kinds
abbrev pub is_faulty : List Kind → Subject → Valuation → Bool
is_faulty kinds subject v = list_any (λ kind. is_faulty_for kind subject v) kinds

-- the operation is faulty for the kind under no valuation that fits
abbrev pub IsNeverFaulty : Sets → Subject → Kind → Type 0
IsNeverFaulty sets subject kind = (v : Valuation) → Fits v sets → is_faulty_for kind subject v ≡ false

-- for each kind in order, the next part is the one of its faults, or it has none
abbrev pub AreFaults : State → Subject → List Kind → List FaultyPart → Type 0
AreFaults before subject [] parts = parts ≡ []
AreFaults before subject (kind ∷ kinds) parts =
    (IsNeverFaulty before.constraints subject kind × AreFaults before subject kinds parts)
    ⊎ ((part : FaultyPart) × (rest : List FaultyPart) × (parts ≡ part ∷ rest) × (part.kind ≡ kind)
    × IsPart before (is_faulty_for kind subject) part.state × AreFaults before subject kinds rest)

-- the rest of a state, in which the operation isn't faulty for any of the kinds
abbrev pub IsRest : State → Subject → List Kind → Rest → Type 0
IsRest before subject kinds Whole = (v : Valuation) → Fits v before.constraints → is_faulty kinds subject v ≡ false
IsRest before subject kinds (Part part) = IsPart before (λ v. not (is_faulty kinds subject v)) part.value
IsRest before subject kinds Nothing = (v : Valuation) → Fits v before.constraints → is_faulty kinds subject v ≡ true

-- each checker has counted one query
abbrev pub HaveCounted : {Checker : Type 0} → (Checker → ℕ) → List Checker → List Checker → Type 0
HaveCounted count [] [] = Unit {0}
HaveCounted count (old ∷ olds) (new ∷ news) = CountsOne (count old) (count new) × HaveCounted count olds news
HaveCounted count olds news = ⊥

-- no valuation gives the term a value of the set, or the part of those that do is appended
abbrev pub IsTakenOut : State → Lin → Kind → List Interval → List FaultyPart → List FaultyPart → Type 0
IsTakenOut state term kind set before after =
    (((v : Valuation) → Fits v state.constraints → contains set (value_of v term) ≡ false) × (after ≡ before))
    ⊎ ((part : FaultyPart) × (part.kind ≡ kind) × IsPart state (λ v. contains set (value_of v term)) part.state × (after ≡ before ++ part ∷ []))

-- the part of a state in which the term has a value of the set, or all of it
abbrev pub IsRestIn : State → Lin → List Interval → Bool → Rest → Type 0
IsRestIn state term set all Whole = all ≡ true
IsRestIn state term set all (Part part) = IsPart state (λ v. contains set (value_of v term)) part.value
IsRestIn state term set all Nothing = (v : Valuation) → Fits v state.constraints → contains set (value_of v term) ≡ false
