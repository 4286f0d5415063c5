-- Splitting a state by whether an operation is faulty, for one kind after another: for the contract of `check`.
use Rattle.std.proofs.Common.{◌≡◌, ◌<◌, ◌≤◌, ◌+◌, ◌^◌, ℕ, Bool, true, false, not, ◌&&◌, ◌||◌, ℤ, pos, neg_ℤ, ◌+ℤ◌}
use Rattle.std.proofs.Common.{int_le, List, [], ◌∷◌}
use Rattle.std.proofs.Common.{◌++◌, Option, None, Some, length, take, get_or, refl, sym, ap, ◌∙◌, subst, inl, inr, arith}
use Rattle.std.proofs.Common.{Result, Ok, Err}
use Rattle.std.specs.Prelude.{IsNone, IfOk}
use Rattle.std.proofs.lemmas.Int.{ints}
use Rattle.std.proofs.lemmas.List.{take_more, take_all, map-append}
use Rattle.std.proofs.lemmas.List.Elements.{All-get_or, All-same, All-nil, All-cons}
use Rattle.std.proofs.lemmas.Option.{none-some}
use Rattle.cs_model.specs.declared.kind.Kind.{Kind}
use Rattle.cs_ranges.specs.declared.range_set.Interval.{Interval}
use Rattle.cs_ranges.specs.Interval.{IsInside}
use Rattle.cs_ranges.specs.RangeSet.{contains}
use Rattle.cs_ranges.proofs.Members.{or_assoc, or-false}
use Rattle.cs_terms.specs.declared.symbol.Sym.{Sym}
use Rattle.cs_terms.specs.declared.term.Lin.{Lin}
use Rattle.cs_terms.specs.Term.{Valuation, value_of}
use Rattle.cs_constraints.specs.Constraints.{Sets, set_of, Fits, Keeps}
use Rattle.cs_constraints.proofs.Assuming.{value_of-symbol}
use Rattle.cs_checker.specs.declared.subject.Subject.{Subject}
use Rattle.cs_checker.specs.declared.subject.Subject.TheVariants.{Through, Move, Divisor, Cell, Rest as RestOf, Slot, Release, Reached, Shift, Pair, Written}
use Rattle.cs_checker.specs.Faults.{is_faulty_for, HasValues}
use Rattle.cs_state.specs.declared.state.State.{State}
use Rattle.cs_state.specs.Writes.{with_constraints}
use Rattle.cs_state.specs.MeaningOfWrites.{MeansTheSame}
use Rattle.cs_access.specs.Subjects.{term_of, CanDecide}
use Rattle.cs_access.specs.Checks.{IsKnown, CanCheck, IsPart, is_faulty, IsNeverFaulty, AreFaults, IsRest, IsTakenOut, IsRestIn}
use Rattle.cs_access.specs.Kinds.{HasNoFaults, HasFaultyValues, HaveFaultyValues, AreFaultyKinds, kinds_of}
use Rattle.cs_access.specs.declared.checking.FaultyKind.{FaultyKind}
use Rattle.cs_access.specs.declared.checking.FaultyPart.{FaultyPart}
use Rattle.cs_access.specs.declared.checking.Rest.{Rest}
use Rattle.cs_access.specs.declared.checking.Rest.TheVariants.{Whole, Part, Nothing}
use Rattle.cs_access.proofs.FaultyValues.{number_is}

zero_inside : IsInside (pos 0)
zero_inside = (omega (arith, ints), omega (arith, ints))

zero_known : (sets : Sets) → IsKnown sets (record { sym = None; slope = pos 0; at = pos 0; value = pos 0 })
zero_known sets = record {
  is_term = refl;
  declared = λ sym e. absurd (none-some sym e);
  values = λ sym set e. absurd (none-some sym e);
  constant = λ none. zero_inside;
}

-- the deciding term is known
pub known_of : (sets : Sets) (subject : Subject) → CanCheck sets subject → IsKnown sets (term_of subject)
known_of sets (Move null amount) can = can
known_of sets (Divisor term) can = can
known_of sets (Release block offset) can = can
known_of sets (Shift count width) can = can
known_of sets (Through null) can = zero_known sets
known_of sets (Cell unset) can = zero_known sets
known_of sets (RestOf term) can = zero_known sets
known_of sets (Slot fits) can = zero_known sets
known_of sets (Reached standing) can = zero_known sets
known_of sets (Pair same) can = zero_known sets
known_of sets (Written fixed) can = zero_known sets

pub value_inside : (sets : Sets) (term : Lin) (v : Valuation) → IsKnown sets term → Fits v sets → IsInside (value_of v term)
value_inside sets term v known fits = by term.sym refl
  where
    over : (s : Sym) (o : Option (List Interval)) → term.sym ≡ Some s → set_of sets s.0 ≡ o → IsInside (value_of v term)
    over s None e d = absurd (known.declared s e d)
    over s (Some set) e d =
        subst IsInside (sym (value_of-symbol v term s e)) (known.values s set e d (v s.0) (fits s.0 set d))

    by : (o : Option Sym) → term.sym ≡ o → IsInside (value_of v term)
    by None e = subst IsInside (sym (number_is v term e)) (known.constant (subst IsNone (sym e) refl))
    by (Some s) e = over s (set_of sets s.0) e refl

pub can_decide : (sets : Sets) (subject : Subject) (v : Valuation) → CanCheck sets subject → Fits v sets → CanDecide subject v
can_decide sets (Move null amount) v can fits = value_inside sets amount v can fits
can_decide sets (Divisor term) v can fits = value_inside sets term v can fits
can_decide sets (Release block offset) v can fits = value_inside sets offset v can fits
can_decide sets (Shift count width) v can fits = value_inside sets count v can fits
can_decide sets (RestOf term) v can fits = can
can_decide sets (Through null) v can fits = tt
can_decide sets (Cell unset) v can fits = tt
can_decide sets (Slot fit) v can fits = tt
can_decide sets (Reached standing) v can fits = tt
can_decide sets (Pair same) v can fits = tt
can_decide sets (Written fixed) v can fits = tt

pub has_values : (subject : Subject) (v : Valuation) → CanDecide subject v → HasValues subject v
has_values (Move null amount) v can = can
has_values (Divisor term) v can = can
has_values (Release block offset) v can = can
has_values (Shift count width) v can = can
has_values (RestOf term) v can =
    subst IsInside (λ j. sym (number_is v term.first can.first_number.sym) j +ℤ sym (number_is v term.second can.second_number.sym) j) can.inside
has_values (Through null) v can = tt
has_values (Cell unset) v can = tt
has_values (Slot fit) v can = tt
has_values (Reached standing) v can = tt
has_values (Pair same) v can = tt
has_values (Written fixed) v can = tt

module _ (before : State) where
  abbrev FitsHere : Valuation → Type 0
  FitsHere v = Fits v before.constraints

  -- the states that `narrowed` returns
  pub part_of : (term : Lin) (set : List Interval) (kept : State) → Keeps before.constraints term set kept.constraints
      → kept ≡ with_constraints kept.constraints before → MeansTheSame before kept → IsPart before (λ v. contains set (value_of v term)) kept
  part_of term set kept keeps rest means = record { exactly = keeps.exactly; some = keeps.some; rest = rest; means = means }

  -- a test that yields the same under each valuation that fits the state
  pub part_same : (one other : Valuation → Bool) (part : State) → ((v : Valuation) → FitsHere v → one v ≡ other v) → IsPart before one part
      → IsPart before other part
  part_same one other part same is = record {
    exactly = λ v. (
      λ fits. let both = (is.exactly v).0 fits in (both.0, sym (same v both.0) ∙ both.1),
      λ both. (is.exactly v).1 (both.0, same v both.0 ∙ both.1),
    );
    some = is.some;
    rest = is.rest;
    means = is.means;
  }

  module _ (subject : Subject) where
    pub one_never : (kinds : List Kind) (parts : List FaultyPart) (kind : Kind) → AreFaults before subject kinds parts
        → IsNeverFaulty before.constraints subject kind → AreFaults before subject (kinds ++ kind ∷ []) parts
    one_never [] parts kind faults never = inl (never, faults)
    one_never (k ∷ kinds) parts kind (inl none) never = inl (none.0, one_never kinds parts kind none.1 never)
    one_never (k ∷ kinds) parts kind (inr some) never =
        inr (some.0, some.1, some.2, some.3, some.4, one_never kinds some.1 kind some.5 never)

    pub one_part : (kinds : List Kind) (parts : List FaultyPart) (kind : Kind) (part : FaultyPart) → AreFaults before subject kinds parts
        → part.kind ≡ kind → IsPart before (is_faulty_for kind subject) part.state
        → AreFaults before subject (kinds ++ kind ∷ []) (parts ++ part ∷ [])
    one_part [] parts kind part faults same is = inr (part, [], ap (λ l. l ++ part ∷ []) faults, same, is, refl)
    one_part (k ∷ kinds) parts kind part (inl none) same is = inl (none.0, one_part kinds parts kind part none.1 same is)
    one_part (k ∷ kinds) parts kind part (inr some) same is =
        inr (some.0, some.1 ++ part ∷ [], ap (λ l. l ++ part ∷ []) some.2, some.3, some.4, one_part kinds some.1 kind part some.5 same is)

    pub one_more : (kinds : List Kind) (kind : Kind) (v : Valuation)
        → is_faulty (kinds ++ kind ∷ []) subject v ≡ (is_faulty kinds subject v || is_faulty_for kind subject v)
    one_more [] kind v = or-false (is_faulty_for kind subject v)
    one_more (k ∷ kinds) kind v =
        ap (λ b. is_faulty_for k subject v || b) (one_more kinds kind v)
        ∙ or_assoc (is_faulty_for k subject v) (is_faulty kinds subject v) (is_faulty_for kind subject v)

    pub none_faulty : (kinds : List Kind) → AreFaults before subject kinds [] → (v : Valuation) → FitsHere v → is_faulty kinds subject v ≡ false
    none_faulty [] faults v fits = refl
    none_faulty (k ∷ kinds) (inl none) v fits = λ j. (none.0 v fits ∙ refl) j || none_faulty kinds none.1 v fits j
    none_faulty (k ∷ kinds) (inr some) v fits = absurd (nothing_first some.0 some.1 some.2)
      where
        nothing_first : (p : FaultyPart) (rest : List FaultyPart) → [] ≡ p ∷ rest → ⊥
        nothing_first p rest e = cc

-- the split so far
pub record IsSplit (before : State) (subject : Subject) (kinds : List Kind) (parts : List FaultyPart) (good : List Interval) : Type 0 where
  pub faults : AreFaults before subject kinds parts
  pub good_values : (v : Valuation) → Fits v before.constraints → contains good (value_of v (term_of subject)) ≡ not (is_faulty kinds subject v)

pub split_none : (before : State) (subject : Subject) (good : List Interval) (parts : List FaultyPart) → CanCheck before.constraints subject → parts ≡ []
    → ((x : ℤ) → contains good x ≡ (int_le (neg_ℤ (pos (2 ^ 126))) x && int_le x (pos (2 ^ 126)))) → IsSplit before subject [] parts good
split_none before subject good parts can none all = record {
  faults = none;
  good_values = λ v fits.
      let inside = value_inside before.constraints (term_of subject) v (known_of before.constraints subject can) fits in
      all (value_of v (term_of subject)) ∙ all_between (value_of v (term_of subject)) inside;
}
  where
    all_between : (x : ℤ) → IsInside x → (int_le (neg_ℤ (pos (2 ^ 126))) x && int_le x (pos (2 ^ 126))) ≡ true
    all_between x inside = grind (arith, ints, inside.0, inside.1)

without_more : (a b : Bool) → (not a && not b) ≡ not (a || b)
without_more true b = refl
without_more false b = refl

module _ (before : State) (subject : Subject) (found : List FaultyKind) (place : ℕ) (here : FaultyKind) (is : here ≡ get_or found place here)
    (can : CanCheck before.constraints subject) (within : place < length found) (are : HaveFaultyValues subject found) where
  faulty_here : (v : Valuation) → Fits v before.constraints
      → contains here.values (value_of v (term_of subject)) ≡ is_faulty_for here.kind subject v
  faulty_here v fits =
      subst (HasFaultyValues subject) (sym is) (All-get_or (HasFaultyValues subject) found place here within are) v
      (can_decide before.constraints subject v can fits)

  kinds_split : kinds_of (take (place + 1) found) ≡ kinds_of (take place found) ++ here.kind ∷ []
  kinds_split =
      ap kinds_of (take_more found place here within ∙ ap (λ f. take place found ++ f ∷ []) (sym is))
      ∙ map-append _ (take place found) (here ∷ [])

  pub split_more : (parts more : List FaultyPart) (good left : List Interval) → IsTakenOut before (term_of subject) here.kind here.values parts more
      → ((x : ℤ) → contains left x ≡ (contains good x && not (contains here.values x)))
      → IsSplit before subject (kinds_of (take place found)) parts good → IsSplit before subject (kinds_of (take (place + 1) found)) more left
  split_more parts more good left taken without split =
      let kinds = kinds_of (take place found) in
      subst (λ ks. IsSplit before subject ks more left) (sym kinds_split) (record {
        faults = elim taken [
          | inl none ↦ subst (AreFaults before subject (kinds ++ here.kind ∷ [])) (sym none.1)
              (one_never before subject kinds parts here.kind split.faults (λ v fits. sym (faulty_here v fits) ∙ none.0 v fits))
          | inr some ↦ subst (AreFaults before subject (kinds ++ here.kind ∷ [])) (sym some.3)
              (one_part before subject kinds parts here.kind some.0 split.faults some.1
              (part_same before _ (is_faulty_for here.kind subject) some.0.state faulty_here some.2))
        ];
        good_values = λ v fits.
            without (value_of v (term_of subject)) ∙ (λ j. split.good_values v fits j && not (faulty_here v fits j))
            ∙ without_more (is_faulty kinds subject v) (is_faulty_for here.kind subject v)
            ∙ ap not (sym (one_more before subject kinds here.kind v));
      })

pub no_faults : (parts : List FaultyPart) → length parts ≡ 0 → parts ≡ []
no_faults [] none = refl
no_faults (part ∷ parts) none = absurd (omega (arith, none))

not_turned : (a b : Bool) → a ≡ not b → a ≡ false → b ≡ true
not_turned a true e f = refl
not_turned a false e f = cc

-- the rest at the end
pub rest_is : (before : State) (subject : Subject) (kinds : List Kind) (parts : List FaultyPart) (good : List Interval) (all : Bool) (rest : Rest)
    → IsSplit before subject kinds parts good → (all ≡ true → parts ≡ []) → IsRestIn before (term_of subject) good all rest
    → IsRest before subject kinds rest
rest_is before subject kinds parts good all Whole split none is =
    none_faulty before subject kinds (subst (AreFaults before subject kinds) (none is) split.faults)
rest_is before subject kinds parts good all (Part part) split none is =
    part_same before _ (λ v. not (is_faulty kinds subject v)) part.value split.good_values is
rest_is before subject kinds parts good all Nothing split none is =
    λ v fits. not_turned _ (is_faulty kinds subject v) (split.good_values v fits) (is v fits)

-- the split after all kinds
pub split_all : (before : State) (subject : Subject) (found : List FaultyKind) (place : ℕ) (parts : List FaultyPart) (good : List Interval)
    → length found ≤ place → IsSplit before subject (kinds_of (take place found)) parts good → IsSplit before subject (kinds_of found) parts good
split_all before subject found place parts good over split =
    subst (λ fs. IsSplit before subject (kinds_of fs) parts good) (take_all place found over) split

-- kinds without faults make no difference
module _ (before : State) (subject : Subject) (can : CanCheck before.constraints subject) where
  never_here : (kind : Kind) → HasNoFaults subject kind → IsNeverFaulty before.constraints subject kind
  never_here kind none v fits = none v (can_decide before.constraints subject v can fits)

  -- the first kind is listed
  first_listed : (kind : Kind) (kinds : List Kind) (faulty : FaultyKind) (rest : List FaultyKind) (parts : List FaultyPart) → faulty.kind ≡ kind
      → AreFaults before subject (faulty.kind ∷ kinds_of rest) parts
      → ((more : List FaultyPart) → AreFaults before subject (kinds_of rest) more → AreFaults before subject kinds more)
      → AreFaults before subject (kind ∷ kinds) parts
  first_listed kind kinds faulty rest parts same (inl never) others =
      inl (subst (IsNeverFaulty before.constraints subject) same never.0, others parts never.1)
  first_listed kind kinds faulty rest parts same (inr part) others =
      inr (
        part.0,
        part.1,
        part.2,
        part.3 ∙ same,
        subst (λ k. IsPart before (is_faulty_for k subject) part.0.state) same part.4,
        others part.1 part.5,
      )

  pub faults_of_all : (kinds : List Kind) (found : List FaultyKind) (parts : List FaultyPart) → AreFaultyKinds subject kinds found
      → AreFaults before subject (kinds_of found) parts → AreFaults before subject kinds parts
  faults_of_all [] found parts are faults = subst (λ fs. AreFaults before subject (kinds_of fs) parts) are faults
  faults_of_all (k ∷ kinds) found parts (inl none) faults = inl (never_here k none.0, faults_of_all kinds found parts none.1 faults)
  faults_of_all (k ∷ kinds) found parts (inr some) faults =
      first_listed k kinds some.0 some.1 parts some.3 (subst (λ fs. AreFaults before subject (kinds_of fs) parts) some.2 faults)
      (λ more are. faults_of_all kinds some.1 more some.5 are)

  same_faulty : (kinds : List Kind) (found : List FaultyKind) → AreFaultyKinds subject kinds found → (v : Valuation) → Fits v before.constraints
      → is_faulty (kinds_of found) subject v ≡ is_faulty kinds subject v
  same_faulty [] found are v fits = ap (λ fs. is_faulty (kinds_of fs) subject v) are
  same_faulty (k ∷ kinds) found (inl none) v fits =
      same_faulty kinds found none.1 v fits ∙ ap (λ b. b || is_faulty kinds subject v) (sym (never_here k none.0 v fits))
  same_faulty (k ∷ kinds) found (inr some) v fits =
      ap (λ fs. is_faulty (kinds_of fs) subject v) some.2
      ∙ (λ j. is_faulty_for (some.3 j) subject v || same_faulty kinds some.1 some.5 v fits j)

  pub rest_of_all : (kinds : List Kind) (found : List FaultyKind) (rest : Rest) → AreFaultyKinds subject kinds found
      → IsRest before subject (kinds_of found) rest → IsRest before subject kinds rest
  rest_of_all kinds found Whole are is = λ v fits. sym (same_faulty kinds found are v fits) ∙ is v fits
  rest_of_all kinds found (Part part) are is =
      part_same before _ (λ v. not (is_faulty kinds subject v)) part.value (λ v fits. ap not (same_faulty kinds found are v fits)) is
  rest_of_all kinds found Nothing are is = λ v fits. sym (same_faulty kinds found are v fits) ∙ is v fits

-- the listed values are the faulty ones
pub values_listed : (subject : Subject) (kinds : List Kind) (found : List FaultyKind) → AreFaultyKinds subject kinds found
    → HaveFaultyValues subject found
values_listed subject [] found are = All-same (HasFaultyValues subject) found [] are (All-nil (HasFaultyValues subject))
values_listed subject (k ∷ kinds) found (inl none) = values_listed subject kinds found none.1
values_listed subject (k ∷ kinds) found (inr some) =
    All-same (HasFaultyValues subject) found (some.0 ∷ some.1) some.2
    (All-cons (HasFaultyValues subject) some.0 some.1 some.4 (values_listed subject kinds some.1 some.5))

-- no kind is listed
pub none_listed : (subject : Subject) (kinds : List Kind) (found : List FaultyKind) → AreFaultyKinds subject kinds found → length found ≡ 0
    → AreFaultyKinds subject kinds []
none_listed subject kinds [] are none = are
none_listed subject kinds (f ∷ found) are none = absurd (omega (arith, none))

pub each_ok : {A E : Type 0} (result : Result A E) (P Q : A → Type 0) → ((a : A) → P a → Q a) → IfOk result P → IfOk result Q
each_ok (Ok a) P Q more holds = more a holds
each_ok (Err e) P Q more holds = tt
