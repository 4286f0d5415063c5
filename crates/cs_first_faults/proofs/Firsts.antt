-- The first failing position of parts in their order, with a rule before, between or after them.
use Rattle.std.proofs.Common.{◌≡◌, refl, sym, ap, subst, Bool, true, false, if◌then◌else◌, List, [], ◌∷◌, ◌++◌, Option, Some, None}
use Rattle.std.specs.Prelude.{option_to_list}
use Rattle.cs_ast.specs.declared.place.Place.{Place}
use Rattle.cs_ast.specs.TypedTree.{Typed}
use Rattle.cs_scopes.specs.declared.refusal.TypeCode.{TypeCode}
use Rattle.cs_scopes.specs.Verdicts.{Verdict, Fine, Fault, lift, lift2}
use Rattle.cs_types.specs.Shape.{Shape}
use Rattle.cs_scopes.specs.Faults.{lesser}
use Rattle.cs_folding.specs.TypedParts.{type_of}
use Rattle.cs_expressions.specs.Stores.{weighed, led}
use Rattle.cs_consts.specs.Typing.{between}
use Rattle.cs_first_faults.specs.Failures.{FailingPlace, first_failure, failing, failing_at, codes_of, if_typed, if_both_typed, fails, IsFirst}

-- `None` is never `Some`
pub no_some : {A B : Type 0} (a : A) → None ≡ Some a → B
no_some a e = absurd cc

pub no_none : {A B : Type 0} (a : A) → Some a ≡ None → B
no_none a e = absurd cc

pub first-failing : {A : Type 0} (v : Verdict A) → IsFirst v (failing v)
first-failing (Fine value) = refl
first-failing (Fault code place) = refl

-- a result without an error has no failing position
pub none_where_fine : {A : Type 0} (a : A) (failures : List FailingPlace) → IsFirst (Fine a) failures → failures ≡ []
none_where_fine a [] h = refl
none_where_fine a (f ∷ fs) h = no_some _ h

pub first-failing-last : {A : Type 0} (v : Verdict A) → IsFirst v (failing v ++ [])
first-failing-last (Fine value) = refl
first-failing-last (Fault code place) = refl

pub first-then-nothing : {A : Type 0} (v : Verdict A) (failures : List FailingPlace) → IsFirst v failures → IsFirst v (failures ++ [])
first-then-nothing v [] h = h
first-then-nothing v (f ∷ fs) h = h

-- an error, if the result is one, is at this position
abbrev pub IsAt : {A : Type 0} → Place → Verdict A → Type 0
IsAt at (Fine value) = Unit {0}
IsAt at (Fault code place) = place ≡ at

pub if_at : {A : Type 0} (at : Place) (test : Bool) (v w : Verdict A) → IsAt at v → IsAt at w → IsAt at (if test then v else w)
if_at at true v w h k = h
if_at at false v w h k = k

pub lift_at : {A B : Type 0} (at : Place) (rule : A → Verdict B) (v : Verdict A) → IsAt at v → ((a : A) → IsAt at (rule a)) → IsAt at (lift rule v)
unfolding lift
lift_at at rule (Fine a) h k = k a
lift_at at rule (Fault code place) h k = h

-- such a result has its code there, if nothing after it fails
pub first-codes : {A : Type 0} (at : Place) (v : Verdict A) (following : List FailingPlace) → IsAt at v → first_failure following ≡ None
    → IsFirst v (failing_at at (codes_of v) ++ following)
first-codes at (Fine value) following is none = sym none
first-codes at (Fault code place) following is none = ap (λ p. Some (code, p)) is

-- a rule on a part: its errors come after those of the part
pub first-fails : {A B : Type 0} (rule : A → Verdict B) (v : Verdict A) (failures : List FailingPlace) → IsFirst v failures
    → IsFirst (lift rule v) (failures ++ fails rule v)
unfolding lift
first-fails rule (Fine a) [] h = first-failing (rule a)
first-fails rule (Fine a) (f ∷ fs) h = no_some _ h
first-fails rule (Fault code place) [] h = no_none _ h
first-fails rule (Fault code place) (f ∷ fs) h = h

-- the same for a rule with two parts after it
pub first-after : {A B : Type 0} (rule : A → Verdict B) (v : Verdict A) (failures : List FailingPlace) (one following : Verdict A → List FailingPlace)
    → IsFirst v failures → ((a : A) → IsFirst (rule a) (one (Fine a) ++ following (Fine a)))
    → IsFirst (lift rule v) ((failures ++ one v) ++ following v)
unfolding lift
first-after rule (Fine a) [] one following h each = each a
first-after rule (Fine a) (f ∷ fs) one following h each = no_some _ h
first-after rule (Fault code place) [] one following h each = no_none _ h
first-after rule (Fault code place) (f ∷ fs) one following h each = h

-- the same for a rule that comes before the part
pub first-before : {A B : Type 0} (rule : A → Verdict B) (v : Verdict A) (failures : List FailingPlace) (one before : Verdict A → List FailingPlace)
    → IsFirst v failures → ((code : TypeCode) (place : Place) → before (Fault code place) ≡ [])
    → ((a : A) → IsFirst (rule a) (before (Fine a) ++ one (Fine a)))
    → IsFirst (lift rule v) (before v ++ (failures ++ one v))
unfolding lift
first-before rule (Fine a) [] one before h none each = each a
first-before rule (Fine a) (f ∷ fs) one before h none each = no_some _ h
first-before rule (Fault code place) [] one before h none each = no_none _ h
first-before {B = B} rule (Fault code place) (f ∷ fs) one before h none each =
    subst (λ xs. IsFirst {A = B} (Fault code place) (xs ++ ((f ∷ fs) ++ one (Fault code place)))) (sym (none code place)) h

pub first-ahead : {A B : Type 0} (rule : A → Verdict B) (v : Verdict A) (failures : List FailingPlace) → IsFirst v failures
    → IsFirst (lift rule v) (fails rule v ++ failures)
unfolding lift
first-ahead rule (Fine a) [] h = first-failing-last (rule a)
first-ahead rule (Fine a) (f ∷ fs) h = no_some _ h
first-ahead rule (Fault code place) failures h = h

-- a position with a rule on what comes before it, and one on both sides
pub first-stored : (at : Place) (fault : Option TypeCode) (rule : Typed → Verdict Typed) (right : Verdict Typed) (following : List FailingPlace)
    → IsFirst right following → ((v : Typed) → IsAt at (rule v))
    → IsFirst (lift (λ v. weighed at fault (rule v)) (led at fault right))
    (failing_at at (option_to_list fault ++ if_typed (λ v. codes_of (rule v)) right) ++ following)
unfolding lift
first-stored at None rule (Fault code place) following h is = h
first-stored at None rule (Fine v) following h is = first-codes at (rule v) following (is v) (sym h)
first-stored at (Some code) rule (Fault other place) following h is = refl
first-stored at (Some code) rule (Fine v) following h is = weighs (rule v) where
  weighs : (w : Verdict Typed) → IsFirst (weighed at (Some code) w) (failing_at at (code ∷ codes_of w) ++ following)
  weighs (Fine e) = refl
  weighs (Fault other place) = refl

-- a result at a position with a possible code: its error comes no later
abbrev pub IsLed : {A : Type 0} → Option TypeCode → Place → Verdict A → Type 0
IsLed None at v = IsAt at v
IsLed (Some code) at (Fine value) = ⊥
IsLed (Some code) at (Fault other place) = (lesser code other ≡ other) × (place ≡ at)

-- an operator on two operands: what it requires of the left one only, and of both
pub first-asked : (at : Place) (asks : Shape → Option TypeCode) (rule : Typed → Typed
    → Verdict Typed) (v w : Verdict Typed) (one other : List FailingPlace)
    → IsFirst v one → IsFirst w other → ((l r : Typed) → IsLed (asks (type_of l)) at (rule l r))
    → IsFirst (between at asks rule v w)
    (one ++ failing_at at (if_typed (λ l. option_to_list (asks (type_of l))) v ++ if_both_typed (λ l r. codes_of (rule l r)) v w) ++ other)
unfolding between lift
first-asked at asks rule (Fault code place) w [] other h k refuses = no_none _ h
first-asked at asks rule (Fault code place) w (f ∷ fs) other h k refuses = h
first-asked at asks rule (Fine l) w (f ∷ fs) other h k refuses = no_some _ h
first-asked at asks rule (Fine l) w [] other h k refuses = by_fault (asks (type_of l)) w k (refuses l) where
  by_fault : (fault : Option TypeCode) (w : Verdict Typed) → IsFirst w other → ((r : Typed) → IsLed fault at (rule l r))
      → IsFirst (lift (rule l) (led at fault w))
      (failing_at at (option_to_list fault ++ if_both_typed (λ l r. codes_of (rule l r)) (Fine l) w) ++ other)
  by_fault None (Fine r) k refuses = first-codes at (rule l r) other (refuses r) (sym k)
  by_fault None (Fault code place) k refuses = k
  by_fault (Some code) (Fault c place) k refuses = refl
  by_fault (Some code) (Fine r) k refuses = refused (rule l r) (refuses r) where
    refused : (v : Verdict Typed) → IsLed (Some code) at v → IsFirst v (failing_at at (code ∷ codes_of v) ++ other)
    refused (Fine e) is = absurd is
    refused (Fault c place) is = λ i. Some (sym is.0 i, is.1 i)

-- two parts one after another, with no other errors
pub first-both : {A B C : Type 0} (rule : A → B → C) (v : Verdict A) (w : Verdict B) (one other : List FailingPlace)
    → IsFirst v one → IsFirst w other → IsFirst (lift2 (λ a b. Fine (rule a b)) v w) (one ++ other)
unfolding lift2
first-both rule (Fine a) (Fine b) [] other h k = k
first-both rule (Fine a) (Fault code place) [] other h k = k
first-both rule (Fine a) w (f ∷ fs) other h k = no_some _ h
first-both rule (Fault code place) w [] other h k = no_none _ h
first-both rule (Fault code place) w (f ∷ fs) other h k = h

-- what follows a part without an error
pub first-then : {A B : Type 0} (rule : A → Verdict B) (v : Verdict A) (failures : List FailingPlace) (next : A → List FailingPlace)
    → IsFirst v failures → ((a : A) → IsFirst (rule a) (next a)) → IsFirst (lift rule v) (failures ++ if_typed next v)
unfolding lift
first-then rule (Fine a) [] next h k = k a
first-then rule (Fine a) (f ∷ fs) next h k = no_some _ h
first-then rule (Fault code place) [] next h k = no_none _ h
first-then rule (Fault code place) (f ∷ fs) next h k = h

-- the same if what follows is judged even after an error
pub first-row : {A B : Type 0} (rule : A → Verdict B) (v : Verdict A) (failures : List FailingPlace) (next : Verdict A → List FailingPlace)
    → IsFirst v failures → ((a : A) → IsFirst (rule a) (next (Fine a))) → IsFirst (lift rule v) (failures ++ next v)
unfolding lift
first-row rule (Fine a) [] next h k = k a
first-row rule (Fine a) (f ∷ fs) next h k = no_some _ h
first-row rule (Fault code place) [] next h k = no_none _ h
first-row rule (Fault code place) (f ∷ fs) next h k = h
