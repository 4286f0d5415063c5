-- The failing positions of a part of a file in the order of its tokens, and the first of them with the least code there.
use Rattle.std.specs.Prelude.{◌≡◌, Bool, if◌then◌else◌, List, [], ◌∷◌, Option, Some, None}
use Rattle.cs_ast.specs.declared.place.Place.{Place}
use Rattle.cs_scopes.specs.declared.refusal.TypeCode.{TypeCode}
use Rattle.cs_scopes.specs.Verdicts.{Verdict, Fine, Fault}
use Rattle.cs_scopes.specs.Faults.{lesser}
use Rattle.cs_declarations.specs.Sizes.{fault_in}

-- a token at which rules fail, with the code of each
pub record FailingPlace : Type 0 where
  pub place : Place
  pub code : TypeCode
  pub others : List TypeCode

-- the least of some codes
abbrev pub least_of : TypeCode → List TypeCode → TypeCode
least_of code [] = code
least_of code (other ∷ others) = lesser code (least_of other others)

-- the first of failing positions in the order of their tokens, with the least code there
abbrev pub first_failure : List FailingPlace → Option (TypeCode × Place)
first_failure [] = None
first_failure (first ∷ others) = Some (least_of first.code first.others, first.place)

-- the failing position of a token at which rules with these codes fail, if there are any
abbrev pub failing_at : Place → List TypeCode → List FailingPlace
failing_at at [] = []
failing_at at (code ∷ others) = record { place = at; code = code; others = others } ∷ []

-- the code of a rule, unless the rule holds
abbrev pub unless : Bool → TypeCode → List TypeCode
unless met code = if met then [] else code ∷ []

-- the code with which a rule at its token refuses something
abbrev pub codes_of : {A : Type 0} → Verdict A → List TypeCode
codes_of (Fine value) = []
codes_of (Fault code at) = code ∷ []

-- the token at which a single rule fails
abbrev pub failing : {A : Type 0} → Verdict A → List FailingPlace
failing (Fine value) = []
failing (Fault code at) = failing_at at (code ∷ [])

-- a rule on a part: it can be checked if the part is typed
abbrev pub if_typed : {A B : Type 0} → (A → List B) → Verdict A → List B
if_typed rule (Fine value) = rule value
if_typed rule (Fault code place) = []

-- a rule on two parts: it can be checked if both are typed
abbrev pub if_both_typed : {A B C : Type 0} → (A → B → List C) → Verdict A → Verdict B → List C
if_both_typed rule (Fine first) (Fine second) = rule first second
if_both_typed rule (Fine first) (Fault code place) = []
if_both_typed rule (Fault code place) second = []

-- the same for three parts
abbrev pub if_all_typed : {A B C D : Type 0} → (A → B → C → List D) → Verdict A → Verdict B → Verdict C → List D
if_all_typed rule (Fine first) (Fine second) (Fine third) = rule first second third
if_all_typed rule (Fine first) (Fine second) (Fault code place) = []
if_all_typed rule (Fine first) (Fault code place) third = []
if_all_typed rule (Fault code place) second third = []

-- the failing position of a single rule on parts
abbrev pub fails : {A B : Type 0} → (A → Verdict B) → Verdict A → List FailingPlace
fails rule v = if_typed (λ value. failing (rule value)) v

abbrev pub fails_on_both : {A B C : Type 0} → (A → B → Verdict C) → Verdict A → Verdict B → List FailingPlace
fails_on_both rule v w = if_both_typed (λ first second. failing (rule first second)) v w

abbrev pub fails_on_all : {A B C D : Type 0} → (A → B → C → Verdict D) → Verdict A → Verdict B → Verdict C → List FailingPlace
fails_on_all rule u v w = if_all_typed (λ first second third. failing (rule first second third)) u v w

-- a verdict refuses a part at the first of its failing positions, with the least code there, exactly if it has one
abbrev pub IsFirst : {A : Type 0} → Verdict A → List FailingPlace → Type 0
IsFirst v failures = fault_in v ≡ first_failure failures
