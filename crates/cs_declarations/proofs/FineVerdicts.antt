-- Properties of the value of a result, if it has one: for properties that rules preserve.
use Rattle.std.proofs.Common.{◌≡◌, Bool, true, false, cond, Result, Ok, Err, OnOk, refl, subst}
use Rattle.cs_scopes.specs.declared.refusal.TypeRefusal.{TypeRefusal}
use Rattle.cs_scopes.specs.Verdicts.{Verdict, Fine, Fault, lift}
use Rattle.cs_declarations.specs.Answered.{AnswersWith}

-- if the result is a value, it has the property
abbrev pub IfFine : {A : Type 0} → Verdict A → (A → Type 0) → Type 0
IfFine (Fine value) P = P value
IfFine (Fault code place) P = Unit {0}

pub IfFine-lift : {A B : Type 0} (rule : A → Verdict B) (v : Verdict A) (P : A → Type 0) (Q : B → Type 0) → IfFine v P
    → ((a : A) → P a → IfFine (rule a) Q) → IfFine (lift rule v) Q
unfolding lift
IfFine-lift rule (Fine a) P Q h go = go a h
IfFine-lift rule (Fault code place) P Q h go = tt

-- the same where only the type of the value is known
pub IfFine-lift_any : {A B : Type 0} (rule : A → Verdict B) (v : Verdict A) (Q : B → Type 0) → ((a : A) → IfFine (rule a) Q) → IfFine (lift rule v) Q
unfolding lift
IfFine-lift_any rule (Fine a) Q go = go a
IfFine-lift_any rule (Fault code place) Q go = tt

pub IfFine-cond : {A : Type 0} (b : Bool) (v w : Verdict A) (P : A → Type 0) → (b ≡ true → IfFine v P) → (b ≡ false → IfFine w P)
    → IfFine (cond b v w) P
IfFine-cond true v w P first second = first refl
IfFine-cond false v w P first second = second refl

pub IfFine-at : {A : Type 0} (v : Verdict A) (P : A → Type 0) (a : A) → v ≡ Fine a → IfFine v P → P a
IfFine-at v P a e h = subst (λ (x : Verdict _). IfFine x P) e h

-- then the value that a function returns has it too, with what it changed
pub answer-IfFine : {A B C : Type 0} (view : A → B → C) (v : Verdict C) (r : Result A TypeRefusal) (after : B) (P : C → Type 0) (Q : Type 0)
    → AnswersWith view v r after → IfFine v P → ((a : A) → P (view a after) → Q) → OnOk r Q
answer-IfFine view v (Ok a) after P Q e h go = go a (IfFine-at v P (view a after) e h)
answer-IfFine view v (Err refusal) after P Q e h go = tt
