-- Properties of the result of a rule, if it has one: for each rule of the typing of expressions.
use Rattle.std.proofs.Common.{◌≡◌, Bool, true, false, cond, ◌&&◌, not, Option, Some, None, refl, subst}
use Rattle.cs_ast.specs.declared.place.Place.{Place}
use Rattle.cs_ast.specs.TypedTree.{Typed}
use Rattle.cs_scopes.specs.declared.refusal.TypeCode.{TypeCode}
use Rattle.cs_scopes.specs.Verdicts.{Verdict, Fine, Fault, lift, lift2, lift3}
use Rattle.cs_scopes.specs.Faults.{least_code, unless_fault}
use Rattle.cs_types.specs.Shape.{Shape}
use Rattle.cs_folding.specs.TypedParts.{type_of}
use Rattle.cs_expressions.specs.Stores.{weighed, led}
use Rattle.cs_consts.specs.Typing.{between}
use Rattle.cs_declarations.specs.Sizes.{unless_refused}
use Rattle.cs_declarations.specs.Parameters.{after_twice}

-- the property holds of the value, if there is one
abbrev pub IfFine : {A : Type 0} → Verdict A → (A → Type 0) → Type 0
IfFine (Fine value) P = P value
IfFine (Fault code place) P = Unit {0}

pub if_fine-at : {A : Type 0} (P : A → Type 0) (v : Verdict A) (a : A) → IfFine v P → v ≡ Fine a → P a
if_fine-at P v a held is = subst (λ w. IfFine w P) is held

pub if_fine-weaker : {A : Type 0} (P Q : A → Type 0) (v : Verdict A) → IfFine v P → ((a : A) → P a → Q a) → IfFine v Q
if_fine-weaker P Q (Fine a) held follows = follows a held
if_fine-weaker P Q (Fault code place) held follows = tt

pub if_fine-any : {A : Type 0} (v : Verdict A) → IfFine v (λ a. Unit {0})
if_fine-any (Fine a) = tt
if_fine-any (Fault code place) = tt

-- a rule applied to a result of another
pub lift-then : {A B : Type 0} (P : A → Type 0) (Q : B → Type 0) (rule : A → Verdict B) (v : Verdict A) → IfFine v P
    → ((a : A) → P a → IfFine (rule a) Q) → IfFine (lift rule v) Q
unfolding lift
lift-then P Q rule (Fine a) held follows = follows a held
lift-then P Q rule (Fault code place) held follows = tt

pub lift2-then : {A B C : Type 0} (P : A → Type 0) (Q : B → Type 0) (R : C → Type 0) (rule : A → B → Verdict C) (v : Verdict A) (w : Verdict B)
    → IfFine v P → IfFine w Q → ((a : A) (b : B) → P a → Q b → IfFine (rule a b) R) → IfFine (lift2 rule v w) R
unfolding lift2
lift2-then P Q R rule (Fine a) (Fine b) first second follows = follows a b first second
lift2-then P Q R rule (Fine a) (Fault code place) first second follows = tt
lift2-then P Q R rule (Fault code place) w first second follows = tt

pub lift3-then : {A B C D : Type 0} (P : A → Type 0) (Q : B → Type 0) (R : C → Type 0) (S : D → Type 0) (rule : A → B → C
    → Verdict D) (u : Verdict A) (v : Verdict B) (w : Verdict C) → IfFine u P → IfFine v Q → IfFine w R
    → ((a : A) (b : B) (c : C) → P a → Q b → R c → IfFine (rule a b c) S) → IfFine (lift3 rule u v w) S
unfolding lift3
lift3-then P Q R S rule (Fine a) (Fine b) (Fine c) first second third follows = follows a b c first second third
lift3-then P Q R S rule (Fine a) (Fine b) (Fault code place) first second third follows = tt
lift3-then P Q R S rule (Fine a) (Fault code place) w first second third follows = tt
lift3-then P Q R S rule (Fault code place) v w first second third follows = tt

-- a choice by a condition
pub cond-then : {A : Type 0} (P : A → Type 0) (test : Bool) (v w : Verdict A) → (test ≡ true → IfFine v P) → (test ≡ false → IfFine w P)
    → IfFine (cond test v w) P
cond-then P true v w one other = one refl
cond-then P false v w one other = other refl

-- a result at a position where another code may hold, and one after such a position
pub weighed-then : (P : Typed → Type 0) (at : Place) (fault : Option TypeCode) (v : Verdict Typed) → (fault ≡ None → IfFine v P)
    → IfFine (weighed at fault v) P
weighed-then P at None v held = held refl
weighed-then P at (Some code) (Fine e) held = tt
weighed-then P at (Some code) (Fault other place) held = tt

pub led-then : (P : Typed → Type 0) (at : Place) (fault : Option TypeCode) (v : Verdict Typed) → IfFine v P → IfFine (led at fault v) P
led-then P at None v held = held
led-then P at (Some first) (Fine e) held = held
led-then P at (Some first) (Fault code place) held = tt

-- an operator on two operands
pub between-then : (P Q R : Typed → Type 0) (at : Place) (asks : Shape → Option TypeCode) (rule : Typed → Typed → Verdict Typed) (v w : Verdict Typed)
    → IfFine v P → IfFine w Q → ((a b : Typed) → P a → Q b → IfFine (rule a b) R) → IfFine (between at asks rule v w) R
unfolding between
between-then P Q R at asks rule (Fine a) w first second follows =
    lift-then Q R (rule a) (led at (asks (type_of a)) w) (led-then Q at (asks (type_of a)) w second) (λ b held. follows a b first held)
between-then P Q R at asks rule (Fault code place) w first second follows = tt

-- a result after a position that may have a type error
pub unless_fault-then : {A : Type 0} (P : A → Type 0) (at : Place) (fault : Option TypeCode) (v : Verdict A) → (fault ≡ None → IfFine v P)
    → IfFine (unless_fault at fault v) P
unless_fault-then P at None v held = held refl
unless_fault-then P at (Some code) v held = tt

pub first-none : (code other : Option TypeCode) → least_code code other ≡ None → code ≡ None
first-none None other h = refl
first-none (Some code) other h = absurd cc

-- what a name declares, if its bounds have no type error
pub unless_refused-then : {A : Type 0} (P : A → Type 0) (refused : Option (TypeCode × Place)) (found : A) → P found
    → IfFine (unless_refused refused found) P
unfolding lift
unless_refused-then P None found held = held
unless_refused-then P (Some fault) found held = tt

-- a result after a parameter whose name is declared twice
pub after_twice-then : {A : Type 0} (P : A → Type 0) (twice : Option Place) (v : Verdict A) → IfFine v P → IfFine (after_twice twice v) P
after_twice-then P twice (Fine value) held = held
after_twice-then P None (Fault code place) held = tt
after_twice-then P (Some at) (Fault code place) held = tt

-- both operands of a true `&&` are true
pub both_true : (a b : Bool) → (a && b) ≡ true → (a ≡ true) × (b ≡ true)
both_true true true h = (refl, refl)
both_true true false h = absurd cc
both_true false b h = absurd cc

pub not_false : (a : Bool) → not a ≡ false → a ≡ true
not_false true h = refl
not_false false h = absurd cc

pub not_true : (a : Bool) → not a ≡ true → a ≡ false
not_true true h = absurd cc
not_true false h = refl
