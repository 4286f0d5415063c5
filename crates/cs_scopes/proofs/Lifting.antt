-- The results of rules on verdicts that are known: for every function that continues with the result of another one.
use Rattle.std.proofs.Common.{◌≡◌, refl, sym, ap, subst, ◌∙◌, Result}
use Rattle.cs_ast.specs.declared.place.Place.{Place}
use Rattle.cs_ast.specs.declared.typed.expression.Expr.{Expr}
use Rattle.cs_ast.specs.TypedTree.{Typed}
use Rattle.cs_scopes.specs.declared.refusal.TypeCode.{TypeCode}
use Rattle.cs_scopes.specs.declared.refusal.TypeRefusal.{TypeRefusal}
use Rattle.cs_scopes.specs.declared.refusal.TypeRefusal.TheVariants.{Code, Memory}
use Rattle.cs_scopes.specs.Verdicts.{Verdict, Fine, Fault, lift, lift2, lift3, IsRefused, Yields}

pub lift-fine : {A B : Type 0} (rule : A → Verdict B) (value : A) → lift rule (Fine value) ≡ rule value
unfolding lift
lift-fine rule value = refl

pub lift-fault : {A B : Type 0} (rule : A → Verdict B) (code : TypeCode) (place : Place) → lift rule (Fault code place) ≡ Fault code place
unfolding lift
lift-fault rule code place = refl

pub lift2-fine : {A B C : Type 0} (rule : A → B → Verdict C) (first : A) (second : B) → lift2 rule (Fine first) (Fine second) ≡ rule first second
unfolding lift2
lift2-fine rule first second = refl

pub lift2-second : {A B C : Type 0} (rule : A → B → Verdict C) (first : A) (code : TypeCode) (place : Place)
    → lift2 rule (Fine first) (Fault code place) ≡ Fault code place
unfolding lift2
lift2-second rule first code place = refl

pub lift2-first : {A B C : Type 0} (rule : A → B → Verdict C) (code : TypeCode) (place : Place) (second : Verdict B)
    → lift2 rule (Fault code place) second ≡ Fault code place
unfolding lift2
lift2-first rule code place second = refl

pub lift3-fine : {A B C D : Type 0} (rule : A → B → C → Verdict D) (first : A) (second : B) (third : C)
    → lift3 rule (Fine first) (Fine second) (Fine third) ≡ rule first second third
unfolding lift3
lift3-fine rule first second third = refl

pub lift3-third : {A B C D : Type 0} (rule : A → B → C → Verdict D) (first : A) (second : B) (code : TypeCode) (place : Place)
    → lift3 rule (Fine first) (Fine second) (Fault code place) ≡ Fault code place
unfolding lift3
lift3-third rule first second code place = refl

pub lift3-second : {A B C D : Type 0} (rule : A → B → C → Verdict D) (first : A) (code : TypeCode) (place : Place) (third : Verdict C)
    → lift3 rule (Fine first) (Fault code place) third ≡ Fault code place
unfolding lift3
lift3-second rule first code place third = refl

pub lift3-first : {A B C D : Type 0} (rule : A → B → C → Verdict D) (code : TypeCode) (place : Place) (second : Verdict B) (third : Verdict C)
    → lift3 rule (Fault code place) second third ≡ Fault code place
unfolding lift3
lift3-first rule code place second third = refl

-- a type error of a part is one of the whole
pub lift-refused : {A B : Type 0} (rule : A → Verdict B) (v : Verdict A) (r : TypeRefusal) → IsRefused v r → IsRefused (lift rule v) r
lift-refused rule v (Code code place) e = ap (lift rule) e ∙ lift-fault rule code place
lift-refused rule v Memory e = tt

pub lift2-refused-first : {A B C : Type 0} (rule : A → B → Verdict C) (first : Verdict A) (second : Verdict B) (r : TypeRefusal) → IsRefused first r
    → IsRefused (lift2 rule first second) r
lift2-refused-first rule first second (Code code place) e = ap (λ x. lift2 rule x second) e ∙ lift2-first rule code place second
lift2-refused-first rule first second Memory e = tt

pub lift2-refused-second : {A B C : Type 0} (rule : A → B → Verdict C) (a : A) (second : Verdict B) (r : TypeRefusal) → IsRefused second r
    → IsRefused (lift2 rule (Fine a) second) r
lift2-refused-second rule a second (Code code place) e = ap (lift2 rule (Fine a)) e ∙ lift2-second rule a code place
lift2-refused-second rule a second Memory e = tt

pub lift3-refused-first : {A B C D : Type 0} (rule : A → B → C → Verdict D) (first : Verdict A) (second : Verdict B) (third : Verdict C) (r : TypeRefusal)
    → IsRefused first r → IsRefused (lift3 rule first second third) r
lift3-refused-first rule first second third (Code code place) e = ap (λ x. lift3 rule x second third) e ∙ lift3-first rule code place second third
lift3-refused-first rule first second third Memory e = tt

pub lift3-refused-second : {A B C D : Type 0} (rule : A → B → C → Verdict D) (a : A) (second : Verdict B) (third : Verdict C) (r : TypeRefusal)
    → IsRefused second r → IsRefused (lift3 rule (Fine a) second third) r
lift3-refused-second rule a second third (Code code place) e = ap (λ x. lift3 rule (Fine a) x third) e ∙ lift3-second rule a code place third
lift3-refused-second rule a second third Memory e = tt

pub lift3-refused-third : {A B C D : Type 0} (rule : A → B → C → Verdict D) (a : A) (b : B) (third : Verdict C) (r : TypeRefusal) → IsRefused third r
    → IsRefused (lift3 rule (Fine a) (Fine b) third) r
lift3-refused-third rule a b third (Code code place) e = ap (lift3 rule (Fine a) (Fine b)) e ∙ lift3-third rule a b code place
lift3-refused-third rule a b third Memory e = tt

-- the results of rules
pub ruleset lifts = (lift-fine, lift-fault, lift2-fine, lift2-second, lift2-first, lift3-fine, lift3-third, lift3-second, lift3-first, lift-refused)

-- what holds for a result holds for an equal one
pub yields_as : {v w : Verdict Typed} (r : Result Expr TypeRefusal) → v ≡ w → Yields w r → Yields v r
yields_as r e h = subst (λ x. Yields x r) (sym e) h

pub refused_as : {A : Type 0} {v w : Verdict A} (r : TypeRefusal) → v ≡ w → IsRefused w r → IsRefused v r
refused_as r e h = subst (λ x. IsRefused x r) (sym e) h
