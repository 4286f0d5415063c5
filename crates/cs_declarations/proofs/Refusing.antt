-- The results of functions that stop at a refusal: for every function that continues with the result of another one.
use Rattle.std.proofs.Common.{◌≡◌, Result, Ok, Err, sym, subst}
use Rattle.cs_scopes.specs.declared.refusal.TypeRefusal.{TypeRefusal}
use Rattle.cs_scopes.specs.declared.refusal.TypeRefusal.TheVariants.{Code, Memory}
use Rattle.cs_scopes.specs.Verdicts.{Verdict, IsRefused, Answers}
use Rattle.cs_declarations.specs.Answered.{AnswersWith, UnlessMemory}

pub refused_with : {A B C : Type 0} (view : A → B → C) (verdict : Verdict C) (result : Result A TypeRefusal) (changed : B) (r : TypeRefusal)
    → result ≡ Err r → IsRefused verdict r → AnswersWith view verdict result changed
refused_with view verdict result changed r e h = subst (λ x. AnswersWith view verdict x changed) (sym e) h

pub refused : {A B : Type 0} (view : A → B) (verdict : Verdict B) (result : Result A TypeRefusal) (r : TypeRefusal) → result ≡ Err r
    → IsRefused verdict r → Answers view verdict result
refused view verdict result r e h = subst (Answers view verdict) (sym e) h

-- what holds in any case
pub unless_memory : {A P : Type 0} (result : Result A TypeRefusal) → P → UnlessMemory result P
unless_memory (Ok value) p = p
unless_memory (Err (Code code place)) p = p
unless_memory (Err Memory) p = tt

-- what holds for a function holds for one that returns its error
pub passed_on : {A B : Type 0} (P : Type 0) (first : Result A TypeRefusal) (result : Result B TypeRefusal) (r : TypeRefusal) → first ≡ Err r
    → result ≡ Err r
    → UnlessMemory first P → UnlessMemory result P
passed_on {A} {B} P first result r e f h =
    subst (λ x. UnlessMemory x P) (sym f) (by_refusal r (subst (λ x. UnlessMemory x P) e h))
  where
    by_refusal : (r : TypeRefusal) → UnlessMemory {A = A} (Err r) P → UnlessMemory {A = B} (Err r) P
    by_refusal (Code code place) p = p
    by_refusal Memory p = tt
