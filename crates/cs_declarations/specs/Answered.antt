-- How functions that change their arguments report the verdicts of rules.
use Rattle.std.specs.Prelude.{◌≡◌, Result, Ok, Err}
use Rattle.cs_scopes.specs.declared.refusal.TypeRefusal.{TypeRefusal}
use Rattle.cs_scopes.specs.declared.refusal.TypeRefusal.TheVariants.{Code, Memory}
use Rattle.cs_scopes.specs.Verdicts.{Verdict, Fine, IsRefused}

-- the result, under a view together with what was changed, is the verdict's value
abbrev pub AnswersWith : {A B C : Type 0} → (A → B → C) → Verdict C → Result A TypeRefusal → B → Type 0
AnswersWith view verdict (Ok answer) changed = verdict ≡ Fine (view answer changed)
AnswersWith view verdict (Err refusal) changed = IsRefused verdict refusal

-- what was changed is the verdict's value
abbrev pub Leaves : {A B : Type 0} → Verdict B → Result A TypeRefusal → B → Type 0
Leaves verdict (Ok answer) changed = verdict ≡ Fine changed
Leaves verdict (Err refusal) changed = IsRefused verdict refusal

-- what holds unless memory ran out, whether the result is a value or a refusal
abbrev pub UnlessMemory : {A : Type 0} → Result A TypeRefusal → Type 0 → Type 0
UnlessMemory (Ok answer) P = P
UnlessMemory (Err (Code code place)) P = P
UnlessMemory (Err Memory) P = Unit {0}
