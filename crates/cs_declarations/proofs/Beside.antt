-- The result of a function that changes nothing of what is known: for types and members.
use Rattle.std.proofs.Common.{◌≡◌, Result, Ok, Err, ap, ◌∙◌}
use Rattle.cs_scopes.specs.declared.refusal.TypeRefusal.{TypeRefusal}
use Rattle.cs_scopes.specs.Verdicts.{Verdict, Fine, lift, Answers}
use Rattle.cs_scopes.proofs.Lifting.{lift-fine, lift-refused}
use Rattle.cs_declarations.specs.Answered.{AnswersWith}

pub known_beside : {A B C K : Type 0} (view : A → B) (rule : B → Verdict C) (whole : A → K → C) (v : Verdict B) (r : Result A TypeRefusal) (k : K)
    → ((a : A) → rule (view a) ≡ Fine (whole a k)) → Answers view v r → AnswersWith whole (lift rule v) r k
known_beside view rule whole v (Ok a) k same e = ap (lift rule) e ∙ lift-fine rule (view a) ∙ same a
known_beside view rule whole v (Err refusal) k same h = lift-refused rule v refusal h
