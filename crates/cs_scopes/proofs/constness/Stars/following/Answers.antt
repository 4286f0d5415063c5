use Rattle.std.proofs.Common.{◌++◌, ◌∷◌, [], sym, subst}
use Rattle.std.specs.Prelude.{Some, false, true}
use Rattle.cs_scopes.specs.Constness.{AreLastStars}
use Rattle.cs_scopes.proofs.LastStars.{star_after, const_after, const_first}
use Rattle.cs_scopes.proofs.constness.Stars.following.Goals as goal

pub returns-in-Star-default : goal.returns-in-Star-default
returns-in-Star-default c = λ before are.
    subst (λ w. AreLastStars (before ++ w ∷ []) (record { last = Some false; before = c.args.self.last })) (sym c.in-Star-default.is-0)
    (star_after before c.args.self are)

pub returns-in-Const-Some : goal.returns-in-Const-Some
returns-in-Const-Some c = λ before are.
    subst (λ w. AreLastStars (before ++ w ∷ []) (record { last = Some true; before = c.args.self.before })) (sym c.in-Const-Some.is-0)
    (const_after before c.args.self _ c.in-Const-Some.is-1 are)

pub returns-in-Const-None : goal.returns-in-Const-None
returns-in-Const-None c = λ before are.
    subst (λ w. AreLastStars (before ++ w ∷ []) c.args.self) (sym c.in-Const-None.is-0) (const_first before c.args.self c.in-Const-None.is-1 are)
