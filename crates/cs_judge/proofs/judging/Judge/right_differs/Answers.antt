use Rattle.std.proofs.Common.{◌≡◌, ℕ, subst}
use Rattle.cs_judge.specs.Partnering.{Meets}
use Rattle.cs_judge.proofs.judging.Judge.right_differs.Goals as goal

pub returns-in-None-clause-found : goal.returns-in-None-clause-found
returns-in-None-clause-found c able it =
    let same : it.number ≡ c.in-Some.number = cc in
    let meets = subst (λ (number : ℕ). Meets c.args.self.now c.args.mine.now c.args.spot.now number it.both) same it.partner in
    absurd (let e = c.in-None.ensures.found it.both able meets in cc)
