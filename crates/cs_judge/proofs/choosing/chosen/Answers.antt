use Rattle.std.proofs.Common.{sym, subst}
use Rattle.cs_judge.specs.Choosing.{GivesGround}
use Rattle.cs_judge.proofs.Candidates.{unwrapped}
use Rattle.cs_judge.proofs.choosing.chosen.Goals as goal

pub returns-clause-others : goal.returns-clause-others
returns-clause-others c numbers pairs are ground =
    subst (GivesGround c.args.candidates.now c.args.model c.args.operation.now) (sym c.unwrap_or.ensures)
    (unwrapped (GivesGround c.args.candidates.now c.args.model c.args.operation.now) c.one_or_two-others.result _ c.one_or_two-others.ensures.given
    (c.one_or_two-others.ensures.found numbers pairs are ground))
