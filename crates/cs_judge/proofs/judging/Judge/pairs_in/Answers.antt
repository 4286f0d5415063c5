use Rattle.std.proofs.Common.{subst}
use Rattle.cs_results.specs.declared.run.Others.{Others}
use Rattle.cs_findings.specs.Runs.{AllRelated}
use Rattle.cs_judge.specs.Partnering.{Meets}
use Rattle.cs_judge.proofs.Spots.{first_of, second_of}
use Rattle.cs_judge.proofs.judging.Judge.pairs_in.Goals as goal

pub returns-in_err-one-in-Two-clause-found : goal.returns-in_err-one-in-Two-clause-found
returns-in_err-one-in-Two-clause-found c pairs able are =
    let it = first_of (Meets c.args.self.now c.args.mine.now c.args.spot.now) c.in-Two.first c.in-Two.second pairs
    (subst (λ (numbers : Others _). AllRelated (Meets c.args.self.now c.args.mine.now c.args.spot.now) numbers pairs) c.in-Two.is are) in
    absurd (let e = c.in_err-one-in-Two.ensures.found it.0 able it.1 in cc)

pub returns-in_err-other-in-Two-clause-found : goal.returns-in_err-other-in-Two-clause-found
returns-in_err-other-in-Two-clause-found c pairs able are =
    let it = second_of (Meets c.args.self.now c.args.mine.now c.args.spot.now) c.in-Two.first c.in-Two.second pairs
    (subst (λ (numbers : Others _). AllRelated (Meets c.args.self.now c.args.mine.now c.args.spot.now) numbers pairs) c.in-Two.is are) in
    absurd (let e = c.in_err-other-in-Two.ensures.found it.0 able it.1 in cc)
