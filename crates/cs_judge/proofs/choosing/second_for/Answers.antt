use Rattle.cs_results.specs.declared.run.Others.TheVariants.{Two}
use Rattle.cs_judge.specs.declared.choosing.Candidate.{Candidate}
use Rattle.cs_judge.specs.Choosing.{IsGround}
use Rattle.cs_judge.proofs.Candidates.{refused, one_more, of_all}
use Rattle.cs_judge.proofs.choosing.second_for.Goals as goal

pub loop-other-preserved : goal.loop-other-preserved
loop-other-preserved c =
    one_more (λ (it : Candidate). IsGround c.args.model c.args.operation.now (Two c.args.one.pair it.pair) → ⊥) c.args.candidates.now
    c.loop-other.other-index _ c.loop-other-test.true c.loop-other.invariant
    (refused (λ ground. c.if-has_ground.ensures.found ground.computable ground.small ground.others_small ground.has_reason))

pub returns-clause-found : goal.returns-clause-found
returns-clause-found c number pair candidate ground =
    absurd (of_all (λ (it : Candidate). IsGround c.args.model c.args.operation.now (Two c.args.one.pair it.pair) → ⊥) c.args.candidates.now
    c.loop-other.other-index c.loop-other-test.false c.loop-other.invariant candidate.place _ candidate.there ground)
