use Rattle.cs_results.specs.declared.run.Others.TheVariants.{One}
use Rattle.cs_judge.specs.declared.choosing.Candidate.{Candidate}
use Rattle.cs_judge.specs.Choosing.{IsGround}
use Rattle.cs_judge.proofs.Candidates.{refused, one_more, of_all}
use Rattle.cs_judge.proofs.choosing.one_alone.Goals as goal

pub loop-one-preserved : goal.loop-one-preserved
loop-one-preserved c =
    one_more (λ (it : Candidate). IsGround c.args.model c.args.operation.now (One it.pair) → ⊥) c.args.candidates.now c.loop-one.one-index _
    c.loop-one-test.true c.loop-one.invariant
    (refused (λ ground. c.if-has_ground.ensures.found ground.computable ground.small ground.others_small ground.has_reason))

pub returns-clause-found : goal.returns-clause-found
returns-clause-found c number pair candidate ground =
    absurd (of_all (λ (it : Candidate). IsGround c.args.model c.args.operation.now (One it.pair) → ⊥) c.args.candidates.now c.loop-one.one-index
    c.loop-one-test.false c.loop-one.invariant candidate.place _ candidate.there ground)
