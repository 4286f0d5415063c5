use Rattle.std.proofs.Common.{◌≢◌, IsTrue, rules}
use Rattle.cs_findings.specs.Operands.{operands}
use Rattle.cs_judge.specs.declared.choosing.Candidate.{Candidate}
use Rattle.cs_judge.proofs.Candidates.{refused, one_more, of_all, names_other}
use Rattle.cs_judge.proofs.choosing.other_right.Goals as goal

pub returns-then-differs_right : goal.returns-then-differs_right
returns-then-differs_right c number pair candidate differs =
    let found : IsTrue c.differs_right.result = search rules in
    names_other c.args.candidates.now c.args.operation.now (λ pair. pair.1) c.loop-one.one-index _ c.loop-one-test.true (c.differs_right.ensures.0 found)

pub loop-one-preserved : goal.loop-one-preserved
loop-one-preserved c =
    one_more (λ (it : Candidate). it.pair.1 ≢ (operands c.args.operation.now).1 → ⊥) c.args.candidates.now c.loop-one.one-index _ c.loop-one-test.true
    c.loop-one.invariant (refused c.if-differs_right.ensures.1)

pub returns : goal.returns
returns c number pair candidate differs =
    absurd (of_all (λ (it : Candidate). it.pair.1 ≢ (operands c.args.operation.now).1 → ⊥) c.args.candidates.now c.loop-one.one-index c.loop-one-test.false
    c.loop-one.invariant candidate.place _ candidate.there differs)
