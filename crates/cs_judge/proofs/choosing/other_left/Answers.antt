use Rattle.std.proofs.Common.{◌≢◌, IsTrue, rules}
use Rattle.cs_findings.specs.Operands.{operands}
use Rattle.cs_judge.specs.declared.choosing.Candidate.{Candidate}
use Rattle.cs_judge.proofs.Candidates.{refused, one_more, of_all, names_other}
use Rattle.cs_judge.proofs.choosing.other_left.Goals as goal

pub returns-then-differs_left : goal.returns-then-differs_left
returns-then-differs_left c number pair candidate differs =
    let found : IsTrue c.differs_left.result = search rules in
    names_other c.args.candidates.now c.args.operation.now (λ pair. pair.0) c.loop-one.one-index _ c.loop-one-test.true (c.differs_left.ensures.0 found)

pub loop-one-preserved : goal.loop-one-preserved
loop-one-preserved c =
    one_more (λ (it : Candidate). it.pair.0 ≢ (operands c.args.operation.now).0 → ⊥) c.args.candidates.now c.loop-one.one-index _ c.loop-one-test.true
    c.loop-one.invariant (refused c.if-differs_left.ensures.1)

pub returns : goal.returns
returns c number pair candidate differs =
    absurd (of_all (λ (it : Candidate). it.pair.0 ≢ (operands c.args.operation.now).0 → ⊥) c.args.candidates.now c.loop-one.one-index c.loop-one-test.false
    c.loop-one.invariant candidate.place _ candidate.there differs)
