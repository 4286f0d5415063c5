use Rattle.std.proofs.Common.{ℕ}
use Rattle.cs_findings.specs.Grounds.{Pair}
use Rattle.cs_results.specs.declared.run.Others.TheVariants.{Two}
use Rattle.cs_judge.specs.declared.choosing.Candidate.{Candidate}
use Rattle.cs_judge.specs.Choosing.{IsGround, IsCandidate}
use Rattle.cs_judge.proofs.Candidates.{refused, one_more, of_all, candidate_at}
use Rattle.cs_judge.proofs.choosing.two_together.Goals as goal

pub returns-in-Some-clause-given : goal.returns-in-Some-clause-given
returns-in-Some-clause-given c =
    let with = c.in-Some.ensures.given in
    record {
      pairs = Two _ with.second;
      are = (candidate_at c.args.candidates.now c.loop-one.one-index _ c.loop-one-test.true, with.candidate);
      small = with.small;
      has_reason = with.has_reason;
    }

pub loop-one-preserved : goal.loop-one-preserved
loop-one-preserved c =
    one_more (λ (it : Candidate). (number : ℕ) (pair : Pair) → IsCandidate c.args.candidates.now number pair
    → IsGround c.args.model c.args.operation.now (Two it.pair pair) → ⊥) c.args.candidates.now c.loop-one.one-index _ c.loop-one-test.true
    c.loop-one.invariant (λ number pair candidate. refused (c.in_default.ensures.found number pair candidate))

pub returns-clause-found : goal.returns-clause-found
returns-clause-found c one two first second candidate other ground =
    absurd (of_all (λ (it : Candidate). (number : ℕ) (pair : Pair) → IsCandidate c.args.candidates.now number pair
    → IsGround c.args.model c.args.operation.now (Two it.pair pair) → ⊥) c.args.candidates.now c.loop-one.one-index c.loop-one-test.false
    c.loop-one.invariant candidate.place _ candidate.there two second other ground)
