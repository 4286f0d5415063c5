use Rattle.cs_judge.specs.Partnering.{AreCandidatesBelow}
use Rattle.cs_judge.proofs.judging.Judge.candidates.Given as goal

abbrev pub invariant-loop-number : goal.invariant-loop-number
invariant-loop-number l = AreCandidatesBelow l.self l.mine l.spot l.number l.found.items
