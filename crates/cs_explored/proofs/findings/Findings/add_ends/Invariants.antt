use Rattle.cs_explored.proofs.Placed.{EndedSoFar}
use Rattle.cs_explored.proofs.findings.Findings.add_ends.Given as goal

abbrev pub invariant-loop-outcome : goal.invariant-loop-outcome
invariant-loop-outcome l = EndedSoFar l.row l.yielded l.fn.self l.self
