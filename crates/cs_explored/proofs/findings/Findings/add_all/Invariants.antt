use Rattle.cs_explored.proofs.Placed.{PlacedSoFar}
use Rattle.cs_explored.proofs.findings.Findings.add_all.Given as goal

abbrev pub invariant-loop-child : goal.invariant-loop-child
invariant-loop-child l = PlacedSoFar l.row l.yielded l.fn.self l.self
