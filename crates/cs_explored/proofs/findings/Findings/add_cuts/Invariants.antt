use Rattle.std.proofs.Common.{take}
use Rattle.cs_explored.proofs.Placed.{CutSoFar}
use Rattle.cs_explored.proofs.findings.Findings.add_cuts.Given as goal

abbrev pub invariant-loop-cut : goal.invariant-loop-cut
invariant-loop-cut l = CutSoFar (take l.cut-index l.cuts) l.fn.self l.self
