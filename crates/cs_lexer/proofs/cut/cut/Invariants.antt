use Rattle.std.proofs.Common.{length}
use Rattle.cs_lexer.proofs.CutSoFar.{CutSoFar}
use Rattle.cs_lexer.proofs.cut.cut.Given as goal

abbrev pub invariant-loop-rest : goal.invariant-loop-rest
invariant-loop-rest l = CutSoFar l.text l.files l.tokens.items l.spot l.rest

abbrev pub decreases-loop-rest : goal.decreases-loop-rest
decreases-loop-rest l = length l.rest
