use Rattle.cs_lexer.proofs.Stepping.{Stepped}
use Rattle.cs_lexer.proofs.spot.spot_after.Given as goal

abbrev pub invariant-loop-byte : goal.invariant-loop-byte
invariant-loop-byte l = Stepped l.fn.spot l.bytes l.byte-index l.at
