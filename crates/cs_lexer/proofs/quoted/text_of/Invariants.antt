use Rattle.std.proofs.Common.{length}
use Rattle.cs_lexer.proofs.Literals.{Progress}
use Rattle.cs_lexer.proofs.quoted.text_of.Given as goal

abbrev pub invariant-loop-rest : goal.invariant-loop-rest
invariant-loop-rest l = Progress l.body l.values.items l.rest

abbrev pub decreases-loop-rest : goal.decreases-loop-rest
decreases-loop-rest l = length l.rest
