use Rattle.cs_lexer.proofs.Groups.{Counted}
use Rattle.cs_lexer.proofs.attributes.closings.Given as goal

abbrev pub invariant-loop-token : goal.invariant-loop-token
invariant-loop-token l = Counted l.reversed l.token-index l.surplus l.made.items
