use Rattle.std.proofs.Common.{length}
use Rattle.cs_lexer.proofs.Groups.{Sifted}
use Rattle.cs_lexer.proofs.attributes.sifted.Given as goal

abbrev pub invariant-loop-token : goal.invariant-loop-token
invariant-loop-token l = Sifted l.fn.tokens.items l.left.items l.closings.items l.depth l.kept.items

abbrev pub decreases-loop-token : goal.decreases-loop-token
decreases-loop-token l = length l.left.items
