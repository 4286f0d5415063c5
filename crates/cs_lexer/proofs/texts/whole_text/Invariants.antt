use Rattle.std.proofs.Common.{length}
use Rattle.cs_lexer.proofs.JoinedTexts.{Gathered}
use Rattle.cs_lexer.proofs.texts.whole_text.Given as goal

abbrev pub invariant-loop-next : goal.invariant-loop-next
invariant-loop-next l = Gathered l.fn.first l.fn.left.items l.bytes.items l.left.items

abbrev pub decreases-loop-next : goal.decreases-loop-next
decreases-loop-next l = length l.left.items
