use Rattle.std.proofs.Common.{ℕ, ◌<◌}
use Rattle.cs_lexer.specs.Comments.{IsEnd}
use Rattle.cs_lexer.proofs.comment.comment_end.Given as goal

abbrev pub invariant-loop-i : goal.invariant-loop-i
invariant-loop-i l = (k : ℕ) → k < l.i → IsEnd l.bytes k → ⊥
