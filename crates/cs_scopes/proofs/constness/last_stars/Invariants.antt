use Rattle.std.proofs.Common.{take}
use Rattle.cs_scopes.specs.Constness.{AreLastStars}
use Rattle.cs_scopes.proofs.constness.last_stars.Given as goal

abbrev pub invariant-loop-word : goal.invariant-loop-word
invariant-loop-word l = AreLastStars (take l.word-index l.pointers) l.stars
