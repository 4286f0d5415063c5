use Rattle.std.proofs.Common.{take}
use Rattle.cs_state.specs.Naming.{naming}
use Rattle.cs_suspects.proofs.Suspecting.{SuspectedSoFar}
use Rattle.cs_suspects.proofs.suspected.suspects.Given as goal

abbrev pub invariant-loop-number : goal.invariant-loop-number
invariant-loop-number l = SuspectedSoFar (naming l.explored.tables) l.explored.ends.items (take l.number-index l.number-items) l.suspects.items
