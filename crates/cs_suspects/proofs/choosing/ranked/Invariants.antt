use Rattle.cs_suspects.specs.Chosen.{numbers_of}
use Rattle.cs_suspects.proofs.ChosenEnds.{RankedSoFar}
use Rattle.cs_suspects.proofs.choosing.ranked.Given as goal

abbrev pub invariant-loop-number : goal.invariant-loop-number
invariant-loop-number l = RankedSoFar l.ends l.number (numbers_of l.ranks.items)
