use Rattle.std.proofs.Common.{take}
use Rattle.cs_suspects.specs.Chosen.{numbers_of, counted}
use Rattle.cs_suspects.proofs.ChosenEnds.{ChosenSoFar}
use Rattle.cs_suspects.proofs.choosing.chosen.Given as goal

abbrev pub invariant-loop-rank : goal.invariant-loop-rank
invariant-loop-rank l = ChosenSoFar l.ends (numbers_of (take l.rank-index l.rank-items)) (counted l.counts.items) l.numbers.items
