-- The suspects before the index have ranks.
use Rattle.cs_witness.specs.Ranks.{AreRanked}
use Rattle.cs_witness.proofs.witness.ranked.Given as goal

abbrev pub invariant-loop-number : goal.invariant-loop-number
invariant-loop-number l = AreRanked l.number l.ranks.items
