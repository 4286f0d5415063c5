use Rattle.std.proofs.Common.{All, take}
use Rattle.cs_suspects.specs.Spots.{IsSplits}
use Rattle.cs_suspects.proofs.cuts.nodes_of.Given as goal

abbrev pub invariant-loop-cut : goal.invariant-loop-cut
invariant-loop-cut l = All IsSplits (take l.cut-index l.cuts)
