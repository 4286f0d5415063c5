use Rattle.std.proofs.Common.{◌≡◌, ◌++◌, map}
use Rattle.cs_suspects.specs.Spots.{cut_of_access}
use Rattle.cs_suspects.proofs.cuts.list_splits.Given as goal

abbrev pub invariant-loop-spot : goal.invariant-loop-spot
invariant-loop-spot l = l.listed.items ++ map cut_of_access l.spot-iterator ≡ l.fn.listed.items ++ map cut_of_access l.splits.entries
