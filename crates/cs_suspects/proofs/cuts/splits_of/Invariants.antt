use Rattle.std.proofs.Common.{◌≡◌, [], All, take}
use Rattle.std.specs.BTreeMap.{IsOrdered}
use Rattle.cs_suspects.specs.Spots.{spot_order, IsNodes}
use Rattle.cs_suspects.proofs.cuts.splits_of.Given as goal

abbrev pub invariant-loop-cut : goal.invariant-loop-cut
invariant-loop-cut l = record {
  ordered : IsOrdered spot_order l.splits;
  some : l.splits.entries ≡ [] → All IsNodes (take l.cut-index l.cuts);
  none : All IsNodes (take l.cut-index l.cuts) → l.splits.entries ≡ [];
}
