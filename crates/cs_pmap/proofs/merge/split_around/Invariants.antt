use Rattle.std.proofs.Common.{◌-◌}
use Rattle.cs_pmap.proofs.PutAll.{Searched}
use Rattle.cs_pmap.proofs.merge.split_around.Given as goal

abbrev pub invariant-loop-low : goal.invariant-loop-low
invariant-loop-low g l = Searched l.entries l.key l.low l.high

abbrev pub decreases-loop-low : goal.decreases-loop-low
decreases-loop-low g l = l.high - l.low
