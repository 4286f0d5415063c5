use Rattle.std.proofs.Common.{length}
use Rattle.cs_pmap.proofs.merge.+built.Given as goal

abbrev pub decreases-built : goal.decreases-built
decreases-built g l = length l.entries.now
