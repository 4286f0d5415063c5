use Rattle.cs_store.proofs.Keys.{no_offsets}
use Rattle.cs_store.proofs.region.Region.filled.Goals as goal

pub invariant_of-result : goal.invariant_of-result
invariant_of-result c = (rw c.new.ensures no_offsets, tt)
