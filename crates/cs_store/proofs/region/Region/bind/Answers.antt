use Rattle.cs_store.proofs.Keys.{more_offsets}
use Rattle.cs_store.proofs.region.Region.bind.Goals as goal

pub invariant_of-self-2 : goal.invariant_of-self-2
invariant_of-self-2 c = (rw c.in_ok-insert.ensures.ok (more_offsets _ c.args.offset c.args.value c.self.invariant.0), tt)
