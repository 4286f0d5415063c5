use Rattle.cs_store.proofs.EntryLists.{listing}
use Rattle.cs_store.proofs.region.Region.bindings.Goals as goal

pub returns-clause-listing : goal.returns-clause-listing
returns-clause-listing c =
    rw (c.in_ok-iter.ensures, ← c.self.view_is) (listing (record { fill = c.self.inside.fill; direct = c.self.inside.direct }) c.self.invariant.0)
