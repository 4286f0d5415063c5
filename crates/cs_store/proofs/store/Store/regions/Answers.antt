use Rattle.cs_store.proofs.EntryLists.{region_listing}
use Rattle.cs_store.proofs.store.Store.regions.Goals as goal

pub returns-clause-listing : goal.returns-clause-listing
returns-clause-listing c =
    rw (c.in_ok-iter.ensures, ← c.self.view_is) (region_listing c.self.inside.regions c.self.invariant.1)
