use Rattle.std.proofs.Common.{sym, subst}
use Rattle.cs_store.specs.Held.{AreInUse}
use Rattle.cs_store.proofs.InUse.{in_use_empty}
use Rattle.cs_store.proofs.Regions.{held_nothing}
use Rattle.cs_store.proofs.store.Store.new.Goals as goal

pub invariant_of-result : goal.invariant_of-result
invariant_of-result c = (c.filled.ensures, subst AreInUse (sym c.new.ensures) in_use_empty)

pub returns : goal.returns
returns c = rw c.new.ensures held_nothing
