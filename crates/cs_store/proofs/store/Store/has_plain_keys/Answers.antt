use Rattle.std.proofs.Common.{subst}
use Rattle.cs_store.specs.Held.{HasPlainKeys}
use Rattle.cs_store.proofs.InUse.{plain_keys}
use Rattle.cs_store.proofs.store.Store.has_plain_keys.Goals as goal

pub returns : goal.returns
returns c = subst HasPlainKeys c.self.view_is (plain_keys c.self.inside.regions c.self.invariant.1)
