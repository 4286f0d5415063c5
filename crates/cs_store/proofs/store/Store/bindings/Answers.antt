use Rattle.std.proofs.Common.{subst}
use Rattle.std.specs.Prelude.{IfOk}
use Rattle.cs_store.specs.Contents.{IsListing}
use Rattle.cs_store.proofs.store.Store.bindings.Goals as goal

pub returns : goal.returns
returns c = subst (λ contents. IfOk c.bindings.result (IsListing contents)) c.region.ensures c.bindings.ensures.listing
