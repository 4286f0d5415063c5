use Rattle.std.proofs.Common.{sym, subst}
use Rattle.cs_store.specs.Contents.{Contents, HasOffsets, HoldsNothing}
use Rattle.cs_store.specs.Held.{AreInUse}
use Rattle.cs_store.proofs.InUse.{in_use_insert}
use Rattle.cs_store.proofs.store.Store.put.Goals as goal

pub invariant_of-self-2 : goal.invariant_of-self-2
invariant_of-self-2 c =
    let some = subst (λ contents. ¬ HoldsNothing contents) (sym c.list_if_small.ensures) c.requires in
    let plain = subst (λ (contents : Contents). HasOffsets contents.direct) (sym c.list_if_small.ensures) c.has_offsets.ensures in
    (c.self.invariant.0, subst AreInUse (sym c.in_ok-insert.ensures.ok) (in_use_insert c.self.inside.regions c.args.base _ c.self.invariant.1 some plain))
