use Rattle.std.proofs.Common.{sym, subst, ◌∙◌}
use Rattle.cs_store.specs.Held.{AreInUse}
use Rattle.cs_store.specs.Contents.{Contents, HasOffsets, HoldsNothing}
use Rattle.cs_store.proofs.Keys.{no_offsets}
use Rattle.cs_store.proofs.Regions.{held_here, held_elsewhere, held_filled}
use Rattle.cs_store.proofs.InUse.{in_use_insert, in_use_less, filled_something, left_was_there, held_removed, held_left}
use Rattle.cs_store.proofs.store.Store.bind_default.Goals as goal

pub invariant_of-self : goal.invariant_of-self
invariant_of-self c = (c.self.invariant.0, subst AreInUse (sym c.in_err-remove.ensures.err) c.self.invariant.1)

pub invariant_of-self-in-Unset : goal.invariant_of-self-in-Unset
invariant_of-self-in-Unset c = (
  c.self.invariant.0,
  subst AreInUse (sym c.in_ok-remove.ensures.ok)
      (in_use_less c.self.inside.regions _ (left_was_there c.self.inside.regions (c.args.base, 0)) c.self.invariant.1),
)

pub returns-in-Unset-clause-here : goal.returns-in-Unset-clause-here
returns-in-Unset-clause-here c =
    rw (c.in_ok-remove.ensures.ok, c.in-Unset.is) (held_removed c.self.inside.regions c.args.base)

pub returns-in-Unset-clause-elsewhere : goal.returns-in-Unset-clause-elsewhere
returns-in-Unset-clause-elsewhere c =
    rw (c.in_ok-remove.ensures.ok, ← c.self.view_is) (λ b o. held_left c.self.inside.regions c.args.base b o)

pub invariant_of-self-2 : goal.invariant_of-self-2
invariant_of-self-2 c =
    let some = subst (λ contents. ¬ HoldsNothing contents) (sym c.filled-region.ensures) (filled_something c.args.fill c.in_default.not-Unset) in
    let plain = subst (λ (contents : Contents). HasOffsets contents.direct) (sym c.filled-region.ensures) no_offsets in
    (c.self.invariant.0, subst AreInUse (sym c.in_ok-insert.ensures.ok) (in_use_insert c.self.inside.regions c.args.base _ c.self.invariant.1 some plain))

pub returns : goal.returns
returns c = record {
  here = rw (c.in_ok-insert.ensures.ok, c.filled-region.ensures) (λ o. held_here _ c.args.base o _ ∙ held_filled c.args.fill o);
  elsewhere = rw (c.in_ok-insert.ensures.ok, ← c.self.view_is) (λ b o. held_elsewhere _ c.args.base b o _);
  err = tt;
}
