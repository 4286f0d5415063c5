use Rattle.std.proofs.Common.{◌∙◌, ap, sym, subst}
use Rattle.std.specs.Prelude.{Some}
use Rattle.cs_store.proofs.Same.{AreFound, all_found, same_insert}
use Rattle.cs_store.proofs.store.listed.Goals as goal

pub loop-key-init : goal.loop-key-init
loop-key-init c =
    (c.in_ok-listed.ensures, rw (c.into_iter-key-iterator.ensures.into_iter_gives, c.in_ok-items.ensures) (all_found c.args.regions.now))

pub loop-key-preserved-in-Continue-branch-5 : goal.loop-key-preserved-in-Continue-branch-5
loop-key-preserved-in-Continue-branch-5 c =
    let same = rw c.in-Some-2.is at c.in_ok-same.ensures in
    let found = subst (AreFound c.args.regions.now) c.in-Some.ensures.steps c.loop-key.invariant.1 in (
      rw (c.in_ok-insert.ensures.ok, c.loop-key.invariant.0) (same_insert c.args.regions.now _ _ (found.0 ∙ ap (λ v. Some v) (sym same))),
      found.1,
    )
