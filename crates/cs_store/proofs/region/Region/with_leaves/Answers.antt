use Rattle.std.proofs.Common.{◌∙◌, ap}
use Rattle.cs_store.specs.Contents.{Contents, held_in, after_leaves}
use Rattle.cs_store.proofs.Leaves.{leaves_bound, offsets_bound}
use Rattle.cs_store.proofs.region.Region.with_leaves.Goals as goal

pub invariant_of-result : goal.invariant_of-result
invariant_of-result c = (
  offsets_bound c.args.leaves.now c.self.inside.direct c.in_ok-direct.ensures (c.deref.ensures.value ∙ c.in_ok-entries.ensures)
      c.in_ok-insert_all.ensures.ok c.self.invariant.0,
  tt,
)

pub returns : goal.returns
returns c =
    let old : Contents = record { fill = c.self.inside.fill; direct = c.self.inside.direct } in
    λ o. leaves_bound c.args.leaves.now old c.in_ok-direct.ensures (c.deref.ensures.value ∙ c.in_ok-entries.ensures) c.in_ok-insert_all.ensures.ok o
    ∙ ap (λ r. after_leaves c.args.leaves.now o (held_in r o)) c.self.view_is
