use Rattle.std.proofs.Common.{ap, ◌∙◌}
use Rattle.std.proofs.lemmas.Result.{on_ok_weaker}
use Rattle.cs_store.specs.Contents.{held_in, after_leaves}
use Rattle.cs_store.proofs.InUse.{leaves_something}
use Rattle.cs_store.proofs.Regions.{held_here, held_elsewhere}
use Rattle.cs_store.proofs.store.Store.copy_leaves.Goals as goal

pub put-requires : goal.put-requires
put-requires c = leaves_something c.args.leaves.now c.in_ok-region.region _ c.if-is_empty.ensures c.in_ok-region.ensures

pub returns-clause-here : goal.returns-clause-here
returns-clause-here c =
    on_ok_weaker c.put.result
    (λ e. rw e (λ o.
    held_here _ c.args.base o _ ∙ c.in_ok-region.ensures o
    ∙ ap (λ r. after_leaves c.args.leaves.now o (held_in r o)) c.region.ensures))
    c.put.ensures.ok

pub returns-clause-elsewhere : goal.returns-clause-elsewhere
returns-clause-elsewhere c =
    on_ok_weaker c.put.result (λ e. rw e (λ b o. held_elsewhere _ c.args.base b o _)) c.put.ensures.ok
