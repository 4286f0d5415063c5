use Rattle.std.proofs.Common.{ap, ◌∙◌}
use Rattle.std.proofs.lemmas.Result.{on_ok_weaker}
use Rattle.std.specs.FinMap.{insert}
use Rattle.cs_store.specs.Contents.{held_in, with_binding}
use Rattle.cs_store.specs.Held.{held}
use Rattle.cs_store.proofs.InUse.{bound_something}
use Rattle.cs_store.proofs.Regions.{held_here, bound_here, bind_elsewhere}
use Rattle.cs_store.proofs.store.Store.bind.Goals as goal

pub put-requires : goal.put-requires
put-requires c =
    bound_something c.bind.new.self c.args.offset c.args.value (ap (λ z. held_in z c.args.offset) c.in_ok-bind.ensures.ok
    ∙ bound_here _ c.args.offset c.args.value)

pub returns-clause-here : goal.returns-clause-here
returns-clause-here c =
    let bound = ap (λ z. held_in z c.args.offset) c.in_ok-bind.ensures.ok ∙ bound_here _ c.args.offset c.args.value in
    on_ok_weaker c.put.result (λ e. rw e (held_here _ c.args.base c.args.offset _ ∙ bound)) c.put.ensures.ok

pub returns-clause-elsewhere : goal.returns-clause-elsewhere
returns-clause-elsewhere c =
    let region = c.in_ok-bind.ensures.ok
    ∙ ap (λ r. with_binding r c.args.offset c.args.value) (c.in_ok-region.ensures.cases ∙ c.region.ensures) in
    on_ok_weaker c.put.result
    (λ e. rw e (λ b o differ.
    ap (λ z. held (insert c.args.self.now (c.args.base, 0) z) b o) region
    ∙ bind_elsewhere c.args.self.now c.args.base c.args.offset c.args.value b o differ))
    c.put.ensures.ok
