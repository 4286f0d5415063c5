use Rattle.std.proofs.Common.{refl, sym, ap}
use Rattle.cs_cfg.specs.GraphView as view
use Rattle.cs_store.specs.declared.value.Value.TheVariants as value
use Rattle.cs_state.specs.declared.temporary.Temporary.TheVariants as temporary
use Rattle.cs_progress.proofs.Carrying.{no_wait}
use Rattle.cs_operators.proofs.Checking.{every_kept}
use Rattle.cs_steps.specs.Storing.{store_part}
use Rattle.cs_steps.proofs.Assigning.{store_leads, store_stands}
use Rattle.cs_steps.proofs.Updating.{update_act, update_waits, update_leads}
use Rattle.cs_steps.proofs.Working.{works_handed, works_replaced}
use Rattle.cs_steps.proofs.updates.update.Goals as goal

pub returns-in_err-stored-clause-work : goal.returns-in_err-stored-clause-work
returns-in_err-stored-clause-work g c = λ every code names program budgets known model extends once alone integer.
    let state = c.args.state.now in
    let access = view.access c.args.access.now in
    let act = update_act code names program budgets state _ model c.args.at c.args.how.0 access c.args.how.1 c.args.how.2 in
    works_handed code names program known state _ _ _ c.from_residual.result act c.in_err-stored.field-0.0
    c.from_residual.ensures
    (λ waits. (
      refl,
      update_waits code names program budgets state _ model c.args.at c.args.how.0 access c.args.how.1 c.args.how.2 _ _
          ((c.in_err-stored.ensures.act every code names program).waits waits),
    ))

pub returns-in_err-store-clause-work : goal.returns-in_err-store-clause-work
returns-in_err-store-clause-work g c = λ every code names program budgets known model extends once alone integer.
    let state = c.args.state.now in
    let at = c.args.at in
    let access = view.access c.args.access.now in
    let act = update_act code names program budgets state _ model at c.args.how.0 access c.args.how.1 c.args.how.2 in
    let term = c.in_ok-stored.stored in
    let stored = temporary.Scalar (value.Number term) in
    let over = c.in_ok-stored.ensures.over in
    let stores = c.in_err-store.ensures.integer (every_kept _ _ _ c.in_ok-stored.ensures.kinds every) program names known extends once alone integer
    (c.in_ok-place.ensures.within program names.bases known alone) (over program names.bases known alone) at in
    works_handed code names program known state _ _ _ c.from_residual-in_err-store.result act c.in_err-store.field-0.0
    c.from_residual-in_err-store.ensures
    (λ waits. (
      stores.unchanged waits,
      store_stands code names program state act (store_part program names state at access c.in_ok-place.place stored) 4 c.in_ok-left.left _ _
          (update_leads code names program budgets state _ model at c.args.how.0 access c.args.how.1 c.args.how.2 term c.in_ok-left.left c.in_ok-place.place
          c.in_ok-place.ensures.value c.in_ok-left.ensures.operand _ _ (c.in_ok-stored.ensures.act every code names program).through)
          _ (stores.act.waits waits),
    ))

pub returns-clause-work : goal.returns-clause-work
returns-clause-work g c = λ every code names program budgets known model extends once alone integer.
    let state = c.args.state.now in
    let at = c.args.at in
    let access = view.access c.args.access.now in
    let act = update_act code names program budgets state _ model at c.args.how.0 access c.args.how.1 c.args.how.2 in
    let term = c.in_ok-stored.stored in
    let stored = temporary.Scalar (value.Number term) in
    let over = c.in_ok-stored.ensures.over in
    let stores = c.in_ok-store.ensures.integer (every_kept _ _ _ c.in_ok-stored.ensures.kinds every) program names known extends once alone integer
    (c.in_ok-place.ensures.within program names.bases known alone) (over program names.bases known alone) at in
    works_replaced code names program known state c.replace.new.state _ _ c.replace.result act c.store.new.state stores.rest stores.locals 4
    c.in_ok-left.left (c.in_ok-left.ensures.inside over program names.bases known alone) c.replace.ensures.left c.replace.ensures.means
    c.replace.ensures.memory
    (store_leads code names program state act (store_part program names state at access c.in_ok-place.place stored) 4 c.in_ok-left.left _ _
    (update_leads code names program budgets state _ model at c.args.how.0 access c.args.how.1 c.args.how.2 term c.in_ok-left.left c.in_ok-place.place
    c.in_ok-place.ensures.value c.in_ok-left.ensures.operand _ _ (c.in_ok-stored.ensures.act every code names program).through)
    _ _ stores.act.through)
