use Rattle.std.proofs.Common.{◌≡◌, refl, sym, ap, subst}
use Rattle.cs_cfg.specs.Graph as graph
use Rattle.cs_cfg.specs.GraphView as view
use Rattle.cs_cfg.specs.Working.{do_work}
use Rattle.cs_state.specs.declared.temporary.Temporary.{Temporary}
use Rattle.cs_progress.specs.Operands.{IsOperandAt}
use Rattle.cs_progress.specs.Locals.{MayAllBeIn}
use Rattle.cs_progress.proofs.Carrying.{no_wait}
use Rattle.cs_steps.specs.Storing.{store_part}
use Rattle.cs_steps.proofs.Working.{works_handed, works_replaced}
use Rattle.cs_steps.proofs.Assigning.{assign_leads, store_leads, store_stands}
use Rattle.cs_steps.proofs.work.assign.Goals as goal

pub returns-in_err-place-clause-work : goal.returns-in_err-place-clause-work
returns-in_err-place-clause-work g c = λ every at code names program budgets known model extends once alone integer.
    works_handed code names program known c.args.state.now _ _ _ c.from_residual.result
    (do_work code program budgets at (graph.Store (view.access c.args.access.now))) c.in_err-place.field-0.0 c.from_residual.ensures
    (λ waits. no_wait _ c.in_err-place.ensures.memory waits)

pub returns-in_err-store-clause-work : goal.returns-in_err-store-clause-work
returns-in_err-store-clause-work g c = λ every at code names program budgets known model extends once alone integer.
    let state = c.args.state.now in
    let access = view.access c.args.access.now in
    let place = c.in_ok-place.place in
    let stored = c.in_ok-stored.stored in
    let is : stored ≡ c.in_ok-operand.field-0.now = c.in_ok-stored.ensures.cases in
    let at_0 : IsOperandAt state 0 stored = subst (IsOperandAt state 0) (sym is) c.in_ok-operand.ensures.operand in
    let within : MayAllBeIn state stored = subst (MayAllBeIn state) (sym is) c.in_ok-operand.ensures.within in
    let act = do_work code program budgets at (graph.Store access) in
    let stores = c.in_err-store.ensures.integer every program names known extends once alone integer
    (c.in_ok-place.ensures.within program names.bases known alone) (within program names.bases known alone) at in
    works_handed code names program known state _ _ _ c.from_residual-in_err-store.result act c.in_err-store.field-0.0
    c.from_residual-in_err-store.ensures
    (λ waits. (
      stores.unchanged waits,
      store_stands code names program state act (store_part program names state at access place stored) 2 stored _ _
          (assign_leads code names program state budgets at access place stored c.in_ok-place.ensures.value at_0 _) _ (stores.act.waits waits),
    ))

pub returns-clause-work : goal.returns-clause-work
returns-clause-work g c = λ every at code names program budgets known model extends once alone integer.
    let state = c.args.state.now in
    let access = view.access c.args.access.now in
    let place = c.in_ok-place.place in
    let stored = c.in_ok-stored.stored in
    let is : stored ≡ c.in_ok-operand.field-0.now = c.in_ok-stored.ensures.cases in
    let left : c.in_ok-left.left ≡ stored = c.in_ok-left.ensures.cases in
    let at_0 : IsOperandAt state 0 stored = subst (IsOperandAt state 0) (sym is) c.in_ok-operand.ensures.operand in
    let within : MayAllBeIn state stored = subst (MayAllBeIn state) (sym is) c.in_ok-operand.ensures.within in
    let act = do_work code program budgets at (graph.Store access) in
    let stores = c.in_ok-store.ensures.integer every program names known extends once alone integer
    (c.in_ok-place.ensures.within program names.bases known alone) (within program names.bases known alone) at in
    works_replaced code names program known state c.replace.new.state _ _ c.replace.result act c.store.new.state stores.rest stores.locals 2 stored
    (within program names.bases known alone) (rw left at c.replace.ensures.left) (rw left at c.replace.ensures.means) c.replace.ensures.memory
    (store_leads code names program state act (store_part program names state at access place stored) 2 stored _ _
    (assign_leads code names program state budgets at access place stored c.in_ok-place.ensures.value at_0 _) _ _ stores.act.through)
