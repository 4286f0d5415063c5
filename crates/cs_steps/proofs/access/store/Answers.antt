use Rattle.std.proofs.Common.{refl}
use Rattle.std.proofs.lemmas.Result.{on_ok_weaker}
use Rattle.cs_types.specs.Shape.{shape_of}
use Rattle.cs_cfg.specs.GraphView as view
use Rattle.cs_steps.specs.Storing.{store_part}
use Rattle.cs_steps.proofs.Storing.{store_waits, stored_through, store_handed, store_done}
use Rattle.cs_steps.proofs.access.store.Goals as goal

pub returns-in_err-reached-clause-integer : goal.returns-in_err-reached-clause-integer
returns-in_err-reached-clause-integer g c = λ every program names known extends once alone integer inside within at.
    let state = c.args.state.now in
    let access = view.access c.args.access.now in
    let reaches = c.in_err-reached.ensures.act every integer.direct program names known _ _ extends inside in
    store_handed program names known state _ _ _ c.from_residual.result
    (store_part program names state at access c.args.place c.args.operand) c.in_err-reached.field-0.0 c.from_residual.ensures
    (λ waits. (refl, store_waits program names known state at access integer c.args.place c.args.operand _ _ (reaches.waits waits)))

pub returns-clause-integer : goal.returns-clause-integer
returns-clause-integer g c = λ every program names known extends once alone integer inside within at.
    let state = c.args.state.now in
    let after = c.write.new.state in
    let access = view.access c.args.access.now in
    let reached = c.in_ok-reached.reached in
    let reaches = c.in_ok-reached.ensures.act every integer.direct program names known _ _ extends inside in
    let local = c.in_ok-reached.ensures.local integer.direct names.bases known _ _ inside in
    store_done program names known state after _ _ c.write.result (store_part program names state at access c.args.place c.args.operand)
    access.ty reached c.args.operand
    (on_ok_weaker c.write.result (λ written. written program names known once alone within) c.write.ensures.written) c.write.ensures.memory
    (λ written. stored_through program names known state at access integer c.args.place c.args.operand after _ _ reached local _ _ reaches.through written)
