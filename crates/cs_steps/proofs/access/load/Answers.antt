use Rattle.std.proofs.Common.{refl}
use Rattle.cs_types.specs.Shape.{integer}
use Rattle.cs_cfg.specs.GraphView as view
use Rattle.cs_progress.proofs.KeptLocals.{named_local}
use Rattle.cs_operators.proofs.Checking.{every_kept}
use Rattle.cs_steps.specs.Loading.{load_part}
use Rattle.cs_steps.proofs.Loading.{load_waits, load_done, load_handed}
use Rattle.cs_steps.proofs.access.load.Goals as goal

pub returns-in_err-reached-clause-integer : goal.returns-in_err-reached-clause-integer
returns-in_err-reached-clause-integer g c = λ every program names known extends once alone integer inside.
    let state = c.args.state.now in
    let access = view.access c.args.access.now in
    let reaches = c.in_err-reached.ensures.act integer.direct names.bases (named_local names.bases known _ _ c.args.place inside) in
    load_handed program names known state alone _ _ _ c.from_residual.result (load_part program names state access c.args.place)
    c.in_err-reached.field-0.0 c.from_residual.ensures
    (λ waits. (refl, load_waits program names known state alone access c.args.place integer _ _ (reaches.waits waits)))

pub returns-clause-integer : goal.returns-clause-integer
returns-clause-integer g c = λ every program names known extends once alone integer inside.
    let state = c.args.state.now in
    let access = view.access c.args.access.now in
    let reaches = c.in_ok-reached.ensures.act integer.direct names.bases (named_local names.bases known _ _ c.args.place inside) in
    let local = c.in_ok-reached.ensures.local integer.direct names.bases known _ _ inside in
    load_done program names known state alone access c.args.place integer c.in_ok-reached.reached _ _ _ reaches.through c.load_scalar.new.state
    c.load_scalar.result
    (c.load_scalar.ensures.local (every_kept _ _ _ c.in_ok-reached.ensures.kinds every) program names known extends once alone local)
