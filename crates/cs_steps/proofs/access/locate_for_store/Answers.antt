use Rattle.std.proofs.Common.{sym, ◌∙◌}
use Rattle.cs_progress.proofs.Carrying.{handed}
use Rattle.cs_progress.proofs.KeptLocals.{named_local}
use Rattle.cs_operators.proofs.Checking.{every_kept}
use Rattle.cs_operators.specs.Pointing.{cell_in}
use Rattle.cs_steps.specs.Reaching.{cell_reached}
use Rattle.cs_steps.proofs.Storing.{not_constant, for_store, for_store_through, for_store_checked, for_store_waits}
use Rattle.cs_steps.proofs.access.locate_for_store.Goals as goal

pub returns-in_err-reached-clause-act : goal.returns-in_err-reached-clause-act
returns-in_err-reached-clause-act g c = λ every direct program names known frame count extends points.
    let state = c.args.state.now in
    let at = c.args.access.now.place in
    let cell = cell_in names.bases state c.args.place in
    let reaches = c.in_err-reached.ensures.act direct names.bases (named_local names.bases known frame count c.args.place points) in
    handed state names.bases _ _ c.from_residual.result (for_store program names.bases state at cell) (cell_reached names.bases)
    c.in_err-reached.field-0.0 c.from_residual.ensures
    (λ waits. for_store_waits program names.bases state at cell _ _ (reaches.waits waits))

pub returns-in_err-check-clause-act : goal.returns-in_err-check-clause-act
returns-in_err-check-clause-act g c = λ every direct program names known frame count extends points.
    let state = c.args.state.now in
    let at = c.args.access.now.place in
    let cell = cell_in names.bases state c.args.place in
    let reaches = c.in_ok-reached.ensures.act direct names.bases (named_local names.bases known frame count c.args.place points) in
    let local = c.in_ok-reached.ensures.local direct names.bases known frame count points in
    let checks = c.in_err-check.ensures.act (every_kept _ _ _ c.in_ok-reached.ensures.kinds every) names.bases (λ v act. act)
    (not_constant state at _ (c.in_ok-constant.ensures names frame count extends local)) in
    handed state names.bases _ _ c.from_residual-in_err-check.result (for_store program names.bases state at cell) (cell_reached names.bases)
    c.in_err-check.field-0.0 c.from_residual-in_err-check.ensures
    (λ waits. for_store_checked program names.bases state at cell frame count c.in_ok-reached.reached local _ _ reaches.through _ (checks.waits waits))

pub returns-clause-act : goal.returns-clause-act
returns-clause-act g c = λ every direct program names known frame count extends points.
    let state = c.args.state.now in
    let at = c.args.access.now.place in
    let cell = cell_in names.bases state c.args.place in
    let reaches = c.in_ok-reached.ensures.act direct names.bases (named_local names.bases known frame count c.args.place points) in
    let local = c.in_ok-reached.ensures.local direct names.bases known frame count points in
    let checks = c.in_ok-check.ensures.act (every_kept _ _ _ c.in_ok-reached.ensures.kinds every) names.bases (λ v act. act)
    (not_constant state at _ (c.in_ok-constant.ensures names frame count extends local)) in
    record {
      through = for_store_through program names.bases state at cell frame count c.in_ok-reached.reached local _ _ reaches.through _ checks.through;
      waits = tt;
    }
