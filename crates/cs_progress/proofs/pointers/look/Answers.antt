use Rattle.std.proofs.Common.{List}
use Rattle.std.proofs.lemmas.Result.{IfOk-weaker}
use Rattle.cs_regions.specs.declared.base.Base.{Base}
use Rattle.cs_progress.specs.Acting.{IsNamed, looked, GetsThrough}
use Rattle.cs_progress.specs.Seeing.{IsSeenIn}
use Rattle.cs_progress.proofs.Looks.{leads_same, leads_shown, stands_first, err_given}
use Rattle.cs_progress.proofs.pointers.look.Goals as goal
use Rattle.cs_progress.proofs.pointers.look.Goals.{in-Some+in_ok-ask, in_default}

pub returns-clause-through : goal.returns-clause-through
returns-clause-through c =
    let state = c.args.state.now in
    let value = c.args.value in
    let through : (bases : List Base) → IsNamed bases value
    → GetsThrough state c.args.progress.now.used c.match-branch-2.progress.used (looked bases state c.args.at value) =
    elim c.match-branch-2.branch [
      | in-Some+in_ok-ask w ↦ λ bases named cells v fits act.
          let shows = rw w.in-Some.is at c.in_ok-there.ensures in
          rw w.progress-is (leads_shown cells _ _ _ c.args.at _ _ act (shows bases v named c.args.at act) (w.in_ok-ask.ensures.answered v fits))
      | in_default w ↦ λ bases named cells v fits act.
          let shows = rw w.in_default.is at c.in_ok-there.ensures in
          rw w.progress-is (leads_same cells _ _ act (shows bases v c.args.at act))
    ] in
    IfOk-weaker _ (IsSeenIn state value) _ (λ seen is. through) c.resolved.ensures.seen

pub returns-in_err-ask-clause-waits : goal.returns-in_err-ask-clause-waits
returns-in_err-ask-clause-waits c =
    let shows = rw c.in-Some.is at c.in_ok-there.ensures in
    err_given c.from_residual-in_err-ask.result c.in_err-ask.field-0.0 _ c.from_residual-in_err-ask.ensures
    (λ waits bases named act cells v fits uses.
    let first = stands_first cells _ c.args.at _ _ act (shows bases v named c.args.at act) (c.in_err-ask.ensures.none waits v) in
    rw (c.in_err-ask.ensures.first waits) ((λ number. act), first))
