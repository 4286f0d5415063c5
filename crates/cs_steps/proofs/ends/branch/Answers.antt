use Rattle.std.proofs.Common.{◌≡◌, refl, sym, ap, ◌∙◌, if◌then◌else◌}
use Rattle.cs_cfg.specs.Graph as graph
use Rattle.cs_cfg.specs.GraphView as view
use Rattle.cs_cfg.specs.CodeSteps.{do_end}
use Rattle.cs_progress.proofs.KeptLocals.{have_names}
use Rattle.cs_steps.proofs.Branching.{test_shows, test_leads}
use Rattle.cs_spots.proofs.Leaving.{waits_there, drops_and_goes}
use Rattle.cs_steps.proofs.ends.branch.Goals as goal
use Rattle.cs_steps.proofs.ends.branch.Goals.{then-holds, else-holds}

pub returns-in_err-holds : goal.returns-in_err-holds
returns-in_err-holds c = λ temporary given few names program known extends have.
    let code = view.code c.args.context.now.code.now in
    let state = c.args.state.now in
    let named = c.in_ok-value.ensures.named names.bases (have_names program names.bases known state have) in
    waits_there code names program known state state c.args.progress.now c.test.new.progress c.from_residual-in_err-holds.result
    (do_end code (graph.Branch c.args.at temporary c.args.one c.args.other)) c.in_err-holds.field-0.0 c.from_residual-in_err-holds.ensures have
    (λ waits. (
      refl,
      test_shows code names program state c.args.at temporary c.args.one c.args.other few c.in_ok-value.field-0 c.in_ok-value.ensures.value
          c.args.progress.now.used c.test.new.progress.first ((c.in_err-holds.ensures.act names.bases named).waits waits),
    ))

pub returns : goal.returns
returns c = λ temporary given few names program known extends have.
    let code = view.code c.args.context.now.code.now in
    let state = c.args.state.now in
    let named = c.in_ok-value.ensures.named names.bases (have_names program names.bases known state have) in
    let block : (if c.in_ok-holds.holds then c.args.one else c.args.other) ≡ c.if-holds.go =
    elim c.if-holds.branch [
      | then-holds w ↦ ap (λ holds. if holds then c.args.one else c.args.other) w.if-holds.true ∙ sym w.go-is
      | else-holds w ↦ ap (λ holds. if holds then c.args.one else c.args.other) w.if-holds.false ∙ sym w.go-is
    ] in
    drops_and_goes code names program known state c.go.new.state c.args.progress.now c.test.new.progress c.go.result
    (do_end code (graph.Branch c.args.at temporary c.args.one c.args.other)) c.if-holds.go c.drop_newest.new.state
    c.in_ok-drop_newest.ensures.left have c.go.ensures.goes c.go.ensures.memory
    (test_leads code names program state c.args.at temporary c.args.one c.args.other few c.in_ok-value.field-0 c.in_ok-value.ensures.value
    c.args.progress.now.used c.test.new.progress.used c.in_ok-holds.holds ((c.in_ok-holds.ensures.act names.bases named).through)
    c.if-holds.go block _ (λ v. c.in_ok-drop_newest.ensures.means code names program v))
