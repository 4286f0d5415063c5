use Rattle.std.proofs.Common.{map, refl, sym, subst}
use Rattle.cs_event_runs.specs.Left.{left_of}
use Rattle.cs_cfg.specs.Graph as graph
use Rattle.cs_cfg.specs.GraphView as view
use Rattle.cs_cfg.specs.CodeSteps.{do_end}
use Rattle.cs_state.specs.Meaning.{meaning}
use Rattle.cs_progress.specs.declared.next.Next.{Next}
use Rattle.cs_progress.specs.Answering.{answers_left}
use Rattle.cs_progress.specs.Stepping.{BeginsIn}
use Rattle.cs_spots.proofs.Leaving.{waits_there, drops_and_goes}
use Rattle.cs_spots.proofs.Switching.{case_shows, case_leads}
use Rattle.cs_steps.proofs.ends.switch.Goals as goal

pub returns-in_err-select : goal.returns-in_err-select
returns-in_err-select c = λ temporary given stands few names program known extends have.
    let code = view.code c.args.context.now.code.now in
    let state = c.args.state.now in
    let cases = map view.switch_case c.args.cases.now in
    let act = do_end code (graph.Switch c.args.at temporary cases c.args.otherwise) in
    waits_there code names program known state state c.args.progress.now c.select.new.self c.from_residual-in_err-select.result act
    c.in_err-select.field-0.0 c.from_residual-in_err-select.ensures have
    (λ waits. (
      refl,
      λ cells v fits uses.
          subst (λ (first : Next). BeginsIn code names.bases state v first
          (left_of cells (answers_left state c.args.progress.now.used v) (act (meaning code names program state v)))) (sym c.in_err-select.ensures.first)
          (case_shows code names program state c.args.at temporary cases c.args.otherwise few c.in_ok-term.term c.in_ok-term.ensures.value stands
          cells (answers_left state c.args.progress.now.used v) v fits (c.in_err-select.ensures.none v)),
    ))

pub returns : goal.returns
returns c = λ temporary given stands few names program known extends have.
    let code = view.code c.args.context.now.code.now in
    let state = c.args.state.now in
    let cases = map view.switch_case c.args.cases.now in
    let answered = c.in_ok-select.ensures.answered in
    drops_and_goes code names program known state c.go.new.state c.args.progress.now c.select.new.self c.go.result
    (do_end code (graph.Switch c.args.at temporary cases c.args.otherwise)) c.in_ok-block.block c.drop_newest.new.state
    c.in_ok-drop_newest.ensures.left have c.go.ensures.goes c.go.ensures.memory
    (λ cells v fits.
    case_leads code names program state c.args.at temporary cases c.args.otherwise few c.in_ok-term.term c.in_ok-term.ensures.value
    cells _ _ _ c.in_ok-block.block _ v fits (answered.1 v) (c.in_ok-block.ensures.leads v fits)
    (c.in_ok-drop_newest.ensures.means code names program v))
