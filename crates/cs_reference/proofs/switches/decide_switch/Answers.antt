use Rattle.std.proofs.Common.{◌≡◌, Err, FitsSigned, ap, ◌∙◌, rules}
use Rattle.std.specs.Int.{w128}
use Rattle.std.proofs.lemmas.Int.{to_z-of_z}
use Rattle.cs_ast.specs.TypedView.{statement_list}
use Rattle.cs_events.specs.declared.event.Label.TheVariants as label
use Rattle.cs_events.specs.Acts.{Act, Goes}
use Rattle.cs_events.specs.Objects.{Cell}
use Rattle.cs_meaning.specs.Access.{shows_then}
use Rattle.cs_meaning.specs.Initials.{number_in}
use Rattle.cs_meaning.specs.Machine.{State, to_do, pop, cell_at}
use Rattle.cs_meaning.specs.Statements.{Chosen, case_of, chosen_case, executes_from}
use Rattle.cs_run_state.specs.MachineView.{state_of}
use Rattle.cs_run_log.proofs.Chains.{ends_following}
use Rattle.cs_frames.specs.Switching.{chosen_of}
use Rattle.cs_reference.proofs.switches.decide_switch.Goals as goal

pub returns-in_err-show : goal.returns-in_err-show
returns-in_err-show c =
    let m = state_of c.args.run.now.machine in
    let statements = statement_list c.args.statements.now in
    let wanted : Chosen = chosen_case c.args.cases.now statements (case_of c.args.cases.now (number_in (cell_at m 0)) 0) in
    let last : Act State = Goes (to_do (executes_from wanted.item statements c.args.counted_point (pop m).frame.todo) (pop m)) in
    let there : c.from_residual-in_err-show.result ≡ Err c.in_err-show.field-0.0 = search rules in
    let number : c.number-number.result ≡ number_in (cell_at m 0) = c.number-number.ensures
    ∙ ap (λ (cell : Cell). number_in cell) c.pop_cell.ensures.cell in
    let fits : FitsSigned w128 c.number-number.result = search rules in
    let plain = to_z-of_z w128 c.number-number.result fits in
    let is : chosen_of c.in_ok-chosen.chosen ≡ wanted = rw (plain, number) at c.in_ok-chosen.ensures in
    let shown = ap (λ (found : Chosen). found.number) is in
    let one = c.in_ok-touch.ensures c.args.run.now.setting.now (shows_then c.args.place (label.Case wanted.number) last) in
    let two = rw shown at c.in_err-show.ensures.err in
    rw there (record { ok = tt; err = ends_following _ _ one (two last); kept = tt })
