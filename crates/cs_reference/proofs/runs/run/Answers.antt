use Rattle.std.proofs.Common.{◌≡◌, refl, sym, subst}
use Rattle.cs_ast.specs.TypedProgram.{typed_program}
use Rattle.cs_events.specs.Runs.{Continues, Finishes, perform, stays, goes}
use Rattle.cs_events.proofs.RunLaws.{leads_on}
use Rattle.cs_meaning.specs.Steps.{step}
use Rattle.cs_objects.specs.declared.settings.Setting.{Setting}
use Rattle.cs_run_log.specs.LogView.{setting_of, log_of}
use Rattle.cs_run_state.specs.MachineView.{state_of}
use Rattle.cs_reference.proofs.Remaining.{fewer_left}
use Rattle.cs_reference.proofs.runs.run.Goals as goal

pub loop-outcome-init : goal.loop-outcome-init
loop-outcome-init c = record { leads = stays (sym c.in_ok-machine.ensures) (sym c.new.ensures); kept = refl }

pub step-requires : goal.step-requires
step-requires c = rw c.loop-outcome.invariant.kept c.requires

pub loop-outcome-preserved : goal.loop-outcome-preserved
loop-outcome-preserved c =
    let last = state_of c.loop-outcome.runner.machine in
    let before = log_of c.loop-outcome.runner.log in
    let goes_on : Setting → Type 0 = λ s.
    perform (setting_of s) before (step (typed_program s.program.now) s.budgets last)
    ≡ Continues (state_of c.step.new.run.machine) (log_of c.step.new.run.log) in
    record {
      leads = leads_on (step (typed_program c.args.setting.now.program.now) c.args.setting.now.budgets) (setting_of c.args.setting.now)
          c.loop-outcome.invariant.leads (goes (subst goes_on c.loop-outcome.invariant.kept c.in-Ok.ensures.ok) (stays refl refl));
      kept = rw c.in-Ok.ensures.kept c.loop-outcome.invariant.kept;
    }

pub loop-outcome-smaller : goal.loop-outcome-smaller
loop-outcome-smaller c =
    let setting = c.loop-outcome.runner.setting.now in
    rw c.in-Ok.ensures.kept (fewer_left (typed_program setting.program.now) setting.budgets (setting_of setting) (state_of c.loop-outcome.runner.machine)
    (state_of c.step.new.run.machine) (log_of c.loop-outcome.runner.log) (log_of c.step.new.run.log) c.in-Ok.ensures.ok)

pub returns-in-Err-Outcome : goal.returns-in-Err-Outcome
returns-in-Err-Outcome c =
    let last = state_of c.loop-outcome.runner.machine in
    let before = log_of c.loop-outcome.runner.log in
    let ends : Setting → Type 0 = λ s.
    perform (setting_of s) before (step (typed_program s.program.now) s.budgets last) ≡ Finishes c.in-Err-Outcome.outcome (log_of c.step.new.run.log) in
    let ended = rw c.in-Err-Outcome.field-0-is at c.in-Err-Outcome.ensures.err in
    record { last = last; before = before; leads = c.loop-outcome.invariant.leads; finishes = subst ends c.loop-outcome.invariant.kept ended }
