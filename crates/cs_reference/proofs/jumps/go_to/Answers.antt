use Rattle.std.proofs.Common.{◌≡◌, Some, None, refl, sym, ap, ◌∙◌}
use Rattle.std.specs.Prelude.{slice_get}
use Rattle.std.proofs.lemmas.Option.{slice_get_past, slice_get-get_or}
use Rattle.cs_ast.specs.TypedTree.{Statement}
use Rattle.cs_ast.specs.TypedProgram.{typed_program}
use Rattle.cs_events.specs.Runs.{perform}
use Rattle.cs_meaning.specs.Jumps.{landing}
use Rattle.cs_meaning.specs.Machine.{routine_of}
use Rattle.cs_meaning.specs.Statements.{lands}
use Rattle.cs_meaning.specs.Steps.{at_end}
use Rattle.cs_run_log.specs.LogView.{setting_of, log_of}
use Rattle.cs_run_state.specs.MachineView.{state_of}
use Rattle.cs_run_log.proofs.Performing.{perform-Goes}
use Rattle.cs_reference.proofs.Functions.{bodiless, missing}
use Rattle.cs_reference.proofs.jumps.go_to.Goals as goal

pub returns-in-None-body : goal.returns-in-None-body
returns-in-None-body c =
    let setting = c.args.run.now.setting.now in
    let log = log_of c.args.run.now.log in
    let m = state_of c.args.run.now.machine in
    let there = c.in-Some.ensures.lookup.3 in
    let found : slice_get c.deref.result.now c.function_of-number.result ≡ Some c.in-Some.function.now = slice_get-get_or _ _ c.in-Some.function.now there.0
    ∙ ap Some (sym (there.1 c.in-Some.function.now)) in
    let is = bodiless setting.program.now m.frame.function c.in-Some.function.now (rw (c.deref.ensures.value, c.function_of-number.ensures) at found)
    c.in-None-body.is in
    record {
      ok =
          ap (λ (body : Statement).
          perform (setting_of setting) log
          (lands setting.budgets (landing c.args.label body 0 (at_end (routine_of (typed_program setting.program.now) m.frame.function))) m)) is
          ∙ perform-Goes _ _ _;
      err = tt;
      kept = refl;
    }

pub returns-in-None : goal.returns-in-None
returns-in-None c =
    let setting = c.args.run.now.setting.now in
    let log = log_of c.args.run.now.log in
    let m = state_of c.args.run.now.machine in
    let none : slice_get c.deref.result.now c.function_of-number.result ≡ None = slice_get_past _ _ c.in-None.ensures.lookup.3 in
    let is = missing setting.program.now m.frame.function (rw (c.deref.ensures.value, c.function_of-number.ensures) at none) in
    record {
      ok =
          ap (λ (body : Statement).
          perform (setting_of setting) log
          (lands setting.budgets (landing c.args.label body 0 (at_end (routine_of (typed_program setting.program.now) m.frame.function))) m)) is
          ∙ perform-Goes _ _ _;
      err = tt;
      kept = refl;
    }
