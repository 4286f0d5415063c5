use Rattle.std.proofs.Common.{◌≡◌, refl, ap, ◌∙◌}
use Rattle.cs_ast.specs.declared.place.Place.{Place}
use Rattle.cs_events.specs.Acts.{Act, Goes}
use Rattle.cs_events.specs.Runs.{perform}
use Rattle.cs_meaning.specs.Machine.{Operand, Scalar, Whole, Nothing, State, operand_at}
use Rattle.cs_meaning.specs.Expressions.{use_result}
use Rattle.cs_run_state.specs.Choosing.{result_act}
use Rattle.cs_run_state.specs.MachineView.{state_of}
use Rattle.cs_run_log.specs.LogView.{setting_of, log_of}
use Rattle.cs_run_log.proofs.Performing.{perform-Goes, perform-Stops}
use Rattle.cs_run_state.proofs.machine.Machine.use_result.Goals as goal

-- the use of a result is that of a value, before the machine continues
use-act : (at : Place) (operand : Operand) (m : State) → use_result at operand m ≡ result_act at operand (Goes m)
use-act at (Scalar cell) m = refl
use-act at (Whole cells) m = refl
use-act at Nothing m = refl

pub returns-in-Some-clause-err : goal.returns-in-Some-clause-err
returns-in-Some-clause-err c =
    let m = state_of c.args.self.now in
    let s = setting_of c.args.setting.now in
    let log = log_of c.args.log.now in
    rw c.fault.ensures (ap (λ (act : Act State). perform s log act) (use-act c.args.place (operand_at m 0) m ∙ c.in-Some.ensures c.args.place (Goes m))
    ∙ perform-Stops s log _)

pub returns-in-None-clause-ok : goal.returns-in-None-clause-ok
returns-in-None-clause-ok c =
    let m = state_of c.args.self.now in
    let s = setting_of c.args.setting.now in
    let log = log_of c.args.log.now in
    ap (λ (act : Act State). perform s log act) (use-act c.args.place (operand_at m 0) m ∙ c.in-None.ensures c.args.place (Goes m)) ∙ perform-Goes s log m
