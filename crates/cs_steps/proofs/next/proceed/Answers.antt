use Rattle.std.proofs.Common.{◌≡◌, Err, refl, ap, ◌∙◌}
use Rattle.cs_cfg.specs.GraphView as view
use Rattle.cs_state.specs.Naming.{naming}
use Rattle.cs_progress.specs.declared.pause.Pause.{Pause}
use Rattle.cs_progress.specs.declared.pause.Pause.TheVariants as pause
use Rattle.cs_spots.proofs.Beginning.{done_steps, waiting_steps}
use Rattle.cs_steps.proofs.next.proceed.Goals as goal

pub returns-in-Ok-clause-steps : goal.returns-in-Ok-clause-steps
returns-in-Ok-clause-steps g c = λ every.
    let setting = c.args.context.now.setting.now in
    let fresh = record c.args.attempt.now.progress { used = 0 } in
    done_steps (view.code c.args.context.now.code.now) setting.program.now.model setting.budgets (naming c.step.new.tables) c.args.state.now
    c.step.new.state fresh c.step.new.attempt.progress refl c.finish_operation.new.self
    c.in-Ok.field-0 c.finish_operation.ensures (c.in-Ok.ensures.steps every)

pub returns-in-Err-Waits-clause-steps : goal.returns-in-Err-Waits-clause-steps
returns-in-Err-Waits-clause-steps g c = λ every.
    let setting = c.args.context.now.setting.now in
    let fresh = record c.args.attempt.now.progress { used = 0 } in
    let waits : c.in-Err-Waits.field-0 ≡ pause.Waits = c.in-Err-Waits.field-0-is in
    waiting_steps (view.code c.args.context.now.code.now) setting.program.now.model setting.budgets (naming c.step.new.tables) c.args.state.now
    c.step.new.state fresh c.step.new.attempt.progress refl c.step.result
    c.step.new.attempt.progress.first (c.in-Err-Waits.is ∙ ap (λ (why : Pause). Err why) waits) refl (c.step.ensures.steps every)
