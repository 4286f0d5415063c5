use Rattle.cs_cfg.specs.GraphView as view
use Rattle.cs_cfg.specs.Working.{do_work}
use Rattle.cs_steps.proofs.Dispatching.{works_on, works_stopped}
use Rattle.cs_steps.proofs.work.work.Goals as goal

pub returns-in-Call-clause-work : goal.returns-in-Call-clause-work
returns-in-Call-clause-work g c = λ every names program known model extends numbered have integer. absurd (rw c.in-Call.is at integer)

pub returns-in_err-do_work-clause-work : goal.returns-in_err-do_work-clause-work
returns-in_err-do_work-clause-work g c = λ every names program known model extends numbered have integer.
    let code = view.code c.args.context.now.code.now in
    let operation = c.args.operation.now in
    let budgets = c.args.context.now.setting.now.budgets in
    works_stopped code names program known c.args.state.now _ _ (do_work code program budgets operation.place (view.work operation.work)) _
    c.from_residual.result c.in_err-do_work.field-0.0 c.from_residual.ensures
    (c.in_err-do_work.ensures.work every code names program budgets known model extends numbered have integer)

pub returns-clause-work : goal.returns-clause-work
returns-clause-work g c = λ every names program known model extends numbered have integer.
    let code = view.code c.args.context.now.code.now in
    let operation = c.args.operation.now in
    let budgets = c.args.context.now.setting.now.budgets in
    works_on code names program known c.args.state.now _ _ (do_work code program budgets operation.place (view.work operation.work)) _ _ c.go_on.result
    (c.in_ok-do_work.ensures.work every code names program budgets known model extends numbered have integer)
    c.go_on.ensures.moved_on c.go_on.ensures.memory
