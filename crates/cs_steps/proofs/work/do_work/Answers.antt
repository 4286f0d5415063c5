use Rattle.std.proofs.Common.{◌≡◌, ℤ, to_z, of_z, subst, rules}
use Rattle.std.specs.Int.{w128}
use Rattle.cs_events.specs.Touches.{Meets}
use Rattle.cs_events.specs.Acts.{Goes}
use Rattle.cs_cfg.specs.Graph as graph
use Rattle.cs_cfg.specs.Working.{do_work}
use Rattle.cs_state.specs.Naming.{naming}
use Rattle.cs_progress.specs.Stepping.{DoesWork}
use Rattle.cs_operators.proofs.Computed.{stands}
use Rattle.cs_steps.proofs.Dispatching.{works_met, leads_touched}
use Rattle.cs_steps.proofs.work.do_work.Goals as goal

pub returns-in-Number-clause-work : goal.returns-in-Number-clause-work
returns-in-Number-clause-work g c = λ every.
    let model = c.args.context.now.setting.now.program.now.model in
    let at = c.args.operation.now.place in
    let progress = c.args.attempt.now.progress in
    let given = naming c.args.tables.now in
    let whole : to_z w128 (of_z w128 c.in-Number.number) ≡ c.in-Number.number = search rules in
    rw c.in-Number.is (subst (λ (n : ℤ).
    DoesWork model given c.args.state.now c.push_number.new.state progress progress c.push_number.result at (graph.Number n))
    whole (c.push_number.ensures model given at progress))

pub returns-in-Null-clause-work : goal.returns-in-Null-clause-work
returns-in-Null-clause-work g c = λ every code names program budgets known model extends numbered have integer. absurd (rw c.in-Null.is at integer)

pub returns-in-Text-clause-work : goal.returns-in-Text-clause-work
returns-in-Text-clause-work g c = λ every code names program budgets known model extends numbered have integer. absurd (rw c.in-Text.is at integer)

pub returns-in-Global-clause-work : goal.returns-in-Global-clause-work
returns-in-Global-clause-work g c = λ every code names program budgets known model extends numbered have integer. absurd (rw c.in-Global.is at integer)

pub returns-in-Local-clause-work : goal.returns-in-Local-clause-work
returns-in-Local-clause-work g c = λ every.
    rw c.in-Local.is (c.name_local.ensures.work c.args.context.now.setting.now.program.now.model c.args.operation.now.place c.args.attempt.now.progress)

pub returns-in-Nothing-clause-work : goal.returns-in-Nothing-clause-work
returns-in-Nothing-clause-work g c = λ every.
    rw c.in-Nothing.is (c.push_nothing.ensures c.args.context.now.setting.now.program.now.model (naming c.args.tables.now) c.args.operation.now.place
    c.args.attempt.now.progress)

pub returns-in-Drop-clause-work : goal.returns-in-Drop-clause-work
returns-in-Drop-clause-work g c = λ every.
    rw c.in-Drop.is (c.drop_operand.ensures c.args.context.now.setting.now.program.now.model (naming c.args.tables.now) c.args.operation.now.place
    c.args.attempt.now.progress)

pub returns-in-Meet-clause-work : goal.returns-in-Meet-clause-work
returns-in-Meet-clause-work g c = λ every code names program budgets known model extends numbered have integer.
    let state = c.args.state.now in
    let at = c.args.operation.now.place in
    rw c.in-Meet.is (works_met code names program known state _ _ (do_work code program budgets at (graph.Meet c.in-Meet.field-0)) have
    (λ todo cells v fits. leads_touched cells _ (Meets c.in-Meet.field-0 at) (Goes (stands code names program state todo v))))

pub returns-in-Close-clause-work : goal.returns-in-Close-clause-work
returns-in-Close-clause-work g c = λ every.
    rw c.in-Close.is (c.close.ensures c.args.context.now.setting.now.program.now.model (naming c.args.tables.now) c.args.operation.now.place
    c.args.attempt.now.progress)

pub returns-in-Clear-clause-work : goal.returns-in-Clear-clause-work
returns-in-Clear-clause-work g c = λ every.
    rw c.in-Clear.is (c.clear.ensures.work c.args.context.now.setting.now.program.now.model c.args.operation.now.place c.in-Clear.field-1
    c.args.attempt.now.progress)

pub returns-in-Zero-clause-work : goal.returns-in-Zero-clause-work
returns-in-Zero-clause-work g c = λ every code names program budgets known model extends numbered have integer. absurd (rw c.in-Zero.is at integer)

pub returns-in-Use-clause-work : goal.returns-in-Use-clause-work
returns-in-Use-clause-work g c = λ every code names program budgets known model extends numbered have integer. absurd (rw c.in-Use.is at integer)
