use Rattle.std.proofs.Common.{sym, ◌∙◌, subst, arith}
use Rattle.cs_events.specs.Acts.{Act}
use Rattle.cs_meaning.specs.Machine.{State}
use Rattle.cs_runner.specs.RunnerView.{program_of, budgets_of, state_in, Performs}
use Rattle.cs_reference.proofs.ExpressionForms.{call_act, allocate_act, update_is, move_is}
use Rattle.cs_reference.proofs.acting.act.Goals as goal

pub returns-in-Call : goal.returns-in-Call
returns-in-Call c =
    let run = c.args.run.now in
    let same = call_act (program_of run) (budgets_of run) c.args.e.now (state_in run) _ _ _ (sym c.deref.ensures ∙ c.in-Call.is)
    (omega (arith, c.len.ensures, c.in-Call.arguments.ok.0)) in
    subst (λ (a : Act State). Performs run c.call.new.self c.call.result a) (sym same) c.call.ensures

pub returns-in-Allocate : goal.returns-in-Allocate
returns-in-Allocate c =
    let run = c.args.run.now in
    let same = allocate_act (program_of run) (budgets_of run) c.args.e.now (state_in run) _ _ _ (sym c.deref.ensures ∙ c.in-Allocate.is) in
    subst (λ (a : Act State). Performs run c.allocate.new.self c.allocate.result a) (sym same) c.allocate.ensures

pub returns-in-Update : goal.returns-in-Update
returns-in-Update c =
    let run = c.args.run.now in
    let same = update_is (program_of run) (budgets_of run) c.args.e.now (state_in run) c.in-Update.operator c.in-Update.object c.in-Update.field-2
    c.in-Update.works_in c.in-Update.gives (sym c.deref.ensures ∙ c.in-Update.is) in
    subst (λ (a : Act State). Performs run c.act_update.new.run c.act_update.result a) (sym same) c.act_update.ensures

pub returns-in-Move : goal.returns-in-Move
returns-in-Move c =
    let run = c.args.run.now in
    let same = move_is (program_of run) (budgets_of run) c.args.e.now (state_in run) c.in-Move.object c.in-Move.field-1 c.in-Move.direction c.in-Move.gives
    (sym c.deref.ensures ∙ c.in-Move.is) in
    subst (λ (a : Act State). Performs run c.act_move.new.run c.act_move.result a) (sym same) c.act_move.ensures
