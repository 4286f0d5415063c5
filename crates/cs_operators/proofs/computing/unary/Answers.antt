use Rattle.std.proofs.Common.{ℤ, Ok, Err, refl}
use Rattle.cs_terms.specs.Term.{Valuation}
use Rattle.cs_events.specs.Acts.{Act}
use Rattle.cs_events.specs.Acts.{Asks}
use Rattle.cs_events.specs.declared.operation.Operation.TheVariants.{Unary}
use Rattle.cs_eval.specs.declared.question.Question.TheVariants as question
use Rattle.cs_operators.proofs.Asked.{asks, asked}
use Rattle.cs_cfg.specs.Graph as graph
use Rattle.cs_cfg.specs.Working.{do_work}
use Rattle.cs_cfg.specs.Working.{CodeState}
use Rattle.cs_state.specs.declared.temporary.Temporary.TheVariants as temporary
use Rattle.cs_store.specs.declared.value.Value.TheVariants as value
use Rattle.cs_operators.proofs.Computed.{number_left, replaced, waited, part_leads, part_waits}
use Rattle.cs_progress.proofs.KeptLocals.{replaced_stays, replaced_keeps, never_waits}
use Rattle.cs_operators.proofs.computing.unary.Goals as goal

pub returns-in_err-result-clause-act : goal.returns-in_err-result-clause-act
returns-in_err-result-clause-act c = λ code names program budgets.
    let state = c.args.state.now in
    let at = c.args.at in
    let part : Valuation → (ℤ → Act CodeState) → Act CodeState = asks at (question.Unary c.args.operator c.args.ty c.in_ok-operand.operand) in
    let act = do_work code program budgets at (graph.Unary c.args.operator c.args.ty) in
    let rest = number_left code names program state 1 in
    waited code names program state state _ _ c.from_residual-in_err-result.result act c.in_err-result.field-0.0 c.from_residual-in_err-result.ensures
    (λ waits todo. part_waits code names program state todo act part (rest todo)
    (λ v fits i. Asks at (Unary c.args.operator c.args.ty (c.in_ok-operand.ensures.value code names program v fits i)) (rest todo v))
    _ _ ((asked state at (question.Unary c.args.operator c.args.ty c.in_ok-operand.operand) names.bases c.args.progress.now c.ask.new.self
    (Err c.in_err-result.field-0.0) part (λ v fits onward. refl) tt c.in_err-result.ensures.none c.in_err-result.ensures.first).waits waits))

pub returns-clause-act : goal.returns-clause-act
returns-clause-act c = λ code names program budgets.
    let state = c.args.state.now in
    let at = c.args.at in
    let part : Valuation → (ℤ → Act CodeState) → Act CodeState = asks at (question.Unary c.args.operator c.args.ty c.in_ok-operand.operand) in
    let act = do_work code program budgets at (graph.Unary c.args.operator c.args.ty) in
    let rest = number_left code names program state 1 in
    replaced code names program state c.replace_with.new.state _ _ c.replace_with.result act 1 (temporary.Scalar (value.Number c.in_ok-result.result))
    c.replace_with.ensures.means c.replace_with.ensures.memory
    (λ todo. part_leads code names program state todo act part (rest todo)
    (λ v fits i. Asks at (Unary c.args.operator c.args.ty (c.in_ok-operand.ensures.value code names program v fits i)) (rest todo v))
    _ _ _ (asked state at (question.Unary c.args.operator c.args.ty c.in_ok-operand.operand) names.bases c.args.progress.now c.ask.new.self
    (Ok c.in_ok-result.result) part (λ v fits onward. refl) c.in_ok-result.ensures.answered tt tt).through)

pub returns-clause-frame : goal.returns-clause-frame
returns-clause-frame c = replaced_stays c.replace_with.result 1 _ _ _ c.replace_with.ensures.left

pub returns-clause-locals : goal.returns-clause-locals
returns-clause-locals c = replaced_keeps c.replace_with.result 1 _ _ _ c.in_ok-result.ensures.over c.replace_with.ensures.left

pub returns-clause-unchanged : goal.returns-clause-unchanged
returns-clause-unchanged c = never_waits _ _ c.replace_with.result c.replace_with.ensures.memory
