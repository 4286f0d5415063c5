use Rattle.std.proofs.Common.{Bool}
use Rattle.cs_terms.specs.Term.{Valuation}
use Rattle.cs_events.specs.Acts.{Act}
use Rattle.cs_cfg.specs.Graph as graph
use Rattle.cs_cfg.specs.Graph.{Point}
use Rattle.cs_cfg.specs.Working.{do_work}
use Rattle.cs_cfg.specs.Working.{CodeState}
use Rattle.cs_eval.specs.declared.question.Tested.TheVariants as tested
use Rattle.cs_state.specs.declared.temporary.Temporary.TheVariants as temporary
use Rattle.cs_store.specs.declared.value.Value.TheVariants as value
use Rattle.cs_operators.specs.Pointing.{cell_in, test}
use Rattle.cs_operators.proofs.Computed.{truth_left, replaced, waited, part_leads, part_waits}
use Rattle.cs_progress.proofs.KeptLocals.{replaced_stays, replaced_keeps, never_waits}
use Rattle.cs_progress.proofs.KnownSymbols.{constant_known}
use Rattle.cs_operators.proofs.computing.judge.Goals as goal

pub returns-in_err-holds-clause-act : goal.returns-in_err-holds-clause-act
returns-in_err-holds-clause-act c = λ code names program budgets have.
    let state = c.args.state.now in
    let at = c.args.at in
    let part : Valuation → (Bool → Act CodeState) → Act CodeState = λ v. test at tested.Truth (cell_in names.bases state c.in_ok-value.field-0 v) in
    let act = do_work code program budgets at graph.Judge in
    let rest : Point → Valuation → Bool → Act CodeState = truth_left code names program state 1 in
    waited code names program state state _ _ c.from_residual-in_err-holds.result act c.in_err-holds.field-0.0 c.from_residual-in_err-holds.ensures
    (λ waits todo. part_waits code names program state todo act part (rest todo)
    (λ v fits i. test at tested.Truth (c.in_ok-value.ensures.value code names program v i) (rest todo v))
    _ _ ((c.in_err-holds.ensures.act names.bases (c.in_ok-value.ensures.named names.bases have)).waits waits))

pub returns-clause-act : goal.returns-clause-act
returns-clause-act c = λ code names program budgets have.
    let state = c.args.state.now in
    let at = c.args.at in
    let part : Valuation → (Bool → Act CodeState) → Act CodeState = λ v. test at tested.Truth (cell_in names.bases state c.in_ok-value.field-0 v) in
    let act = do_work code program budgets at graph.Judge in
    let rest : Point → Valuation → Bool → Act CodeState = truth_left code names program state 1 in
    replaced code names program state c.replace_with.new.state _ _ c.replace_with.result act 1
    (temporary.Scalar (value.Number c.number_of.result)) c.replace_with.ensures.means c.replace_with.ensures.memory
    (rw c.number_of.ensures (λ todo. part_leads code names program state todo act part (rest todo)
    (λ v fits i. test at tested.Truth (c.in_ok-value.ensures.value code names program v i) (rest todo v))
    _ _ _ (c.in_ok-holds.ensures.act names.bases (c.in_ok-value.ensures.named names.bases have)).through))

pub returns-clause-frame : goal.returns-clause-frame
returns-clause-frame c = replaced_stays c.replace_with.result 1 _ _ _ c.replace_with.ensures.left

pub returns-clause-locals : goal.returns-clause-locals
returns-clause-locals c = replaced_keeps c.replace_with.result 1 _ _ _ (constant_known _ _ _ c.number_of.ensures) c.replace_with.ensures.left

pub returns-clause-unchanged : goal.returns-clause-unchanged
returns-clause-unchanged c = never_waits _ _ c.replace_with.result c.replace_with.ensures.memory
