use Rattle.std.proofs.Common.{ℤ, sym, ◌∙◌}
use Rattle.cs_terms.specs.Term.{Valuation, value_of}
use Rattle.cs_events.specs.Acts.{Act}
use Rattle.cs_meaning.specs.Operators as operators
use Rattle.cs_cfg.specs.Graph as graph
use Rattle.cs_cfg.specs.Working.{do_work}
use Rattle.cs_cfg.specs.Working.{CodeState}
use Rattle.cs_state.specs.declared.temporary.Temporary.TheVariants as temporary
use Rattle.cs_store.specs.declared.value.Value.TheVariants as value
use Rattle.cs_operators.proofs.Computed.{number_left, replaced, waited, part_leads, part_waits}
use Rattle.cs_progress.proofs.KeptLocals.{replaced_stays, replaced_keeps, never_waits}
use Rattle.cs_operators.proofs.computing.binary.Goals as goal

pub returns-in_err-result-clause-act : goal.returns-in_err-result-clause-act
returns-in_err-result-clause-act g c = λ every code names program budgets model.
    let state = c.args.state.now in
    let at = c.args.at in
    let part : Valuation → (ℤ → Act CodeState) → Act CodeState =
    λ v. operators.operate c.model.result at c.args.operator c.args.ty (value_of v c.in_ok-number.field-0) (value_of v c.in_ok-number-2.field-0) in
    let act = do_work code program budgets at (graph.Binary c.args.operator c.args.ty) in
    let rest = number_left code names program state 2 in
    waited code names program state state _ _ c.from_residual-in_err-result.result act c.in_err-result.field-0.0 c.from_residual-in_err-result.ensures
    (λ waits todo. part_waits code names program state todo act part (rest todo)
    (λ v fits i. operators.operate ((model ∙ sym c.model.ensures) i) at c.args.operator c.args.ty
    (c.in_ok-number.ensures.value code names program v fits i) (c.in_ok-number-2.ensures.value code names program v fits i) (rest todo v))
    _ _ ((c.in_err-result.ensures.act every names.bases).waits waits))

pub returns-clause-act : goal.returns-clause-act
returns-clause-act g c = λ every code names program budgets model.
    let state = c.args.state.now in
    let at = c.args.at in
    let part : Valuation → (ℤ → Act CodeState) → Act CodeState =
    λ v. operators.operate c.model.result at c.args.operator c.args.ty (value_of v c.in_ok-number.field-0) (value_of v c.in_ok-number-2.field-0) in
    let act = do_work code program budgets at (graph.Binary c.args.operator c.args.ty) in
    let rest = number_left code names program state 2 in
    replaced code names program state c.replace_with.new.state _ _ c.replace_with.result act 2 (temporary.Scalar (value.Number c.in_ok-result.result))
    c.replace_with.ensures.means c.replace_with.ensures.memory
    (λ todo. part_leads code names program state todo act part (rest todo)
    (λ v fits i. operators.operate ((model ∙ sym c.model.ensures) i) at c.args.operator c.args.ty
    (c.in_ok-number.ensures.value code names program v fits i) (c.in_ok-number-2.ensures.value code names program v fits i) (rest todo v))
    _ _ _ (c.in_ok-result.ensures.act every names.bases).through)

pub returns-clause-frame : goal.returns-clause-frame
returns-clause-frame g c = replaced_stays c.replace_with.result 2 _ _ _ c.replace_with.ensures.left

pub returns-clause-locals : goal.returns-clause-locals
returns-clause-locals g c = replaced_keeps c.replace_with.result 2 _ _ _ c.in_ok-result.ensures.over c.replace_with.ensures.left

pub returns-clause-unchanged : goal.returns-clause-unchanged
returns-clause-unchanged g c = never_waits _ _ c.replace_with.result c.replace_with.ensures.memory
