use Rattle.cs_terms.specs.Term.{Valuation}
use Rattle.cs_events.specs.Acts.{Act}
use Rattle.cs_meaning.specs.Operators as operators
use Rattle.cs_events.specs.Objects.{Cell}
use Rattle.cs_operators.specs.Pointing.{cell_in}
use Rattle.cs_cfg.specs.Graph as graph
use Rattle.cs_cfg.specs.Working.{do_work}
use Rattle.cs_cfg.specs.Working.{CodeState}
use Rattle.cs_state.specs.declared.temporary.Temporary.TheVariants as temporary
use Rattle.cs_operators.proofs.Computed.{cell_left, replaced, waited, part_leads, part_waits}
use Rattle.cs_operators.proofs.computing.member_through.Goals as goal

pub returns-in_err-place-clause-act : goal.returns-in_err-place-clause-act
returns-in_err-place-clause-act g c = λ every code names program budgets have.
    let state = c.args.state.now in
    let at = c.args.at in
    let part : Valuation → (Cell → Act CodeState) → Act CodeState = λ v.
    operators.arrow at (cell_in names.bases state c.in_ok-value.field-0 v) c.args.offset in
    let act = do_work code program budgets at (graph.Arrow c.args.offset) in
    let rest = cell_left code names program state 1 in
    waited code names program state state _ _ c.from_residual-in_err-place.result act c.in_err-place.field-0.0 c.from_residual-in_err-place.ensures
    (λ waits todo. part_waits code names program state todo act part (rest todo)
    (λ v fits i. operators.arrow at (c.in_ok-value.ensures.value code names program v i) c.args.offset (rest todo v))
    _ _ ((c.in_err-place.ensures.act every names.bases (c.in_ok-value.ensures.named names.bases have)).waits waits))

pub returns-clause-act : goal.returns-clause-act
returns-clause-act g c = λ every code names program budgets have.
    let state = c.args.state.now in
    let at = c.args.at in
    let part : Valuation → (Cell → Act CodeState) → Act CodeState = λ v.
    operators.arrow at (cell_in names.bases state c.in_ok-value.field-0 v) c.args.offset in
    let act = do_work code program budgets at (graph.Arrow c.args.offset) in
    let rest = cell_left code names program state 1 in
    replaced code names program state c.replace_with.new.state _ _ c.replace_with.result act 1 (temporary.Scalar c.in_ok-place.place)
    c.replace_with.ensures.means c.replace_with.ensures.memory
    (λ todo. part_leads code names program state todo act part (rest todo)
    (λ v fits i. operators.arrow at (c.in_ok-value.ensures.value code names program v i) c.args.offset (rest todo v))
    _ _ _ (c.in_ok-place.ensures.act every names.bases (c.in_ok-value.ensures.named names.bases have)).through)
