use Rattle.std.proofs.Common.{sym, ap, ◌∙◌}
use Rattle.cs_terms.specs.Term.{Valuation, value_of}
use Rattle.cs_constraints.specs.Constraints.{Fits}
use Rattle.cs_events.specs.Objects.{Cell}
use Rattle.cs_events.specs.Acts.{Act}
use Rattle.cs_meaning.specs.Expressions as expressions
use Rattle.cs_meaning.specs.Initials as cells
use Rattle.cs_meaning.specs.Machine as machine
use Rattle.cs_meaning.specs.Operators as operators
use Rattle.cs_cfg.specs.Graph as graph
use Rattle.cs_cfg.specs.Working.{CodeState, do_work}
use Rattle.cs_state.specs.declared.temporary.Temporary.TheVariants as temporary
use Rattle.cs_state.specs.Meaning.{meaning}
use Rattle.cs_operators.specs.Pointing.{cell_in}
use Rattle.cs_operators.proofs.Computed.{cell_left, replaced, waited, part_leads, part_waits}
use Rattle.cs_operators.proofs.computing.add.Goals as goal

pub returns-in_err-moved-clause-act : goal.returns-in_err-moved-clause-act
returns-in_err-moved-clause-act g c = λ every code names program budgets model have.
    let state = c.args.state.now in
    let at = c.args.at in
    let part : Valuation → (Cell → Act CodeState) → Act CodeState =
    λ v. operators.sum c.args.context.now.setting.now.program.now.model at (cell_in names.bases state c.in_ok-pointer.pointer v)
    (value_of v c.in_ok-amount.amount) c.args.bytes in
    let act = do_work code program budgets at (graph.Sum c.args.bytes c.args.direction c.args.order) in
    let rest = cell_left code names program state 2 in
    let pointer = λ (v : Valuation). ap (machine.cell_at (meaning code names program state v)) (sym c.pointer_age.ensures)
    ∙ c.in_ok-pointer.ensures.value code names program v in
    let amount = λ (v : Valuation) (fits : Fits v state.constraints).
    ap (cells.directed c.args.direction) (ap (expressions.number_at (meaning code names program state v)) (sym c.amount_age.ensures)
    ∙ c.in_ok-number.ensures.value code names program v fits) ∙ sym (c.in_ok-amount.ensures.value v) in
    waited code names program state state _ _ c.from_residual-in_err-moved.result act c.in_err-moved.field-0.0 c.from_residual-in_err-moved.ensures
    (λ waits todo. part_waits code names program state todo act part (rest todo)
    (λ v fits i. operators.sum (model i) at (pointer v i) (amount v fits i) c.args.bytes (rest todo v))
    _ _ ((c.in_err-moved.ensures.act every names.bases (c.in_ok-pointer.ensures.named names.bases have)).waits waits))

pub returns-clause-act : goal.returns-clause-act
returns-clause-act g c = λ every code names program budgets model have.
    let state = c.args.state.now in
    let at = c.args.at in
    let part : Valuation → (Cell → Act CodeState) → Act CodeState =
    λ v. operators.sum c.args.context.now.setting.now.program.now.model at (cell_in names.bases state c.in_ok-pointer.pointer v)
    (value_of v c.in_ok-amount.amount) c.args.bytes in
    let act = do_work code program budgets at (graph.Sum c.args.bytes c.args.direction c.args.order) in
    let rest = cell_left code names program state 2 in
    let pointer = λ (v : Valuation). ap (machine.cell_at (meaning code names program state v)) (sym c.pointer_age.ensures)
    ∙ c.in_ok-pointer.ensures.value code names program v in
    let amount = λ (v : Valuation) (fits : Fits v state.constraints).
    ap (cells.directed c.args.direction) (ap (expressions.number_at (meaning code names program state v)) (sym c.amount_age.ensures)
    ∙ c.in_ok-number.ensures.value code names program v fits) ∙ sym (c.in_ok-amount.ensures.value v) in
    replaced code names program state c.replace_with.new.state _ _ c.replace_with.result act 2 (temporary.Scalar c.in_ok-moved.moved)
    c.replace_with.ensures.means c.replace_with.ensures.memory
    (λ todo. part_leads code names program state todo act part (rest todo)
    (λ v fits i. operators.sum (model i) at (pointer v i) (amount v fits i) c.args.bytes (rest todo v))
    _ _ _ (c.in_ok-moved.ensures.act every names.bases (c.in_ok-pointer.ensures.named names.bases have)).through)
