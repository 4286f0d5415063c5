use Rattle.std.proofs.Common.{◌≡◌, ap, sym, ◌∙◌}
use Rattle.cs_meaning.specs.Access.{set_then}
use Rattle.cs_meaning.specs.Expressions.{use_result}
use Rattle.cs_cfg.specs.Graph as graph
use Rattle.cs_cfg.specs.Working.{do_work}
use Rattle.cs_state.specs.Cells.{operand_of}
use Rattle.cs_operators.specs.Pointing.{cell_in}
use Rattle.cs_operators.proofs.Checks.{set_check}
use Rattle.cs_operators.proofs.Computed.{stands}
use Rattle.cs_operators.proofs.Using.{is_unset, set_else, never_set, checks_alone, checks_nothing, other_use}
use Rattle.cs_operators.proofs.computing.use_result.Goals as goal
use Rattle.cs_operators.proofs.computing.use_result.Goals.{in-Unset, in_default-matches}

pub returns-in_default-clause-act : goal.returns-in_default-clause-act
returns-in_default-clause-act g c = λ every code names program budgets have.
    let state = c.args.state.now in
    let operand = c.in_ok-value.field-0.now in
    checks_nothing code names program state c.args.attempt.now.progress (do_work code program budgets c.args.at graph.Use)
    (λ todo v. ap (λ o. use_result c.args.at o (stands code names program state todo v)) (c.in_ok-value.ensures.operand code names program v)
    ∙ other_use names.bases state.blocks v c.args.at operand (stands code names program state todo v) c.in_default.not-Scalar)

pub returns-clause-act : goal.returns-clause-act
returns-clause-act g c = λ every code names program budgets have.
    let state = c.args.state.now in
    let at = c.args.at in
    let value = c.in-Scalar.value in
    let unset : is_unset value ≡ c.match-matches.matches = elim c.match-matches.branch [
      | in-Unset w ↦ ap is_unset w.in-Unset.is ∙ sym w.matches-is
      | in_default-matches w ↦ set_else value w.in_default-matches.not-Unset ∙ sym w.matches-is
    ] in
    let named = rw c.in-Scalar.is at c.in_ok-value.ensures.named names.bases have in
    checks_alone code names program state _ _ c.check.result (do_work code program budgets at graph.Use)
    (λ v. set_then at (cell_in names.bases state value v))
    (λ todo v fits. ap (λ o. use_result at o (stands code names program state todo v))
    (c.in_ok-value.ensures.operand code names program v ∙ ap (operand_of names.bases state.blocks v) c.in-Scalar.is))
    (c.check.ensures.act every names.bases (λ v. set_then at (cell_in names.bases state value v))
    (λ v fits. set_check at v c.match-matches.matches (cell_in names.bases state value v) (never_set names.bases state.blocks v value named ∙ unset)))
