use Rattle.std.proofs.Common.{◌+◌, refl, sym, ap, ◌∙◌, subst}
use Rattle.cs_events.specs.Objects.{UnsetCell}
use Rattle.cs_meaning.specs.Machine.{Scalar, operand_at}
use Rattle.cs_cfg.specs.Graph as graph
use Rattle.cs_cfg.specs.GraphView as view
use Rattle.cs_cfg.specs.Working.{cut}
use Rattle.cs_cfg.specs.CodeSteps.{do_end}
use Rattle.cs_state.specs.declared.temporary.Temporary.{Temporary}
use Rattle.cs_state.specs.declared.temporary.Temporary.TheVariants as temporary
use Rattle.cs_state.specs.Cells.{operand_of}
use Rattle.cs_state.specs.Naming.{naming}
use Rattle.cs_store.specs.declared.value.Value.TheVariants as value
use Rattle.cs_progress.specs.Locals.{AreIn}
use Rattle.cs_progress.proofs.Looks.{leads_same}
use Rattle.cs_spots.proofs.CutMeanings.{uncut_means}
use Rattle.cs_spots.proofs.KeptStates.{knows_cut}
use Rattle.cs_spots.proofs.Leaving.{goes_there, runs_out}
use Rattle.cs_steps.proofs.ends.end.Goals as goal

pub returns-in-Jump-clause-leaves : goal.returns-in-Jump-clause-leaves
returns-in-Jump-clause-leaves c = rw c.in-Jump.is (λ stands few names program known extends have.
    let code = view.code c.args.context.now.code.now in
    let state = c.args.state.now in
    goes_there code names program known state c.go.new.state c.args.progress.now c.args.progress.now c.go.result
    (do_end code (graph.Jump c.in-Jump.block)) c.in-Jump.block state (knows_cut state.frame.temporaries state state refl) refl have
    c.go.ensures.goes c.go.ensures.memory (λ cells v fits. leads_same cells _ _ _ refl))

pub returns-in-Branch-clause-leaves : goal.returns-in-Branch-clause-leaves
returns-in-Branch-clause-leaves c = rw c.in-Branch.is (λ stands few.
    c.branch-context.ensures c.in-Branch.field-1 (naming c.args.tables.now) few)

pub returns-in-Switch-clause-leaves : goal.returns-in-Switch-clause-leaves
returns-in-Switch-clause-leaves c = rw c.in-Switch.is (λ stands few.
    let leaves = rw c.deref.ensures.value at c.switch.ensures in
    leaves c.in-Switch.field-1 (naming c.args.tables.now) stands few)

pub returns-in_ok-given-in-Return-clause-leaves : goal.returns-in_ok-given-in-Return-clause-leaves
returns-in_ok-given-in-Return-clause-leaves c = rw c.in-Return.is (λ stands few names program known extends have.
    let code = view.code c.args.context.now.code.now in
    let state = c.args.state.now in
    let number = c.in-Return.field-0 + 1 in
    runs_out code names program state c.in_ok-given-in-Return.given (λ m. operand_at (cut number m) 0) known c.leave.new.state
    c.args.progress.now c.leave.new.progress c.leave.result
    (λ v.
    ap (λ m. operand_at m 0) (uncut_means code names program v number state few)
    ∙ c.in_ok-operand-in-Return.ensures.operand code names program v
    ∙ ap (λ (given : Temporary). operand_of names.bases state.blocks v given) (sym c.in_ok-given-in-Return.ensures.cases))
    have
    (subst (AreIn program names.bases known state.frame) (sym c.in_ok-given-in-Return.ensures.cases)
    (c.in_ok-operand-in-Return.ensures.within program names.bases known have))
    (c.leave.ensures.last have.callers))

pub returns-in-Finish-clause-leaves : goal.returns-in-Finish-clause-leaves
returns-in-Finish-clause-leaves c = rw c.in-Finish.is (λ stands few names program known extends have.
    let code = view.code c.args.context.now.code.now in
    let state = c.args.state.now in
    runs_out code names program state (temporary.Scalar value.Unset) (λ m. Scalar UnsetCell) known c.leave-in-Finish.new.state
    c.args.progress.now c.leave-in-Finish.new.progress c.leave-in-Finish.result (λ v. refl) have tt (c.leave-in-Finish.ensures.last have.callers))
