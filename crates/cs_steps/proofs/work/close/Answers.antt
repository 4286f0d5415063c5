use Rattle.std.proofs.Common.{true, false, ap, sym}
use Rattle.cs_events.specs.declared.point.PointKind.TheVariants as point
use Rattle.cs_events.specs.Touches.{Meets}
use Rattle.cs_events.specs.Acts.{Goes}
use Rattle.cs_meaning.specs.Machine.{push}
use Rattle.cs_cfg.specs.Graph as graph
use Rattle.cs_cfg.specs.Working.{do_work, closed_with}
use Rattle.cs_store.specs.declared.value.Value.TheVariants.{Unset}
use Rattle.cs_state.specs.declared.temporary.Temporary.TheVariants.{Scalar, Nothing}
use Rattle.cs_operators.proofs.Computed.{stands}
use Rattle.cs_steps.proofs.Dispatching.{works_pushed, leads_touched}
use Rattle.cs_steps.proofs.work.close.Goals as goal

pub returns-then-nothing : goal.returns-then-nothing
returns-then-nothing c = λ model given at progress code names program budgets known is extends numbered have integer.
    let state = c.args.state.now in
    rw c.if-nothing.true
    (works_pushed code names program known state progress progress (do_work code program budgets at (graph.Close true))
    c.push_operand.new.state c.push_operand.result have Nothing tt
    c.push_operand.ensures.pushed c.push_operand.ensures.means c.push_operand.ensures.memory
    (λ todo cells v fits. leads_touched cells _ (Meets point.End at) (Goes (push (closed_with true) (stands code names program state todo v)))))

pub returns-else-nothing : goal.returns-else-nothing
returns-else-nothing c = λ model given at progress code names program budgets known is extends numbered have integer.
    let state = c.args.state.now in
    rw c.if-nothing.false
    (works_pushed code names program known state progress progress (do_work code program budgets at (graph.Close false))
    c.push.new.state c.push.result have (Scalar Unset) tt
    c.push.ensures.pushed c.push.ensures.means c.push.ensures.memory
    (λ todo cells v fits. leads_touched cells _ (Meets point.End at) (Goes (push (closed_with false) (stands code names program state todo v)))))
